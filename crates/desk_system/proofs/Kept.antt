-- What holds of the system at every moment, and that each step by the rules keeps it. Assumes nothing.
use Prim.Native.Nat.{ℕ, zero, suc, ◌+◌, ◌*◌, ◌/◌, ◌%◌, ◌≤◌, ◌<◌}
use native.Mathlib.Omega.{arith}
use mathlib.Core.Path.{◌≡◌, refl, sym, ap, subst, ◌∙◌}
use mathlib.Core.Logic.{◌⊎◌, inl, inr}
use mathlib.Core.List.{List, [], ◌∷◌}
use mathlib.Core.Bool.{Bool, true, false, cond, not, ◌&&◌}
use borrow.Author.Tests.{eqb-true, eq-eqb, ne_eqb, ltb-true, not-true, not-false}
use lib.Dec.{eqb, ltb}
use lib.ListN.{drop, get_or}
use Rattle.formats.specs.Format.{Format, V1, V2}
use Rattle.lists.specs.Parts.{Bytes}
use Rattle.lists.specs.Search.{any}
use Rattle.lists.specs.Table.{settled}
use Rattle.lists.proofs.Tests.{and_in, and_left, and_right, or_cases, or_right, never_both}
use Rattle.stamps.specs.Stamp.{desk_start, shared, exclusive, stamp_valid, larger_of_each, no_pair}
use Rattle.stamps.specs.declared.Pair.{Pair}
use Rattle.stamps.proofs.Stamp.{stamp_desk_start, stamp_valid_lem}
use Rattle.commands.specs.Command.{update}
use Rattle.commands.specs.declared.Command.{Command}
use Rattle.commands.specs.Bytes.{fields_of, formed}
use Rattle.image.specs.Image.{Card, Cards, no_card, encode, GoodCards}
use Rattle.image.specs.Convert.{converted, convert_number}
use Rattle.store_model.specs.Serve.{serve}
use Rattle.store_model.specs.Words.{Sent, Event, event_of, command_of}
use Rattle.store_model.specs.Claims.{SentBytes, AllBytes}
use Rattle.store_model.specs.Meaning.{Among}
use Rattle.store_model.proofs.Machine.{number_on, event_by, passed}
use Rattle.store_model.proofs.Meaning.{among_here, among_later, any_means}
use Rattle.store_model.proofs.Simulation.{same_event}
use Rattle.redo_log.specs.Log.{LogRecord}
use Rattle.redo_recovery_model.specs.Recovery.{Pairs, FitsPairs, recovered}
use Rattle.image.proofs.Cards.{Bytes_encode}
use Rattle.redo_recovery_model.proofs.Sending.{recovered_bytes}
use Rattle.lock_queue.specs.Queue.{State, empty_queue}
use Rattle.lock_queue.specs.declared.Waiting.{Waiting}
use Rattle.lock_queue.specs.Good.{waiting_formed}
use Rattle.lock_queue.specs.Requests.{Request, asks, leaves, lapses, answered, number, after, answer, blank_answer}
use Rattle.lock_queue.proofs.Judged.{no_row_lem}
use Rattle.lock_queue.proofs.After.{refusal_leaves}
use Rattle.desk_proposal_claims.proofs.Claims.{asked_largest, left_largest, lapsed_largest}
use Rattle.desk_proposals.specs.Propose.{learnt, next_t, own_above, pair_for, proposed}
use Rattle.desk_proposals.proofs.Propose.{made_rules, own_above_lem, pair_shared, pair_exclusive}
use Rattle.desk_system.specs.System.{
  System,
  Made,
  Told,
  begin,
  propose,
  at_queue,
  lose,
  recover_with,
  learn,
  same_pair,
  in_use,
  is_made,
  asks_made,
  sends_made,
  all_made,
  recovery_sends,
  allowed,
  with,
  knows,
  now_knows,
  with_store,
  with_made,
  with_log,
  queue_step,
  send_step,
  send_steps,
  convert_step,
  step_to,
}
use Rattle.desk_system.specs.Progress.{made_for, proposals_for}
use Rattle.desk_system.proofs.Backing.{among_cases, with_all, Dated, Backed, Stamped, backed_none, backed_larger, under_more, dated_later, dated_own, backed_more}
use Rattle.desk_system.proofs.Store.{Held, stored_pairs, reply_pair_lem, widened_pairs, held_send, held_convert}

-- An exclusive proposal: its stamp is not zero, and the desk and start of that stamp is in use and knows a stamp at least as large.
pub record Marked (known : ℕ → ℕ → Pair) (started : List ℕ) (m : Made) : Type 0 where
  pub some : m.pair.x ≡ 0 → ⊥
  pub low : m.pair.x ≤ (known (desk_start m.pair.x) m.card).x
  pub running : any (λ w. eqb w (desk_start m.pair.x)) started ≡ true

-- A shared and an exclusive proposal for one card with one exclusive stamp: the shared one has the larger s.
abbrev pub Ordered : List Made → Type 0
Ordered made =
    (c d : Made) → Among c made → Among d made → c.card ≡ d.card → c.mode ≡ shared → d.mode ≡ exclusive → c.pair.x ≡ d.pair.x
    → d.pair.s < c.pair.s

-- No two exclusive proposals for one card have one exclusive stamp.
abbrev pub Once : List Made → Type 0
Once [] = Unit {0}
Once (m ∷ before) =
    ((d : Made) → Among d before → m.mode ≡ exclusive → m.card ≡ d.card → d.mode ≡ exclusive → m.pair.x ≡ d.pair.x → ⊥) × Once before

-- A proposal with these fields stands in the list.
pub record Proposal (made : List Made) (card mode : ℕ) (pair : Pair) : Type 0 where
  pub m : Made
  pub among : Among m made
  pub card_is : m.card ≡ card
  pub mode_is : m.mode ≡ mode
  pub pair_same : m.pair ≡ pair

-- A well-formed event is under a pair that was proposed, for its card and in its mode.
abbrev pub Sanctioned : List Made → Event → Type 0
Sanctioned made e = e.read.formed ≡ true → Proposal made (command_of e).card (command_of e).mode (update (command_of e))

pub record Kept (v : Format) (n c : ℕ) (y : System) : Type 0 where
  pub held : Held v n c y.store.version y.store.image y.store.trace
  -- every pair in circulation is backed: stored, in a queue, known, told and proposed
  pub stored : (k : ℕ) → Backed y.desks.made k (get_or held.cards.cards k (no_card y.store.version)).pair
  pub queued : (k m : ℕ) → Backed y.desks.made k (y.queues k m).largest
  pub knowing : (w k : ℕ) → Backed y.desks.made k (y.desks.known w k)
  pub telling : (t : Told) → Among t y.desks.told → Backed y.desks.made t.card t.pair
  pub making : (m : Made) → Among m y.desks.made → Backed y.desks.made m.card m.pair
  pub marked : (m : Made) → Among m y.desks.made → m.mode ≡ exclusive → Marked y.desks.known y.desks.started m
  pub ordered : Ordered y.desks.made
  pub once : Once y.desks.made
  pub numbered : (w : ℕ) → in_use y w ≡ true → w < 4294967296
  pub sanctioned : (e : Event) → Among e y.store.trace → Sanctioned y.desks.made e

-- ---- tests of the rules

pub pair_is : (p q : Pair) → same_pair p q ≡ true → p ≡ q
pair_is p q h =
    let s = eqb-true p.s q.s (and_left (eqb p.s q.s) (eqb p.x q.x) h) in
    let x = eqb-true p.x q.x (and_right (eqb p.s q.s) (eqb p.x q.x) h) in
    let both : ◌≡◌ {A = Pair} (record { s = p.s; x = p.x }) (record { s = q.s; x = q.x }) = rw (s, x) in
    both

pub is_made_lem : (made : List Made) (card mode : ℕ) (pair : Pair) → is_made made card mode pair ≡ true → Proposal made card mode pair
is_made_lem made card mode pair h =
    let test : Made → Bool = λ (m : Made). eqb m.card card && eqb m.mode mode && same_pair m.pair pair in
    let found = (any_means test made).0 h in
    let m : Made = found.0 in
    let first : Bool = eqb m.card card && eqb m.mode mode in
    let holds : (first && same_pair m.pair pair) ≡ true = found.2 in
    let both = and_left first (same_pair m.pair pair) holds in
    record {
      m = m;
      among = found.1;
      card_is = eqb-true m.card card (and_left (eqb m.card card) (eqb m.mode mode) both);
      mode_is = eqb-true m.mode mode (and_right (eqb m.card card) (eqb m.mode mode) both);
      pair_same = pair_is m.pair pair (and_right first (same_pair m.pair pair) holds);
    }

pub proposal_more : {made : List Made} {card mode : ℕ} {pair : Pair} (new : Made) → Proposal made card mode pair → Proposal (new ∷ made) card mode pair
proposal_more new p =
    record { m = p.m; among = among_later new p.among; card_is = p.card_is; mode_is = p.mode_is; pair_same = p.pair_same }

-- The system after a proposal by a desk and start.
abbrev raised : System → ℕ → Made → Pair
raised y who new = larger_of_each (y.desks.known who new.card) new.pair

abbrev proposed_to : System → ℕ → Made → System
proposed_to y who new = with_made new (now_knows who new.card (raised y who new) y)

module _ (v : Format) (n c : ℕ) (y : System) (k : Kept v n c y) where
  stamped : Stamped y.desks.made
  stamped m a e = (k.marked m a e).some

  nothing : (card : ℕ) → Backed y.desks.made card no_pair
  nothing = backed_none stamped

  proposal_backed : {card mode : ℕ} {pair : Pair} → Proposal y.desks.made card mode pair → Backed y.desks.made card pair
  proposal_backed {card} {mode} {pair} p =
      subst (Backed y.desks.made card) p.pair_same
      (subst (λ (j : ℕ). Backed y.desks.made j p.m.pair) p.card_is (k.making p.m p.among))

  told_more : (t : Told) → Backed y.desks.made t.card t.pair → (u : Told) → Among u (t ∷ y.desks.told) → Backed y.desks.made u.card u.pair
  told_more t b u a = go (among_cases a)
    where
      go : (u ≡ t) ⊎ Among u y.desks.told → Backed y.desks.made u.card u.pair
      go (inl e) = subst (λ (v : Told). Backed y.desks.made v.card v.pair) (sym e) b
      go (inr m) = k.telling u m

  -- ---- a desk starts

  pub kept_begin : (who : ℕ) → allowed y (begin who) ≡ true → Kept v n c (step_to y (begin who))
  unfolding step_to
  kept_begin who h =
      record {
        held = k.held;
        stored = k.stored;
        queued = k.queued;
        knowing = with_all (λ (w : ℕ) (f : ℕ → Pair). (j : ℕ) → Backed y.desks.made j (f j)) who (λ j. no_pair) y.desks.known nothing k.knowing;
        telling = k.telling;
        making = k.making;
        marked = λ m a e. still m (k.marked m a e);
        ordered = k.ordered;
        once = k.once;
        numbered = λ w r. go w (or_cases (eqb who w) (in_use y w) r);
        sanctioned = k.sanctioned;
      }
    where
      idle : in_use y who ≡ false
      idle = not-true (in_use y who) (and_right (ltb who 4294967296) (not (in_use y who)) h)

      still : (m : Made) → Marked y.desks.known y.desks.started m → Marked (with who (λ j. no_pair) y.desks.known) (who ∷ y.desks.started) m
      still m d =
          let other : eqb (desk_start m.pair.x) who ≡ false =
          ne_eqb (desk_start m.pair.x) who (λ e. never_both (subst (λ (w : ℕ). in_use y w ≡ true) e d.running) idle) in
          record { some = d.some; low = rw other d.low; running = or_right (eqb who (desk_start m.pair.x)) d.running }

      go : (w : ℕ) → (eqb who w ≡ true) ⊎ (in_use y w ≡ true) → w < 4294967296
      go w (inl e) =
          subst (λ (v : ℕ). v < 4294967296) (eqb-true who w e) (ltb-true who 4294967296 (and_left (ltb who 4294967296) (not (in_use y who)) h))
      go w (inr r) = k.numbered w r

  -- ---- a desk knows more

  -- A desk learns a backed pair that is not below what it knew.
  kept_known : (who card : ℕ) (pair : Pair) → Backed y.desks.made card pair → (y.desks.known who card).x ≤ pair.x
      → Kept v n c (now_knows who card pair y)
  kept_known who card pair b up =
      record {
        held = k.held;
        stored = k.stored;
        queued = k.queued;
        knowing =
            with_all (λ (w : ℕ) (f : ℕ → Pair). (j : ℕ) → Backed y.desks.made j (f j)) who (with card pair (y.desks.known who)) y.desks.known
            (with_all (λ (j : ℕ) (p : Pair). Backed y.desks.made j p) card pair (y.desks.known who) b (k.knowing who))
            k.knowing;
        telling = k.telling;
        making = k.making;
        marked = λ m a e. still m (k.marked m a e);
        ordered = k.ordered;
        once = k.once;
        numbered = k.numbered;
        sanctioned = k.sanctioned;
      }
    where
      rises : (w j : ℕ) → (y.desks.known w j).x ≤ ((now_knows who card pair y).desks.known w j).x
      rises =
          with_all (λ (w : ℕ) (f : ℕ → Pair). (j : ℕ) → (y.desks.known w j).x ≤ (f j).x) who (with card pair (y.desks.known who)) y.desks.known
          (with_all (λ (j : ℕ) (p : Pair). (y.desks.known who j).x ≤ p.x) card pair (y.desks.known who) up (λ j. omega arith))
          (λ w j. omega arith)

      still : (m : Made) → Marked y.desks.known y.desks.started m → Marked (now_knows who card pair y).desks.known y.desks.started m
      still m d =
          record { some = d.some; low = let r = rises (desk_start m.pair.x) m.card in let l = d.low in omega arith; running = d.running }

  pub kept_learn : (who card : ℕ) (pair : Pair) → allowed y (learn who card pair) ≡ true
      → Kept v n c (step_to y (learn who card pair))
  unfolding step_to learnt
  kept_learn who card pair h =
      kept_known who card (larger_of_each (y.desks.known who card) pair) (backed_larger (y.desks.known who card) pair (k.knowing who card) heard) (omega arith)
    where
      test : Told → Bool
      test t = eqb t.card card && same_pair t.pair pair

      heard : Backed y.desks.made card pair
      heard =
          let found = (any_means test y.desks.told).0 (and_right (in_use y who) (any test y.desks.told) h) in
          let t : Told = found.0 in
          let holds : (eqb t.card card && same_pair t.pair pair) ≡ true = found.2 in
          subst (Backed y.desks.made card) (pair_is t.pair pair (and_right (eqb t.card card) (same_pair t.pair pair) holds))
          (subst (λ (j : ℕ). Backed y.desks.made j t.pair) (eqb-true t.card card (and_left (eqb t.card card) (same_pair t.pair pair) holds))
          (k.telling t found.1))

  -- ---- a desk proposes

  -- One more proposal, whose exclusive stamp, if it is exclusive, no backed pair has.
  module _ (who : ℕ) (new : Made) (running : in_use y who ≡ true)
      (mark : new.mode ≡ exclusive → (desk_start new.pair.x ≡ who) × (new.pair.x ≡ 0 → ⊥))
      (unheard : (p : Pair) → Backed y.desks.made new.card p → new.mode ≡ exclusive → new.pair.x ≡ p.x → ⊥)
      (own : Backed (new ∷ y.desks.made) new.card new.pair)
      (above : (d : Made) → Among d y.desks.made → new.mode ≡ shared → new.card ≡ d.card → d.mode ≡ exclusive → new.pair.x ≡ d.pair.x → d.pair.s < new.pair.s)
    where
      more : (j : ℕ) (p : Pair) → Backed y.desks.made j p → Backed (new ∷ y.desks.made) j p
      more j p b = backed_more new (λ c e z. unheard p (subst (λ (i : ℕ). Backed y.desks.made i p) (sym c) b) e z) b

      rises : (w j : ℕ) → (y.desks.known w j).x ≤ ((now_knows who new.card (raised y who new) y).desks.known w j).x
      rises =
          with_all (λ (w : ℕ) (f : ℕ → Pair). (j : ℕ) → (y.desks.known w j).x ≤ (f j).x) who (with new.card (raised y who new) (y.desks.known who)) y.desks.known
          (with_all (λ (j : ℕ) (p : Pair). (y.desks.known who j).x ≤ p.x) new.card (raised y who new) (y.desks.known who) (omega arith) (λ j. omega arith))
          (λ w j. omega arith)

      -- The desk then knows its own stamp.
      reached : new.pair.x ≤ ((now_knows who new.card (raised y who new) y).desks.known who new.card).x
      reached = rw (eq-eqb who who refl, eq-eqb new.card new.card refl) (omega arith)

      kept_more : Kept v n c (proposed_to y who new)
      kept_more =
          record {
            held = k.held;
            stored = λ j. more j (get_or k.held.cards.cards j (no_card y.store.version)).pair (k.stored j);
            queued = λ j m. more j (y.queues j m).largest (k.queued j m);
            knowing =
                with_all (λ (w : ℕ) (f : ℕ → Pair). (j : ℕ) → Backed (new ∷ y.desks.made) j (f j)) who (with new.card (raised y who new) (y.desks.known who)) y.desks.known
                (with_all (λ (j : ℕ) (p : Pair). Backed (new ∷ y.desks.made) j p) new.card (raised y who new) (y.desks.known who)
                (backed_larger (y.desks.known who new.card) new.pair
                (more new.card (y.desks.known who new.card) (k.knowing who new.card))
                own)
                (λ j. more j (y.desks.known who j) (k.knowing who j)))
                (λ w j. more j (y.desks.known w j) (k.knowing w j));
            telling = λ t a. more t.card t.pair (k.telling t a);
            making = λ m a. made_backed m (among_cases a);
            marked = λ m a e. made_marked m e (among_cases a);
            ordered = λ c d a b same cs dx z. order c d same cs dx z (among_cases a) (among_cases b);
            once = (
              λ d a e c f z. unheard d.pair (subst (λ (j : ℕ). Backed y.desks.made j d.pair) (sym c) (k.making d a)) e z,
              k.once,
            );
            numbered = k.numbered;
            sanctioned = λ e a f. proposal_more new (k.sanctioned e a f);
          }
        where
          made_backed : (m : Made) → (m ≡ new) ⊎ Among m y.desks.made → Backed (new ∷ y.desks.made) m.card m.pair
          made_backed m (inl e) = subst (λ (d : Made). Backed (new ∷ y.desks.made) d.card d.pair) (sym e) own
          made_backed m (inr a) = more m.card m.pair (k.making m a)

          new_marked : new.mode ≡ exclusive → Marked (proposed_to y who new).desks.known y.desks.started new
          new_marked e =
              record {
                some = (mark e).1;
                low = subst (λ (w : ℕ). new.pair.x ≤ ((now_knows who new.card (raised y who new) y).desks.known w new.card).x) (sym (mark e).0) reached;
                running = subst (λ (w : ℕ). in_use y w ≡ true) (sym (mark e).0) running;
              }

          made_marked : (m : Made) → m.mode ≡ exclusive → (m ≡ new) ⊎ Among m y.desks.made → Marked (proposed_to y who new).desks.known y.desks.started m
          made_marked m e (inl s) = subst (Marked (proposed_to y who new).desks.known y.desks.started) (sym s) (new_marked (subst (λ (d : Made). d.mode ≡ exclusive) s e))
          made_marked m e (inr a) =
              let d = k.marked m a e in
              let r = rises (desk_start m.pair.x) m.card in
              let l = d.low in
              record { some = d.some; low = omega arith; running = d.running }

          order : (c d : Made) → c.card ≡ d.card → c.mode ≡ shared → d.mode ≡ exclusive → c.pair.x ≡ d.pair.x
              → (c ≡ new) ⊎ Among c y.desks.made → (d ≡ new) ⊎ Among d y.desks.made → d.pair.s < c.pair.s
          order c d same cs dx z (inl e) (inl f) =
              let one : c.mode ≡ d.mode = ap (λ (m : Made). m.mode) (e ∙ sym f) in
              absurd (omega arith)
          order c d same cs dx z (inl e) (inr b) =
              subst (λ (m : Made). d.pair.s < m.pair.s) (sym e)
              (above d b (subst (λ (m : Made). m.mode ≡ shared) e cs) (subst (λ (m : Made). m.card ≡ d.card) e same) dx (subst (λ (m : Made). m.pair.x ≡ d.pair.x) e z))
          order c d same cs dx z (inr a) (inl f) =
              absurd
              (unheard c.pair (subst (λ (j : ℕ). Backed y.desks.made j c.pair) (same ∙ ap (λ (m : Made). m.card) f) (k.making c a))
              (subst (λ (m : Made). m.mode ≡ exclusive) f dx)
              (subst (λ (m : Made). m.pair.x ≡ c.pair.x) f (sym z)))
          order c d same cs dx z (inr a) (inr b) = k.ordered c d a b same cs dx z

  -- A proposal that is made, in each mode.
  module _ (who card : ℕ) (running : in_use y who ≡ true) where
    width : who < 4294967296
    width = k.numbered who running

    module _ (some : who / 65536 ≡ 0 → ⊥) where
      abbrev stamp_x : ℕ
      stamp_x = own_above (who / 65536) (who % 65536) (y.desks.known who card).x

      abbrev new_x : Made
      new_x = record { card = card; mode = exclusive; pair = record { s = (y.desks.known who card).s; x = stamp_x } }

      abbrev new_s : Made
      new_s = record { card = card; mode = shared; pair = record { s = own_above (who / 65536) (who % 65536) (y.desks.known who card).s; x = (y.desks.known who card).x } }

      up : (n : ℕ) → n < own_above (who / 65536) (who % 65536) n
      up n = let w = width in own_above_lem (who / 65536) (who % 65536) n (omega arith) (omega arith)

      mine_desk : desk_start stamp_x ≡ who
      mine_desk =
          let w = width in
          let desk : who / 65536 < 65536 = omega arith in
          let start : who % 65536 < 65536 = omega arith in
          let d = stamp_desk_start (next_t (who / 65536) (who % 65536) (y.desks.known who card).x) desk start in
          let whole : who / 65536 * 65536 + who % 65536 ≡ who = omega arith in
          d ∙ whole

      mine_valid : (n : ℕ) → stamp_valid (own_above (who / 65536) (who % 65536) n) ≡ true
      mine_valid n = let w = width in stamp_valid_lem (next_t (who / 65536) (who % 65536) n) (omega arith) (omega arith) some

      mine_some : stamp_x ≡ 0 → ⊥
      mine_some z = let u = up (y.desks.known who card).x in omega arith

      dated : (new : Made) (mode n : ℕ) → made_for card mode new ≡ true → Dated (proposals_for card mode y.desks.made) n
          → Dated (proposals_for card mode (new ∷ y.desks.made)) (own_above (who / 65536) (who % 65536) n)
      dated new mode n h d = let w = width in dated_own y.desks.made card new mode (who / 65536) (who % 65536) n h (omega arith) (omega arith) some d

      -- No exclusive proposal for the card has that stamp yet: it would be this desk's, which then knows a larger one.
      unused : (m : Made) → Among m y.desks.made → m.card ≡ card → m.mode ≡ exclusive → m.pair.x ≡ stamp_x → ⊥
      unused m a c e z =
          let d = k.marked m a e in
          let same : desk_start m.pair.x ≡ who = ap desk_start z ∙ mine_desk in
          let low : m.pair.x ≤ (y.desks.known who card).x =
          subst (λ (j : ℕ). m.pair.x ≤ (y.desks.known who j).x) c (subst (λ (w : ℕ). m.pair.x ≤ (y.desks.known w m.card).x) same d.low) in
          let u = up (y.desks.known who card).x in
          omega arith

      unknown : (p : Pair) → Backed y.desks.made card p → stamp_x ≡ p.x → ⊥
      unknown p b z =
          let u = b.stems (λ w. mine_some (z ∙ w)) in
          unused u.m u.among u.card u.mode (u.stamp ∙ sym z)

      own_x : Backed (new_x ∷ y.desks.made) card new_x.pair
      own_x =
          record {
            valid_s = (k.knowing who card).valid_s;
            valid_x = mine_valid (y.desks.known who card).x;
            covers = λ m a c e z. go m c e z (among_cases a);
            stems = λ z. record { m = new_x; among = among_here new_x y.desks.made; card = refl; mode = refl; stamp = refl };
            dated_s = dated_later y.desks.made card new_x shared (y.desks.known who card).s (k.knowing who card).dated_s;
            dated_x = dated new_x exclusive (y.desks.known who card).x (and_in (eq-eqb card card refl) refl) (k.knowing who card).dated_x;
          }
        where
          go : (m : Made) → m.card ≡ card → m.mode ≡ exclusive → m.pair.x ≡ stamp_x → (m ≡ new_x) ⊎ Among m y.desks.made → m.pair.s ≤ (y.desks.known who card).s
          go m c e z (inl same) = let s : m.pair.s ≡ (y.desks.known who card).s = ap (λ (d : Made). d.pair.s) same in omega arith
          go m c e z (inr a) = absurd (unused m a c e z)

      kept_exclusive : Kept v n c (proposed_to y who new_x)
      kept_exclusive =
          kept_more who new_x running (λ e. (mine_desk, mine_some)) (λ p b e z. unknown p b z) own_x (λ d a h c e z. absurd (omega arith))

      own_s : Backed (new_s ∷ y.desks.made) card new_s.pair
      own_s =
          record {
            valid_s = mine_valid (y.desks.known who card).s;
            valid_x = (k.knowing who card).valid_x;
            covers = λ m a c e z. go m c e z (among_cases a);
            stems = λ z. under_more new_s ((k.knowing who card).stems z);
            dated_s = dated new_s shared (y.desks.known who card).s (and_in (eq-eqb card card refl) refl) (k.knowing who card).dated_s;
            dated_x = dated_later y.desks.made card new_s exclusive (y.desks.known who card).x (k.knowing who card).dated_x;
          }
        where
          go : (m : Made) → m.card ≡ card → m.mode ≡ exclusive → m.pair.x ≡ (y.desks.known who card).x → (m ≡ new_s) ⊎ Among m y.desks.made → m.pair.s ≤ new_s.pair.s
          go m c e z (inl same) = let s : m.mode ≡ shared = ap (λ (d : Made). d.mode) same in absurd (omega arith)
          go m c e z (inr a) = let low = (k.knowing who card).covers m a c e z in let u = up (y.desks.known who card).s in omega arith

      kept_shared : Kept v n c (proposed_to y who new_s)
      kept_shared =
          kept_more who new_s running (λ e. absurd (omega arith)) (λ p b e z. absurd (omega arith)) own_s
          (λ d a h c e z. let low = (k.knowing who card).covers d a (sym c) e (sym z) in let u = up (y.desks.known who card).s in omega arith)

  -- A proposal, by its number.
  pub kept_propose : (who card mode : ℕ) → allowed y (propose who card mode) ≡ true → Kept v n c (step_to y (propose who card mode))
  unfolding step_to proposed learnt
  kept_propose who card mode running = go (proposed (knows y who card) mode).number refl
    where
      go : (given : ℕ) → (proposed (knows y who card) mode).number ≡ given → Kept v n c (step_to y (propose who card mode))
      go (suc j) e = rw e k
      go zero e = rw e (by_mode (made_rules (knows y who card) mode e))
        where
          by_mode : ((mode ≡ shared) ⊎ (mode ≡ exclusive)) × (who / 65536 ≡ 0 → ⊥)
              → Kept v n c (proposed_to y who (record { card = card; mode = mode; pair = pair_for (knows y who card) mode }))
          by_mode r = pick r.0
            where
              pick : (mode ≡ shared) ⊎ (mode ≡ exclusive) → Kept v n c (proposed_to y who (record { card = card; mode = mode; pair = pair_for (knows y who card) mode }))
              pick (inl s) =
                  subst (λ (m : ℕ). Kept v n c (proposed_to y who (record { card = card; mode = m; pair = pair_for (knows y who card) m }))) (sym s)
                  (subst (λ (p : Pair). Kept v n c (proposed_to y who (record { card = card; mode = shared; pair = p }))) (sym (pair_shared (knows y who card)))
                  (kept_shared who card running r.1))
              pick (inr x) =
                  subst (λ (m : ℕ). Kept v n c (proposed_to y who (record { card = card; mode = m; pair = pair_for (knows y who card) m }))) (sym x)
                  (subst (λ (p : Pair). Kept v n c (proposed_to y who (record { card = card; mode = exclusive; pair = p }))) (sym (pair_exclusive (knows y who card)))
                  (kept_exclusive who card running r.1))

  -- ---- a queue answers

  -- One manager's queue of one card is another.
  queued_with : (card manager : ℕ) (q : State) → Backed y.desks.made card q.largest
      → (j m : ℕ) → Backed y.desks.made j (with card (with manager q (y.queues card)) y.queues j m).largest
  queued_with card manager q b =
      with_all (λ (j : ℕ) (qs : ℕ → State). (m : ℕ) → Backed y.desks.made j (qs m).largest) card (with manager q (y.queues card)) y.queues
      (with_all (λ (m : ℕ) (p : State). Backed y.desks.made card p.largest) manager q (y.queues card) b (k.queued card))
      k.queued

  -- What a request on a queue of the system makes of its largest pair, and the pair of the answer.
  module _ (lent card manager : ℕ) (r : Request) (fine : (new : Waiting) → r ≡ asks new → waiting_formed new ≡ true → Backed y.desks.made card new.pair) where
    abbrev queue : State
    queue = y.queues card manager

    after_backed : Backed y.desks.made card (after lent queue r).largest
    after_backed = go r fine (number lent queue r) refl
      where
        go : (r : Request) → ((new : Waiting) → r ≡ asks new → waiting_formed new ≡ true → Backed y.desks.made card new.pair)
            → (n : ℕ) → number lent queue r ≡ n
            → Backed y.desks.made card (after lent queue r).largest
        go r f (suc n) e = rw (refusal_leaves lent queue r n e) (k.queued card manager)
        go (asks new) f zero e =
            rw (asked_largest lent queue new e)
            (backed_larger queue.largest new.pair (k.queued card manager)
            (f new refl (not-false (waiting_formed new) (no_row_lem lent queue (asks new) e 1))))
        go (leaves d) f zero e = rw (left_largest lent queue d e) (k.queued card manager)
        go (lapses l) f zero e = rw (lapsed_largest lent queue l e) (k.queued card manager)

    answer_backed : Backed y.desks.made card (answer lent queue r).largest
    unfolding answer answered
    answer_backed = go (blank_answer (number lent queue r))
      where
        go : (b : Bool) → Backed y.desks.made card (cond b no_pair (after lent queue r).largest)
        go true = nothing card
        go false = after_backed

    -- The queue and the answers after it; nothing else has moved.
    kept_queue : Kept v n c (queue_step lent y card manager r)
    kept_queue =
        record {
          held = k.held;
          stored = k.stored;
          queued = queued_with card manager (after lent queue r) after_backed;
          knowing = k.knowing;
          telling = told_more (record { card = card; number = (answer lent queue r).number; pair = (answer lent queue r).largest }) answer_backed;
          making = k.making;
          marked = k.marked;
          ordered = k.ordered;
          once = k.once;
          numbered = k.numbered;
          sanctioned = k.sanctioned;
        }

  pub kept_request : (card manager lent : ℕ) (r : Request) → allowed y (at_queue card manager lent r) ≡ true → Kept v n c (step_to y (at_queue card manager lent r))
  unfolding step_to
  kept_request card manager lent r h = kept_queue lent card manager r (fine r h)
    where
      fine : (r : Request) → asks_made y.desks.made card r ≡ true → (new : Waiting) → r ≡ asks new → waiting_formed new ≡ true → Backed y.desks.made card new.pair
      fine (asks old) h new e f =
          let same : old ≡ new = cc in
          subst (λ (w : Waiting). Backed y.desks.made card w.pair) same
          (proposal_backed (is_made_lem y.desks.made card old.mode old.pair
          (rw (subst (λ (w : Waiting). waiting_formed w ≡ true) (sym same) f) at h)))
      fine (leaves d) h new e f = let z : ◌≡◌ {A = ℕ} 0 1 = cc in absurd (omega arith)
      fine (lapses l) h new e f = let z : ◌≡◌ {A = ℕ} 0 1 = cc in absurd (omega arith)

  -- A queue that is lost has no largest pair.
  pub kept_lose : (card manager : ℕ) (places : List Waiting) → Kept v n c (step_to y (lose card manager places))
  unfolding step_to
  kept_lose card manager places =
      record {
        held = k.held;
        stored = k.stored;
        queued = queued_with card manager (empty_queue places) (nothing card);
        knowing = k.knowing;
        telling = k.telling;
        making = k.making;
        marked = k.marked;
        ordered = k.ordered;
        once = k.once;
        numbered = k.numbered;
        sanctioned = k.sanctioned;
      }

  -- ---- the store answers

  module _ (s : Sent) (bytes : SentBytes s) (h : sends_made y.store.version y.desks.made s ≡ true) where
    abbrev command : Command
    command = fields_of y.store.version s.command

    abbrev cs : Cards
    cs = k.held.cards

    abbrev own_card : Card
    own_card = get_or cs.cards command.card (no_card y.store.version)

    proposal : formed y.store.version s.command ≡ true → Proposal y.desks.made command.card command.mode (update command)
    proposal g = is_made_lem y.desks.made command.card command.mode (update command) (rw g at h)

    -- The pair that an accepted command leaves.
    raised_backed : number_on y.store.version cs s ≡ 0 → Backed y.desks.made command.card (larger_of_each own_card.pair (update command))
    raised_backed e =
        backed_larger own_card.pair (update command) (k.stored command.card) (proposal_backed (proposal (passed y.store.version cs s e).well_formed))

    abbrev event : Event
    event = event_of y.store.version s (serve y.store.version y.store.image s.command s.lent)

    event_is : event ≡ event_by y.store.version (number_on y.store.version cs s) cs s
    event_is = ap (λ (i : List ℕ). event_of y.store.version s (serve y.store.version i s.command s.lent)) k.held.image_is ∙ same_event y.store.version cs s k.held.good

    pub kept_send : Kept v n c (send_step y s)
    unfolding held_send
    kept_send =
        record {
          held = held_send v n c y.store.version y.store.image y.store.trace s bytes k.held;
          stored = stored_pairs y.store.version cs s (λ (j : ℕ) (p : Pair). Backed y.desks.made j p) k.stored raised_backed (number_on y.store.version cs s) refl;
          queued = k.queued;
          knowing = k.knowing;
          telling =
              told_more (record { card = command.card; number = event.answer.number; pair = event.answer.pair })
              (subst (λ (e : Event). Backed y.desks.made command.card e.answer.pair) (sym event_is)
              (reply_pair_lem y.store.version cs s (Backed y.desks.made command.card) (nothing command.card) (k.stored command.card) raised_backed
              (number_on y.store.version cs s)
              refl));
          making = k.making;
          marked = k.marked;
          ordered = k.ordered;
          once = k.once;
          numbered = k.numbered;
          sanctioned = λ e a. go e (among_cases a);
        }
      where
        go : (e : Event) → (e ≡ event) ⊎ Among e y.store.trace → Sanctioned y.desks.made e
        go e (inl same) = subst (Sanctioned y.desks.made) (sym same) proposal
        go e (inr a) = k.sanctioned e a

  -- ---- a conversion

  -- The cards and their pairs, of a version.
  abbrev Pairing : Format → Type 0
  Pairing f = (d : Held v n c f y.store.image y.store.trace) × ((j : ℕ) → Backed y.desks.made j (get_or d.cards.cards j (no_card f)).pair)

  pub kept_convert : (lent : ℕ) → Kept v n c (convert_step y.store.version lent y)
  unfolding held_convert
  kept_convert lent = go y.store.version (k.held, k.stored)
    where
      go : (f : Format) → Pairing f → Kept v n c (convert_step f lent y)
      go V2 b = k
      go V1 b = by_number (convert_number y.store.image lent) refl
        where
          by_number : (number : ℕ) → convert_number y.store.image lent ≡ number → Kept v n c (settled number (with_store V2 (converted y.store.image) y.store.trace y) y)
          by_number (suc i) e = k
          by_number zero e =
              record {
                held = held_convert v n c y.store.image y.store.trace lent b.0 e;
                stored = widened_pairs (λ (j : ℕ) (p : Pair). Backed y.desks.made j p) nothing b.0.cards b.1;
                queued = k.queued;
                knowing = k.knowing;
                telling = k.telling;
                making = k.making;
                marked = k.marked;
                ordered = k.ordered;
                once = k.once;
                numbered = k.numbered;
                sanctioned = k.sanctioned;
              }

-- ---- a redo log

-- Nothing else moves.
pub kept_log : (v : Format) (n c : ℕ) (y : System) → Kept v n c y → (desk : ℕ) (log : List ℕ) (read : List LogRecord) → Kept v n c (with_log desk log read y)
kept_log v n c y k desk log read =
    record {
      held = k.held;
      stored = k.stored;
      queued = k.queued;
      knowing = k.knowing;
      telling = k.telling;
      making = k.making;
      marked = k.marked;
      ordered = k.ordered;
      once = k.once;
      numbered = k.numbered;
      sanctioned = k.sanctioned;
    }

-- ---- requests one after the other, and a recovery

pub sends_version : (y : System) (sent : List Sent) → (send_steps y sent).store.version ≡ y.store.version
unfolding send_steps
sends_version y [] = refl
sends_version y (s ∷ earlier) = sends_version y earlier

pub sends_made_lem : (y : System) (sent : List Sent) → (send_steps y sent).desks.made ≡ y.desks.made
unfolding send_steps
sends_made_lem y [] = refl
sends_made_lem y (s ∷ earlier) = sends_made_lem y earlier

kept_sends : (v : Format) (n c : ℕ) (y : System) → Kept v n c y → (sent : List Sent) → AllBytes sent → all_made y.store.version y.desks.made sent ≡ true → Kept v n c (send_steps y sent)
unfolding send_steps
kept_sends v n c y k [] b h = k
kept_sends v n c y k (s ∷ earlier) b h =
    let here = and_left (sends_made y.store.version y.desks.made s) (all_made y.store.version y.desks.made earlier) h in
    let rest = and_right (sends_made y.store.version y.desks.made s) (all_made y.store.version y.desks.made earlier) h in
    kept_send v n c (send_steps y earlier) (kept_sends v n c y k earlier b.1 rest) s b.0
    (subst (λ (f : Format). sends_made f (send_steps y earlier).desks.made s ≡ true) (sym (sends_version y earlier))
    (subst (λ (made : List Made). sends_made y.store.version made s ≡ true) (sym (sends_made_lem y earlier)) here))

-- The first of some requests, latest first.
dropped_bytes : (unsent : ℕ) (sent : List Sent) → AllBytes sent → AllBytes (drop unsent sent)
dropped_bytes zero sent b = b
dropped_bytes (suc n) [] b = b
dropped_bytes (suc n) (s ∷ sent) b = dropped_bytes n sent b.1

-- What a recovery sends is bytes.
pub recovery_bytes : (f : Format) (image : List ℕ) (cs : Cards) → image ≡ encode f cs → GoodCards f cs → (pairs : Pairs) (log : List ℕ) (unsent : ℕ) → FitsPairs pairs → Bytes log
    → AllBytes (recovery_sends f pairs log unsent image)
recovery_bytes V1 image cs e g pairs log unsent fp lb =
    dropped_bytes unsent (recovered pairs log image).sent (recovered_bytes pairs log image (subst Bytes (sym e) (Bytes_encode V1 cs g)) fp lb)
recovery_bytes V2 image cs e g pairs log unsent fp lb = tt

pub kept_recover : (v : Format) (n c : ℕ) (y : System) → Kept v n c y → (pairs : Pairs) (log : List ℕ) (unsent : ℕ) → FitsPairs pairs → Bytes log → allowed y (recover_with pairs log unsent) ≡ true
    → Kept v n c (step_to y (recover_with pairs log unsent))
unfolding step_to
kept_recover v n c y k pairs log unsent fp lb h =
    kept_sends v n c y k (recovery_sends y.store.version pairs log unsent y.store.image)
    (recovery_bytes y.store.version y.store.image k.held.cards k.held.image_is k.held.good pairs log unsent fp lb) h
