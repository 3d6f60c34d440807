-- How long stamps last: by the proposals of desks by the rules, and by the guard's limit whatever anybody sends. Assumes
-- nothing.
use Prim.Native.Nat.{ℕ, zero, suc, ◌+◌, ◌*◌, ◌≤◌, ◌<◌}
use native.Mathlib.Omega.{arith}
use mathlib.Core.Path.{◌≡◌, refl, sym, ap, subst, ◌∙◌}
use mathlib.Core.Logic.{◌⊎◌, inl, inr}
use mathlib.Core.List.{List, [], ◌∷◌}
use mathlib.Core.Bool.{Bool, true, false, cond, not, ◌&&◌, ◌||◌}
use borrow.Author.Tests.{eqb-true, eq-eqb}
use lib.Dec.{T, eqb, ltb→lt}
use lib.ListN.{length, get_or}
use Rattle.formats.specs.Format.{Format, V1, V2}
use Rattle.lists.specs.Search.{any, filter}
use Rattle.lists.specs.Table.{first, settled}
use Rattle.lists.proofs.Tests.{and_left, and_right, or_cases}
use Rattle.stamps.specs.Stamp.{stamp_t, shared, exclusive, own, most_ahead, larger_of_each, no_pair}
use Rattle.stamps.specs.declared.Pair.{Pair}
use Rattle.stamps.proofs.Stamp.{near_raises}
use Rattle.commands.specs.Command.{update}
use Rattle.commands.specs.Bytes.{fields_of}
use Rattle.image.specs.Image.{Card, no_card}
use Rattle.image.specs.Convert.{converted, convert_number}
use Rattle.store_model.specs.Serve.{serve}
use Rattle.store_model.specs.Words.{Sent, Event, command_of, accepted, event_of}
use Rattle.store_model.specs.Claims.{SentBytes}
use Rattle.store_model.specs.Meaning.{Among}
use Rattle.store_model.proofs.Machine.{number_on, event_by, cards_by, passed, accepted_at}
use Rattle.store_model.proofs.Meaning.{any_means}
use Rattle.store_model.proofs.Pairs.{no_card_lem}
use Rattle.store_model.proofs.Simulation.{same_event}
use Rattle.image.specs.Image.{fresh_cards, fresh}
use Rattle.image.specs.Layout.{shape_ok}
use Rattle.desk_proposals.specs.declared.Known.{Known}
use Rattle.desk_proposals.specs.Propose.{learnt, next_t, own_above, last_t, pair_for, proposal_rows, proposed}
use Rattle.desk_proposal_claims.proofs.Claims.{each_proposal}
use Rattle.desk_system.specs.System.{same_pair, opening, knows}
use Rattle.desk_system.specs.Claims.{finally}
use Rattle.desk_system.specs.Progress.{proposals_for, StampsLast, Listening, hears, makes_pair, known_by, shown_for, heard_in, accepted_for, own_made, GuardSpends}
use Rattle.desk_system.proofs.Backing.{among_none, among_cases, next_most, Dated, Backed}
use Rattle.desk_system.proofs.Kept.{pair_is}
use Rattle.desk_system.proofs.Store.{Held, stored_pairs, reply_pair_lem, widened_pairs, held_fresh, held_send, held_convert}
use Rattle.desk_system.proofs.Moves.{Carried, carried_run}
use Rattle.desk_system.proofs.Claims.{kept_finally}

-- ---- a proposal without a stamp

-- The mode is one of the two, and the known own stamp has the last T.
pub record Spent (k : Known) (mode : ℕ) : Type 0 where
  pub which : (mode ≡ shared) ⊎ (mode ≡ exclusive)
  pub at_end_lem : last_t ≤ stamp_t (own mode k.pair)

spent : (k : Known) (mode : ℕ) → (proposed k mode).number ≡ 16 → Spent k mode
spent k mode e =
    let given = (each_proposal k mode 15).0 e in
    let past : last_t < next_t k.desk k.start (own mode k.pair) = ltb→lt last_t (next_t k.desk k.start (own mode k.pair)) given.0 in
    let most = next_most k.desk k.start (own mode k.pair) in
    record { which = modes (fair && some) refl given.1; at_end_lem = omega (arith, past, most) }
  where
    fair : Bool
    fair = eqb mode shared || eqb mode exclusive

    some : Bool
    some = not (eqb k.desk 0)

    either_mode : (eqb mode shared ≡ true) ⊎ (eqb mode exclusive ≡ true) → (mode ≡ shared) ⊎ (mode ≡ exclusive)
    either_mode (inl l) = inl (eqb-true mode shared l)
    either_mode (inr l) = inr (eqb-true mode exclusive l)

    modes : (b : Bool) → (fair && some) ≡ b → T (not (not b) && true) → (mode ≡ shared) ⊎ (mode ≡ exclusive)
    modes true q j = either_mode (or_cases (eqb mode shared) (eqb mode exclusive) (and_left fair some q))
    modes false q j = absurd j

-- A bound on both sides is one on the own side.
either : (p : Pair) (mode most : ℕ) → (mode ≡ shared) ⊎ (mode ≡ exclusive) → last_t ≤ stamp_t (own mode p) → stamp_t p.s ≤ most → stamp_t p.x ≤ most → last_t ≤ most
either p mode most (inl m) h s x = let low : last_t ≤ stamp_t p.s = subst (λ (d : ℕ). last_t ≤ stamp_t (own d p)) m h in omega (arith, low, s)
either p mode most (inr m) h s x = let low : last_t ≤ stamp_t p.x = subst (λ (d : ℕ). last_t ≤ stamp_t (own d p)) m h in omega (arith, low, x)

-- ---- desks by the rules

-- A stamp with the last T, and the proposals that account for it.
counted : {many n : ℕ} → Dated many n → last_t ≤ stamp_t n → 4294967296 ≤ many
counted (inl z) l = absurd (omega (arith, z, l))
counted (inr d) l = omega (arith, d, l)

pub stamps_last : StampsLast
stamps_last v n c places logs steps r who card mode running e =
    let y = finally v n c places logs steps in
    let s = spent (knows y who card) mode e in
    go s.which s.at_end_lem ((kept_finally v n c places logs steps r).knowing who card)
  where
    go : (mode ≡ shared) ⊎ (mode ≡ exclusive) → last_t ≤ stamp_t (own mode ((finally v n c places logs steps).desks.known who card))
        → Backed (finally v n c places logs steps).desks.made card ((finally v n c places logs steps).desks.known who card)
        → 4294967296 ≤ proposals_for card mode (finally v n c places logs steps).desks.made
    go (inl m) h b =
        subst (λ (d : ℕ). 4294967296 ≤ proposals_for card d (finally v n c places logs steps).desks.made) (sym m)
        (counted b.dated_s (subst (λ (d : ℕ). last_t ≤ stamp_t (own d ((finally v n c places logs steps).desks.known who card))) m h))
    go (inr m) h b =
        subst (λ (d : ℕ). 4294967296 ≤ proposals_for card d (finally v n c places logs steps).desks.made) (sym m)
        (counted b.dated_x (subst (λ (d : ℕ). last_t ≤ stamp_t (own d ((finally v n c places logs steps).desks.known who card))) m h))

-- ---- the guard's limit

-- Neither T of a pair is above what so many accepted commands can have raised it to.
pub record Within (commands : ℕ) (p : Pair) : Type 0 where
  pub s : stamp_t p.s ≤ most_ahead * commands
  pub x : stamp_t p.x ≤ most_ahead * commands

within_none : (a : ℕ) → Within a no_pair
within_none a = record { s = omega arith; x = omega arith }

within_up : {a b : ℕ} (p : Pair) → a ≤ b → Within a p → Within b p
within_up {a} {b} p h w = record { s = omega (arith, h, w.s); x = omega (arith, h, w.x) }

accepted_more : (k : ℕ) (e : Event) (log : List Event) → accepted_for k log ≤ accepted_for k (e ∷ log)
accepted_more k e log = go (accepted k e)
  where
    go : (b : Bool) → length (filter (accepted k) log) ≤ length (cond b (e ∷ filter (accepted k) log) (filter (accepted k) log))
    go true = omega arith
    go false = omega arith

accepted_one : (k : ℕ) (e : Event) (log : List Event) → accepted k e ≡ true → accepted_for k (e ∷ log) ≡ suc (accepted_for k log)
accepted_one k e log h = rw h

-- The stored pairs and those in the replies.
pub record Raised (v : Format) (n c : ℕ) (f : Format) (image : List ℕ) (log : List Event) : Type 0 where
  pub held : Held v n c f image log
  pub stored : (k : ℕ) → Within (accepted_for k log) (get_or held.cards.cards k (no_card f)).pair
  pub shown : (e : Event) → Among e log → Within (accepted_for (command_of e).card log) e.answer.pair

module _ (v : Format) (n c : ℕ) where
  raised_fresh : T (shape_ok v n c) → Raised v n c v (fresh v n c) []
  unfolding held_fresh fresh_cards
  raised_fresh shape =
      record { held = held_fresh v n c shape; stored = λ k. subst (λ (d : Card). Within 0 d.pair) (sym (no_card_lem v n k)) (within_none 0); shown = λ e a. among_none a }

  module _ (f : Format) (image : List ℕ) (log : List Event) (s : Sent) (bytes : SentBytes s) (r : Raised v n c f image log) where
    abbrev place : ℕ
    place = (fields_of f s.command).card

    abbrev old : Pair
    old = (get_or r.held.cards.cards place (no_card f)).pair

    -- An accepted command is one more for its card, and raises each T by the limit at the most.
    lifted : number_on f r.held.cards s ≡ 0 → Within (accepted_for place (event_by f 0 r.held.cards s ∷ log)) (larger_of_each old (update (fields_of f s.command)))
    lifted e =
        let near = near_raises old (update (fields_of f s.command)) (passed f r.held.cards s e).judged.near in
        let was = r.stored place in
        let count = accepted_one place (event_by f 0 r.held.cards s) log (accepted_at f r.held.cards s place ∙ eq-eqb place place refl) in
        subst (λ (a : ℕ). Within a (larger_of_each old (update (fields_of f s.command)))) (sym count)
        (record { s = omega (arith, near.0, was.s); x = omega (arith, near.1, was.x) })

    abbrev event : Event
    event = event_of f s (serve f image s.command s.lent)

    abbrev event_now : Event
    event_now = event_by f (number_on f r.held.cards s) r.held.cards s

    event_is : event ≡ event_now
    event_is = ap (λ (i : List ℕ). event_of f s (serve f i s.command s.lent)) r.held.image_is ∙ same_event f r.held.cards s r.held.good

    lifted_now : number_on f r.held.cards s ≡ 0 → Within (accepted_for place (event_now ∷ log)) (larger_of_each old (update (fields_of f s.command)))
    lifted_now e =
        subst (λ (number : ℕ). Within (accepted_for place (event_by f number r.held.cards s ∷ log)) (larger_of_each old (update (fields_of f s.command)))) (sym e) (lifted e)

    raised_send : Raised v n c f (serve f image s.command s.lent).image (event ∷ log)
    unfolding held_send
    raised_send =
        record {
          held = held_send v n c f image log s bytes r.held;
          stored =
              subst (λ (e : Event). (k : ℕ) → Within (accepted_for k (e ∷ log)) (get_or (cards_by f (number_on f r.held.cards s) r.held.cards s).cards k (no_card f)).pair) (sym event_is)
              (stored_pairs f r.held.cards s (λ (k : ℕ) (p : Pair). Within (accepted_for k (event_now ∷ log)) p)
              (λ k. within_up (get_or r.held.cards.cards k (no_card f)).pair (accepted_more k event_now log) (r.stored k))
              lifted_now (number_on f r.held.cards s) refl);
          shown = λ e a. go e (among_cases a);
        }
      where
        now : Within (accepted_for place (event_now ∷ log)) event_now.answer.pair
        now =
            reply_pair_lem f r.held.cards s (Within (accepted_for place (event_now ∷ log))) (within_none (accepted_for place (event_now ∷ log)))
            (within_up old (accepted_more place event_now log) (r.stored place)) lifted_now (number_on f r.held.cards s) refl

        go : (e : Event) → (e ≡ event) ⊎ Among e log → Within (accepted_for (command_of e).card (event ∷ log)) e.answer.pair
        go e (inl same) =
            subst (λ (d : Event). Within (accepted_for (command_of d).card (event ∷ log)) d.answer.pair) (sym (same ∙ event_is))
            (subst (λ (d : Event). Within (accepted_for place (d ∷ log)) event_now.answer.pair) (sym event_is) now)
        go e (inr a) = within_up e.answer.pair (accepted_more (command_of e).card event log) (r.shown e a)

  raised_convert : (image : List ℕ) (log : List Event) (lent : ℕ) → Raised v n c V1 image log → convert_number image lent ≡ 0 → Raised v n c V2 (converted image) log
  unfolding held_convert
  raised_convert image log lent r e =
      record {
        held = held_convert v n c image log lent r.held e;
        stored = widened_pairs (λ (k : ℕ) (p : Pair). Within (accepted_for k log) p) (λ k. within_none (accepted_for k log)) r.held.cards r.stored;
        shown = r.shown;
      }

  raised_carried : Carried v n c (Raised v n c)
  raised_carried =
      record { is_held = λ f image log r. r.held; sends = λ f image log s b r. raised_send f image log s b r; converts = λ image log lent r e. raised_convert image log lent r e }

-- ---- a desk that listens to the guard

-- Neither T of what it knows is above what these commands and its own proposals can have raised it to.
pub record Knows (desk start commands proposals : ℕ) (k : Known) : Type 0 where
  pub desk_is : k.desk ≡ desk
  pub start_is : k.start ≡ start
  pub s : stamp_t k.pair.s ≤ most_ahead * commands + proposals
  pub x : stamp_t k.pair.x ≤ most_ahead * commands + proposals

module _ (desk start : ℕ) (d : desk < 65536) (i : start < 65536) (commands : ℕ) where
  hears_within : (proposals : ℕ) (k : Known) (p : Pair) → Knows desk start commands proposals k → Within commands p → Knows desk start commands proposals (learnt k p)
  unfolding learnt
  hears_within proposals k p w h =
      record { desk_is = w.desk_is; start_is = w.start_is; s = omega (arith, w.s, h.s); x = omega (arith, w.x, h.x) }

  -- A proposal has a T of one more at the most, on its own side.
  pair_within : (proposals : ℕ) (k : Known) (mode : ℕ) → Knows desk start commands proposals k
      → (stamp_t (pair_for k mode).s ≤ most_ahead * commands + (proposals + 1)) × (stamp_t (pair_for k mode).x ≤ most_ahead * commands + (proposals + 1))
  unfolding pair_for
  pair_within proposals k mode w = go (eqb mode exclusive)
    where
      own_within : (n : ℕ) → stamp_t n ≤ most_ahead * commands + proposals → stamp_t (own_above k.desk k.start n) ≤ most_ahead * commands + (proposals + 1)
      own_within n h =
          let most = next_most k.desk k.start n in
          omega (arith, most, h, d, i, w.desk_is, w.start_is)

      go : (b : Bool) → (stamp_t (cond b k.pair.s (own_above k.desk k.start k.pair.s)) ≤ most_ahead * commands + (proposals + 1))
          × (stamp_t (cond b (own_above k.desk k.start k.pair.x) k.pair.x) ≤ most_ahead * commands + (proposals + 1))
      go true = (omega (arith, w.s), own_within k.pair.x w.x)
      go false = (own_within k.pair.s w.s, omega (arith, w.x))

  makes_within : (proposals : ℕ) (k : Known) (mode : ℕ) → Knows desk start commands proposals k → Knows desk start commands (proposals + 1) (proposed k mode).known
  unfolding proposed learnt
  makes_within proposals k mode w = go (first (proposal_rows k mode))
    where
      go : (number : ℕ) → Knows desk start commands (proposals + 1) (settled number (learnt k (pair_for k mode)) k)
      go zero =
          let p = pair_within proposals k mode w in
          record { desk_is = w.desk_is; start_is = w.start_is; s = omega (arith, w.s, p.0); x = omega (arith, w.x, p.1) }
      go (suc j) = record { desk_is = w.desk_is; start_is = w.start_is; s = omega (arith, w.s); x = omega (arith, w.x) }

  known_within : (log : List Event) (card : ℕ) → ((p : Pair) → any (shown_for card p) log ≡ true → Within commands p) → (doings : List Listening) → heard_in log card doings ≡ true
      → Knows desk start commands (own_made doings) (known_by desk start doings)
  unfolding known_by heard_in own_made
  known_within log card from [] h = record { desk_is = refl; start_is = refl; s = omega arith; x = omega arith }
  known_within log card from (hears p ∷ before) h =
      hears_within (own_made before) (known_by desk start before) p
      (known_within log card from before (and_right (any (shown_for card p) log) (heard_in log card before) h))
      (from p (and_left (any (shown_for card p) log) (heard_in log card before) h))
  known_within log card from (makes_pair mode ∷ before) h = makes_within (own_made before) (known_by desk start before) mode (known_within log card from before h)

-- A pair that a reply for the card showed.
heard_within : {v : Format} {n c : ℕ} {f : Format} {image : List ℕ} {log : List Event} → Raised v n c f image log
    → (card : ℕ) (p : Pair) → any (shown_for card p) log ≡ true → Within (accepted_for card log) p
heard_within {v} {n} {c} {f} {image} {log} r card p h =
    let found = (any_means (shown_for card p) log).0 h in
    let e : Event = found.0 in
    let holds : (eqb (command_of e).card card && same_pair e.answer.pair p) ≡ true = found.2 in
    let place = eqb-true (command_of e).card card (and_left (eqb (command_of e).card card) (same_pair e.answer.pair p) holds) in
    let same = pair_is e.answer.pair p (and_right (eqb (command_of e).card card) (same_pair e.answer.pair p) holds) in
    subst (Within (accepted_for card log)) same (subst (λ (k : ℕ). Within (accepted_for k log) e.answer.pair) place (r.shown e found.1))

pub guard_spends : GuardSpends
guard_spends v n c places logs steps shape fits card desk start mode doings d i heard e =
    let y = finally v n c places logs steps in
    let r = carried_run v n c (Raised v n c) (raised_carried v n c) (opening v n c places logs) steps fits (raised_fresh v n c shape) in
    let w = known_within desk start d i (accepted_for card y.store.trace) y.store.trace card (heard_within r card) doings heard in
    let s = spent (known_by desk start doings) mode e in
    let high = either (known_by desk start doings).pair mode (most_ahead * accepted_for card y.store.trace + own_made doings) s.which s.at_end_lem w.s w.x in
    record { raised = high; together = omega (arith, high) }
