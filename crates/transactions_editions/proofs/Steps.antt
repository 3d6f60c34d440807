-- What holds of translations at every moment is kept by each step. Assumes nothing.
use Prim.Native.Nat.{ℕ, zero, suc, ◌≤◌, ◌<◌}
use native.Mathlib.Omega.{arith}
use mathlib.Core.Path.{◌≡◌, refl, sym, ap, ◌∙◌, subst}
use mathlib.Core.Logic.{◌⊎◌, inl, inr}
use mathlib.Core.List.{List, [], ◌∷◌}
use mathlib.Core.Bool.{Bool, true, false, cond, not, ◌&&◌, ◌||◌, and-false}
use borrow.Author.Tests.{eqb-true, eq-eqb, ne_eqb, ltb-true, ltb-false, not-true}
use lib.ListN.{length, get_or}
use lib.Dec.{eqb, ltb}
use Rattle.formats.specs.Format.{V1}
use Rattle.lists.specs.Table.{settled}
use Rattle.lists.proofs.Tests.{cases, never_both, and_left, and_right, or_cases}
use Rattle.stamps.specs.declared.Mark.{Mark}
use Rattle.commands.specs.declared.Command.{Command}
use Rattle.commands.specs.Command.{Language, original, is_write, writes, writes_translation, verifier, update}
use Rattle.commands.specs.Bytes.{formed}
use Rattle.image.specs.Image.{Card, Cards, decode}
use Rattle.image_claims.proofs.Claims.{good_encodes}
use Rattle.store_model.specs.Words.{Sent}
use Rattle.store_model.specs.Claims.{SentBytes}
use Rattle.store_model.proofs.Machine.{number_on}
use Rattle.redo_log.specs.Log.{LogRecord, record_card, record_side, records}
use Rattle.redo_recovery_model.specs.Recovery.{record_in, due}
use Rattle.transactions.specs.System.{
  OneDesk,
  Order,
  Shown,
  other,
  order,
  arrive,
  no_order,
  no_shown,
  command_in,
  expects_mark,
  leaves_mark,
  prepares,
  writes_out,
  releases,
  due_for,
  written_out,
  opens_above,
  orderly,
  writes_line,
  lawful,
  outcome,
  reach_of,
  after_step,
}
use Rattle.transactions.proofs.Records.{All}
use Rattle.transactions.proofs.Serving.{at, then, Taken, taken, kept}
use Rattle.transactions.proofs.Kept.{bears, Clear, card_for, relies, Ready, Fine, preparing, releasing, writing, Safe, Told, Kept, all_at}
use Rattle.transactions.proofs.Requests.{if_so, number_now, image_now, good_now}
use Rattle.transactions.proofs.Orders.{out_none}
use Rattle.transactions.proofs.Renewing.{some_written}
use Rattle.transactions.proofs.Arrivals.{rises}
use Rattle.transactions_editions.specs.Editions.{brings_current, current_by, current_after}
use Rattle.transactions_editions.proofs.Lines.{due_of, due_none, past_due, by_none, by_first, by_clear, by_line, by_some}
use Rattle.transactions_editions.proofs.Current.{cur, cur_then}

-- ---- what holds

-- A line from n on is due, or the first n have left what stands.
abbrev pub Onwards : List LogRecord → ℕ → ℕ → Bool → Type 0
Onwards rs k n c = ((i : ℕ) × (n ≤ i) × (due_for rs k i ≡ true)) ⊎ (current_by rs k n c ≡ c)

-- A release that is not stale comes when all lines have left what stands.
abbrev pub Done : ℕ → List LogRecord → Card → Order → Type 0
Done d rs card o =
    releases d (command_in o.sent) ≡ true → card.pair.x ≤ relies o → bears d card ≡ true
    → current_by rs (card_for o) (length rs) (cur card) ≡ cur card

abbrev pub Tells : ℕ → List LogRecord → Card → Shown → Type 0
Tells d rs card v = card.pair.x ≤ v.x → bears d card ≡ true → Onwards rs v.card v.reach (cur card)

pub record Turned (d : ℕ) (rs : List LogRecord) (orders : List Order) (shown : List Shown) (c : ℕ → Bool) (cs : Cards) : Type 0 where
  pub plain : (j : ℕ) → bears d (at cs j) ≡ false → cur (at cs j) ≡ c j
  pub marked : (j : ℕ) → bears d (at cs j) ≡ true → current_by rs j (length rs) (cur (at cs j)) ≡ c j
  pub sent : All (λ (o : Order). Done d rs (at cs (card_for o)) o) orders
  pub told : All (λ (v : Shown). Tells d rs (at cs v.card) v) shown

abbrev pub Holds : ℕ → OneDesk → (ℕ → Bool) → Type 0
Holds d y c = Turned d (records y.log) y.orders y.shown c (decode V1 y.image)

-- ---- cards that change

pub data Moved (d : ℕ) (old new : Card) : Type 0 where
  still : new ≡ old → Moved d old new
  up : old.pair.x < new.pair.x → Moved d old new
  off : bears d new ≡ false → Moved d old new

module _ {A : Type 0} where
  all_both : (P Q R : A → Type 0) (l : List A) → ((a : A) → P a → Q a → R a) → All P l → All Q l → All R l
  all_both P Q R [] f p q = tt
  all_both P Q R (a ∷ l) f p q = (f a p.0 q.0, all_both P Q R l f p.1 q.1)

module _ (d : ℕ) (y : OneDesk) (k : Kept d y) (new : Cards) (moved : (j : ℕ) → Moved d (at k.cs j) (at new j)) where
  abbrev lines : List LogRecord
  lines = records y.log

  pub sent_moved : All (λ (o : Order). Done d lines (at k.cs (card_for o)) o) y.orders → All (λ (o : Order). Done d lines (at new (card_for o)) o) y.orders
  sent_moved w =
      all_both (λ (o : Order). Safe d lines (card_for o) (at k.cs (card_for o)) o) (λ (o : Order). Done d lines (at k.cs (card_for o)) o)
      (λ (o : Order). Done d lines (at new (card_for o)) o) y.orders
      (λ o s q. go o s q (moved (card_for o))) k.sent w
    where
      go : (o : Order) → Safe d lines (card_for o) (at k.cs (card_for o)) o → Done d lines (at k.cs (card_for o)) o → Moved d
          (at k.cs (card_for o)) (at new (card_for o)) → Done d lines (at new (card_for o)) o
      go o s q (still e) = subst (λ (c : Card). Done d lines c o) (sym e) q
      go o s q (up u) = λ r live b. absurd (omega (arith, live, u, s.below))
      go o s q (off n) = λ r live b. absurd (never_both b n)

  pub told_moved : All (λ (v : Shown). Tells d lines (at k.cs v.card) v) y.shown → All (λ (v : Shown). Tells d lines (at new v.card) v) y.shown
  told_moved w =
      all_both (λ (v : Shown). Told d lines v.card (at k.cs v.card) v) (λ (v : Shown). Tells d lines (at k.cs v.card) v) (λ (v : Shown). Tells d lines (at new v.card) v) y.shown
      (λ v s q. go v s q (moved v.card)) k.told w
    where
      go : (v : Shown) → Told d lines v.card (at k.cs v.card) v → Tells d lines (at k.cs v.card) v → Moved d (at k.cs v.card)
          (at new v.card) → Tells d lines (at new v.card) v
      go v s q (still e) = subst (λ (c : Card). Tells d lines c v) (sym e) q
      go v s q (up u) = λ live b. absurd (omega (arith, live, u, s.low))
      go v s q (off n) = λ live b. absurd (never_both b n)

-- An answer that says nothing of lines.
pub says_nothing : (d : ℕ) (rs : List LogRecord) (card : Card) (v : Shown) → v.reach ≡ 0 → Tells d rs card v
says_nothing d rs card v e live b = inr (ap (λ (n : ℕ). current_by rs v.card n (cur card)) e ∙ by_first rs v.card (cur card))

-- ---- somebody else's request

module _ (d : ℕ) (y : OneDesk) (k : Kept d y) (c : ℕ → Bool) (w : Turned d (records y.log) y.orders y.shown c k.cs) (s : Sent) (b : SentBytes s) (h : lawful d y (other s) ≡ true) where
  abbrev cmd : Command
  cmd = command_in s

  abbrev cards : Cards
  cards = then k.cs s

  abbrev c_now : ℕ → Bool
  c_now = current_after d y c (other s)

  abbrev answered : Shown
  answered = record { card = cmd.card; x = (outcome y s).answer.pair.x; reach = 0 }

  c_refused : (n : ℕ) → number_on V1 k.cs s ≡ suc n → (j : ℕ) → c_now j ≡ c j
  c_refused n e j = let no : eqb (outcome y s).answer.number 0 ≡ false = ne_eqb (outcome y s).answer.number 0 (λ z. omega (arith, number_now d y k s, e)) in rw no

  c_other : (j : ℕ) → eqb cmd.card j ≡ false → c_now j ≡ c j
  c_other j e = ap (λ (t : Bool). cond (t && is_write cmd) (writes_translation cmd) (c j))
      (ap (λ (t : Bool). eqb (outcome y s).answer.number 0 && t) e ∙ and-false (eqb (outcome y s).answer.number 0))

  turned_refused : (n : ℕ) → number_on V1 k.cs s ≡ suc n → Turned d (records y.log) y.orders (answered ∷ y.shown) c_now cards
  turned_refused n e =
      subst (Turned d (records y.log) y.orders (answered ∷ y.shown) c_now) (sym (kept k.cs s k.good n e))
      (record {
        plain = λ j q. w.plain j q ∙ sym (c_refused n e j);
        marked = λ j q. w.marked j q ∙ sym (c_refused n e j);
        sent = w.sent;
        told = (says_nothing d (records y.log) (at k.cs cmd.card) answered refl, w.told);
      })

  module _ (z : number_on V1 k.cs s ≡ 0) where
    t : Taken k.cs s
    t = taken k.cs s k.good z

    rule : (not (expects_mark d cmd) && not (leaves_mark d cmd)) ≡ true
    rule = if_so (formed V1 s.command) h t.well_formed

    was_off : bears d (at k.cs cmd.card) ≡ false
    was_off = subst (λ (n : ℕ). eqb n d ≡ false) t.fits (not-true (expects_mark d cmd) (and_left (not (expects_mark d cmd)) (not (leaves_mark d cmd)) rule))

    is_off : bears d (at cards cmd.card) ≡ false
    is_off = subst (λ (m : Mark). eqb m.desk d ≡ false) (sym t.mark) (not-true (leaves_mark d cmd) (and_right (not (expects_mark d cmd)) (not (leaves_mark d cmd)) rule))

    moved_by : (j : ℕ) → Moved d (at k.cs j) (at cards j)
    moved_by j = go (cases (eqb cmd.card j))
      where
        go : (eqb cmd.card j ≡ true) ⊎ (eqb cmd.card j ≡ false) → Moved d (at k.cs j) (at cards j)
        go (inl e) = off (subst (λ (n : ℕ). bears d (at cards n) ≡ false) (eqb-true cmd.card j e) is_off)
        go (inr e) = still (t.others j e)

    c_here : c_now cmd.card ≡ cond (is_write cmd) (writes_translation cmd) (c cmd.card)
    c_here = rw (eq-eqb (outcome y s).answer.number 0 (number_now d y k s ∙ z), eq-eqb cmd.card cmd.card refl)

    cur_here : cur (at cards cmd.card) ≡ c_now cmd.card
    cur_here =
        cur_then k.cs s k.good z
        ∙ ap (λ (v : Bool). cond (is_write cmd) (writes_translation cmd) v) (w.plain cmd.card was_off)
        ∙ sym c_here

    turned_taken : Turned d (records y.log) y.orders (answered ∷ y.shown) c_now cards
    turned_taken =
        record {
          plain = λ j q. plain_at j q (cases (eqb cmd.card j));
          marked = λ j q. marked_at j q (cases (eqb cmd.card j));
          sent = sent_moved d y k cards moved_by w.sent;
          told = (says_nothing d (records y.log) (at cards cmd.card) answered refl, told_moved d y k cards moved_by w.told);
        }
      where
        plain_at : (j : ℕ) → bears d (at cards j) ≡ false → (eqb cmd.card j ≡ true) ⊎ (eqb cmd.card j ≡ false) → cur (at cards j) ≡ c_now j
        plain_at j q (inl e) = subst (λ (n : ℕ). cur (at cards n) ≡ c_now n) (eqb-true cmd.card j e) cur_here
        plain_at j q (inr e) = ap cur (t.others j e) ∙ w.plain j (subst (λ (card : Card). bears d card ≡ false) (t.others j e) q) ∙ sym (c_other j e)

        marked_at : (j : ℕ) → bears d (at cards j) ≡ true → (eqb cmd.card j ≡ true) ⊎ (eqb cmd.card j ≡ false) → current_by (records y.log) j
            (length (records y.log)) (cur (at cards j)) ≡ c_now j
        marked_at j q (inl e) = absurd (never_both q (subst (λ (n : ℕ). bears d (at cards n) ≡ false) (eqb-true cmd.card j e) is_off))
        marked_at j q (inr e) =
            ap (λ (card : Card). current_by (records y.log) j (length (records y.log)) (cur card)) (t.others j e)
            ∙ w.marked j (subst (λ (card : Card). bears d card ≡ true) (t.others j e) q)
            ∙ sym (c_other j e)

  turned_then : Turned d (records y.log) y.orders (answered ∷ y.shown) c_now cards
  turned_then = go (number_on V1 k.cs s) refl
    where
      go : (n : ℕ) → number_on V1 k.cs s ≡ n → Turned d (records y.log) y.orders (answered ∷ y.shown) c_now cards
      go zero e = turned_taken e
      go (suc n) e = turned_refused n e

  pub holds_other : Holds d (after_step d y (other s)) c_now
  unfolding after_step
  holds_other =
      subst (Turned d (records y.log) y.orders (answered ∷ y.shown) c_now)
      (sym (ap (decode V1) (image_now d y k s) ∙ (good_encodes V1 cards (good_now d y k s b)).same)) turned_then

-- ---- the desk sends an order

module _ (d : ℕ) (y : OneDesk) (c : ℕ → Bool) (w : Holds d y c) (s : Sent) (line from : ℕ) (h : lawful d y (order s line from) ≡ true) where
  abbrev ocmd : Command
  ocmd = command_in s

  abbrev v : Shown
  v = get_or y.shown from no_shown

  abbrev ors : List LogRecord
  ors = records y.log

  abbrev first_two : Bool
  first_two = ltb from (length y.shown) && opens_above ocmd v

  inside : from < length y.shown
  inside = ltb-true from (length y.shown) (and_left (ltb from (length y.shown)) (opens_above ocmd v) (and_left first_two (orderly d ors s line v.reach) h))

  opens : opens_above ocmd v ≡ true
  opens = and_right (ltb from (length y.shown)) (opens_above ocmd v) (and_left first_two (orderly d ors s line v.reach) h)

  same_card : v.card ≡ ocmd.card
  same_card = eqb-true v.card ocmd.card
      (and_left (eqb v.card ocmd.card) (eqb (verifier ocmd).x v.x)
      (and_left (eqb v.card ocmd.card && eqb (verifier ocmd).x v.x) (ltb v.x (update ocmd).x) opens))

  same_x : (verifier ocmd).x ≡ v.x
  same_x = eqb-true (verifier ocmd).x v.x
      (and_right (eqb v.card ocmd.card) (eqb (verifier ocmd).x v.x)
      (and_left (eqb v.card ocmd.card && eqb (verifier ocmd).x v.x) (ltb v.x (update ocmd).x) opens))

  -- A release is neither a prepare nor a write.
  abbrev pt : Bool
  pt = prepares d ocmd && written_out ors ocmd.card 0 (length ors)

  abbrev rt : Bool
  rt = releases d ocmd && written_out ors ocmd.card v.reach (length ors)

  abbrev wt : Bool
  wt = due_for ors ocmd.card line && written_out ors ocmd.card v.reach line && writes_line s (record_in ors line)

  all_written_lem : releases d ocmd ≡ true → (d ≡ 0 → ⊥) → written_out ors ocmd.card v.reach (length ors) ≡ true
  all_written_lem r some = go (or_cases (pt || rt) (writes_out d ocmd && wt) (and_right first_two (orderly d ors s line v.reach) h))
    where
      expected : expects_mark d ocmd ≡ true
      expected = and_right (not (is_write ocmd)) (expects_mark d ocmd) (and_left (not (is_write ocmd) && expects_mark d ocmd) (eqb ocmd.next.desk 0) r)

      unwritten : is_write ocmd ≡ false
      unwritten = not-true (is_write ocmd) (and_left (not (is_write ocmd)) (expects_mark d ocmd) (and_left (not (is_write ocmd) && expects_mark d ocmd) (eqb ocmd.next.desk 0) r))

      two : (pt ≡ true) ⊎ (rt ≡ true) → written_out ors ocmd.card v.reach (length ors) ≡ true
      two (inr e) = and_right (releases d ocmd) (written_out ors ocmd.card v.reach (length ors)) e
      two (inl e) =
          let p = and_left (prepares d ocmd) (written_out ors ocmd.card 0 (length ors)) e in
          let none = and_right (not (is_write ocmd)) (eqb ocmd.expected.desk 0) (and_left (not (is_write ocmd) && eqb ocmd.expected.desk 0) (leaves_mark d ocmd) p) in
          absurd (some (sym (eqb-true ocmd.expected.desk d expected) ∙ eqb-true ocmd.expected.desk 0 none))

      go : ((pt || rt) ≡ true) ⊎ ((writes_out d ocmd && wt) ≡ true) → written_out ors ocmd.card v.reach (length ors) ≡ true
      go (inl e) = two (or_cases pt rt e)
      go (inr e) = absurd (never_both
          (and_left (is_write ocmd) (expects_mark d ocmd) (and_left (is_write ocmd && expects_mark d ocmd) (leaves_mark d ocmd) (and_left (writes_out d ocmd) wt e))) unwritten)

  done_new : (d ≡ 0 → ⊥) → Done d ors (at (decode V1 y.image) ocmd.card) (record { sent = s; line = line })
  done_new some r live b = go (tells (subst (λ (n : ℕ). here.pair.x ≤ n) same_x live) b)
    where
      here : Card
      here = at (decode V1 y.image) ocmd.card

      out : (i : ℕ) → v.reach ≤ i → due_for ors ocmd.card i ≡ false
      out i g = pick (cases (ltb i (length ors)))
        where
          pick : (ltb i (length ors) ≡ true) ⊎ (ltb i (length ors) ≡ false) → due_for ors ocmd.card i ≡ false
          pick (inl e) = due_none ors ocmd.card i (λ l. out_none ors ocmd.card v.reach (length ors) (all_written_lem r some) l i g (ltb-true i (length ors) e))
          pick (inr e) = past_due ors ocmd.card i (ltb-false i (length ors) e)

      tells : here.pair.x ≤ v.x → bears d here ≡ true → Onwards ors ocmd.card v.reach (cur here)
      tells = subst (λ (n : ℕ). (at (decode V1 y.image) n).pair.x ≤ v.x → bears d (at (decode V1 y.image) n) ≡ true → Onwards ors n v.reach (cur (at (decode V1 y.image) n))) same_card
          (all_at (λ (q : Shown). Tells d ors (at (decode V1 y.image) q.card) q) y.shown from no_shown inside w.told)

      both : current_by ors ocmd.card v.reach (cur here) ≡ cur here → (ltb v.reach (length ors) ≡ true) ⊎
          (ltb v.reach (length ors) ≡ false) → current_by ors ocmd.card (length ors) (cur here) ≡ cur here
      both e (inl g) = by_none ors ocmd.card v.reach (length ors) (cur here) (omega (arith, ltb-true v.reach (length ors) g)) (λ i p q. out i p) ∙ e
      both e (inr g) = sym (by_none ors ocmd.card (length ors) v.reach (cur here) (ltb-false v.reach (length ors) g) (λ i p q. past_due ors ocmd.card i p)) ∙ e

      go : Onwards ors ocmd.card v.reach (cur here) → current_by ors ocmd.card (length ors) (cur here) ≡ cur here
      go (inl later) = absurd (never_both later.2 (out later.0 later.1))
      go (inr e) = both e (cases (ltb v.reach (length ors)))

  pub holds_order : (d ≡ 0 → ⊥) → Holds d (after_step d y (order s line from)) c
  unfolding after_step
  holds_order some = record { plain = w.plain; marked = w.marked; sent = (done_new some, w.sent); told = w.told }

-- ---- an order arrives

module _ (d : ℕ) (y : OneDesk) (k : Kept d y) (c : ℕ → Bool) (w : Turned d (records y.log) y.orders y.shown c k.cs) (i : ℕ) (h : lawful d y (arrive i) ≡ true) where
  abbrev o : Order
  o = get_or y.orders i no_order

  abbrev so : Sent
  so = o.sent

  abbrev ac : Command
  ac = command_in so

  abbrev ars : List LogRecord
  ars = records y.log

  abbrev acards : Cards
  acards = then k.cs so

  abbrev heard : Shown
  heard = record { card = ac.card; x = (outcome y so).answer.pair.x; reach = reach_of o (outcome y so).answer }

  in_orders : i < length y.orders
  in_orders = ltb-true i (length y.orders) h

  safe : Safe d ars ac.card (at k.cs ac.card) o
  safe = all_at (λ (q : Order). Safe d ars (card_for q) (at k.cs (card_for q)) q) y.orders i no_order in_orders k.sent

  done : Done d ars (at k.cs ac.card) o
  done = all_at (λ (q : Order). Done d ars (at k.cs (card_for q)) q) y.orders i no_order in_orders w.sent

  reach_unwritten : is_write ac ≡ false → heard.reach ≡ 0
  reach_unwritten e = ap (λ (b : Bool). cond b (settled (outcome y so).answer.number (suc o.line) 0) 0) e

  reach_refused : (n : ℕ) → (outcome y so).answer.number ≡ suc n → heard.reach ≡ 0
  reach_refused n e = ap (λ (m : ℕ). cond (is_write ac) (settled m (suc o.line) 0) 0) e ∙ go (is_write ac)
    where
      go : (b : Bool) → ◌≡◌ {A = ℕ} (cond b 0 0) 0
      go true = refl
      go false = refl

  arrived_refused : (n : ℕ) → number_on V1 k.cs so ≡ suc n → Turned d ars y.orders (heard ∷ y.shown) c acards
  arrived_refused n e =
      subst (Turned d ars y.orders (heard ∷ y.shown) c) (sym (kept k.cs so k.good n e))
      (record {
        plain = w.plain;
        marked = w.marked;
        sent = w.sent;
        told = (says_nothing d ars (at k.cs ac.card) heard (reach_refused n (number_now d y k so ∙ e)), w.told);
      })

  module _ (z : number_on V1 k.cs so ≡ 0) where
    ta : Taken k.cs so
    ta = taken k.cs so k.good z

    abbrev was : Card
    was = at k.cs ac.card

    abbrev is : Card
    is = at acards ac.card

    moved_to : (j : ℕ) → Moved d (at k.cs j) (at acards j)
    moved_to j = go (cases (eqb ac.card j))
      where
        go : (eqb ac.card j ≡ true) ⊎ (eqb ac.card j ≡ false) → Moved d (at k.cs j) (at acards j)
        go (inl e) = subst (λ (n : ℕ). Moved d (at k.cs n) (at acards n)) (eqb-true ac.card j e) (up (rises d y k i h z))
        go (inr e) = still (ta.others j e)

    -- All but the card itself.
    arrived : (bears d is ≡ false → cur is ≡ c ac.card) → (bears d is ≡ true → current_by ars ac.card (length ars) (cur is) ≡ c ac.card) → Tells d ars is heard
        → Turned d ars y.orders (heard ∷ y.shown) c acards
    arrived p m t =
        record {
          plain = λ j q. plain_at j q (cases (eqb ac.card j));
          marked = λ j q. marked_at j q (cases (eqb ac.card j));
          sent = sent_moved d y k acards moved_to w.sent;
          told = (t, told_moved d y k acards moved_to w.told);
        }
      where
        plain_at : (j : ℕ) → bears d (at acards j) ≡ false → (eqb ac.card j ≡ true) ⊎ (eqb ac.card j ≡ false) → cur (at acards j) ≡ c j
        plain_at j q (inl e) =
            let same = eqb-true ac.card j e in
            subst (λ (n : ℕ). cur (at acards n) ≡ c n) same (p (subst (λ (n : ℕ). bears d (at acards n) ≡ false) (sym same) q))
        plain_at j q (inr e) = ap cur (ta.others j e) ∙ w.plain j (subst (λ (card : Card). bears d card ≡ false) (ta.others j e) q)

        marked_at : (j : ℕ) → bears d (at acards j) ≡ true → (eqb ac.card j ≡ true) ⊎ (eqb ac.card j ≡ false) → current_by ars j (length ars) (cur (at acards j)) ≡ c j
        marked_at j q (inl e) =
            let same = eqb-true ac.card j e in
            subst (λ (n : ℕ). current_by ars n (length ars) (cur (at acards n)) ≡ c n) same (m (subst (λ (n : ℕ). bears d (at acards n) ≡ true) (sym same) q))
        marked_at j q (inr e) =
            ap (λ (card : Card). current_by ars j (length ars) (cur card)) (ta.others j e)
            ∙ w.marked j (subst (λ (card : Card). bears d card ≡ true) (ta.others j e) q)

    stays_so : is_write ac ≡ false → cur is ≡ cur was
    stays_so e = cur_then k.cs so k.good z ∙ ap (λ (b : Bool). cond b (writes_translation ac) (cur was)) e

    bears_next : (b : Bool) → eqb ac.next.desk d ≡ b → bears d is ≡ b
    bears_next b e = ap (λ (q : Mark). eqb q.desk d) ta.mark ∙ e

    bears_old : (b : Bool) → eqb ac.expected.desk d ≡ b → bears d was ≡ b
    bears_old b e = subst (λ (q : ℕ). eqb q d ≡ b) ta.fits e

    by_kind : Fine d ars ac.card was o → Turned d ars y.orders (heard ∷ y.shown) c acards
    by_kind (preparing p f) =
        arrived (λ e. absurd (never_both borne e))
        (λ e. by_clear ars ac.card (length ars) (cur is) none_due_lem ∙ stays_so unwritten ∙ w.plain ac.card unborne)
        (says_nothing d ars is heard (reach_unwritten unwritten))
      where
        unwritten : is_write ac ≡ false
        unwritten = not-true (is_write ac) (and_left (not (is_write ac)) (eqb ac.expected.desk 0) (and_left (not (is_write ac) && eqb ac.expected.desk 0) (leaves_mark d ac) p))

        borne : bears d is ≡ true
        borne = bears_next true (and_right (not (is_write ac) && eqb ac.expected.desk 0) (leaves_mark d ac) p)

        unborne : bears d was ≡ false
        unborne =
            bears_old false
            (ne_eqb ac.expected.desk d
            (λ e. k.some (sym e ∙ eqb-true ac.expected.desk 0
            (and_right (not (is_write ac)) (eqb ac.expected.desk 0) (and_left (not (is_write ac) && eqb ac.expected.desk 0) (leaves_mark d ac) p)))))

        clear : (bears d was ≡ true) ⊎ Clear ars ac.card → Clear ars ac.card
        clear (inl e) = absurd (never_both e unborne)
        clear (inr e) = e

        none_due_lem : (n : ℕ) → due_for ars ac.card n ≡ false
        none_due_lem n = due_none ars ac.card n (λ l. clear (f ta.fresh) l n)
    by_kind (releasing p f) =
        arrived (λ e. stays_so unwritten ∙ sym (done p ta.fresh borne) ∙ w.marked ac.card borne) (λ e. absurd (never_both e unborne)) (λ live e. absurd (never_both e unborne))
      where
        unwritten : is_write ac ≡ false
        unwritten = not-true (is_write ac) (and_left (not (is_write ac)) (expects_mark d ac) (and_left (not (is_write ac) && expects_mark d ac) (eqb ac.next.desk 0) p))

        borne : bears d was ≡ true
        borne = bears_old true (and_right (not (is_write ac)) (expects_mark d ac) (and_left (not (is_write ac) && expects_mark d ac) (eqb ac.next.desk 0) p))

        unborne : bears d is ≡ false
        unborne = bears_next false (ne_eqb ac.next.desk d (λ e. k.some (sym e ∙ eqb-true ac.next.desk 0 (and_right (not (is_write ac) && expects_mark d ac) (eqb ac.next.desk 0) p))))
    by_kind (writing p f) =
        arrived (λ e. absurd (never_both borne_now e))
        (λ e. by_some ars ac.card (length ars) o.line ready.within line_due (cur is) (cur was) ∙ w.marked ac.card borne)
        (λ live e. inr (ap (λ (n : ℕ). current_by ars ac.card n (cur is)) reach_now ∙ by_line ars ac.card o.line (cur is) line_due ∙ sym cur_line))
      where
        writes_it : is_write ac ≡ true
        writes_it = and_left (is_write ac) (expects_mark d ac) (and_left (is_write ac && expects_mark d ac) (leaves_mark d ac) p)

        borne : bears d was ≡ true
        borne = bears_old true (and_right (is_write ac) (expects_mark d ac) (and_left (is_write ac && expects_mark d ac) (leaves_mark d ac) p))

        borne_now : bears d is ≡ true
        borne_now = bears_next true (and_right (is_write ac && expects_mark d ac) (leaves_mark d ac) p)

        ready : Ready ars ac.card was o
        ready = f ta.fresh borne

        line_due : due_for ars ac.card o.line ≡ true
        line_due = pick (some_written ac writes_it)
          where
            pick : (l : Language) × (writes l ac ≡ true) → due_for ars ac.card o.line ≡ true
            pick some = due_of ars ac.card o.line some.0 (ready.place some.0 ∙ some.1)

        reach_now : heard.reach ≡ suc o.line
        reach_now = rw (writes_it, number_now d y k so ∙ z)

        -- The side of the line is the one that is written.
        side : eqb (record_side (record_in ars o.line)) 1 ≡ writes original ac
        side = sym (both_true (due ars o.line) (eqb (record_card (record_in ars o.line)) ac.card) (eqb (record_side (record_in ars o.line)) 1) line_due) ∙ ready.place original
          where
            both_true : (a b q : Bool) → (a && b) ≡ true → (a && (b && q)) ≡ q
            both_true true true q e = refl
            both_true true false q e = absurd (never_both refl (sym e))
            both_true false b q e = absurd (never_both refl (sym e))

        cur_line : cur is ≡ brings_current ars o.line
        cur_line =
            cur_then k.cs so k.good z
            ∙ ap (λ (b : Bool). cond b (writes_translation ac) (cur was)) writes_it
            ∙ other_side (writes original ac) (writes_translation ac) writes_it (one (cases (writes original ac)))
            ∙ ap not (sym side)
          where
            other_side : (a b : Bool) → (a || b) ≡ true → (a && b) ≡ false → b ≡ not a
            other_side true true e g = absurd (never_both refl g)
            other_side true false e g = refl
            other_side false true e g = refl
            other_side false false e g = absurd (never_both refl (sym e))

            one : (writes original ac ≡ true) ⊎ (writes original ac ≡ false) → (writes original ac && writes_translation ac) ≡ false
            one (inl e) = ap (λ (n : ℕ). eqb n 3 && eqb n 4) (eqb-true ac.act 3 e)
            one (inr e) = ap (λ (b : Bool). b && writes_translation ac) e

  arrived_then : Turned d ars y.orders (heard ∷ y.shown) c acards
  arrived_then = go (number_on V1 k.cs so) refl
    where
      go : (n : ℕ) → number_on V1 k.cs so ≡ n → Turned d ars y.orders (heard ∷ y.shown) c acards
      go zero e = by_kind e safe.fine
      go (suc n) e = arrived_refused n e

  pub holds_arrive : Holds d (after_step d y (arrive i)) c
  unfolding after_step
  holds_arrive =
      subst (Turned d ars y.orders (heard ∷ y.shown) c)
      (sym (ap (decode V1) (image_now d y k so) ∙ (good_encodes V1 acards (good_now d y k so safe.bytes)).same)) arrived_then
