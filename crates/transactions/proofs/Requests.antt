-- What holds at every moment is kept by everybody else's requests, and by an order that is sent. Assumes nothing.
use Prim.Native.Nat.{ℕ, zero, suc, ◌≤◌}
use native.Mathlib.Omega.{arith}
use mathlib.Core.Path.{◌≡◌, refl, sym, ap, ◌∙◌, subst}
use mathlib.Core.Logic.{◌⊎◌, inl, inr}
use mathlib.Core.List.{List, ◌∷◌}
use mathlib.Core.Bool.{Bool, true, false, cond, not, ◌&&◌, ◌||◌}
use borrow.Author.Tests.{eqb-true, eqb-false, eq-eqb, ne_eqb, not-true}
use lib.Dec.{eqb}
use Rattle.formats.specs.Format.{V1}
use Rattle.lists.specs.Table.{settled}
use Rattle.stamps.specs.declared.Mark.{Mark}
use Rattle.lists.proofs.Tests.{cases, never_both, and_left, and_right, or_fails}
use Rattle.commands.specs.declared.Command.{Command}
use Rattle.commands.specs.Command.{Language, original, translation, is_write, writes, writes_translation}
use Rattle.commands.proofs.Languages.{none_written}
use Rattle.commands.specs.Bytes.{payload, formed}
use Rattle.guard.specs.declared.Answer.{Answer}
use Rattle.image.specs.Image.{Card, Cards, GoodCards, encode}
use Rattle.store_model.specs.Serve.{Outcome, serve}
use Rattle.store_model.specs.Words.{Sent}
use Rattle.store_model.specs.Claims.{SentBytes}
use Rattle.store_model.proofs.Machine.{number_on}
use Rattle.store_model.proofs.Simulation.{good_more, same_image}
use Rattle.redo_log.specs.Log.{LogRecord, records}
use Rattle.redo_recovery_model.specs.Claims.{rewritten}
use Rattle.transactions.specs.System.{
  OneDesk,
  Order,
  Shown,
  Holding,
  unknown,
  held,
  free,
  other,
  crash,
  command_in,
  expects_mark,
  leaves_mark,
  prepares,
  lawful,
  outcome,
  meant_after,
  heard_of,
  noting,
  after_step,
}
use Rattle.transactions.proofs.Serving.{at, then, Taken, taken, kept, number_is, shown_x, shown_mark}
use Rattle.transactions.proofs.Kept.{bears, Clear, Onward, Stands, card_for, Fine, preparing, releasing, writing, Safe, Told, Knows, Kept, all_moved, stands_as}

-- What is asked only where a test holds holds there.
pub if_so : (a : Bool) {b : Bool} → (not a || b) ≡ true → a ≡ true → b ≡ true
if_so a h e = rw e at h

-- One answer more, which says nothing of lines written out on this card.
pub knows_shown : (d : ℕ) (rs : List LogRecord) (orders : List Order) (shown : List Shown) (v : Shown) (k : ℕ) (card : Card) (h : Holding)
    → (v.card ≡ k → card.pair.x ≤ v.x → v.reach ≡ 0) → Knows d rs orders shown k card h → Knows d rs orders (v ∷ shown) k card h
knows_shown d rs orders shown v k card unknown q w = tt
knows_shown d rs orders shown v k card held q w = record { bearing = w.bearing; stale = w.stale; unwritten = (q, w.unwritten) }
knows_shown d rs orders shown v k card free q w = w

-- One order more, for another card.
pub knows_order : (d : ℕ) (rs : List LogRecord) (orders : List Order) (shown : List Shown) (o : Order) (k : ℕ) (card : Card) (h : Holding)
    → (card_for o ≡ k → ⊥) → Knows d rs orders shown k card h → Knows d rs (o ∷ orders) shown k card h
knows_order d rs orders shown o k card unknown q w = tt
knows_order d rs orders shown o k card held q w = record { bearing = w.bearing; stale = ((λ e. absurd (q e)), w.stale); unwritten = w.unwritten }
knows_order d rs orders shown o k card free q w = w

pub no_writes : (c : Command) → is_write c ≡ false → (l : Language) → writes l c ≡ false
no_writes c e original = (or_fails (writes original c) (writes_translation c) e).0
no_writes c e (translation t) = none_written c (or_fails (writes original c) (writes_translation c) e).1 t

pub onward_none : (rs : List LogRecord) (k : ℕ) (card : Card) → Onward rs k 0 card
unfolding rewritten
onward_none rs k card l = inr refl

-- ---- the outcome of a request, by the cards

module _ (d : ℕ) (y : OneDesk) (k : Kept d y) (s : Sent) where
  pub outcome_is : outcome y s ≡ serve V1 (encode V1 k.cs) s.command s.lent
  outcome_is = ap (λ (i : List ℕ). serve V1 i s.command s.lent) k.image_is

  pub number_now : (outcome y s).answer.number ≡ number_on V1 k.cs s
  number_now = ap (λ (o : Outcome). o.answer.number) outcome_is ∙ number_is k.cs s k.good

  pub image_now : (outcome y s).image ≡ encode V1 (then k.cs s)
  image_now = ap (λ (o : Outcome). o.image) outcome_is ∙ same_image V1 k.cs s k.good

  pub x_now : (outcome y s).answer.pair.x ≤ (at (then k.cs s) (command_in s).card).pair.x
  x_now = subst (λ (o : Outcome). o.answer.pair.x ≤ (at (then k.cs s) (command_in s).card).pair.x) (sym outcome_is) (shown_x k.cs s k.good)

  pub good_now : SentBytes s → GoodCards V1 (then k.cs s)
  good_now b = good_more V1 k.cs s k.good b (number_on V1 k.cs s) refl

  -- An answer to a well-formed command that shows another mark.
  pub mark_shown : formed V1 s.command ≡ true → eqb (outcome y s).answer.mark.desk d ≡ false → bears d (at (then k.cs s) (command_in s).card) ≡ false
  mark_shown f e =
      subst (λ (m : ℕ). eqb m d ≡ false)
      (ap (λ (q : Outcome). q.answer.mark.desk) outcome_is ∙ ap (λ (m : Mark). m.desk) (shown_mark k.cs s k.good f)) e

-- What an answer tells, by what is known before it and by the two things that it can tell.
pub knows_heard : (d : ℕ) (rs : List LogRecord) (orders : List Order) (shown : List Shown) (k : ℕ) (card : Card) (s : Sent) (a : Answer) (old : Holding)
    → Knows d rs orders shown k card old
    → (prepares d (command_in s) ≡ true → a.number ≡ 0 → Knows d rs orders shown k card held)
    → (formed V1 s.command ≡ true → eqb a.mark.desk d ≡ false → Knows d rs orders shown k card free)
    → Knows d rs orders shown k card (heard_of d s a old)
knows_heard d rs orders shown k card s a old w p q = go (formed V1 s.command && not (eqb a.mark.desk d)) refl (prepares d (command_in s)) refl
  where
    by_number : (n : ℕ) → a.number ≡ n → prepares d (command_in s) ≡ true → Knows d rs orders shown k card (settled n held old)
    by_number zero e f = p f e
    by_number (suc n) e f = w

    go : (u : Bool) → (formed V1 s.command && not (eqb a.mark.desk d)) ≡ u → (t : Bool) → prepares d (command_in s) ≡ t
        → Knows d rs orders shown k card (cond u free (cond t (settled a.number held old) old))
    go true f t e = q (and_left (formed V1 s.command) (not (eqb a.mark.desk d)) f) (not-true (eqb a.mark.desk d) (and_right (formed V1 s.command) (not (eqb a.mark.desk d)) f))
    go false f true e = by_number a.number refl e
    go false f false e = w

-- What is known of one card after an answer for it, and of the others as before.
pub knows_with : (d : ℕ) (rs : List LogRecord) (orders : List Order) (shown : List Shown) (cs : Cards) (k : ℕ) (g : Holding) (holds : ℕ → Holding)
    → Knows d rs orders shown k (at cs k) g
    → ((j : ℕ) → eqb j k ≡ false → Knows d rs orders shown j (at cs j) (holds j))
    → (j : ℕ) → Knows d rs orders shown j (at cs j) (noting k g holds j)
knows_with d rs orders shown cs k g holds w away j = go (cases (eqb j k))
  where
    go : (eqb j k ≡ true) ⊎ (eqb j k ≡ false) → Knows d rs orders shown j (at cs j) (noting k g holds j)
    go (inr e) = subst (λ (t : Bool). Knows d rs orders shown j (at cs j) (cond t g (holds j))) (sym e) (away j e)
    go (inl e) =
        subst (λ (t : Bool). Knows d rs orders shown j (at cs j) (cond t g (holds j))) (sym e)
        (subst (λ (m : ℕ). Knows d rs orders shown m (at cs m) g) (sym (eqb-true j k e)) w)

-- ---- somebody else's request

module _ (d : ℕ) (y : OneDesk) (k : Kept d y) (s : Sent) (b : SentBytes s) (h : lawful d y (other s) ≡ true) where
  abbrev rs : List LogRecord
  rs = records y.log

  abbrev c : Command
  c = command_in s

  abbrev new : Cards
  new = then k.cs s

  abbrev v : Shown
  v = record { card = c.card; x = (outcome y s).answer.pair.x; reach = 0 }

  -- It is refused.
  other_refused : (n : ℕ) → number_on V1 k.cs s ≡ suc n → Kept d (after_step d y (other s))
  unfolding after_step
  other_refused n e =
      let same = kept k.cs s k.good n e in
      let low : v.x ≤ (at k.cs c.card).pair.x = subst (λ (m : Cards). v.x ≤ (at m c.card).pair.x) same (x_now d y k s) in
      let number : (outcome y s).answer.number ≡ suc n = number_now d y k s ∙ e in
      let nothing : eqb (outcome y s).answer.number 0 ≡ false = ne_eqb (outcome y s).answer.number 0 (λ z. omega arith) in
      record {
        some = k.some;
        cs = k.cs;
        image_is = image_now d y k s ∙ ap (encode V1) same;
        good = k.good;
        good_log_lem = k.good_log_lem;
        log_bytes = k.log_bytes;
        ordered = k.ordered;
        texts = λ j. stands_as d rs (y.meant j) (meant_after (outcome y s).answer.number s y.meant j) j (at k.cs j) (λ l. rw nothing) (k.texts j);
        sent = k.sent;
        told = (record { low = low; reached = λ a q. onward_none rs c.card (at k.cs c.card) }, k.told);
        knows =
            knows_with d rs y.orders (v ∷ y.shown) k.cs c.card (heard_of d s (outcome y s).answer (y.holds c.card)) y.holds
            (knows_heard d rs y.orders (v ∷ y.shown) c.card (at k.cs c.card) s (outcome y s).answer (y.holds c.card)
            (knows_shown d rs y.orders y.shown v c.card (at k.cs c.card) (y.holds c.card) (λ a q. refl) (k.knows c.card))
            (λ p q. absurd (omega (arith, number, q)))
            (λ p q. inl (subst (λ (m : Cards). bears d (at m c.card) ≡ false) same (mark_shown d y k s p q))))
            (λ j e. knows_shown d rs y.orders y.shown v j (at k.cs j) (y.holds j) (λ a q. refl) (k.knows j));
      }

  -- It is accepted: the card bears no mark of the desk's before it, and none after it.
  module _ (z : number_on V1 k.cs s ≡ 0) where
    abbrev t : Taken k.cs s
    t = taken k.cs s k.good z

    apart : (not (expects_mark d c) && not (leaves_mark d c)) ≡ true
    apart = if_so (formed V1 s.command) h t.well_formed

    unborne : bears d (at k.cs c.card) ≡ false
    unborne = subst (λ (m : ℕ). eqb m d ≡ false) t.fits (not-true (expects_mark d c) (and_left (not (expects_mark d c)) (not (leaves_mark d c)) apart))

    unborne_now : bears d (at new c.card) ≡ false
    unborne_now = ap (λ (m : ℕ). eqb m d) (ap (λ m. m.desk) t.mark) ∙ not-true (leaves_mark d c) (and_right (not (expects_mark d c)) (not (leaves_mark d c)) apart)

    grows : (at k.cs c.card).pair.x ≤ (at new c.card).pair.x
    grows = omega (arith, t.x)

    number : eqb (outcome y s).answer.number 0 ≡ true
    number = eq-eqb (outcome y s).answer.number 0 (number_now d y k s ∙ z)

    texts_other : (j : ℕ) → Stands d rs (meant_after (outcome y s).answer.number s y.meant j) j (at new j)
    texts_other j = go (cases (eqb c.card j))
      where
        go : (eqb c.card j ≡ true) ⊎ (eqb c.card j ≡ false) → Stands d rs (meant_after (outcome y s).answer.number s y.meant j) j (at new j)
        go (inl e) =
            subst (λ (i : ℕ). Stands d rs (meant_after (outcome y s).answer.number s y.meant i) i (at new i)) (eqb-true c.card j e)
            (record {
              plain = λ q l.
                  t.text_is l
                  ∙ ap (λ (w : List ℕ). cond (writes l c) (payload V1 s.command) w) ((k.texts c.card).plain unborne l)
                  ∙ sym (rw (number, eq-eqb c.card c.card refl));
              marked = λ q l. absurd (never_both q unborne_now);
            })
        go (inr e) =
            subst (Stands d rs (meant_after (outcome y s).answer.number s y.meant j) j) (sym (t.others j e))
            (stands_as d rs (y.meant j) (meant_after (outcome y s).answer.number s y.meant j) j (at k.cs j) (λ l. rw (number, e)) (k.texts j))

    order_other : (o : Order) → Safe d rs c.card (at k.cs c.card) o → Safe d rs c.card (at new c.card) o
    order_other o w =
        record { bytes = w.bytes; below = omega (arith, w.below, grows); above = w.above; fine = go w.fine }
      where
        go : Fine d rs c.card (at k.cs c.card) o → Fine d rs c.card (at new c.card) o
        go (preparing p q) = preparing p (λ live. pick (q (omega (arith, live, grows))))
          where
            pick : (bears d (at k.cs c.card) ≡ true) ⊎ Clear rs c.card → (bears d (at new c.card) ≡ true) ⊎ Clear rs c.card
            pick (inl a) = absurd (never_both a unborne)
            pick (inr a) = inr a
        go (releasing p q) = releasing p (λ live a. absurd (never_both a unborne_now))
        go (writing p q) = writing p (λ live a. absurd (never_both a unborne_now))

    told_other : (w : Shown) → Told d rs c.card (at k.cs c.card) w → Told d rs c.card (at new c.card) w
    told_other w a = record { low = omega (arith, a.low, grows); reached = λ live q. absurd (never_both q unborne_now) }

    knows_here : (g : Holding) → Knows d rs y.orders y.shown c.card (at k.cs c.card) g → Knows d rs y.orders (v ∷ y.shown) c.card (at new c.card) g
    knows_here unknown w = tt
    knows_here held w = absurd (never_both w.bearing unborne)
    knows_here free w = inl unborne_now

    knows_other : (j : ℕ) → Knows d rs y.orders (v ∷ y.shown) j (at new j) (noting c.card (heard_of d s (outcome y s).answer (y.holds c.card)) y.holds j)
    knows_other =
        knows_with d rs y.orders (v ∷ y.shown) new c.card (heard_of d s (outcome y s).answer (y.holds c.card)) y.holds
        (knows_heard d rs y.orders (v ∷ y.shown) c.card (at new c.card) s (outcome y s).answer (y.holds c.card)
        (knows_here (y.holds c.card) (k.knows c.card))
        (λ p q.
        absurd (never_both (and_right (not (is_write c) && eqb c.expected.desk 0) (leaves_mark d c) p)
        (not-true (leaves_mark d c) (and_right (not (expects_mark d c)) (not (leaves_mark d c)) apart))))
        (λ p q. inl unborne_now))
        (λ j e.
        subst (λ (a : Card). Knows d rs y.orders (v ∷ y.shown) j a (y.holds j)) (sym (t.others j (ne_eqb c.card j (λ f. eqb-false j c.card e (sym f)))))
        (knows_shown d rs y.orders y.shown v j (at k.cs j) (y.holds j) (λ a q. refl) (k.knows j)))

    other_taken : Kept d (after_step d y (other s))
    unfolding after_step
    other_taken =
        record {
          some = k.some;
          cs = new;
          image_is = image_now d y k s;
          good = good_now d y k s b;
          good_log_lem = k.good_log_lem;
          log_bytes = k.log_bytes;
          ordered = k.ordered;
          texts = texts_other;
          sent = all_moved card_for (Safe d rs) k.cs new c.card y.orders t.others order_other k.sent;
          told = (
            record { low = x_now d y k s; reached = λ a q. onward_none rs c.card (at new c.card) },
            all_moved (λ (w : Shown). w.card) (Told d rs) k.cs new c.card y.shown t.others told_other k.told,
          );
          knows = knows_other;
        }

  pub kept_other : Kept d (after_step d y (other s))
  kept_other = go (number_on V1 k.cs s) refl
    where
      go : (n : ℕ) → number_on V1 k.cs s ≡ n → Kept d (after_step d y (other s))
      go zero e = other_taken e
      go (suc n) e = other_refused n e

-- ---- the desk goes down

pub kept_crash : (d : ℕ) (y : OneDesk) → Kept d y → Kept d (after_step d y crash)
unfolding after_step
kept_crash d y k =
    record {
      some = k.some;
      cs = k.cs;
      image_is = k.image_is;
      good = k.good;
      good_log_lem = k.good_log_lem;
      log_bytes = k.log_bytes;
      ordered = k.ordered;
      texts = k.texts;
      sent = k.sent;
      told = k.told;
      knows = λ j. tt;
    }
