-- What holds of translations at every moment is kept by appends, recoveries and a log that begins again. Assumes
-- nothing.
use Prim.Native.Nat.{ℕ, zero, suc, ◌≤◌, ◌<◌}
use native.Mathlib.Omega.{arith}
use mathlib.Core.Path.{◌≡◌, refl, sym, ap, ◌∙◌, subst}
use mathlib.Core.Logic.{◌⊎◌, inl, inr}
use mathlib.Core.List.{List, []}
use mathlib.Core.Bool.{Bool, true, false, not, ◌&&◌, and-false}
use borrow.Author.Tests.{ne_eqb, ltb-true, ltb-false, not-true}
use lib.ListN.{length, get_or}
use lib.Dec.{eqb, ltb}
use Rattle.formats.specs.Format.{V1}
use Rattle.lists.specs.Parts.{Bytes}
use Rattle.lists.proofs.Every.{every_out}
use Rattle.lists.proofs.Tests.{cases, never_both}
use Rattle.image.specs.Image.{Card, decode}
use Rattle.redo_log.specs.Log.{LogRecord, commit_kind, record_card, record_transaction, records}
use Rattle.redo_log.specs.Append.{append_number, appended}
use Rattle.redo_log_claims.proofs.Claims.{appends}
use Rattle.redo_recovery_model.specs.Recovery.{record_in, due}
use Rattle.transactions.specs.System.{OneDesk, Order, Shown, append, renew, no_order, no_shown, due_for, update_in, is_held, lawful, after_step}
use Rattle.transactions.proofs.Records.{all_map, more}
use Rattle.transactions.proofs.Due.{same_commit}
use Rattle.transactions.proofs.Serving.{at}
use Rattle.transactions.proofs.Kept.{bears, card_for, relies, Kept, decoded, all_at}
use Rattle.redo_log_claims.proofs.Life.{renews}
use Rattle.transactions.proofs.Kept.{Held}
use Rattle.transactions.specs.System.{meant_logged}
use Rattle.transactions.proofs.Logged.{all_by, uncounted, held_of, Change, unchanged, unmarked, committed, follow, apart, change}
use Rattle.transactions_editions.specs.Editions.{current_with, current_by, current_after}
use Rattle.transactions_editions.proofs.Lines.{due_as, past_due, by_clear, by_same, by_same_all, with_none, by_commit_all}
use Rattle.transactions_editions.proofs.Current.{cur}
use Rattle.transactions_editions.proofs.Steps.{Onwards, Done, Tells, Turned, Holds, says_nothing}

-- ---- an append

-- What it changes for card j: nothing; or the card does not bear the mark; or it commits, and the card is held.
data Shift (d : ℕ) (y : OneDesk) (r : LogRecord) (card : Card) (j : ℕ) (old new : Bool) : Type 0 where
  same : ((i : ℕ) → due_for (more (records y.log) r) j i ≡ due_for (records y.log) j i) → new ≡ old → Shift d y r card j old new
  plainly : bears d card ≡ false → new ≡ old → Shift d y r card j old new
  holding : Held d y.orders y.shown j card →
      ((c : Bool) → current_by (more (records y.log) r) j (length (more (records y.log) r)) c ≡ current_with (records y.log)
      (record_transaction r) j (length (records y.log)) (current_by (records y.log) j (length (records y.log)) c))
      → new ≡ current_with (records y.log) (record_transaction r) j (length (records y.log)) old → Shift d y r card j old new

module _ (d : ℕ) (y : OneDesk) (k : Kept d y) (c : ℕ → Bool) (budget : ℕ) (r : LogRecord) (rb : Bytes r.body) (h : lawful d y (append budget r) ≡ true) where
  abbrev rs : List LogRecord
  rs = records y.log

  abbrev number : ℕ
  number = append_number budget y.log r

  abbrev c_now : ℕ → Bool
  c_now = current_after d y c (append budget r)

  cut : (n : ℕ) → number ≡ suc n → (j : ℕ) → c_now j ≡ c j
  cut n e j = let no : eqb number 0 ≡ false = ne_eqb number 0 (λ z. omega (arith, e, z)) in rw no

  abbrev longer : List LogRecord
  longer = more rs r

  module _ (z : number ≡ 0) where
    no_commit : eqb r.kind commit_kind ≡ false → (j : ℕ) → c_now j ≡ c j
    no_commit e j = rw (z, e)

    is_commit_lem : eqb r.kind commit_kind ≡ true → (j : ℕ) → c_now j ≡ current_with rs (record_transaction r) j (length rs) (c j)
    is_commit_lem e j = rw (z, e)

    shift : (j : ℕ) → Shift d y r (at k.cs j) j (c j) (c_now j)
    shift j = go (cases (eqb r.kind commit_kind)) (cases (is_held (y.holds j)))
      where
        by_change : eqb r.kind commit_kind ≡ false → Change d rs r (y.meant j) (meant_logged number rs r y.meant j) j (at k.cs j) (y.holds j) → Shift d y r (at k.cs j) j (c j) (c_now j)
        by_change e (unchanged f m) = same (λ i. due_as rs longer j i i (λ l. f l i)) (no_commit e j)
        by_change e (unmarked b f m) = plainly b (no_commit e j)
        by_change e (committed f g m) = absurd (never_both f e)

        go : (eqb r.kind commit_kind ≡ true) ⊎ (eqb r.kind commit_kind ≡ false) → (is_held (y.holds j) ≡ true) ⊎ (is_held (y.holds j) ≡ false) → Shift d y r (at k.cs j) j (c j) (c_now j)
        go (inr e) q = by_change e (change d y k budget r rb h z j)
        go (inl e) (inl q) =
            holding (held_of d rs y.orders y.shown j (at k.cs j) (y.holds j) q (k.knows j))
            (λ b. by_commit_all rs r j k.ordered (follow d y k budget r rb h z) e b) (is_commit_lem e j)
        go (inl e) (inr q) =
            same (λ i. due_as rs longer j i i (λ l. same_commit rs r k.ordered (follow d y k budget r rb h z) e l j (apart d y k budget r rb h z j e q) i))
            (is_commit_lem e j ∙ with_none rs r j k.ordered (follow d y k budget r rb h z) e (length rs) (c j) (λ i g. none i g))
          where
            none : (i : ℕ) → i < length rs → (update_in rs (record_transaction r) i && eqb (record_card (record_in rs i)) j) ≡ false
            none i g = pick (cases (update_in rs (record_transaction r) i))
              where
                pick : (update_in rs (record_transaction r) i ≡ true) ⊎ (update_in rs (record_transaction r) i ≡ false) →
                    (update_in rs (record_transaction r) i && eqb (record_card (record_in rs i)) j) ≡ false
                pick (inl u) = ap (λ (b : Bool). update_in rs (record_transaction r) i && b) (apart d y k budget r rb h z j e q i g u) ∙ and-false (update_in rs (record_transaction r) i)
                pick (inr u) = ap (λ (b : Bool). b && eqb (record_card (record_in rs i)) j) u

  -- Of a card without the desk's mark it changes nothing.
  pub unborne_current : (j : ℕ) → bears d (at k.cs j) ≡ false → c_now j ≡ c j
  unborne_current j b = go number refl
    where
      by_shift : Shift d y r (at k.cs j) j (c j) (c_now j) → c_now j ≡ c j
      by_shift (same e f) = f
      by_shift (plainly q f) = f
      by_shift (holding g e f) = absurd (never_both g.bearing b)

      go : (n : ℕ) → number ≡ n → c_now j ≡ c j
      go zero e = by_shift (shift e j)
      go (suc n) e = cut n e j

  module _ (w : Turned d (records y.log) y.orders y.shown c k.cs) where
    module _ (z : number ≡ 0) where
      plain_more : (j : ℕ) → Shift d y r (at k.cs j) j (c j) (c_now j) → bears d (at k.cs j) ≡ false → cur (at k.cs j) ≡ c_now j
      plain_more j (same e f) b = w.plain j b ∙ sym f
      plain_more j (plainly q f) b = w.plain j b ∙ sym f
      plain_more j (holding g e f) b = absurd (never_both g.bearing b)

      marked_more : (j : ℕ) → Shift d y r (at k.cs j) j (c j) (c_now j) → bears d (at k.cs j) ≡ true → current_by longer j (length longer) (cur (at k.cs j)) ≡ c_now j
      marked_more j (same e f) b = by_same_all rs r j e (cur (at k.cs j)) ∙ w.marked j b ∙ sym f
      marked_more j (plainly q f) b = absurd (never_both b q)
      marked_more j (holding g e f) b = e (cur (at k.cs j)) ∙ ap (current_with rs (record_transaction r) j (length rs)) (w.marked j b) ∙ sym f

      done_more : (i : ℕ) (o : Order) → get_or y.orders i no_order ≡ o → i < length y.orders → Shift d y r (at k.cs (card_for o)) (card_for o)
          (c (card_for o)) (c_now (card_for o)) → Done d rs (at k.cs (card_for o)) o → Done d longer (at k.cs (card_for o)) o
      done_more i o e g (same s f) q p live b = by_same_all rs r (card_for o) s (cur (at k.cs (card_for o))) ∙ q p live b
      done_more i o e g (plainly s f) q p live b = absurd (never_both b s)
      done_more i o e g (holding held s f) q p live b =
          let old = all_at (λ (a : Order). card_for a ≡ card_for o → relies a < (at k.cs (card_for o)).pair.x) y.orders i no_order g held.stale (ap card_for e) in
          absurd (omega (arith, live, subst (λ (a : Order). relies a < (at k.cs (card_for o)).pair.x) e old))

      onwards_more : (j n : ℕ) (b : Bool) → ((i : ℕ) → due_for longer j i ≡ due_for rs j i) → Onwards rs j n b → Onwards longer j n b
      onwards_more j n b e (inl later) = inl (later.0, later.1, e later.0 ∙ later.2)
      onwards_more j n b e (inr q) = inr (by_same rs r j e n b ∙ q)

      tells_more : (i : ℕ) (v : Shown) → get_or y.shown i no_shown ≡ v → i < length y.shown → Shift d y r (at k.cs v.card) v.card
          (c v.card) (c_now v.card) → Tells d rs (at k.cs v.card) v → Tells d longer (at k.cs v.card) v
      tells_more i v e g (same s f) q live b = onwards_more v.card v.reach (cur (at k.cs v.card)) s (q live b)
      tells_more i v e g (plainly s f) q live b = absurd (never_both b s)
      tells_more i v e g (holding held s f) q live b =
          let none = all_at (λ (a : Shown). a.card ≡ v.card → (at k.cs v.card).pair.x ≤ a.x → a.reach ≡ 0) y.shown i no_shown g held.unwritten (ap (λ (a : Shown). a.card) e) in
          says_nothing d longer (at k.cs v.card) v (sym (ap (λ (a : Shown). a.reach) e) ∙ none (subst (λ (a : Shown). (at k.cs v.card).pair.x ≤ a.x) (sym e) live)) live b

      turned_more : Turned d longer y.orders y.shown c_now k.cs
      turned_more =
          record {
            plain = λ j b. plain_more j (shift z j) b;
            marked = λ j b. marked_more j (shift z j) b;
            sent =
                all_by (λ (o : Order). Done d longer (at k.cs (card_for o)) o) y.orders no_order
                (λ i g.
                let o : Order = get_or y.orders i no_order in
                done_more i o refl g (shift z (card_for o)) (all_at (λ (a : Order). Done d rs (at k.cs (card_for a)) a) y.orders i no_order g w.sent));
            told =
                all_by (λ (v : Shown). Tells d longer (at k.cs v.card) v) y.shown no_shown
                (λ i g.
                let v : Shown = get_or y.shown i no_shown in
                tells_more i v refl g (shift z v.card) (all_at (λ (a : Shown). Tells d rs (at k.cs a.card) a) y.shown i no_shown g w.told));
          }

    turned_append : Turned d (records (appended budget y.log r)) y.orders y.shown c_now k.cs
    turned_append = go number refl
      where
        go : (n : ℕ) → number ≡ n → Turned d (records (appended budget y.log r)) y.orders y.shown c_now k.cs
        go zero e = subst (λ (q : List LogRecord). Turned d q y.orders y.shown c_now k.cs) (sym ((appends budget y.log r).whole e).1) (turned_more e)
        go (suc n) e =
            subst (λ (q : List LogRecord). Turned d q y.orders y.shown c_now k.cs) (sym (uncounted d y k budget r rb h n e).1)
            (record { plain = λ j b. w.plain j b ∙ sym (cut n e j); marked = λ j b. w.marked j b ∙ sym (cut n e j); sent = w.sent; told = w.told })

    pub holds_append : Holds d (after_step d y (append budget r)) c_now
    unfolding after_step
    holds_append = subst (Turned d (records (appended budget y.log r)) y.orders y.shown c_now) (sym (decoded d y k)) turned_append

-- ---- a log that begins again

module _ (d : ℕ) (y : OneDesk) (k : Kept d y) (c : ℕ → Bool) (w : Holds d y c) (h : lawful d y renew ≡ true) where
  abbrev lines : List LogRecord
  lines = records y.log

  quiet : (j i : ℕ) → due_for lines j i ≡ false
  quiet j i = go (cases (ltb i (length lines)))
    where
      go : (ltb i (length lines) ≡ true) ⊎ (ltb i (length lines) ≡ false) → due_for lines j i ≡ false
      go (inl e) =
          ap (λ (b : Bool). b && eqb (record_card (record_in lines i)) j)
          (not-true (due lines i) (every_out (λ n. not (due lines n)) (length lines) h i (ltb-true i (length lines) e)))
      go (inr e) = past_due lines j i (ltb-false i (length lines) e)

  empty_by : (j n : ℕ) (b : Bool) → current_by [] j n b ≡ b
  empty_by j n b = by_clear [] j n b (λ i. past_due [] j i (omega arith))

  turned_renewed : Turned d [] y.orders y.shown c (decode V1 y.image)
  turned_renewed =
      record {
        plain = w.plain;
        marked = λ j b. empty_by j 0 (cur (at (decode V1 y.image) j)) ∙ sym (by_clear lines j (length lines) (cur (at (decode V1 y.image) j)) (quiet j)) ∙ w.marked j b;
        sent =
            all_map (λ (o : Order). Done d lines (at (decode V1 y.image) (card_for o)) o) (λ (o : Order). Done d [] (at (decode V1 y.image) (card_for o)) o) y.orders
            (λ o q p live b. empty_by (card_for o) 0 (cur (at (decode V1 y.image) (card_for o)))) w.sent;
        told =
            all_map (λ (v : Shown). Tells d lines (at (decode V1 y.image) v.card) v) (λ (v : Shown). Tells d [] (at (decode V1 y.image) v.card) v) y.shown
            (λ v q live b. inr (empty_by v.card v.reach (cur (at (decode V1 y.image) v.card)))) w.told;
      }

  pub holds_renew : Holds d (after_step d y renew) c
  unfolding after_step
  holds_renew = subst (λ (q : List LogRecord). Turned d q y.orders y.shown c (decode V1 y.image)) (sym (renews y.log k.good_log_lem).empty) turned_renewed
