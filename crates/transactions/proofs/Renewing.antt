-- What holds at every moment is kept by a log that begins again. Assumes nothing.
use Prim.Native.Nat.{ℕ}
use native.Mathlib.Omega.{arith}
use mathlib.Core.Path.{◌≡◌, refl, sym, ap, ◌∙◌, subst}
use mathlib.Core.Logic.{◌⊎◌, inl, inr}
use mathlib.Core.List.{List, []}
use mathlib.Core.Bool.{Bool, true, false, not, ◌&&◌}
use borrow.Author.Tests.{eq-eqb, ltb-true, ltb-false, not-true}
use lib.ListN.{length}
use lib.Dec.{eqb, ltb}
use Rattle.lists.proofs.Every.{every_out}
use Rattle.lists.proofs.Tests.{cases, never_both, and_left, and_in, or_cases}
use Rattle.commands.specs.declared.Command.{Command}
use Rattle.commands.specs.Command.{Language, original, translation, is_write, writes, writes_translation}
use Rattle.image.specs.Image.{Card, text}
use Rattle.redo_log.specs.Log.{LogRecord, record_card, record_side, records}
use Rattle.redo_log_claims.specs.Life.{Renewal}
use Rattle.redo_log_claims.proofs.Life.{renews}
use Rattle.redo_recovery_model.specs.Recovery.{record_in, due}
use Rattle.redo_recovery_model.specs.Claims.{side_is, rewrites, rewritten}
use Rattle.transactions.specs.System.{OneDesk, Order, Shown, Holding, unknown, held, free, renew, command_in, expects_mark, leaves_mark, writes_out, lawful, after_step}
use Rattle.transactions.proofs.Records.{All, all_map, Ordered, ordered_none}
use Rattle.transactions.proofs.Due.{rewritten_none}
use Rattle.transactions.proofs.Serving.{at}
use Rattle.transactions.proofs.Orders.{past_none}
use Rattle.transactions.proofs.Kept.{Stands, card_for, Ready, Fine, preparing, releasing, writing, Safe, Told, Knows, Kept}

-- A write writes some text.
pub some_written : (c : Command) → is_write c ≡ true → (l : Language) × (writes l c ≡ true)
some_written c e = go (or_cases (writes original c) (writes_translation c) e)
  where
    go : (writes original c ≡ true) ⊎ (writes_translation c ≡ true) → (l : Language) × (writes l c ≡ true)
    go (inl h) = (original, h)
    go (inr h) = (translation c.language, and_in h (eq-eqb c.language c.language refl))

-- Lines that rewrite nothing leave a text as it is.
left_alone : (rs : List LogRecord) (l : Language) (k n : ℕ) (a : List ℕ) → ((i : ℕ) → rewrites rs l k i ≡ false) → rewritten rs l k n a ≡ a
unfolding rewritten
left_alone rs l k n a f = rewritten_none rs l k 0 n a (omega arith) (λ i p q. f i)

none_in : (l : Language) (k i : ℕ) → rewrites [] l k i ≡ false
none_in l k i = past_none [] k l i (omega arith)

module _ (d : ℕ) (y : OneDesk) (k : Kept d y) (h : lawful d y renew ≡ true) where
  abbrev rs : List LogRecord
  rs = records y.log

  now : Renewal y.log
  now = renews y.log k.good_log_lem

  quiet : (l : Language) (j i : ℕ) → rewrites rs l j i ≡ false
  quiet l j i = go (cases (ltb i (length rs)))
    where
      go : (ltb i (length rs) ≡ true) ⊎ (ltb i (length rs) ≡ false) → rewrites rs l j i ≡ false
      go (inl e) =
          ap (λ (b : Bool). b && (eqb (record_card (record_in rs i)) j && side_is l (record_side (record_in rs i))))
          (not-true (due rs i) (every_out (λ n. not (due rs n)) (length rs) h i (ltb-true i (length rs) e)))
      go (inr e) = past_none rs j l i (ltb-false i (length rs) e)

  stands_now : (j : ℕ) → Stands d [] (y.meant j) j (at k.cs j)
  stands_now j =
      record {
        plain = (k.texts j).plain;
        marked = λ b l.
            left_alone [] l j 0 (text l (at k.cs j)) (none_in l j)
            ∙ sym (left_alone rs l j (length rs) (text l (at k.cs j)) (quiet l j))
            ∙ (k.texts j).marked b l;
      }

  -- An order to write that is not stale would write a line that is due.
  not_ready : (j : ℕ) (card : Card) (o : Order) → writes_out d (command_in o.sent) ≡ true → Ready rs j card o → Ready [] j card o
  not_ready j card o p w =
      let c : Command = command_in o.sent in
      let some = some_written c (and_left (is_write c) (expects_mark d c) (and_left (is_write c && expects_mark d c) (leaves_mark d c) p)) in
      absurd (never_both some.1 (sym (w.place some.0) ∙ quiet some.0 j o.line))

  fine_now : (j : ℕ) (card : Card) (o : Order) → Fine d rs j card o → Fine d [] j card o
  fine_now j card o (preparing p f) = preparing p (λ live. inr (λ l i. none_in l j i))
  fine_now j card o (releasing p f) = releasing p (λ live b l. left_alone [] l j 0 (text l card) (none_in l j))
  fine_now j card o (writing p f) = writing p (λ live b. not_ready j card o p (f live b))

  safe_now : (o : Order) → Safe d rs (card_for o) (at k.cs (card_for o)) o → Safe d [] (card_for o) (at k.cs (card_for o)) o
  safe_now o w = record { bytes = w.bytes; below = w.below; above = w.above; fine = fine_now (card_for o) (at k.cs (card_for o)) o w.fine }

  told_now : (v : Shown) → Told d rs v.card (at k.cs v.card) v → Told d [] v.card (at k.cs v.card) v
  told_now v w = record { low = w.low; reached = λ live b l. inr (left_alone [] l v.card v.reach (text l (at k.cs v.card)) (none_in l v.card)) }

  knows_now : (j : ℕ) (g : Holding) → Knows d rs y.orders y.shown j (at k.cs j) g → Knows d [] y.orders y.shown j (at k.cs j) g
  knows_now j unknown w = tt
  knows_now j held w = w
  knows_now j free w = inr (λ l i. none_in l j i)

  pub kept_renew : Kept d (after_step d y renew)
  unfolding after_step
  kept_renew =
      let back = sym now.empty in
      record {
        some = k.some;
        cs = k.cs;
        image_is = k.image_is;
        good = k.good;
        good_log_lem = now.good;
        log_bytes = now.bytes k.log_bytes;
        ordered = subst Ordered back ordered_none;
        texts = λ j. subst (λ (q : List LogRecord). Stands d q (y.meant j) j (at k.cs j)) back (stands_now j);
        sent =
            subst (λ (q : List LogRecord). All (λ (o : Order). Safe d q (card_for o) (at k.cs (card_for o)) o) y.orders) back
            (all_map (λ (o : Order). Safe d rs (card_for o) (at k.cs (card_for o)) o) (λ (o : Order). Safe d [] (card_for o) (at k.cs (card_for o)) o) y.orders safe_now k.sent);
        told =
            subst (λ (q : List LogRecord). All (λ (v : Shown). Told d q v.card (at k.cs v.card) v) y.shown) back
            (all_map (λ (v : Shown). Told d rs v.card (at k.cs v.card) v) (λ (v : Shown). Told d [] v.card (at k.cs v.card) v) y.shown told_now k.told);
        knows = λ j. subst (λ (q : List LogRecord). Knows d q y.orders y.shown j (at k.cs j) (y.holds j)) back (knows_now j (y.holds j) (k.knows j));
      }
