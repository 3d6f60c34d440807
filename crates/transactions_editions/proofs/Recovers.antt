-- What holds of translations at every moment is kept by a recovery. Assumes nothing.
use Prim.Native.Nat.{ℕ, zero, suc, ◌≤◌, ◌<◌}
use native.Mathlib.Omega.{arith}
use mathlib.Core.Path.{◌≡◌, refl, sym, ap, ◌∙◌, subst}
use mathlib.Core.Logic.{◌⊎◌, inl, inr}
use mathlib.Core.List.{List, ◌∷◌}
use mathlib.Core.Bool.{Bool, true, false, cond, not, ◌&&◌, ◌||◌, and-false}
use borrow.Author.Tests.{eqb-true}
use lib.ListN.{length}
use lib.Dec.{eqb}
use Rattle.formats.specs.Format.{V1}
use Rattle.lists.specs.Table.{settled}
use Rattle.lists.proofs.Tests.{cases, never_both, and_in}
use Rattle.stamps.specs.declared.Mark.{Mark}
use Rattle.commands.specs.declared.Command.{Command}
use Rattle.commands.specs.Command.{is_write, writes_translation}
use Rattle.image.specs.Image.{Card, Cards, GoodCards, encode, decode}
use Rattle.image_claims.proofs.Claims.{good_encodes}
use Rattle.store_model.specs.Words.{Sent}
use Rattle.store_model.proofs.Machine.{cards_from}
use Rattle.redo_log.specs.Log.{LogRecord, record_card, record_side, records}
use Rattle.redo_recovery_model.specs.Recovery.{Pairs, FitsPairs, Recovery, record_in, due, recovery_pair, recovering}
use Rattle.redo_recovery_model.proofs.Steps.{Idle, Sends, next}
use Rattle.redo_recovery_model.proofs.Sending.{FitsRecords}
use Rattle.redo_recovery_model.proofs.Texts.{before_zero, number_here}
use Rattle.transactions.specs.System.{OneDesk, Shown, recover, command_in, due_for, lawful, shown_by, after_step}
use Rattle.transactions.proofs.Records.{All}
use Rattle.transactions.proofs.Serving.{at, then}
use Rattle.transactions.proofs.Kept.{bears, Kept}
use Rattle.transactions.proofs.Rewriting.{rises, Stopped}
use Rattle.transactions.proofs.Rewriting.{Raised, stays, raised, left, left_idle, good_here, sent, after, card_is, elsewhere, fields, run_is, fit, st, in_log, new, image_new, good_new}
use Rattle.transactions_editions.specs.Editions.{brings_current, current_by}
use Rattle.transactions_editions.proofs.Lines.{by_again, by_over}
use Rattle.transactions_editions.proofs.Current.{cur, cur_then}
use Rattle.transactions_editions.proofs.Steps.{Tells, Turned, Holds, Moved, still, up, sent_moved, told_moved}

-- ---- the cards that a recovery leaves, behind lines of which none was refused

module _ (pairs : Pairs) (rs : List LogRecord) (cs : Cards) (gc : GoodCards V1 cs) (fp : FitsPairs pairs) (fr : FitsRecords rs) where
  abbrev run : ℕ → Recovery
  run i = recovering pairs rs (encode V1 cs) i

  abbrev leaves_cards : ℕ → Cards
  leaves_cards i = left pairs rs cs gc fp fr i

  module _ (i : ℕ) (h : i < length rs) (z : (run (suc i)).number ≡ 0) (s : Sends pairs rs (encode V1 cs) i) where
    abbrev write : Sent
    write = sent pairs rs cs gc fp fr i h z s

    abbrev card_of_lem : ℕ
    card_of_lem = record_card (record_in rs i)

    cur_here : cur (at (leaves_cards (suc i)) card_of_lem) ≡ brings_current rs i
    cur_here =
        ap (λ (m : Cards). cur (at m card_of_lem)) (after pairs rs cs gc fp fr i h z s)
        ∙ ap (λ (n : ℕ). cur (at (then (leaves_cards i) write) n)) (sym (card_is pairs rs cs gc fp fr i h z s))
        ∙ cur_then (leaves_cards i) write (good_here pairs rs cs gc fp fr i h z s) (number_here pairs rs cs gc fp fr i h s ∙ z)
        ∙ ap (λ (c : Command). cond (is_write c) (writes_translation c) (cur (at (leaves_cards i) (command_in write).card))) (fields pairs rs cs gc fp fr i h z s)
        ∙ by_side (eqb (record_side (record_in rs i)) 1) (cur (at (leaves_cards i) (command_in write).card))
      where
        by_side : (b v : Bool) → cond (eqb (cond b 3 4) 3 || eqb (cond b 3 4) 4) (eqb (cond b 3 4) 4) v ≡ not b
        by_side true v = refl
        by_side false v = refl

  cur_left : (i : ℕ) → i ≤ length rs → (run i).number ≡ 0 → (j : ℕ) → cur (at (leaves_cards i) j) ≡ current_by rs j i (cur (at cs j))
  unfolding recovering cards_from current_by
  cur_left zero h z j = refl
  cur_left (suc i) h z j = go (next pairs rs (encode V1 cs) i) (cur_left i (omega arith) (before_zero pairs rs cs gc fp fr i z) j)
    where
      old : Bool
      old = current_by rs j i (cur (at cs j))

      not_due : due_for rs j i ≡ false → cur (at (leaves_cards (suc i)) j) ≡ old → cur (at (leaves_cards (suc i)) j) ≡ cond (due_for rs j i) (brings_current rs i) old
      not_due e f = f ∙ sym (ap (λ (b : Bool). cond b (brings_current rs i) old) e)

      by_card : (s : Sends pairs rs (encode V1 cs) i) → (eqb (record_card (record_in rs i)) j ≡ true) ⊎ (eqb (record_card (record_in rs i)) j ≡ false) → cur (at (leaves_cards i) j) ≡ old
          → cur (at (leaves_cards (suc i)) j) ≡ cond (due_for rs j i) (brings_current rs i) old
      by_card s (inl e) f =
          subst (λ (n : ℕ). cur (at (leaves_cards (suc i)) n) ≡ brings_current rs i) (eqb-true (record_card (record_in rs i)) j e) (cur_here i h z s)
          ∙ sym (ap (λ (b : Bool). cond b (brings_current rs i) old) (and_in s.is_due_lem e))
      by_card s (inr e) f =
          not_due (ap (λ (b : Bool). due rs i && b) e ∙ and-false (due rs i)) (ap cur (elsewhere pairs rs cs gc fp fr i h z s j e) ∙ f)

      go : Idle pairs rs (encode V1 cs) i ⊎ Sends pairs rs (encode V1 cs) i → cur (at (leaves_cards i) j) ≡ old → cur (at (leaves_cards (suc i)) j) ≡ cond (due_for rs j i) (brings_current rs i) old
      go (inl idle) f =
          not_due (ap (λ (b : Bool). b && eqb (record_card (record_in rs i)) j) (idle.why (before_zero pairs rs cs gc fp fr i z)))
          (ap (λ (m : Cards). cur (at m j)) (left_idle pairs rs cs gc fp fr i idle) ∙ f)
      go (inr s) f = by_card s (cases (eqb (record_card (record_in rs i)) j)) f

-- ---- the step

module _ (d : ℕ) (y : OneDesk) (k : Kept d y) (c : ℕ → Bool) (w : Turned d (records y.log) y.orders y.shown c k.cs) (pairs : Pairs)
    (lines : ℕ) (fp : FitsPairs pairs) (h : lawful d y (recover pairs lines) ≡ true) where
  abbrev lrs : List LogRecord
  lrs = records y.log

  abbrev ran : Recovery
  ran = recovering pairs lrs y.image lines

  abbrev stop : Stopped pairs lrs k.cs k.good fp (fit d y k pairs lines fp h) lines
  stop = st d y k pairs lines fp h

  abbrev cards : Cards
  cards = new d y k pairs lines fp h

  decoded_now : decode V1 ran.image ≡ cards
  decoded_now = ap (decode V1) (image_new d y k pairs lines fp h) ∙ (good_encodes V1 cards (good_new d y k pairs lines fp h)).same

  raised_now : (j : ℕ) → Raised d (at k.cs j) (at cards j)
  raised_now j = subst (λ (m : Cards). Raised d (at k.cs j) (at m j)) decoded_now (raised d y k pairs lines fp h j)

  moved_now : (j : ℕ) → Moved d (at k.cs j) (at cards j)
  moved_now j = go (raised_now j)
    where
      go : Raised d (at k.cs j) (at cards j) → Moved d (at k.cs j) (at cards j)
      go (stays e) = still e
      go (rises u b m) = up u

  cur_cards : (j : ℕ) → cur (at cards j) ≡ current_by lrs j stop.last (cur (at k.cs j))
  cur_cards j = cur_left pairs lrs k.cs k.good fp (fit d y k pairs lines fp h) stop.last (in_log d y k pairs lines fp h) stop.clean j

  plain_now : (j : ℕ) → Raised d (at k.cs j) (at cards j) → bears d (at cards j) ≡ false → cur (at cards j) ≡ c j
  plain_now j (stays e) b = ap cur e ∙ w.plain j (subst (λ (q : Card). bears d q ≡ false) e b)
  plain_now j (rises u q m) b = absurd (never_both q (ap (λ (x : Mark). eqb x.desk d) (sym m) ∙ b))

  marked_now : (j : ℕ) → Raised d (at k.cs j) (at cards j) → bears d (at cards j) ≡ true → current_by lrs j (length lrs) (cur (at cards j)) ≡ c j
  marked_now j (stays e) b = ap (λ (q : Card). current_by lrs j (length lrs) (cur q)) e ∙ w.marked j (subst (λ (q : Card). bears d q ≡ true) e b)
  marked_now j (rises u q m) b =
      ap (current_by lrs j (length lrs)) (cur_cards j)
      ∙ by_over lrs j (length lrs) stop.last (cur (at k.cs j)) (in_log d y k pairs lines fp h)
      ∙ w.marked j q

  abbrev AllTell : List Shown → Type 0
  AllTell shown = All (λ (v : Shown). Tells d lrs (at cards v.card) v) shown

  told_old : AllTell y.shown
  told_old = told_moved d y k cards moved_now w.told

  module _ (z : ran.number ≡ 0) where
    whole : stop.last ≡ lines
    whole = stop.whole (sym (ap (λ (q : Recovery). q.number) (run_is d y k pairs lines fp h)) ∙ z)

    tells_line : (j x : ℕ) → Tells d lrs (at cards j) (record { card = j; x = x; reach = lines })
    tells_line j x live b =
        inr
        (subst (λ (n : ℕ). current_by lrs j n (cur (at cards j)) ≡ cur (at cards j)) whole
        (ap (current_by lrs j stop.last) (cur_cards j) ∙ by_again lrs j stop.last (cur (at k.cs j)) ∙ sym (cur_cards j)))

    tells_lines : (i : ℕ) → AllTell (shown_by pairs lrs lines i y.shown)
    unfolding shown_by
    tells_lines zero = told_old
    tells_lines (suc i) = go (due lrs i) (tells_lines i)
      where
        go : (b : Bool) → AllTell (shown_by pairs lrs lines i y.shown)
            → AllTell (cond b (record { card = record_card (record_in lrs i); x = (recovery_pair pairs (record_card (record_in lrs i))).x; reach = lines }
            ∷ shown_by pairs lrs lines i y.shown) (shown_by pairs lrs lines i y.shown))
        go true rest = (tells_line (record_card (record_in lrs i)) (recovery_pair pairs (record_card (record_in lrs i))).x, rest)
        go false rest = rest

  told_now : AllTell (settled ran.number (shown_by pairs lrs lines lines y.shown) y.shown)
  told_now = go ran.number refl
    where
      go : (n : ℕ) → ran.number ≡ n → AllTell (settled n (shown_by pairs lrs lines lines y.shown) y.shown)
      go zero e = tells_lines e lines
      go (suc n) e = told_old

  turned_recovered : Turned d lrs y.orders (settled ran.number (shown_by pairs lrs lines lines y.shown) y.shown) c cards
  turned_recovered =
      record {
        plain = λ j b. plain_now j (raised_now j) b;
        marked = λ j b. marked_now j (raised_now j) b;
        sent = sent_moved d y k cards moved_now w.sent;
        told = told_now;
      }

  pub holds_recover : Holds d (after_step d y (recover pairs lines)) c
  unfolding after_step
  holds_recover = subst (Turned d lrs y.orders (settled ran.number (shown_by pairs lrs lines lines y.shown) y.shown) c) (sym decoded_now) turned_recovered
