-- A translation is current as it is meant to be. Assumes nothing.
use Prim.Native.Nat.{ℕ, ◌<◌}
use native.Mathlib.Omega.{arith}
use mathlib.Core.Path.{◌≡◌, refl, sym, ap, ◌∙◌, subst}
use mathlib.Core.List.{List, [], ◌∷◌}
use mathlib.Core.Bool.{Bool, true, false, not, ◌&&◌, ◌||◌}
use borrow.Author.Tests.{eqb-true, not-true, not-false}
use lib.ListN.{length}
use lib.Dec.{eqb, ltb}
use Rattle.formats.specs.Format.{V1}
use Rattle.lists.specs.Table.{Row, applies, earlier, no_row}
use Rattle.lists.proofs.Table.{given}
use Rattle.lists.proofs.Tests.{never_both, and_left, and_right, from_T}
use Rattle.lists.specs.Runs.{foldl, every_along}
use Rattle.stamps.specs.Stamp.{stale, too_far, mark_fits}
use Rattle.commands.specs.declared.Command.{Command}
use Rattle.commands.specs.Command.{reads_translation, writes_translation, verifier, update}
use Rattle.commands.specs.Bytes.{formed}
use Rattle.commands.proofs.CommandBytes.{language_within}
use Rattle.guard.specs.Judge.{behind}
use Rattle.guard.specs.declared.Entry.{Entry}
use Rattle.image.specs.Image.{Cards, view}
use Rattle.store_model.specs.Serve.{request_rows}
use Rattle.store_model.specs.Words.{Sent}
use Rattle.store_model.proofs.Machine.{number_on, passed}
use Rattle.redo_log.specs.Log.{records}
use Rattle.transactions.specs.System.{OneDesk, Step, other, order, arrive, append, crash, recover, renew, one_desk_opening, command_in, lawful, after_step, after_steps, lawful_all}
use Rattle.transactions.specs.Claims.{StepBytes, AllSteps, Moment}
use Rattle.transactions.proofs.Serving.{at}
use Rattle.transactions.proofs.Kept.{Kept, decoded}
use Rattle.transactions.proofs.Requests.{number_now}
use Rattle.transactions.proofs.Claims.{kept_opening, kept_next, kept_always}
use Rattle.transactions_editions.specs.Editions.{current_in, current_after, current_along, meant_current, EditionsAtOnce, TranslationsRead}
use Rattle.transactions_editions.proofs.Current.{cur}
use Rattle.transactions_editions.proofs.Steps.{Turned, Holds, holds_other, holds_order, holds_arrive}
use Rattle.transactions_editions.proofs.Appends.{holds_append, holds_renew}
use Rattle.transactions_editions.proofs.Recovers.{holds_recover}

-- ---- a run

holds_opening : (d : ℕ) (y : OneDesk) (m : Moment d y) → Holds d (one_desk_opening m.image m.log) (current_in m.image)
holds_opening d y m = record { plain = λ j b. refl; marked = λ j b. absurd (never_both b (m.store.unmarked j)); sent = tt; told = tt }

module _ (d : ℕ) (y : OneDesk) (k : Kept d y) (c : ℕ → Bool) (w : Holds d y c) where
  by_cards : Turned d (records y.log) y.orders y.shown c k.cs
  by_cards = subst (Turned d (records y.log) y.orders y.shown c) (decoded d y k) w

  holds_crash : Holds d (after_step d y crash) c
  unfolding after_step
  holds_crash = w

  pub holds_next : (m : Step) → StepBytes m → lawful d y m ≡ true → Holds d (after_step d y m) (current_after d y c m)
  holds_next (other s) b h = holds_other d y k c by_cards s b h
  holds_next (order s line from) b h = holds_order d y c w s line from h k.some
  holds_next (arrive i) b h = holds_arrive d y k c by_cards i h
  holds_next (append budget r) b h = holds_append d y k c budget r b h by_cards
  holds_next crash b h = holds_crash
  holds_next (recover pairs lines) b h = holds_recover d y k c by_cards pairs lines b h
  holds_next renew b h = holds_renew d y k c w h

holds_run : (d : ℕ) (y : OneDesk) (c : ℕ → Bool) (steps : List Step) → Kept d y → Holds d y c → AllSteps steps → lawful_all d y steps ≡ true
    → Holds d (after_steps d y steps) (current_along d y c steps)
unfolding foldl every_along current_along
holds_run d y c [] k w b h = w
holds_run d y c (m ∷ steps) k w b h =
    let now = and_left (lawful d y m) (lawful_all d (after_step d y m) steps) h in
    holds_run d (after_step d y m) (current_after d y c m) steps (kept_next d y m k b.0 now) (holds_next d y k c w m b.0 now) b.1
    (and_right (lawful d y m) (lawful_all d (after_step d y m) steps) h)

holds_always : (d : ℕ) (y : OneDesk) (m : Moment d y) → Holds d y (current_along d (one_desk_opening m.image m.log) (current_in m.image) m.steps)
holds_always d y m =
    subst (λ (z : OneDesk). Holds d z (current_along d (one_desk_opening m.image m.log) (current_in m.image) m.steps)) m.led
    (holds_run d (one_desk_opening m.image m.log) (current_in m.image) m.steps (kept_opening d y m) (holds_opening d y m) m.sent m.rules)

-- ---- the claims

pub editions_at_once : EditionsAtOnce
editions_at_once d y m = let w = holds_always d y m in record { plain = λ k b. w.plain k b; marked = λ k b. w.marked k b }

-- What a number says of the card, on cards by the rules.
module _ (cs : Cards) (s : Sent) (r : reads_translation (command_in s) ≡ true) where
  abbrev c : Command
  c = command_in s

  abbrev entry : Entry
  entry = view c.language (at cs c.card)

  abbrev rows : List Row
  rows = request_rows V1 cs s.command (length s.lent)

  -- Of version 1 there is one language.
  seen : formed V1 s.command ≡ true → behind entry.edition entry.from ≡ not (cur (at cs c.card))
  seen f =
      let below : c.language < 1 = language_within V1 s.command f in
      let zero-th : c.language ≡ 0 = omega arith in
      ap (λ (n : ℕ). behind (view n (at cs c.card)).edition (view n (at cs c.card)).from) zero-th
      ∙ twice (behind (view 0 (at cs c.card)).edition (view 0 (at cs c.card)).from)
    where
      twice : (b : Bool) → b ≡ not (not b)
      twice true = refl
      twice false = refl

  pub accepted : number_on V1 cs s ≡ 0 → (c.expected.desk ≡ (at cs c.card).mark.desk) × (cur (at cs c.card) ≡ true)
  accepted z =
      let p = passed V1 cs s z in (
        eqb-true c.expected.desk entry.mark.desk (and_left (eqb c.expected.desk entry.mark.desk) _ p.judged.mark),
        not-false (cur (at cs c.card)) (sym (seen p.well_formed) ∙ p.judged.current r),
      )

  no_write : writes_translation c ≡ false
  no_write = ap (λ (n : ℕ). eqb n 4) (eqb-true c.act 2 r)

  pub behind_then : number_on V1 cs s ≡ 6 → (c.expected.desk ≡ (at cs c.card).mark.desk) × (cur (at cs c.card) ≡ false)
  behind_then z =
      let row : applies 6 rows ≡ true = from_T (applies 6 rows) ((given rows tt 5).0 z).0 in
      let above : no_row (earlier 6 rows) ≡ true = from_T (no_row (earlier 6 rows)) ((given rows tt 5).0 z).1 in
      let well : formed V1 s.command ≡ true = not-false (formed V1 s.command) (not-true (not (formed V1 s.command)) (and_left (not (not (formed V1 s.command))) _ above)) in
      let third = and_right (not (not (ltb c.card (length cs.cards)))) _ (and_right (not (not (formed V1 s.command))) _ above) in
      let fifth = and_right (not (too_far entry.pair (update c))) _ (and_right (not (stale c.mode entry.pair (verifier c))) _ third) in
      let fits : mark_fits entry.mark c.expected ≡ true = not-false (mark_fits entry.mark c.expected)
      (not-true (not (mark_fits entry.mark c.expected)) (and_left (not (not (mark_fits entry.mark c.expected))) _ fifth)) in
      let late : behind entry.edition entry.from ≡ true = and_right (reads_translation c) (behind entry.edition entry.from)
      (one_of (reads_translation c && behind entry.edition entry.from) (writes_translation c && not (eqb c.edition entry.edition)) row
      (ap (λ (b : Bool). b && not (eqb c.edition entry.edition)) no_write)) in (
        eqb-true c.expected.desk entry.mark.desk (and_left (eqb c.expected.desk entry.mark.desk) _ fits),
        not-true (cur (at cs c.card)) (sym (seen well) ∙ late),
      )
    where
      one_of : (a b : Bool) → (a || b) ≡ true → b ≡ false → a ≡ true
      one_of true b e f = refl
      one_of false b e f = absurd (never_both e f)

pub translations_read : TranslationsRead
translations_read d y m s r e =
    let k = kept_always d y m in
    let w = by_cards d y k (meant_current d y m) (holds_always d y m) in
    record {
      shown = λ z. let two = accepted k.cs s r (sym (number_now d y k s) ∙ z) in sym (w.plain (command_in s).card (subst (λ (n : ℕ). eqb n d ≡ false) two.0 e)) ∙ two.1;
      refused = λ z. let two = behind_then k.cs s r (sym (number_now d y k s) ∙ z) in sym (w.plain (command_in s).card (subst (λ (n : ℕ). eqb n d ≡ false) two.0 e)) ∙ two.1;
    }
