-- Whether the translation of a card is current, over the transactions of many desks (docs/RULES.md, rules 16.19 and 16.20). The
-- theorems stand in proofs/.
-- Assumes nothing.
use Rattle.std.specs.Prelude.{ℕ, ◌≡◌, List, [], ◌∷◌, Bool, true, false, length}
use Rattle.formats.specs.Format.{V1}
use Rattle.numbers.specs.Numbers.{EDITION_WRONG}
use Rattle.commands.specs.Command.{reads_translation}
use Rattle.store_model.specs.Serve.{serve}
use Rattle.store_model.specs.Words.{Sent}
use Rattle.redo_log.specs.Log.{records}
use Rattle.transactions.specs.System.{other, command_in, mark_in}
use Rattle.transactions.specs.Desks.{Desks, DeskStep, outside, by_desk, seen_by, desks_opening, after_desk_step, DesksMoment}
use Rattle.transactions_editions.specs.Editions.{current_in, current_by, current_after}

-- Rule 16.19: whether the translation is meant to be current, after a step of any desk or of somebody who is under no rules.
abbrev pub desks_current_after : Desks → (ℕ → Bool) → DeskStep → ℕ → Bool
desks_current_after y c (outside s) = current_after 0 (seen_by 0 y) c (other s)
desks_current_after y c (by_desk d m) = current_after d (seen_by d y) c m

unfoldable pub desks_current_along : Desks → (ℕ → Bool) → List DeskStep → ℕ → Bool
desks_current_along y c [] = c
desks_current_along y c (m ∷ steps) = desks_current_along (after_desk_step y m) (desks_current_after y c m) steps

-- At a moment: at first what stands is meant.
abbrev pub desks_meant_current : (ruled : ℕ → Bool) (y : Desks) → DesksMoment ruled y → ℕ → Bool
desks_meant_current ruled y m = desks_current_along (desks_opening m.image m.logs) (current_in m.image) m.steps

-- Rule 16.19: on a card with the mark of a desk under the rules it is current as meant once what is due by that desk's log is
-- applied; on every other card as it stands.
pub record DesksEditions (ruled : ℕ → Bool) (y : Desks) (c : ℕ → Bool) : Type 0 where
  pub plain : (k : ℕ) → ruled (mark_in y.image k).desk ≡ false → current_in y.image k ≡ c k
  pub marked :
      (k : ℕ) → ruled (mark_in y.image k).desk ≡ true
      → current_by (records (y.part (mark_in y.image k).desk).log) k (length (records (y.part (mark_in y.image k).desk).log)) (current_in y.image k)
      ≡ c k

abbrev pub DesksEditionsAtOnce : Type 0
DesksEditionsAtOnce = (ruled : ℕ → Bool) (y : Desks) (m : DesksMoment ruled y) → DesksEditions ruled y (desks_meant_current ruled y m)

-- Rule 16.20: a read of a translation that expects no mark of a desk under the rules is accepted only where the translation is
-- meant to be current, and is answered with 6 only where it is not.
pub record DesksTranslationRead (y : Desks) (c : ℕ → Bool) (s : Sent) : Type 0 where
  pub shown : (serve V1 y.image s.command s.lent).answer.number ≡ 0 → c (command_in s).card ≡ true
  pub refused : (serve V1 y.image s.command s.lent).answer.number ≡ EDITION_WRONG → c (command_in s).card ≡ false

abbrev pub DesksTranslationsRead : Type 0
DesksTranslationsRead =
    (ruled : ℕ → Bool) (y : Desks) (m : DesksMoment ruled y) (s : Sent) → reads_translation (command_in s) ≡ true
    → ruled (command_in s).expected.desk ≡ false
    → DesksTranslationRead y (desks_meant_current ruled y m) s
