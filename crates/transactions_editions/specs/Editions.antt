-- Whether the translation of a card is current, over transactions (docs/RULES.md, rules 16.19 and 16.20): an original
-- and its translation that are written in one transaction change together, for a reader of the translation too. Of one
-- desk and everybody else, as in `System`. The theorems stand in proofs/.
-- Assumes nothing.
use Rattle.std.specs.Prelude.{ℕ, zero, suc, ◌≡◌, List, [], ◌∷◌, Bool, true, false, cond, not, ◌&&◌, length, eqb}
use Rattle.commands.specs.Command.{is_write, reads_translation, writes_translation}
use Rattle.guard.specs.Judge.{behind}
use Rattle.store_model.specs.Words.{Sent}
use Rattle.redo_log.specs.Log.{LogRecord, commit_kind, record_card, record_side, record_transaction, records}
use Rattle.redo_log.specs.Append.{append_number}
use Rattle.redo_recovery_model.specs.Recovery.{record_in, entry_for}
use Rattle.transactions.specs.System.{OneDesk, Step, other, order, arrive, append, crash, recover, renew, one_desk_opening, command_in, mark_in, expects_mark, due_for, update_in, outcome, after_step}
use Rattle.transactions.specs.Claims.{Moment}
use Rattle.numbers.specs.Numbers.{EDITION_WRONG}

-- ---- what is meant

-- The translation of card k stands current (rule 4.6).
abbrev pub current_in : List ℕ → ℕ → Bool
current_in image k = not (behind (entry_for image k).edition (entry_for image k).from)

-- Line i writes the translation: it is current behind it, and behind a write of the original it is not.
abbrev pub brings_current : List LogRecord → ℕ → Bool
brings_current rs i = not (eqb (record_side (record_in rs i)) 1)

-- Whether it is current after those updates of card k that stand in the first i lines: of transaction t; or that are
-- due.
unfoldable pub current_with : List LogRecord → ℕ → ℕ → ℕ → Bool → Bool
current_with rs t k zero c = c
current_with rs t k (suc i) c = cond (update_in rs t i && eqb (record_card (record_in rs i)) k) (brings_current rs i) (current_with rs t k i c)

unfoldable pub current_by : List LogRecord → ℕ → ℕ → Bool → Bool
current_by rs k zero c = c
current_by rs k (suc i) c = cond (due_for rs k i) (brings_current rs i) (current_by rs k i c)

-- Rule 16.19: whether the translation is meant to be current, after a step: somebody else's accepted write changes it,
-- and a commit that counts, and nothing else.
abbrev pub current_after : ℕ → OneDesk → (ℕ → Bool) → Step → ℕ → Bool
current_after d y c (other s) k =
    cond (eqb (outcome y s).answer.number 0 && eqb (command_in s).card k && is_write (command_in s)) (writes_translation (command_in s)) (c k)
current_after d y c (order s line from) k = c k
current_after d y c (arrive i) k = c k
current_after d y c (append budget r) k =
    cond (eqb (append_number budget y.log r) 0 && eqb r.kind commit_kind)
    (current_with (records y.log) (record_transaction r) k (length (records y.log)) (c k))
    (c k)
current_after d y c crash k = c k
current_after d y c (recover pairs lines) k = c k
current_after d y c renew k = c k

unfoldable pub current_along : ℕ → OneDesk → (ℕ → Bool) → List Step → ℕ → Bool
current_along d y c [] = c
current_along d y c (m ∷ steps) = current_along d (after_step d y m) (current_after d y c m) steps

-- At a moment: at first what stands is meant.
abbrev pub meant_current : (d : ℕ) (y : OneDesk) → Moment d y → ℕ → Bool
meant_current d y m = current_along d (one_desk_opening m.image m.log) (current_in m.image) m.steps

-- ---- what is claimed

-- Rule 16.19: on a card that does not bear the desk's mark the translation is current exactly where it is meant to be;
-- on one that does, once what is due is applied.
pub record Editions (d : ℕ) (y : OneDesk) (c : ℕ → Bool) : Type 0 where
  pub plain : (k : ℕ) → eqb (mark_in y.image k).desk d ≡ false → current_in y.image k ≡ c k
  pub marked : (k : ℕ) → eqb (mark_in y.image k).desk d ≡ true → current_by (records y.log) k (length (records y.log)) (current_in y.image k) ≡ c k

abbrev pub EditionsAtOnce : Type 0
EditionsAtOnce = (d : ℕ) (y : OneDesk) (m : Moment d y) → Editions d y (meant_current d y m)

-- Rule 16.20: a read of a translation that expects no mark of the desk's is accepted only where the translation is
-- meant to be current, and is answered with 6 only where it is not.
pub record TranslationRead (d : ℕ) (y : OneDesk) (c : ℕ → Bool) (s : Sent) : Type 0 where
  pub shown : (outcome y s).answer.number ≡ 0 → c (command_in s).card ≡ true
  pub refused : (outcome y s).answer.number ≡ EDITION_WRONG → c (command_in s).card ≡ false

abbrev pub TranslationsRead : Type 0
TranslationsRead =
    (d : ℕ) (y : OneDesk) (m : Moment d y) (s : Sent) → reads_translation (command_in s) ≡ true → expects_mark d (command_in s) ≡ false
    → TranslationRead d y (meant_current d y m) s
