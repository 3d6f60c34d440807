-- When the updates that are due can be written out, and that a recovery then writes out all of them (docs/RULES.md,
-- rules 16.21 and 16.22). The theorems stand in proofs/.
-- Assumes nothing.
use Rattle.std.specs.Prelude.{ℕ, zero, suc, ◌+◌, ◌≡◌, List, Bool, true, cond, not, ◌&&◌, ◌||◌, length, ltb, leb, eqb}
use Rattle.formats.specs.Format.{V1}
use Rattle.lists.specs.Parts.{Bytes, every}
use Rattle.lists.specs.Table.{all}
use Rattle.stamps.specs.Stamp.{exclusive, session_checks, stale, too_far}
use Rattle.commands.specs.Command.{Language, original}
use Rattle.guard.specs.Judge.{last_edition}
use Rattle.image.specs.Image.{decode, sound}
use Rattle.redo_log.specs.Log.{LogRecord, record_card, record_side, record_text, good_log, records}
use Rattle.redo_recovery_model.specs.Recovery.{Pairs, FitsPairs, record_in, due, recovery_pair, entry_for, recovered}
use Rattle.redo_recovery_model.specs.Claims.{text_in, rewrites}
use Rattle.transactions.specs.System.{OneDesk, recover, lawful, after_step}
use Rattle.transactions.specs.Claims.{Moment}

-- ---- what can be written

-- How many of the first i lines are due and write the original of card k: by so many its edition rises.
unfoldable pub originals_due : List LogRecord → ℕ → ℕ → ℕ
originals_due rs k zero = 0
originals_due rs k (suc i) = cond (rewrites rs original k i) (suc (originals_due rs k i)) (originals_due rs k i)

-- The edition of card k in front of line i, where those lines are written to this image.
abbrev pub edition_before : List ℕ → List LogRecord → ℕ → ℕ → ℕ
edition_before image rs k i = (entry_for image k).edition + originals_due rs k i

-- Rule 16.21: where line i is due, its card is in the image and its text has room there; a write of the original has an
-- edition left, and a write of the translation has an original to be made from.
abbrev pub can_write : List ℕ → List LogRecord → ℕ → Bool
can_write image rs i =
    not (due rs i)
    || ltb (record_card (record_in rs i)) (length (decode V1 image).cards)
    && leb (length (record_text (record_in rs i))) (decode V1 image).room
    && cond (eqb (record_side (record_in rs i)) 1) (ltb (edition_before image rs (record_card (record_in rs i)) i) last_edition)
    (not (eqb (edition_before image rs (record_card (record_in rs i)) i) 0))

abbrev pub can_finish : List ℕ → List LogRecord → Bool
can_finish image rs = every (can_write image rs) (length rs)

-- Rule 16.22: where line i is due, the pair given for its card is one of an exclusive session, and the stored pair
-- makes it neither stale nor too far ahead.
abbrev pub good_pair : List ℕ → List LogRecord → Pairs → ℕ → Bool
good_pair image rs pairs i =
    not (due rs i)
    || all (session_checks exclusive (recovery_pair pairs (record_card (record_in rs i))))
    && not (stale exclusive (entry_for image (record_card (record_in rs i))).pair (recovery_pair pairs (record_card (record_in rs i))))
    && not (too_far (entry_for image (record_card (record_in rs i))).pair (recovery_pair pairs (record_card (record_in rs i))))

abbrev pub good_pairs : List ℕ → List LogRecord → Pairs → Bool
good_pairs image rs pairs = every (good_pair image rs pairs) (length rs)

-- ---- what is claimed

-- Rule 16.22: a recovery under such pairs is refused nothing, where all that is due can be written.
abbrev pub RecoveryTaken : Type 0
RecoveryTaken =
    (pairs : Pairs) (log image : List ℕ) → FitsPairs pairs → Bytes log → Bytes image → sound V1 image ≡ true → good_log log ≡ true
    → can_finish image (records log) ≡ true
    → good_pairs image (records log) pairs ≡ true
    → (recovered pairs log image).number ≡ 0

-- Rule 16.22: so at every moment of a run by the rules at which recovery is a step (rule 16.13), that one step leaves
-- the texts that are meant on all cards.
abbrev pub OneStepFinishes : Type 0
OneStepFinishes =
    (d : ℕ) (y : OneDesk) (pairs : Pairs) → Moment d y → FitsPairs pairs
    → lawful d y (recover pairs (length (records y.log))) ≡ true
    → can_finish y.image (records y.log) ≡ true
    → good_pairs y.image (records y.log) pairs ≡ true
    → (k : ℕ) (l : Language)
    → text_in (after_step d y (recover pairs (length (records y.log)))).image l k ≡ y.meant k l
