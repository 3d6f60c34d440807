-- What a desk has begun it can finish (docs/RULES.md, rules 16.30 and 16.31): when there is room for it, and that then one list of
-- its own steps leads to no card with its mark and nothing due. The theorem stands in proofs/.
-- Assumes nothing.
use Rattle.std.specs.Prelude.{ℕ, zero, suc, ◌+◌, ◌*◌, ◌<◌, ◌≡◌, List, [], ◌∷◌, Bool, true, false, cond, not, ◌&&◌, ◌||◌, length, ltb, leb, eqb}
use Rattle.formats.specs.Format.{V1}
use Rattle.lists.specs.Parts.{every}
use Rattle.stamps.specs.Stamp.{stamp_t}
use Rattle.commands.specs.Command.{Language, is_write}
use Rattle.image.specs.Image.{decode}
use Rattle.redo_log.specs.Log.{LogRecord, most_records, synced_kind, record_card, record_count, start_at, records}
use Rattle.redo_recovery_model.specs.Recovery.{record_in}
use Rattle.redo_recovery_model.specs.Claims.{text_in}
use Rattle.transactions.specs.System.{OneDesk, command_in, mark_in, stored_x, due_for, written_out, nothing_due}
use Rattle.transactions.specs.Claims.{Moment}
use Rattle.transactions_progress.specs.Progress.{can_write}
use Rattle.transaction_steps_claims.specs.Follower.{
  Follower,
  no_mind,
  Doing,
  incoming,
  arriving,
  sending,
  logging,
  renewing,
  dropping,
  falling,
  after_doings,
  all_as_told,
  AllDoings,
}

-- ---- when there is room (rule 16.30)

-- How many of the first i lines are due for card k: so many writes it takes.
unfoldable pub lines_due : List LogRecord → ℕ → ℕ → ℕ
lines_due rs k zero = 0
lines_due rs k (suc i) = cond (due_for rs k i) (suc (lines_due rs k i)) (lines_due rs k i)

-- Of how many of the first n cards something is due: so many notes it takes.
unfoldable pub cards_due : List LogRecord → ℕ → ℕ
cards_due rs zero = 0
cards_due rs (suc k) = cond (written_out rs k 0 (length rs)) (cards_due rs k) (suc (cards_due rs k))

-- A line that is due on a card with the desk's mark can be written (rule 16.21). Of a card without the mark nothing is written.
abbrev pub line_left : ℕ → List ℕ → List LogRecord → ℕ → Bool
line_left d image rs i = not (eqb (mark_in image (record_card (record_in rs i))).desk d) || can_write image rs i

-- A card that bears the mark has a T left for each write and for the release.
abbrev pub stamps_left : ℕ → List ℕ → List LogRecord → ℕ → Bool
stamps_left d image rs k =
    not (eqb (mark_in image k).desk d) || ltb (stamp_t (stored_x image k) + lines_due rs k (length rs) + 1) 4294967296

-- Bytes of the body of a synced record (rule 11.4).
abbrev pub note_size : ℕ
note_size = 6

-- The log has so many lines left, and the bytes for so many notes.
abbrev pub notes_fit : List ℕ → ℕ → Bool
notes_fit log notes = leb (record_count log + notes) most_records && leb (start_at log (record_count log) + note_size * notes) (length log)

-- Rule 16.30, all of it.
abbrev pub room_to_finish : ℕ → OneDesk → Bool
room_to_finish d y =
    every (line_left d y.image (records y.log)) (length (records y.log))
    && every (stamps_left d y.image (records y.log)) (length (decode V1 y.image).cards)
    && notes_fit y.log (cards_due (records y.log) (length (decode V1 y.image).cards))

-- ---- what is claimed (rule 16.31)

-- The desk's own steps (rule 16.25), where it goes on with no transaction: a look, which writes nothing; an order, which arrives
-- at once; and a note. It hears every answer.
abbrev pub own_doing : Doing → Bool
own_doing (incoming s hears) = hears && not (is_write (command_in s))
own_doing (arriving i hears) = hears && eqb i 0
own_doing (sending s going line from) = not going
own_doing (logging budget r) = eqb r.kind synced_kind
own_doing renewing = false
own_doing (dropping k) = false
own_doing falling = false

unfoldable pub own_doings : List Doing → Bool
own_doings [] = true
own_doings (a ∷ doings) = own_doing a && own_doings doings

-- The desk as it is after a start: it has nothing in mind (rule 16.10).
abbrev pub starts_again : OneDesk → Follower
starts_again y = record { desk = y; minds = λ k. no_mind }

-- No card bears the mark, nothing is due, and every card has the text that is meant.
pub record Finished (d : ℕ) (start end : OneDesk) : Type 0 where
  pub unmarked : (k : ℕ) → eqb (mark_in end.image k).desk d ≡ false
  pub done : nothing_due (records end.log) ≡ true
  pub texts : (k : ℕ) (l : Language) → text_in end.image l k ≡ start.meant k l

-- One list of its own steps, each as it is told, leads there.
pub record Finishes (d : ℕ) (y : OneDesk) : Type 0 where
  pub doings : List Doing
  pub bytes : AllDoings doings
  pub own : own_doings doings ≡ true
  pub told : all_as_told d (starts_again y) doings ≡ true
  pub finished : Finished d y (after_doings d (starts_again y) doings).desk

-- Rule 16.31: from every moment of a run by the rules, whatever the desk was at, where there is room. Its number is one that a
-- mark can have (rule 1.7).
abbrev pub CanAlwaysFinish : Type 0
CanAlwaysFinish = (d : ℕ) (y : OneDesk) → d < 65536 → Moment d y → room_to_finish d y ≡ true → Finishes d y
