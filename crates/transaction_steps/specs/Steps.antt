-- The next step of a transaction for a card (docs/RULES.md, rules 16.24 to 16.26): from the records of the desk's log,
-- and from the answer to the command that the desk last sent for the card.
-- Assumes nothing.
use Rattle.std.specs.Prelude.{ℕ, zero, suc, ◌+◌, List, Bool, cond, not, ◌&&◌, ◌||◌, length, ltb, leb, eqb}
use Rattle.lists.specs.Parts.{every}
use Rattle.numbers.specs.Numbers.{MALFORMED, NO_CARD, UNSOUND}
use Rattle.redo_log.specs.Log.{LogRecord, most_records, record_card, opened, good_log, records}
use Rattle.redo_recovery_model.specs.Recovery.{record_in, transaction_in}
use Rattle.transactions.specs.System.{due_for, written_out, update_in}
use Rattle.transaction_steps.specs.declared.LastSeen.{LastSeen}
use Rattle.transaction_steps.specs.declared.NextStep.{NextStep}
use Rattle.transaction_steps.specs.declared.NextStep.TheVariants.{Nothing, Look, Prepare, Ready, Write, Release, Note, Wait, Bad}

-- ---- the steps (rule 16.25)

-- Nothing is to be done.
abbrev pub nothing_step : ℕ
nothing_step = 0

-- A command without a mark of the desk's, for its answer.
abbrev pub look_step : ℕ
look_step = 1

abbrev pub prepare_step : ℕ
prepare_step = 2

-- The card is held, and waits for the commit.
abbrev pub ready_step : ℕ
ready_step = 3

-- A line of the log is written out.
abbrev pub write_step : ℕ
write_step = 4

abbrev pub release_step : ℕ
release_step = 5

-- A synced record is appended.
abbrev pub note_step : ℕ
note_step = 6

-- The card is another desk's.
abbrev pub wait_step : ℕ
wait_step = 7

-- The log is not good, or the desk is none.
abbrev pub bad_step : ℕ
bad_step = 8

-- A step in numbers: which one it is, the line of the log that is to be written, and the transaction that is to be noted
-- as synced. Both are 0 with other steps.
pub record ToldStep : Type 0 where
  pub step : ℕ
  pub line : ℕ
  pub transaction : ℕ

-- A step with neither line nor transaction.
abbrev pub plain_step : ℕ → ToldStep
plain_step step = record { step = step; line = 0; transaction = 0 }

-- What a step says, in numbers.
abbrev pub step_told : NextStep → ToldStep
step_told Nothing = plain_step nothing_step
step_told Look = plain_step look_step
step_told Prepare = plain_step prepare_step
step_told Ready = plain_step ready_step
step_told (Write line) = record { step = write_step; line = line; transaction = 0 }
step_told Release = plain_step release_step
step_told (Note transaction) = record { step = note_step; line = 0; transaction = transaction }
step_told Wait = plain_step wait_step
step_told Bad = plain_step bad_step

-- ---- what a desk sees (rule 16.24)

-- Numbers that come without an entry (rule 4.8).
abbrev pub shows_none : ℕ → Bool
shows_none number = eqb number UNSOUND || eqb number MALFORMED || eqb number NO_CARD

-- An accepted write leaves its line and all before it written out; nothing else says that lines are.
abbrev pub reach_by : ℕ → ℕ → ℕ → ℕ
reach_by step line number = cond (eqb step write_step && eqb number 0) (line + 1) 0

-- Rule 16.24: what the answer to a step tells, by its number and by the desk of the mark that it shows.
abbrev pub seen_upon : ℕ → ℕ → ℕ → ℕ → LastSeen
seen_upon step line number mark =
    record {
      known = not (shows_none number);
      held = eqb step prepare_step && eqb number 0;
      mark = mark;
      reach = reach_by step line number;
    }

-- ---- what the log says of a card

-- The line found so far (200, which is no line, where there is none), with line i if that is one.
abbrev pub first_of : ℕ → Bool → ℕ → ℕ
first_of found is i = cond (ltb found most_records) found (cond is i found)

-- Of the first n lines, the first from `reach` on that is due for card k.
unfoldable pub first_due : List LogRecord → ℕ → ℕ → ℕ → ℕ
first_due rs k reach zero = most_records
first_due rs k reach (suc i) = first_of (first_due rs k reach i) (leb reach i && due_for rs k i) i

-- The transaction of the last of the first n lines that is due for card k; 0 where none is.
unfoldable pub last_due : List LogRecord → ℕ → ℕ → ℕ
last_due rs k zero = 0
last_due rs k (suc i) = cond (due_for rs k i) (transaction_in rs i) (last_due rs k i)

-- Some of the first n lines is an update of card k by transaction t.
abbrev pub updates_card : List LogRecord → ℕ → ℕ → ℕ → Bool
updates_card rs t k n = not (every (λ i. not (update_in rs t i && eqb (record_card (record_in rs i)) k)) n)

-- The transaction that is open updates card k.
abbrev pub wants : List LogRecord → ℕ → Bool
wants rs k = opened (record_in rs) (length rs) && updates_card rs (transaction_in rs (length rs)) k (length rs)

-- ---- the next step (rule 16.25)

-- Of a card of which something is due. The hazard: without the mark it is noted as synced, and not written. With the
-- mark the first line that is not written out is written, and with all of them written out the card is released.
abbrev pub finishing : ℕ → ℕ → ℕ → ℕ → ToldStep
finishing d mark line transaction =
    cond (not (eqb mark d)) (record { step = note_step; line = 0; transaction = transaction })
    (cond (ltb line most_records) (record { step = write_step; line = line; transaction = 0 }) (plain_step release_step))

-- Of a card of which nothing is due and that the open transaction updates: it is prepared, and with a mark that no
-- accepted prepare has shown it is released first.
abbrev pub readying : ℕ → LastSeen → ToldStep
readying d v =
    cond (eqb v.mark 0) (plain_step prepare_step)
    (cond (not (eqb v.mark d)) (plain_step wait_step) (cond v.held (plain_step ready_step) (plain_step release_step)))

-- Rule 16.25, in its order. `going` says whether the desk goes on with the transaction that is open; one that it does
-- not go on with is given up. A card of which nothing is due, and that is not to be changed, is released if it bears
-- the mark.
unfoldable pub next_step : ℕ → List LogRecord → ℕ → Bool → LastSeen → ToldStep
next_step d rs k going v =
    cond (not v.known) (plain_step look_step)
    (cond (not (written_out rs k 0 (length rs)))
    (finishing d v.mark (first_due rs k v.reach (length rs)) (last_due rs k (length rs)))
    (cond (going && wants rs k) (readying d v)
    (cond (eqb v.mark d) (plain_step release_step) (plain_step nothing_step))))

-- Of any bytes as a log and any number as a desk.
unfoldable pub next_of : List ℕ → ℕ → ℕ → Bool → LastSeen → ToldStep
next_of log d k going v = cond (good_log log && not (eqb d 0)) (next_step d (records log) k going v) (plain_step bad_step)
