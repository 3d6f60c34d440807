-- What is claimed of a redo log over its life: an append that is made in parts, a byte that is not what was stored, and
-- a log that begins again. Proved in proofs/Life.antt.
-- Assumes nothing.
use Rattle.std.specs.Prelude.{ℕ, suc, ◌+◌, ◌≤◌, ◌<◌, ◌≡◌, ◌⊎◌, List, [], ◌∷◌, true, length, get_or, set}
use Rattle.lists.specs.Parts.{Bytes}
use Rattle.redo_log.specs.Log.{LogRecord, record_count, line_place, line_size, start_at, good_log, log_number, records}
use Rattle.redo_log.specs.Append.{stored, puts, append_number, appended}
use Rattle.numbers.specs.Numbers.{BAD_LOG, APPEND_CUT}

-- Rules 11.24 and 16.14: an append that is cut, and then made again with no smaller budget, is the append with that
-- budget.
abbrev pub AppendResumes : Type 0
AppendResumes =
    (budget more : ℕ) (log : List ℕ) (r : LogRecord) → budget ≤ more → append_number budget log r ≡ APPEND_CUT
    → appended more (appended budget log r) r ≡ appended more log r

-- Not one of the `size` places from `at` on.
abbrev pub Outside : ℕ → ℕ → ℕ → Type 0
Outside at size j = (j < at) ⊎ (at + size ≤ j)

-- Rule 11.25: the first stores, as many as the body is long, change the body's place alone; the next 11 change the line
-- alone; the last one changes the count alone.
pub record InThree (log : List ℕ) (r : LogRecord) : Type 0 where
  pub body : (j : ℕ) → Outside (start_at log (record_count log)) (length r.body) j → get_or (appended (length r.body) log r) j 0 ≡ get_or log j 0
  pub line :
      (j : ℕ) → Outside (line_place (record_count log)) line_size j
      → get_or (appended (length r.body + 11) log r) j 0 ≡ get_or (appended (length r.body) log r) j 0
  pub count : (j : ℕ) → 1 ≤ j → get_or (appended (length r.body + 12) log r) j 0 ≡ get_or (appended (length r.body + 11) log r) j 0

abbrev pub AppendsInThree : Type 0
AppendsInThree = (log : List ℕ) (r : LogRecord) → InThree log r

-- Rule 11.26: in a good log, one byte of a counted body that is another one makes the log bad.
abbrev pub ByteChanged : Type 0
ByteChanged =
    (log : List ℕ) (i place byte : ℕ) → good_log log ≡ true → Bytes log → i < record_count log
    → start_at log i ≤ place
    → place < start_at log (suc i)
    → byte < 256
    → (byte ≡ get_or log place 0 → ⊥)
    → log_number (set log place byte) ≡ BAD_LOG

-- Rule 11.27: a log begins again by one store, which sets its count to 0. So it may be cut before that store or after
-- it, and nowhere else.
abbrev pub renewed : List ℕ → List ℕ
renewed log = stored (puts 0 (0 ∷ [])) log

pub record Renewal (log : List ℕ) : Type 0 where
  pub good : good_log (renewed log) ≡ true
  pub empty : records (renewed log) ≡ []
  pub long : length (renewed log) ≡ length log
  pub bytes : Bytes log → Bytes (renewed log)

abbrev pub Renews : Type 0
Renews = (log : List ℕ) → good_log log ≡ true → Renewal log
