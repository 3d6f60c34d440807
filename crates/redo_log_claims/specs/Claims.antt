-- What is claimed of a redo log. Proved in proofs/Claims.antt.
-- Assumes nothing.
use Rattle.std.specs.Prelude.{ℕ, suc, ◌+◌, ◌-◌, ◌≤◌, ◌<◌, ◌≡◌, ◌↔◌, List, [], ◌∷◌, ◌++◌, true, cond, ◌&&◌, length, take, get_or, replicate, T, ltb, leb}
use Rattle.lists.specs.Parts.{Bytes}
use Rattle.lists.specs.Table.{applies, earlier, no_row, settled, listed}
use Rattle.redo_log.specs.Log.{LogRecord, begin_kind, bodies_from, most_log, record_transaction, record_count, record_at, last_begun, good_log, log_number, records}
use Rattle.redo_log.specs.Append.{Store, stored, stores, append_rows, append_number, appended}
use Rattle.numbers.specs.Numbers.{BAD_LOG, LOG_FULL, APPEND_CUT}

-- ---- one append (rules 11.10 to 11.13)

-- Of an append with any budget, to any bytes, of any record (rules 11.10 to 11.13).
pub record Appending (budget : ℕ) (log : List ℕ) (r : LogRecord) : Type 0 where
  -- how many stores it has
  pub all : length (stores log r) ≡ length r.body + 12
  -- each number exactly when its row applies and none above it does, and 0 exactly when no row applies
  pub each :
      (n : ℕ) → (append_number budget log r ≡ suc n)
      ↔ (T (applies (suc n) (append_rows budget log r)) × T (no_row (earlier (suc n) (append_rows budget log r))))
  pub taken : (append_number budget log r ≡ 0) ↔ T (no_row (append_rows budget log r))
  -- a refusal changes nothing
  pub bad : append_number budget log r ≡ BAD_LOG → appended budget log r ≡ log
  pub full : append_number budget log r ≡ LOG_FULL → appended budget log r ≡ log
  -- power fails after any store but the last: what is read back is what was read back before
  pub cut : append_number budget log r ≡ APPEND_CUT → (good_log (appended budget log r) ≡ true) × (records (appended budget log r) ≡ records log)
  -- after the last store it is that and the record
  pub whole : append_number budget log r ≡ 0 → (good_log (appended budget log r) ≡ true) × (records (appended budget log r) ≡ records log ++ r ∷ [])
  -- until the body is stored, nothing in front of the bodies changes; until every other store is done, the count stays
  pub body_first : budget ≤ length r.body → (j : ℕ) → j < bodies_from → get_or (appended budget log r) j 0 ≡ get_or log j 0
  pub count_last : budget < length r.body + 12 → record_count (appended budget log r) ≡ record_count log
  -- the log's length stays, and bytes stay bytes
  pub long : length (appended budget log r) ≡ length log
  pub bytes : Bytes log → Bytes r.body → Bytes (appended budget log r)

abbrev pub Appends : Type 0
Appends = (budget : ℕ) (log : List ℕ) (r : LogRecord) → Appending budget log r

-- Rule 5.1: what a check and an append may answer, besides 0.
abbrev pub check_numbers : List ℕ
check_numbers = BAD_LOG ∷ []

abbrev pub append_numbers : List ℕ
append_numbers = BAD_LOG ∷ LOG_FULL ∷ APPEND_CUT ∷ []

pub record LogListed : Type 0 where
  pub checked : (log : List ℕ) → T (listed check_numbers (log_number log))
  pub appends : (budget : ℕ) (log : List ℕ) (r : LogRecord) → T (listed append_numbers (append_number budget log r))

-- ---- transactions rise (rule 11.5)

-- At each record of a good log, to be above the transaction begun last is to be above 0 and above every one begun before.
abbrev pub AboveEvery : Type 0
AboveEvery =
    (log : List ℕ) → good_log log ≡ true → (n : ℕ) → n ≤ record_count log → (t : ℕ)
    → (last_begun (record_at log) n < t)
    ↔ ((0 < t) × ((i : ℕ) → i < n → (record_at log i).kind ≡ begin_kind → record_transaction (record_at log i) < t))

-- ---- a log of zeros (rule 11.1)

-- It is good exactly if its length is within the limits, and it is empty.
pub record OnlyZeros (n : ℕ) : Type 0 where
  pub good : good_log (replicate n 0) ≡ (leb bodies_from n && leb n most_log)
  pub empty : records (replicate n 0) ≡ []

abbrev pub ZeroLogs : Type 0
ZeroLogs = (n : ℕ) → OnlyZeros n

-- ---- many appends, and one cut somewhere among all their stores (rule 11.14)

-- How many stores an append of the record needs.
abbrev pub needed : LogRecord → ℕ
needed r = length r.body + 12

-- The log after appends that are not cut.
unfoldable pub appended_all : List ℕ → List LogRecord → List ℕ
appended_all log [] = log
appended_all log (r ∷ rs) = appended_all (appended (needed r) log r) rs

-- All their stores, in order: a refused append has none.
unfoldable pub all_stores : List ℕ → List LogRecord → List Store
all_stores log [] = []
all_stores log (r ∷ rs) = settled (append_number (needed r) log r) (stores log r) [] ++ all_stores (appended (needed r) log r) rs

-- The records of those that are not refused.
unfoldable pub admitted_of : List ℕ → List LogRecord → List LogRecord
admitted_of log [] = []
admitted_of log (r ∷ rs) = settled (append_number (needed r) log r) (r ∷ []) [] ++ admitted_of (appended (needed r) log r) rs

-- The first of them: those whose stores are all among the first k.
unfoldable pub wholly : ℕ → List LogRecord → List LogRecord
wholly k [] = []
wholly k (r ∷ rs) = cond (ltb k (needed r)) [] (r ∷ wholly (k - needed r) rs)

-- The log when the power fails after the first k of all stores.
abbrev pub cut_after : ℕ → List ℕ → List LogRecord → List ℕ
cut_after k log rs = stored (take k (all_stores log rs)) log

-- Bodies of bytes.
abbrev pub BytesOfRecords : List LogRecord → Type 0
BytesOfRecords [] = Unit {0}
BytesOfRecords (r ∷ rs) = Bytes r.body × BytesOfRecords rs

-- Rule 11.14, of the first k stores.
pub record AppendRun (k : ℕ) (log : List ℕ) (rs : List LogRecord) : Type 0 where
  -- the stores do what the appends do
  pub same : stored (all_stores log rs) log ≡ appended_all log rs
  -- the cut log is good, and what is read back is what stood there and each record that was wholly appended
  pub good : good_log (cut_after k log rs) ≡ true
  pub back : records (cut_after k log rs) ≡ records log ++ wholly k (admitted_of log rs)
  pub long : length (cut_after k log rs) ≡ length log
  pub bytes : Bytes log → BytesOfRecords rs → Bytes (cut_after k log rs)

abbrev pub AppendRuns : Type 0
AppendRuns = (k : ℕ) (log : List ℕ) (rs : List LogRecord) → good_log log ≡ true → AppendRun k log rs
