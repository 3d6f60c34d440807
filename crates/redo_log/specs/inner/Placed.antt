-- The records of a log, each with its line and the transaction that it belongs to.
-- Assumes nothing.
use Rattle.std.specs.Prelude.{ℕ, List}
use Rattle.lists.specs.Parts.{tabulate}
use Rattle.redo_log.specs.Log.{LogRecord, last_begun, record_count, record_at}

-- The transaction is the last begun before the record.
pub record Placed : Type 0 where
  pub line : ℕ
  pub transaction : ℕ
  pub entry : LogRecord

abbrev pub placed_at : List ℕ → ℕ → Placed
placed_at log i = record { line = i; transaction = last_begun (record_at log) i; entry = record_at log i }

-- All of them, by rising line.
unfoldable pub places : List ℕ → List Placed
places log = tabulate (placed_at log) (record_count log)
