-- What an append stands on that answers neither 23 nor 24.
-- Assumes nothing.
use Rattle.std.specs.Prelude.{ℕ, ◌+◌, ◌≤◌, ◌<◌, ◌≡◌, List, true, length}
use Rattle.lists.specs.Parts.{every}
use Rattle.redo_log.specs.Log.{LogRecord, most_records, bodies_from, most_log, last_begun, opened, joins, record_count, start_at, record_at, record_ok}

pub record Admitted (log : List ℕ) (r : LogRecord) : Type 0 where
  pub from : bodies_from ≤ length log
  pub most : length log ≤ most_log
  pub below : record_count log < most_records
  pub checks : every (record_ok log) (record_count log) ≡ true
  pub joining : joins (last_begun (record_at log) (record_count log)) (opened (record_at log) (record_count log)) r ≡ true
  pub fits : start_at log (record_count log) + length r.body ≤ length log
