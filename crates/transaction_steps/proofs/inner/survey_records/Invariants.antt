-- The loop: what the first lines say. Assumes nothing.
use mathlib.Core.Path.{◌≡◌}
use lib.ListN.{length, drop}
use Prim.Native.Nat.{◌≤◌}
use Rattle.redo_log.specs.Log.{record_count, records}
use Rattle.redo_log.specs.inner.Placed.{places}
use Rattle.redo_log.specs.inner.Shown.{records_left}
use Rattle.transaction_steps.specs.inner.Surveyed.{surveyed}
use Rattle.transaction_steps.proofs.inner.survey_records.Given as goal

abbrev pub invariant-loop-record : goal.invariant-loop-record
invariant-loop-record l = record {
  left_is : records_left l.record-iterator ≡ drop (length l.yielded) (places l.log.bytes.now);
  within : length l.yielded ≤ record_count l.log.bytes.now;
  so_far : l.found ≡ surveyed (records l.log.bytes.now) l.card l.reach l.begun (length l.yielded);
}
