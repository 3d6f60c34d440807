-- The loop: none of the records so far is due. Assumes nothing.
use mathlib.Core.Path.{◌≡◌}
use mathlib.Core.Bool.{true, not}
use lib.ListN.{length, drop}
use Prim.Native.Nat.{◌≤◌}
use Rattle.lists.specs.Parts.{every}
use Rattle.redo_log.specs.Log.{record_count, records}
use Rattle.redo_log.specs.inner.Placed.{places}
use Rattle.redo_log.specs.inner.Shown.{records_left}
use Rattle.redo_recovery_model.specs.Recovery.{due}
use Rattle.transaction_steps.proofs.inner.none_is_due.Given as goal

abbrev pub invariant-loop-record : goal.invariant-loop-record
invariant-loop-record l = record {
  left_is : records_left l.record-iterator ≡ drop (length l.yielded) (places l.log.bytes.now);
  within : length l.yielded ≤ record_count l.log.bytes.now;
  so_far : every (λ j. not (due (records l.log.bytes.now) j)) (length l.yielded) ≡ true;
}
