-- The loop carries what is left of the recovery from record i on (`Going`, proofs/Running). Assumes nothing.
use mathlib.Core.Path.{◌≡◌}
use lib.ListN.{length, drop}
use Rattle.redo_log.specs.inner.Placed.{places}
use Rattle.redo_log.specs.inner.Shown.{records_left}
use Rattle.redo_recovery.proofs.Running.{Going}
use Rattle.redo_recovery.specs.Recover.{pairs_in}
use Rattle.redo_recovery.proofs.recover.Given as goal

abbrev pub invariant-loop-record : goal.invariant-loop-record
invariant-loop-record l = record {
  left_is : records_left l.record-iterator ≡ drop (length l.yielded) (places l.log.bytes.now);
  going : Going (pairs_in l.pairs) l.log.bytes.now l.initial.image l.image l.is_sound (length l.yielded);
}
