-- No record is begun before the first. Assumes nothing.
use native.Mathlib.Omega.{arith}
use mathlib.Core.Path.{refl}
use Rattle.redo_log.specs.Log.{last_begun}
use Rattle.redo_log.proofs.inner.records.CheckedLog.records.Goals as goal

pub invariant_of-result : goal.invariant_of-result
unfolding last_begun
invariant_of-result c = record { within = omega arith; last_is = refl }
