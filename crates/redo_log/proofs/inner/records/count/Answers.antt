-- The first byte. Assumes nothing.
use native.Mathlib.Omega.{arith}
use Rattle.redo_log.proofs.Records.{sizes}
use Rattle.redo_log.proofs.inner.records.count.Goals as goal

pub bounds-log-0 : goal.bounds-log-0
bounds-log-0 c = omega (arith, sizes c.args.log.now c.requires)

pub overflow_cast-result : goal.overflow_cast-result
overflow_cast-result c = omega (arith, c.type_inv.log 0)
