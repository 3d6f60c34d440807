-- The first byte. Assumes nothing.
use native.Mathlib.Omega.{arith}
use Rattle.redo_log.proofs.Records.{sizes}
use Rattle.redo_log.proofs.inner.records.CheckedLog.count.Goals as goal

pub bounds-self-0 : goal.bounds-self-0
bounds-self-0 c = omega (arith, sizes _ c.args.self.now.good)
