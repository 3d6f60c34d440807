-- An update has three bytes at least. Assumes nothing.
use native.Mathlib.Omega.{arith}
use Rattle.redo_log.proofs.Records.{update_long}
use Rattle.transaction_steps.proofs.inner.is_update_of.Goals as goal

pub read_u16-requires : goal.read_u16-requires
read_u16-requires c = omega (arith, update_long _ _ c.args.record.now.is_shaped c.if-record-ne-UPDATE.false)
