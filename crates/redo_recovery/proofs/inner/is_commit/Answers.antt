-- A commit has four bytes. Assumes nothing.
use native.Mathlib.Omega.{arith}
use Rattle.redo_log.proofs.Records.{commit_long}
use Rattle.redo_recovery.proofs.inner.is_commit.Goals as goal

pub read_u32-requires : goal.read_u32-requires
read_u32-requires c = omega (arith, commit_long _ _ c.args.record.now.is_shaped c.if-record-ne-COMMIT.false)
