-- A synced record has six bytes. Assumes nothing.
use native.Mathlib.Omega.{arith}
use Rattle.redo_log.proofs.Records.{synced_long}
use Rattle.redo_recovery.proofs.inner.is_synced.Goals as goal

pub read_u16-requires : goal.read_u16-requires
read_u16-requires c = omega (arith, synced_long _ _ c.args.record.now.is_shaped c.if-record-ne-SYNCED.false)

pub read_u32-requires : goal.read_u32-requires
read_u32-requires c = omega (arith, synced_long _ _ c.args.record.now.is_shaped c.if-record-ne-SYNCED.false)
