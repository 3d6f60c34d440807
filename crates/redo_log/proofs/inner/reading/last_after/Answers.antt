use native.Mathlib.Omega.{arith}
use Rattle.redo_log.proofs.Records.{shaped_four}
use Rattle.redo_log.proofs.inner.reading.last_after.Goals as goal

pub read_u32-requires : goal.read_u32-requires
read_u32-requires c = omega (arith, shaped_four _ _ c.requires (λ e. absurd (omega arith)) (λ e. absurd (omega arith)))
