-- A begin and a commit have four bytes. Assumes nothing.
use native.Mathlib.Omega.{arith}
use mathlib.Core.Path.{sym, ◌∙◌}
use Rattle.redo_log.proofs.Records.{shaped_four}
use Rattle.redo_log.proofs.inner.reading.may_join.Goals as goal

pub read_u32-requires : goal.read_u32-requires
read_u32-requires c =
    omega (arith, shaped_four _ _ (sym c.is_shaped.ensures ∙ c.if-not-is_shaped.false) (λ e. absurd (omega (arith, c.in-1.is))) (λ e. absurd (omega (arith, c.in-1.is))))

pub read_u32-requires-then-running : goal.read_u32-requires-then-running
read_u32-requires-then-running c =
    omega (arith, shaped_four _ _ (sym c.is_shaped.ensures ∙ c.if-not-is_shaped.false) (λ e. absurd (omega arith)) (λ e. absurd (omega arith)))
