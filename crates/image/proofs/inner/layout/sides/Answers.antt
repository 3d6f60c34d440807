use native.Mathlib.Omega.{arith}
use Rattle.image.proofs.inner.layout.sides.Goals as goal

pub returns : goal.returns
returns c = rw c.layout-count.ensures.translations (omega arith)
