use Rattle.formats.specs.Format.{format_of}
use native.Mathlib.Omega.{arith}
use Rattle.formats.proofs.Numbers.{numbers}
use Rattle.image.proofs.inner.layout.from_place.Goals as goal

pub overflow_add-result : goal.overflow_add-result
overflow_add-result c = let n = numbers (format_of c.args.v) in omega (arith, n, c.layout.ensures.froms_at)
