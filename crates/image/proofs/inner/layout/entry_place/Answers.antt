use Rattle.formats.specs.Format.{format_of}
use native.Mathlib.Omega.{arith}
use Rattle.image.proofs.Shape.{product, entry_small}
use Rattle.image.proofs.inner.layout.entry_place.Goals as goal

pub overflow_mul-result : goal.overflow_mul-result
overflow_mul-result c = let b = product 48 (entry_small (format_of c.args.v) c.layout-entry.ensures.entry_size) c.ranges.k.fits in omega (arith, b)

pub overflow_add-result : goal.overflow_add-result
overflow_add-result c = let b = product 48 (entry_small (format_of c.args.v) c.layout-entry.ensures.entry_size) c.ranges.k.fits in omega (arith, b)

pub returns : goal.returns
returns c = rw c.layout-entry.ensures.entry_size
