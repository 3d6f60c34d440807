-- The sums stay within 64 bits by the limits of N and C; the size is then the one defined. Assumes nothing.
use Rattle.formats.specs.Format.{format_of}
use native.Mathlib.Omega.{arith}
use Rattle.image.proofs.Shape.{small}
use Rattle.image.proofs.inner.layout.size_of.Goals as goal

pub overflow_mul-result : goal.overflow_mul-result
overflow_mul-result c =
    let b = small (format_of c.args.v) c.layout-entry.ensures.entry_size c.sides-sides.ensures
    c.ranges.n.fits c.ranges.c.fits in omega (arith, b)

pub overflow_add-result : goal.overflow_add-result
overflow_add-result c =
    let b = small (format_of c.args.v) c.layout-entry.ensures.entry_size c.sides-sides.ensures
    c.ranges.n.fits c.ranges.c.fits in omega (arith, b)

pub overflow_mul-result-2 : goal.overflow_mul-result-2
overflow_mul-result-2 c =
    let b = small (format_of c.args.v) c.layout-entry.ensures.entry_size c.sides-sides.ensures
    c.ranges.n.fits c.ranges.c.fits in omega (arith, b)

pub overflow_mul-result-3 : goal.overflow_mul-result-3
overflow_mul-result-3 c =
    let b = small (format_of c.args.v) c.layout-entry.ensures.entry_size c.sides-sides.ensures
    c.ranges.n.fits c.ranges.c.fits in omega (arith, b)

pub overflow_add-result-2 : goal.overflow_add-result-2
overflow_add-result-2 c =
    let b = small (format_of c.args.v) c.layout-entry.ensures.entry_size c.sides-sides.ensures
    c.ranges.n.fits c.ranges.c.fits in omega (arith, b)

pub returns : goal.returns
returns c = rw (c.sides-sides.ensures, c.layout-entry.ensures.entry_size)
