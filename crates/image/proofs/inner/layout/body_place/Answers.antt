-- The sums stay within 64 bits by the limits of N, C and the sides; the place is then the one defined. Assumes nothing.
use Rattle.formats.specs.Format.{format_of}
use native.Mathlib.Omega.{arith}
use Rattle.image.proofs.Shape.{placed}
use Rattle.image.proofs.inner.layout.body_place.Goals as goal

pub overflow_mul-result : goal.overflow_mul-result
overflow_mul-result c =
    let b = placed (format_of c.args.v) c.layout-entry.ensures.entry_size c.sides-sides.ensures
    c.ranges.n.fits c.ranges.c.fits c.ranges.k.fits c.ranges.side.fits in
    omega (arith, b)

pub overflow_add-result : goal.overflow_add-result
overflow_add-result c =
    let b = placed (format_of c.args.v) c.layout-entry.ensures.entry_size c.sides-sides.ensures
    c.ranges.n.fits c.ranges.c.fits c.ranges.k.fits c.ranges.side.fits in
    omega (arith, b)

pub overflow_mul-result-2 : goal.overflow_mul-result-2
overflow_mul-result-2 c =
    let b = placed (format_of c.args.v) c.layout-entry.ensures.entry_size c.sides-sides.ensures
    c.ranges.n.fits c.ranges.c.fits c.ranges.k.fits c.ranges.side.fits in
    omega (arith, b)

pub overflow_add-result-2 : goal.overflow_add-result-2
overflow_add-result-2 c =
    let b = placed (format_of c.args.v) c.layout-entry.ensures.entry_size c.sides-sides.ensures
    c.ranges.n.fits c.ranges.c.fits c.ranges.k.fits c.ranges.side.fits in
    omega (arith, b)

pub overflow_mul-result-3 : goal.overflow_mul-result-3
overflow_mul-result-3 c =
    let b = placed (format_of c.args.v) c.layout-entry.ensures.entry_size c.sides-sides.ensures
    c.ranges.n.fits c.ranges.c.fits c.ranges.k.fits c.ranges.side.fits in
    omega (arith, b)

pub overflow_add-result-3 : goal.overflow_add-result-3
overflow_add-result-3 c =
    let b = placed (format_of c.args.v) c.layout-entry.ensures.entry_size c.sides-sides.ensures
    c.ranges.n.fits c.ranges.c.fits c.ranges.k.fits c.ranges.side.fits in
    omega (arith, b)

pub returns : goal.returns
returns c = rw (c.sides-sides.ensures, c.layout-entry.ensures.entry_size)
