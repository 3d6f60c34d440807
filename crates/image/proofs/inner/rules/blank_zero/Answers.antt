-- What stands behind the numbers of an entry. Assumes nothing.
use Rattle.formats.specs.Format.{format_of}
use native.Mathlib.Omega.{arith}
use Rattle.formats.proofs.Numbers.{numbers}
use Rattle.image.proofs.Bytes.{blank_is}
use Rattle.image.proofs.inner.rules.blank_zero.Goals as goal

pub overflow_add-start : goal.overflow_add-start
overflow_add-start c = let n = numbers (format_of c.args.v) in omega (arith, n, c.entry_place-at.ensures, c.entry_end.ensures)

pub overflow_add-end : goal.overflow_add-end
overflow_add-end c = let n = numbers (format_of c.args.v) in omega (arith, n, c.entry_place-at.ensures, c.layout.ensures.entry_size, c.entry_end.ensures)

pub slice_bounds-all_zero-count : goal.slice_bounds-all_zero-count
slice_bounds-all_zero-count c =
    let n = numbers (format_of c.args.v) in omega
    (arith, n, c.entry_place-at.ensures, c.layout.ensures.entry_size, c.entry_end.ensures)

pub slice_bounds-all_zero-start : goal.slice_bounds-all_zero-start
slice_bounds-all_zero-start c =
    let n = numbers (format_of c.args.v) in omega
    (arith, n, c.entry_place-at.ensures, c.layout.ensures.entry_size, c.entry_end.ensures)

pub slice_bounds-all_zero-end : goal.slice_bounds-all_zero-end
slice_bounds-all_zero-end c =
    let n = numbers (format_of c.args.v) in omega
    (arith, n, c.entry_place-at.ensures, c.layout.ensures.entry_size, c.entry_end.ensures)

pub returns : goal.returns
returns c =
    rw (
      c.all_zero.ensures,
      blank_is (format_of c.args.v) c.args.image.now c.args.k
          c.entry_place-at.ensures c.entry_end.ensures c.layout.ensures.entry_size,
    )
