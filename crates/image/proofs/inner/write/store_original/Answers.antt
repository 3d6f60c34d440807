-- The edition and the length, each at its place in the entry. Assumes nothing.
use Rattle.formats.specs.Format.{format_of}
use native.Mathlib.Omega.{arith}
use Rattle.formats.proofs.Numbers.{numbers}
use Rattle.image.specs.inner.Write.{original_with}
use Rattle.image.proofs.inner.write.store_original.Goals as goal

pub write_u16-requires : goal.write_u16-requires
write_u16-requires c = let n = numbers (format_of c.args.v) in omega (arith, n, c.entry_place-at.ensures)

pub overflow_add-at-2 : goal.overflow_add-at-2
overflow_add-at-2 c = let n = numbers (format_of c.args.v) in omega (arith, n, c.entry_place-at.ensures, c.layout-original.ensures.original_at)

pub write_u16-requires-2 : goal.write_u16-requires-2
write_u16-requires-2 c = let n = numbers (format_of c.args.v) in omega (arith, n, c.entry_place-at.ensures, c.layout-original.ensures.original_at)

pub returns : goal.returns
unfolding original_with
returns c = rw (c.write_u16-2.ensures, c.write_u16.ensures, c.layout-original.ensures.original_at, c.entry_place-at.ensures)
