-- The pair and the mark, each at its place in the entry. Assumes nothing.
use Rattle.formats.specs.Format.{format_of}
use native.Mathlib.Omega.{arith}
use Rattle.formats.proofs.Numbers.{numbers}
use Rattle.image.specs.inner.Write.{stamps_with}
use Rattle.image.proofs.inner.write.store_stamps.Goals as goal

pub write_pair-requires : goal.write_pair-requires
write_pair-requires c = let n = numbers (format_of c.args.v) in omega (arith, n, c.entry_place-at.ensures)

pub write_mark-requires : goal.write_mark-requires
write_mark-requires c = let n = numbers (format_of c.args.v) in omega (arith, n, c.entry_place-at.ensures)

pub returns : goal.returns
unfolding stamps_with
returns c = rw (c.write_mark.ensures, c.write_pair.ensures, c.entry_place-at.ensures)
