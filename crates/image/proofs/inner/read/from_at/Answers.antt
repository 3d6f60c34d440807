-- The field is read in its place. Assumes nothing.
use Rattle.formats.specs.Format.{format_of}
use native.Mathlib.Omega.{arith}
use mathlib.Core.Path.{sym, ap}
use Rattle.lists.specs.Le.{le}
use Rattle.lists.proofs.Parts.{part_part}
use Rattle.formats.proofs.Numbers.{numbers}
use Rattle.image.specs.Bytes.{read_entry, entry_at}
use Rattle.image.proofs.inner.read.from_at.Goals as goal

pub overflow_add-at : goal.overflow_add-at
overflow_add-at c = let n = numbers (format_of c.args.v) in omega (arith, n, c.entry_place-at.ensures, c.from_place.ensures)

pub read_u16-requires : goal.read_u16-requires
read_u16-requires c = let n = numbers (format_of c.args.v) in omega (arith, n, c.entry_place-at.ensures, c.from_place.ensures)

pub returns : goal.returns
unfolding entry_at read_entry
returns c =
    rw (c.read_u16.ensures, c.entry_place-at.ensures, c.from_place.ensures)
    (sym (ap le (part_part _ _ _ 2 c.args.image.now (let n = numbers (format_of c.args.v) in omega (arith, n)))))
