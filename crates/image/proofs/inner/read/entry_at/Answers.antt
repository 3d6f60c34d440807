-- The entry lies within the image; what is read of that part is the entry defined. Assumes nothing.
use Rattle.formats.specs.Format.{format_of}
use Rattle.lists.proofs.Parts.{length_part}
use Prim.Native.Nat.{◌+◌}
use mathlib.Core.Path.{refl}
use Rattle.image.proofs.Parts.{cut}
use Rattle.image.specs.Bytes.{entry_at}
use native.Mathlib.Omega.{arith}
use Rattle.formats.proofs.Numbers.{numbers}
use Rattle.image.proofs.inner.read.entry_at.Goals as goal

pub entry_of-requires : goal.entry_of-requires
entry_of-requires c =
    let n = numbers (format_of c.args.v) in
    let long = length_part c.entry_place-at.result c.layout.result.entry_size c.args.image.now
    (omega (arith, c.layout.ensures.entry_size, c.entry_place-at.ensures)) in
    let same = cut c.entry_place-at.result c.layout.result.entry_size (c.entry_place-at.result + c.layout.result.entry_size) c.args.image.now refl in
    rw same (omega (arith, n, long, c.layout.ensures.entry_size))

pub returns : goal.returns
unfolding entry_at
returns c =
    let at = c.entry_place-at.result in
    let size = c.layout.result.entry_size in
    rw (c.entry_of.ensures, cut at size (at + size) c.args.image.now refl, c.layout.ensures.entry_size, c.entry_place-at.ensures)
