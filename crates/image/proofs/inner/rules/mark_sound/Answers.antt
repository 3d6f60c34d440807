-- In the entry's bytes. Assumes nothing.
use Prim.Native.Nat.{◌+◌}
use native.Mathlib.Omega.{arith}
use mathlib.Core.Path.{refl}
use Rattle.lists.proofs.Parts.{length_part}
use Rattle.formats.specs.Format.{format_of}
use Rattle.formats.proofs.Numbers.{numbers}
use Rattle.image.proofs.Parts.{cut}
use Rattle.image.proofs.Seen.{mark_there}
use Rattle.image.proofs.inner.rules.mark_sound.Goals as goal

pub mark_in-requires : goal.mark_in-requires
mark_in-requires c =
    let n = numbers (format_of c.args.v) in
    let at = c.entry_place-at.result in
    let size = c.layout.result.entry_size in
    let image = c.args.image.now in
    let long = length_part at size image (omega (arith, c.layout.ensures.entry_size, c.entry_place-at.ensures)) in
    rw (cut at size (at + size) image refl) (omega (arith, n, long, c.layout.ensures.entry_size))

pub returns : goal.returns
returns c =
    let at = c.entry_place-at.result in
    let size = c.layout.result.entry_size in
    let image = c.args.image.now in
    mark_there (format_of c.args.v) image c.args.k c.entry_place-at.ensures
    (rw (cut at size (at + size) image refl, c.layout.ensures.entry_size) at c.mark_in.ensures)
