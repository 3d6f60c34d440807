-- Each number at its place within the entry; the struct is made of what the readers ensure. Assumes nothing.
use Rattle.image.specs.Bytes.{read_entry}
use Rattle.image.proofs.inner.read.entry_of.Goals as goal

pub returns : goal.returns
unfolding read_entry
returns c =
    rw (
      c.read_u16-5.ensures,
      c.length_place.ensures,
      c.read_u16-4.ensures,
      c.layout.ensures.original_at,
      c.read_u16-3.ensures,
      c.from_place.ensures,
      c.read_u16-2.ensures,
      c.read_u32.ensures,
      c.read_u16.ensures,
      c.read_u64-2.ensures,
      c.read_u64.ensures,
    )
