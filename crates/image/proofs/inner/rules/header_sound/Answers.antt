-- Test by test: a header that fails one is not sound, and behind the last test the definition is what is left. Assumes nothing.
use Rattle.image.specs.Image.{header_sound}
use Rattle.lists.specs.Le.{le}
use Rattle.lists.specs.Parts.{part}
use Rattle.lists.specs.Table.{all, all_from}
use Rattle.image.proofs.inner.rules.header_sound.Goals as goal

pub returns : goal.returns
unfolding header_sound all all_from part le
returns c =
    rw (
      c.size_of.ensures,
      c.all_zero.ensures,
      c.shape_ok.ensures,
      c.layout.ensures.version,
      c.read_u16.ensures,
      c.read_u32.ensures,
      c.room-c.ensures,
      c.count-n.ensures,
    )
