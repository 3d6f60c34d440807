-- The numbers end to end. Assumes nothing.
use Rattle.formats.specs.Format.{format_of, version}
use Rattle.image.specs.Bytes.{magic}
use native.Mathlib.Omega.{arith}
use Rattle.lists.specs.Le.{to_le}
use Rattle.image.proofs.Written.{splice_four}
use Rattle.image.proofs.inner.fresh.write_header.Goals as goal

pub returns : goal.returns
unfolding to_le
returns c =
    rw (
      c.write_u16-3.ensures,
      c.write_u16-2.ensures,
      c.write_u16.ensures,
      c.write_u32.ensures,
      c.layout-version.ensures.version,
    )
    (splice_four 0 magic (to_le 2 (version (format_of c.args.v))) (to_le 2 c.args.n) (to_le 2 c.args.c) _ (omega arith))
