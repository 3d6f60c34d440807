-- The numbers end to end. Assumes nothing.
use Rattle.image.proofs.Written.{splice_three}
use native.Mathlib.Omega.{arith}
use Rattle.lists.specs.Le.{to_le}
use Rattle.image.proofs.inner.write.write_mark.Goals as goal

pub returns : goal.returns
unfolding to_le
returns c =
    rw (c.write_u32.ensures, c.write_u16-2.ensures, c.write_u16.ensures)
    (splice_three _ (to_le 2 c.args.mark.desk) (to_le 2 0) (to_le 4 c.args.mark.transaction) _ (omega arith))
