-- The numbers end to end. Assumes nothing.
use native.Mathlib.Omega.{arith}
use Rattle.lists.specs.Le.{to_le}
use Rattle.lists.proofs.Parts.{splice_adjacent}
use Rattle.image.proofs.inner.write.write_pair.Goals as goal

pub returns : goal.returns
unfolding to_le
returns c =
    rw (c.write_u64-2.ensures, c.write_u64.ensures)
    (splice_adjacent _ (to_le 8 c.args.pair.s) (to_le 8 c.args.pair.x) _ (omega arith))
