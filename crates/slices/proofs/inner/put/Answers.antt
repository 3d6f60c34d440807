-- The loop: after i bytes those of v from place i on are left to write. Assumes nothing.
use native.Mathlib.Omega.{arith}
use lib.ListN.{drop_of_length-le}
use Rattle.lists.proofs.Parts.{drop_left}
use Rattle.slices.proofs.Loops.{writing_more, writing_done}
use Rattle.slices.proofs.inner.put.Goals as goal

pub loop-i-preserved : goal.loop-i-preserved
loop-i-preserved c = writing_more _ _ c.loop-i.invariant (drop_left _ 0 c.loop-i-test.true) (omega arith)

pub returns : goal.returns
returns c = writing_done c.loop-i.invariant (drop_of_length-le _ c.loop-i-test.false)
