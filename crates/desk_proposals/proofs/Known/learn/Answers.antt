use Rattle.desk_proposals.specs.Propose.{learnt}
use Rattle.desk_proposals.proofs.Known.learn.Goals as goal

-- src/lib.rt:54:5
pub returns : goal.returns
unfolding learnt
returns c = rw c.larger_of_each.ensures
