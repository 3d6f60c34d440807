-- The larger of each, written back. Assumes nothing.
use Rattle.exports_desks.proofs.Proposed.{learnt_leaves}
use Rattle.exports_desks.proofs.desks.lupaniele_learn.Goals as goal

-- src/desks.rt:32:1
pub returns : goal.returns
returns c = learnt_leaves _ c.known_in-before.ensures c.learn-after.ensures c.write_stamps.ensures
