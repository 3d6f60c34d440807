use Rattle.redo_log.proofs.Budget.{to_le_min}
use Rattle.redo_log.proofs.inner.storing.put_number.Goals as goal

pub returns : goal.returns
returns c = rw (c.write.ensures, c.min.ensures, to_le_min)
