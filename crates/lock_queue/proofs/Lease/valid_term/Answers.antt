-- With the literals 0, 86,400 and 0.5. Assumes nothing.
use Rattle.floats.proofs.Literals.{one_half}
use Rattle.lock_queue.proofs.Literals.{nought, a_day}
use Rattle.lock_queue.proofs.Lease.valid_term.Goals as goal

pub returns : goal.returns
returns c = rw (nought, a_day, one_half)
