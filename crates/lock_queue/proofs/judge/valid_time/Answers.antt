-- With the literals 0 and 1,000,000,000. Assumes nothing.
use Rattle.lock_queue.proofs.Literals.{nought, longest}
use Rattle.lock_queue.proofs.judge.valid_time.Goals as goal

pub returns : goal.returns
returns c = rw (nought, longest)
