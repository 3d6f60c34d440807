-- With the literal 1. Assumes nothing.
use Rattle.lock_queue.proofs.Literals.{one}
use Rattle.lock_queue.proofs.Lease.wait.Goals as goal

pub returns : goal.returns
returns c = rw one
