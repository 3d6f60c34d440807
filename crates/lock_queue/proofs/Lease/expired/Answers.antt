-- By what `wait` ensures. Assumes nothing.

use Rattle.lock_queue.proofs.Lease.expired.Goals as goal

pub returns : goal.returns
returns c = rw c.wait.ensures
