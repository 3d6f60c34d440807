-- Each part is a call's, or a write. Assumes nothing.
use Rattle.lock_queue.specs.Requests.{joined}
use Rattle.lock_queue.proofs.inner.effects.joined.Goals as goal

pub returns : goal.returns
unfolding joined
returns c = rw c.larger_of_each-queue.ensures
