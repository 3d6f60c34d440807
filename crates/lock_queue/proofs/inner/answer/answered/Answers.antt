-- For 10 and 1 the zeros, else each field is a call's. Assumes nothing.
use Rattle.lock_queue.specs.Requests.{answered}
use Rattle.lock_queue.proofs.inner.answer.answered.Goals as goal

pub returns-then-number : goal.returns-then-number
unfolding answered
returns-then-number c = rw c.if-number.true

pub returns : goal.returns
unfolding answered
returns c = rw (c.holds.ensures, c.standing.ensures, c.looked.ensures, c.standing-2.ensures, c.if-number.false)
