-- Each return, by the tests on the way. Assumes nothing.
use Rattle.lock_queue.specs.Requests.{number}
use Rattle.lock_queue.proofs.judge.leaving.Goals as goal

pub returns-then-not-good : goal.returns-then-not-good
unfolding number
returns-then-not-good c = rw (← c.good.ensures, c.if-not-good.true)

pub returns-then-not-stands : goal.returns-then-not-stands
unfolding number
returns-then-not-stands c = rw (← c.good.ensures, c.if-not-good.false, ← c.standing.ensures, ← c.stands.ensures, c.if-not-stands.true)

pub returns : goal.returns
unfolding number
returns c = rw (← c.good.ensures, c.if-not-good.false, ← c.standing.ensures, ← c.stands.ensures, c.if-not-stands.false)
