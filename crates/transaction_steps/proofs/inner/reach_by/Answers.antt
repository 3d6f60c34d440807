-- One more than the line of an accepted write. Assumes nothing.

use Rattle.transaction_steps.proofs.inner.reach_by.Goals as goal

pub returns-then-step-number : goal.returns-then-step-number
returns-then-step-number c = rw c.if-step-number.true

pub returns : goal.returns
returns c = rw c.if-step-number.false
