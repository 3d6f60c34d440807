-- What the call ensures. Assumes nothing.

use Rattle.transaction_steps.proofs.heard.Goals as goal

pub returns : goal.returns
returns c = rw c.reach_by.ensures
