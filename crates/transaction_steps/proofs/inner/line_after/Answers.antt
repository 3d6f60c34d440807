-- The line found so far, line i, or none. Assumes nothing.
use borrow.Author.Tests.{lt-ltb, le-ltb}
use Rattle.transaction_steps.proofs.inner.line_after.Goals as goal

pub returns-then-line-lt200 : goal.returns-then-line-lt200
returns-then-line-lt200 c = rw (lt-ltb _ _ c.if-line-lt200.true)

pub returns-then-reach-i : goal.returns-then-reach-i
returns-then-reach-i c = rw (le-ltb _ _ c.if-line-lt200.false, c.if-reach-i.true)

pub returns : goal.returns
returns c = rw (le-ltb _ _ c.if-line-lt200.false, c.if-reach-i.false)
