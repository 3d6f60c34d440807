-- A note, a write or a release. Assumes nothing.
use borrow.Author.Tests.{eq-eqb, ne_eqb, lt-ltb, le-ltb}
use Rattle.transaction_steps.proofs.inner.finish.Goals as goal

pub returns-then-mark-desk : goal.returns-then-mark-desk
returns-then-mark-desk c = rw (ne_eqb _ _ c.if-mark-desk.true)

pub returns-then-line-lt200 : goal.returns-then-line-lt200
returns-then-line-lt200 c = rw (eq-eqb _ _ c.if-mark-desk.false, lt-ltb _ _ c.if-line-lt200.true)

pub returns : goal.returns
returns c = rw (eq-eqb _ _ c.if-mark-desk.false, le-ltb _ _ c.if-line-lt200.false)
