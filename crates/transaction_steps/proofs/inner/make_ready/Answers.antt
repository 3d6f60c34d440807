-- By the mark that is seen, and whether a prepare has shown it. Assumes nothing.
use borrow.Author.Tests.{eq-eqb, ne_eqb}
use Rattle.transaction_steps.proofs.inner.make_ready.Goals as goal

pub returns-then-seen-eq0 : goal.returns-then-seen-eq0
returns-then-seen-eq0 c = rw (eq-eqb _ _ c.if-seen-eq0.true)

pub returns-then-seen-desk : goal.returns-then-seen-desk
returns-then-seen-desk c = rw (ne_eqb _ _ c.if-seen-eq0.false, ne_eqb _ _ c.if-seen-desk.true)

pub returns-then-seen : goal.returns-then-seen
returns-then-seen c = rw (ne_eqb _ _ c.if-seen-eq0.false, eq-eqb _ _ c.if-seen-desk.false, c.if-seen.true)

pub returns : goal.returns
returns c = rw (ne_eqb _ _ c.if-seen-eq0.false, eq-eqb _ _ c.if-seen-desk.false, c.if-seen.false)
