use borrow.Author.Tests.{eq-eqb, ne_eqb}
use Rattle.desk_proposals.proofs.inner.t_for.Goals as goal

-- src/lib.rt:71:13
pub returns-then-mode-eq-EXCLUSIVE : goal.returns-then-mode-eq-EXCLUSIVE
returns-then-mode-eq-EXCLUSIVE c = rw (eq-eqb _ _ c.if-mode-eq-EXCLUSIVE.true) c.next_t.ensures

-- src/lib.rt:66:5
pub returns : goal.returns
returns c = rw (ne_eqb _ _ c.if-mode-eq-EXCLUSIVE.false) c.next_t-2.ensures
