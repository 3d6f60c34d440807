use borrow.Author.Tests.{eq-eqb, ne_eqb}
use Rattle.desk_proposals.specs.Propose.{pair_for}
use Rattle.desk_proposals.proofs.inner.pair_for.Goals as goal

-- src/lib.rt:98:20
pub own_above-requires : goal.own_above-requires
own_above-requires c = rw (eq-eqb _ _ c.if-mode-eq-EXCLUSIVE.true) at c.requires

-- src/lib.rt:96:13
pub returns-then-mode-eq-EXCLUSIVE : goal.returns-then-mode-eq-EXCLUSIVE
unfolding pair_for
returns-then-mode-eq-EXCLUSIVE c = rw (eq-eqb _ _ c.if-mode-eq-EXCLUSIVE.true, c.own_above.ensures)

-- src/lib.rt:102:16
pub own_above-requires-2 : goal.own_above-requires-2
own_above-requires-2 c = rw (ne_eqb _ _ c.if-mode-eq-EXCLUSIVE.false) at c.requires

-- src/lib.rt:90:5
pub returns : goal.returns
unfolding pair_for
returns c = rw (ne_eqb _ _ c.if-mode-eq-EXCLUSIVE.false, c.own_above-2.ensures)
