-- By the unit, with the literal 10. Assumes nothing.
use borrow.Author.Tests.{eq-eqb, ne_eqb}
use Rattle.text_drops.specs.Drop.{drop_of, degrees_of}
use Rattle.floats.specs.Numbers.{whole_float}
use Rattle.floats.proofs.Literals.{ten}
use Rattle.text_drops.proofs.inner.drop_of.Goals as goal

pub returns-then-unit-eq-CELSIUS : goal.returns-then-unit-eq-CELSIUS
unfolding drop_of degrees_of whole_float
returns-then-unit-eq-CELSIUS c = rw (eq-eqb _ _ c.if-unit-eq-CELSIUS.true, ten)

pub returns-else-unit-eq-CELSIUS : goal.returns-else-unit-eq-CELSIUS
unfolding drop_of degrees_of whole_float
returns-else-unit-eq-CELSIUS c = rw (ne_eqb _ _ c.if-unit-eq-CELSIUS.false, ten)
