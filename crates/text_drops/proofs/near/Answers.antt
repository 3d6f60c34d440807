-- By what both calls ensure, with the literal 0.5. Assumes nothing.
use Rattle.text_drops.specs.Drop.{near}
use Rattle.floats.proofs.Literals.{one_half}
use Rattle.text_drops.proofs.near.Goals as goal

pub returns : goal.returns
unfolding near
returns c = rw (c.in_fahrenheit.ensures, c.in_fahrenheit-2.ensures, one_half)
