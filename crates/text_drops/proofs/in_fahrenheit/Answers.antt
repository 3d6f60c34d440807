-- By the case, with the literals 9, 5 and 32. Assumes nothing.
use Rattle.text_drops.specs.Drop.{in_fahrenheit}
use Rattle.floats.proofs.Literals.{five, nine, thirty_two}
use Rattle.text_drops.proofs.in_fahrenheit.Goals as goal

pub returns-in-Celsius : goal.returns-in-Celsius
unfolding in_fahrenheit
returns-in-Celsius c = rw (c.in-Celsius.is, five, nine, thirty_two)

pub returns-in-Fahrenheit : goal.returns-in-Fahrenheit
unfolding in_fahrenheit
returns-in-Fahrenheit c = rw c.in-Fahrenheit.is
