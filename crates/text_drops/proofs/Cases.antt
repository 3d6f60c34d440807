-- The worked cases, by computation. Assumes nothing.
use mathlib.Core.Path.{refl}
use lib.Ieee.{add, sub, mul, div, neg, le, of_int}
use Rattle.floats.specs.Numbers.{whole_float, half}
use Rattle.text_drops.specs.Drop.{degrees_of, drop_of, in_fahrenheit, near}
use Rattle.text_drops.specs.Cases.{NearWorked}

pub near_worked : NearWorked
unfolding add sub mul div neg le of_int whole_float half degrees_of drop_of in_fahrenheit near
near_worked = refl
