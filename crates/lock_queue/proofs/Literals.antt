-- The literals of a lease's limits, by their bit patterns, are the numbers of the definitions, by computation. Assumes nothing.
use mathlib.Core.Path.{◌≡◌, refl}
use lib.Ieee.{binary64, of_bits, of_int}
use Rattle.floats.specs.Numbers.{whole_float}

pub nought : of_bits binary64 0 ≡ whole_float 0
unfolding of_bits of_int whole_float
nought = refl

pub one : of_bits binary64 0x3ff0_0000_0000_0000 ≡ whole_float 1
unfolding of_bits of_int whole_float
one = refl

pub a_day : of_bits binary64 0x40f5_1800_0000_0000 ≡ whole_float 86400
unfolding of_bits of_int whole_float
a_day = refl

pub longest : of_bits binary64 0x41cd_cd65_0000_0000 ≡ whole_float 1000000000
unfolding of_bits of_int whole_float
longest = refl
