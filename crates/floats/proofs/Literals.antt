-- The literals of the code, by their bit patterns, are the numbers of the definitions, by computation. Assumes nothing.
use mathlib.Core.Path.{◌≡◌, refl}
use lib.Ieee.{binary64, of_bits, of_int, div}
use Rattle.floats.specs.Numbers.{whole_float, half}

pub five : of_bits binary64 0x4014_0000_0000_0000 ≡ whole_float 5
unfolding of_bits of_int whole_float
five = refl

pub nine : of_bits binary64 0x4022_0000_0000_0000 ≡ whole_float 9
unfolding of_bits of_int whole_float
nine = refl

pub ten : of_bits binary64 0x4024_0000_0000_0000 ≡ whole_float 10
unfolding of_bits of_int whole_float
ten = refl

pub thirty_two : of_bits binary64 0x4040_0000_0000_0000 ≡ whole_float 32
unfolding of_bits of_int whole_float
thirty_two = refl

pub one_half : of_bits binary64 0x3fe0_0000_0000_0000 ≡ half
unfolding of_bits of_int div whole_float half
one_half = refl
