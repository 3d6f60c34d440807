-- Numbers as f64, in the library's account of IEEE 754. Assumes nothing.
use Rattle.std.specs.Prelude.{ℕ, pos, Float}
use Rattle.std.specs.Float.{binary64}
use Rattle.std.specs.Float.Ieee.{div, of_int}

-- A whole number.
unfoldable pub whole_float : ℕ → Float
whole_float n = of_int binary64 (pos n)

-- One half.
unfoldable pub half : Float
unfolding whole_float
half = div binary64 (whole_float 1) (whole_float 2)
