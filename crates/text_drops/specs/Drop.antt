-- A drop: the temperature at which a drum is emptied, in one of two scales, as an f64 (IEEE 754, binary64, in the library's account of it); and when
-- two drops are near enough to be the same (docs/RULES.md, 12.5 to 12.7).
-- Assumes nothing.
use Rattle.std.specs.Prelude.{ℕ, Bool, cond, ◌&&◌, eqb, Float}
use Rattle.std.specs.Float.{binary64}
use Rattle.std.specs.Float.Ieee.{add, sub, mul, div, neg, le}
use Rattle.floats.specs.Numbers.{whole_float, half}
use Rattle.text_drops.specs.declared.Drop.{Drop}
use Rattle.text_drops.specs.declared.Drop.TheVariants.{Celsius, Fahrenheit}

-- The scales that a drop can be written in.
pub data Scale : Type 0 where
  celsius : Scale
  fahrenheit : Scale

-- The unit byte of each, the letters C and F (rule 12.3).
abbrev pub unit_byte : Scale → ℕ
unit_byte celsius = 67
unit_byte fahrenheit = 70

-- Tenths of a degree as degrees, one division (rule 12.5).
unfoldable pub degrees_of : ℕ → Float
degrees_of tenths = div binary64 (whole_float tenths) (whole_float 10)

-- The drop that a scale and tenths of a degree say (rule 12.5).
unfoldable pub drop_of : Scale → ℕ → Drop
drop_of celsius tenths = Celsius (degrees_of tenths)
drop_of fahrenheit tenths = Fahrenheit (degrees_of tenths)

-- A drop in degrees Fahrenheit: a product, a quotient and a sum, and each of them is rounded (rule 12.6).
unfoldable pub in_fahrenheit : Drop → Float
in_fahrenheit (Celsius c) = add binary64 (div binary64 (mul binary64 c (whole_float 9)) (whole_float 5)) (whole_float 32)
in_fahrenheit (Fahrenheit f) = f

-- Two drops are near: the difference in Fahrenheit, rounded, is neither above a half nor below minus a half (rule 12.7).
unfoldable pub near : Drop → Drop → Bool
near a b =
    let difference = sub binary64 (in_fahrenheit a) (in_fahrenheit b) in
    le difference half && le (neg half) difference

-- The scale of a unit byte. For proved code alone, which calls it with one of the two.
abbrev pub scale_of : ℕ → Scale
scale_of unit = cond (eqb unit (unit_byte celsius)) celsius fahrenheit
