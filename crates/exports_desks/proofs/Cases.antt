-- The worked cases of arrays and numbers, by computation. Assumes nothing.
use mathlib.Core.Path.{refl}
use Rattle.exports_desks.specs.Cases.{NumberCases}

pub number_cases : NumberCases
number_cases = record { pair_read = refl; pair_written = refl; known = refl; expiry = refl }
