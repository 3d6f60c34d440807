-- The claims on little-endian numbers, and worked cases. Assumes nothing.
use mathlib.Core.Path.{◌≡◌, refl}
use mathlib.Core.List.{[], ◌∷◌}
use Rattle.lists.specs.Le.{le, to_le}
use Rattle.lists.specs.Claims.{NumberComesBack, DigitsComeBack, NumberFits}
use Rattle.lists.proofs.Le.{le_to_le, to_le_le, le_bound}

pub number_comes_back : NumberComesBack
number_comes_back = le_to_le

pub bytes_come_back : DigitsComeBack
bytes_come_back = to_le_le

pub number_fits : NumberFits
number_fits = le_bound

-- ---- worked cases

read_four : le (1 ∷ 2 ∷ 3 ∷ 4 ∷ []) ≡ 0x04030201
unfolding le
read_four = refl

-- The stamp 1.1.0 of case P, as its eight bytes.
write_eight : to_le 8 4295032832 ≡ 0 ∷ 0 ∷ 1 ∷ 0 ∷ 1 ∷ 0 ∷ 0 ∷ 0 ∷ []
unfolding to_le
write_eight = refl

too_large : to_le 2 0x12345 ≡ 0x45 ∷ 0x23 ∷ []
unfolding to_le
too_large = refl
