-- A slice as a part of a list. Assumes nothing.
use Prim.Native.Nat.{ℕ, ◌+◌, ◌-◌}
use native.Mathlib.Omega.{arith}
use mathlib.Core.Path.{◌≡◌}
use mathlib.Core.List.{List}
use lib.ListN.{take, drop}
use Rattle.lists.specs.Parts.{part}

module _ {A : Type 0} where
  -- A slice from `at` to `end` is a part.
  pub cut : (at n end : ℕ) (l : List A) → end ≡ at + n → take (end - at) (drop at l) ≡ part at n l
  unfolding part
  cut at n end l e = let long : end - at ≡ n = omega arith in rw long
