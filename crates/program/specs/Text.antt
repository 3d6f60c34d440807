-- Text as bytes: words, and numbers in decimal (rule 8.4).
-- Assumes nothing.
use Rattle.std.specs.Prelude.{ℕ, zero, suc, ◌+◌, ◌/◌, ◌%◌, List, [], ◌∷◌, ◌++◌, Bool, true, false, ltb}
use Prim.Native.Char.{code}
use Prim.Native.String.{String, [] as none, ◌∷◌ as ◌then◌}

-- The bytes of a quoted text, one for each letter.
unfoldable pub quoted : String → List ℕ
quoted none = []
quoted (c then s) = code c ∷ quoted s

-- A number in decimal, with no zero in front: below ten it is one digit (48 is the byte of `0`), else it is its tenth in decimal, then its last
-- digit. As many steps as the number says are enough.
unfoldable pub decimal_within : ℕ → Bool → ℕ → List ℕ
decimal_within zero small n = (48 + n) ∷ []
decimal_within (suc steps) true n = (48 + n) ∷ []
decimal_within (suc steps) false n = decimal_within steps (ltb (n / 10) 10) (n / 10) ++ ((48 + n % 10) ∷ [])

unfoldable pub decimal : ℕ → List ℕ
decimal n = decimal_within n (ltb n 10) n

-- A number behind a space.
abbrev pub spaced : ℕ → List ℕ
spaced n = quoted " " ++ decimal n

-- How many digits a number of 64 bits has at most.
abbrev pub most_digits : ℕ
most_digits = 20
