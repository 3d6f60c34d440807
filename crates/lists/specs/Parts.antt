-- Words on parts of lists. Lists are the library's, and so are `length`, `take`, `drop`, `replicate` and `◌++◌`.
-- Assumes nothing.
use Rattle.std.specs.Prelude.{ℕ, zero, suc, ◌+◌, ◌<◌, List, [], ◌∷◌, ◌++◌, Bool, true, ◌&&◌, length, take, drop, get_or, eqb}

module _ {A : Type 0} where
  -- The `count` elements of `l` from place `at` on, fewer where `l` ends sooner.
  unfoldable pub part : ℕ → ℕ → List A → List A
  part at count l = take count (drop at l)

  -- `l` with the whole of `v` written over it from place `at` on.
  unfoldable pub splice : ℕ → List A → List A → List A
  splice at v l = take at l ++ (v ++ drop (at + length v) l)

  -- f 0, f 1, .. up to f (n - 1).
  unfoldable pub tabulate : (ℕ → A) → ℕ → List A
  tabulate f zero = []
  tabulate f (suc n) = tabulate f n ++ (f n ∷ [])

-- What `f` makes of each element, put end to end.
unfoldable pub concat_map : {A B : Type 0} → (A → List B) → List A → List B
concat_map f [] = []
concat_map f (a ∷ l) = f a ++ concat_map f l

-- `p` holds of every number below n.
unfoldable pub every : (ℕ → Bool) → ℕ → Bool
every p zero = true
every p (suc n) = every p n && p n

-- Every element is zero.
unfoldable pub zeros : List ℕ → Bool
zeros [] = true
zeros (b ∷ l) = eqb b 0 && zeros l

-- The list is one of bytes: each element is below 256.
abbrev pub Bytes : List ℕ → Type 0
Bytes l = (i : ℕ) → get_or l i 0 < 256
