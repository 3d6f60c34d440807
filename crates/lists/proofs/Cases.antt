-- Worked cases of each word. Assumes nothing.
use mathlib.Core.Path.{◌≡◌, refl}
use mathlib.Core.List.{[], ◌∷◌}
use mathlib.Core.Bool.{true, false}
use lib.Dec.{ltb}
use Prim.Native.Nat.{ℕ, ◌*◌}
use Rattle.lists.specs.Parts.{part, splice, tabulate, concat_map, every, zeros}
use Rattle.lists.specs.Search.{any, none, filter, since, last}
use Rattle.lists.specs.Table.{all_from, all, listed}

part_inside : part {A = ℕ} 1 2 (7 ∷ 8 ∷ 9 ∷ 10 ∷ []) ≡ 8 ∷ 9 ∷ []
unfolding part
part_inside = refl

part_past : part {A = ℕ} 3 2 (7 ∷ 8 ∷ 9 ∷ 10 ∷ []) ≡ 10 ∷ []
unfolding part
part_past = refl

splice_inside : splice {A = ℕ} 1 (1 ∷ 2 ∷ []) (7 ∷ 8 ∷ 9 ∷ 10 ∷ []) ≡ 7 ∷ 1 ∷ 2 ∷ 10 ∷ []
unfolding splice
splice_inside = refl

three_squares : tabulate (λ i. i * i) 3 ≡ 0 ∷ 1 ∷ 4 ∷ []
unfolding tabulate
three_squares = refl

concat_map_pairs : concat_map (λ (n : ℕ). n ∷ n * n ∷ []) (2 ∷ 3 ∷ []) ≡ 2 ∷ 4 ∷ 3 ∷ 9 ∷ []
unfolding concat_map
concat_map_pairs = refl

every_below : every (λ i. ltb i 3) 3 ≡ true
unfolding every
every_below = refl

not_every_below : every (λ i. ltb i 3) 4 ≡ false
unfolding every
not_every_below = refl

one_is_set : zeros (0 ∷ 1 ∷ 0 ∷ []) ≡ false
unfolding zeros
one_is_set = refl

one_test_fails : all (true ∷ false ∷ true ∷ []) ≡ false
unfolding all all_from
one_test_fails = refl

large_among : any (λ n. ltb 5 n) (1 ∷ 7 ∷ 2 ∷ []) ≡ true
large_among = refl

none_large : none (λ n. ltb 5 n) (1 ∷ 2 ∷ []) ≡ true
none_large = refl

filter_large : filter (λ n. ltb 5 n) (1 ∷ 7 ∷ 2 ∷ 8 ∷ []) ≡ 7 ∷ 8 ∷ []
filter_large = refl

since_large : since (λ n. ltb 5 n) (1 ∷ 2 ∷ 7 ∷ 3 ∷ []) ≡ 1 ∷ 2 ∷ []
since_large = refl

last_large : last (λ n. ltb 5 n) (λ n. n * n) 0 (1 ∷ 7 ∷ 8 ∷ []) ≡ 49
last_large = refl

no_last : last (λ n. ltb 5 n) (λ n. n * n) 3 (1 ∷ 2 ∷ []) ≡ 3
no_last = refl

number_listed : listed (3 ∷ 5 ∷ []) 5 ≡ true
number_listed = refl

zero_listed : listed (3 ∷ 5 ∷ []) 0 ≡ true
zero_listed = refl

number_unlisted : listed (3 ∷ 5 ∷ []) 4 ≡ false
number_unlisted = refl
