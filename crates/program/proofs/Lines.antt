-- Laws of lines. Assumes nothing.
use Prim.Native.Nat.{ℕ, ◌+◌, ◌≤◌, ◌<◌}
use mathlib.Core.Path.{◌≡◌}
use mathlib.Core.List.{List, [], ◌++◌}
use lib.ListN.{length, drop, get_or, drop_of_length-le}
use Rattle.lists.specs.Parts.{concat_map}
use Rattle.lists.proofs.Parts.{drop_left}
use Rattle.program.specs.Text.{spaced}

-- The numbers from place i on, by the first of them, and behind the last.
pub numbers_left : (l : List ℕ) {i : ℕ} → i < length l → concat_map spaced (drop i l) ≡ spaced (get_or l i 0) ++ concat_map spaced (drop (i + 1) l)
unfolding concat_map
numbers_left l h = rw (drop_left l 0 h)

pub numbers_end : (l : List ℕ) {i : ℕ} → length l ≤ i → concat_map spaced (drop i l) ≡ []
unfolding concat_map
numbers_end l h = rw (drop_of_length-le l h)
