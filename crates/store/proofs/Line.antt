-- The numbers of a line. Assumes nothing.
use Prim.Native.Nat.{ℕ}
use mathlib.Core.Path.{◌≡◌}
use mathlib.Core.List.{List, ◌∷◌}
use borrow.Rule.Slice.PartMut.{put_mid}
use lib.ListN.{get_or, take, drop}
use lib.Seq.{drop-drop}
use Rattle.lists.specs.Parts.{splice}
use Rattle.guard.specs.declared.Answer.{Answer}
use Rattle.store.specs.Runs.{numbers_of}

-- A line is its first number and those behind it.
pub line_numbers : (a : Answer) {m fields : List ℕ} → m ≡ numbers_of a → fields ≡ take 7 (drop 1 m) → (get_or m 0 0 ∷ fields) ≡ numbers_of a
unfolding numbers_of
line_numbers a p q = rw (q, p)

-- A line that is written anew at a place is a splice.
pub written_line : (at : ℕ) (a : Answer) (new lines : List ℕ) → new ≡ numbers_of a → put_mid at 8 lines new ≡ splice at (numbers_of a) lines
unfolding splice numbers_of
written_line at a new lines e = rw (e, drop-drop)
