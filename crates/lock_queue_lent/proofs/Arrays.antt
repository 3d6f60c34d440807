-- A loop that fills an array from its first element on. Assumes nothing.
use Prim.Native.Nat.{ℕ, zero, suc, ◌+◌, ◌≤◌, ◌<◌}
use native.Mathlib.Omega.{arith}
use native.Mathlib.Nat.{zero-add, not-suc-le-zero, le_of_suc-le-suc}
use mathlib.Core.Path.{◌≡◌, refl, ap, ◌∙◌}
use mathlib.Core.List.{List, [], ◌∷◌, map}
use lib.ListN.{length, drop, get_or, set, drop_of_length-le}
use Rattle.lists.proofs.Parts.{drop_left, splice_whole}
use Rattle.slices.proofs.Loops.{Writing, writing_none, writing_more, writing_done}

module _ {A : Type 0} where
  -- The first i elements of v stand in `s`, an array as long as v.
  pub record Filling (v s : List A) (i : ℕ) : Type 0 where
    pub start : List A
    pub long : length v ≡ length start
    pub written : Writing 0 i v (drop i v) start s

  pub filling_none : (v s : List A) → length v ≡ length s → Filling v s 0
  filling_none v s e = record { start = s; long = e; written = writing_none 0 v s }

  pub filling_more : {v s : List A} {i : ℕ} (d a : A) → Filling v s i → i < length v → get_or v i d ≡ a → Filling v (set s i a) (i + 1)
  filling_more {v} {s} {i} d a f h e =
      record {
        start = f.start;
        long = f.long;
        written = rw zero-add at (writing_more a (drop (i + 1) v) f.written (drop_left v d h ∙ ap (λ (b : A). b ∷ drop (i + 1) v) e) (omega (arith, f.long, f.written.long)));
      }

  pub filling_done : {v s : List A} {i : ℕ} → Filling v s i → length v ≤ i → s ≡ v
  filling_done {v} f h = writing_done f.written (drop_of_length-le v h) ∙ splice_whole v f.start f.long

pub get_d_map : {A B : Type 0} (f : A → B) (l : List A) (i : ℕ) (d : A) (e : B) → i < length l → get_or (map f l) i e ≡ f (get_or l i d)
get_d_map f [] i d e h = absurd (not-suc-le-zero h)
get_d_map f (a ∷ l) zero d e h = refl
get_d_map f (a ∷ l) (suc i) d e h = get_d_map f l i d e (le_of_suc-le-suc h)
