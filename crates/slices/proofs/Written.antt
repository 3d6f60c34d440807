-- What a write to a part of a slice leaves is a splice, and what the library reads and writes of fixed widths is `le` and `to_le`. Assumes nothing.
use Prim.Native.Nat.{ℕ, zero, suc, ◌+◌, ◌/◌, ◌^◌, ◌≤◌, ◌<◌}
use native.Mathlib.Omega.{arith}
use native.Mathlib.Nat.{div-one, div-div-eq-div-mul, pow-suc}
use mathlib.Core.Path.{◌≡◌, refl, sym, ap, ◌∙◌}
use mathlib.Core.List.{List, [], ◌∷◌}
use borrow.Rule.Slice.PartMut.{put_mid}
use lib.ListN.{length, take, get_or}
use lib.Seq.{drop-drop, take-suc, take-length, length-take-le}
use Rattle.std.specs.Int.{sum_through, byte_worth, bytes_low_first}
use Rattle.std.specs.Int.{w16, w32, w64, from_le_bytes, to_le_bytes}
use Rattle.lists.specs.Parts.{part, splice}
use Rattle.lists.proofs.Parts.{length_part}
use Rattle.lists.specs.Le.{le, to_le}
use Rattle.lists.proofs.Le.{le_append, length_to_le}

-- The n elements of `l` from place `at` on, written anew: `new` stands in their place.
pub written_part : {A : Type 0} (at n : ℕ) (new l v : List A) → new ≡ v → n ≡ length v → put_mid at n l new ≡ splice at v l
unfolding splice
written_part at n new l v e f = rw (e, f, drop-drop)

-- What the first k + 1 bytes are worth, each by its place.
worth : (k : ℕ) (l : List ℕ) → k < length l → sum_through (λ i. byte_worth i (get_or l i 0)) k ≡ le (take (suc k) l)
unfolding le
worth zero [] h = absurd (omega arith)
worth zero (b ∷ l) h = omega arith
worth (suc k) l h =
    let long : length (take (suc k) l) ≡ suc k = length-take-le (suc k) l (omega arith) in
    rw (take-suc l (suc k) 0 h, le_append (take (suc k) l) (get_or l (suc k) 0 ∷ []), long, worth k l (omega arith)) (omega arith)

-- What the library reads of k + 1 bytes.
pub read_fixed : (k : ℕ) (l : List ℕ) → length l ≡ suc k → sum_through (λ i. byte_worth i (get_or l i 0)) k ≡ le l
read_fixed k l e = worth k l (omega arith) ∙ rw (← e, take-length)

-- What the library writes of a number: count bytes, from byte i on.
low_first : (i count n : ℕ) → bytes_low_first i count n ≡ to_le count (n / 256 ^ i)
unfolding to_le
low_first i zero n = refl
low_first zero (suc count) n = rw (low_first 1 count n, div-one)
low_first (suc i) (suc count) n =
    let next : n / 256 ^ suc (suc i) ≡ n / 256 ^ suc i / 256 = ap (λ (p : ℕ). n / p) (pow-suc 256 (suc i)) ∙ sym (div-div-eq-div-mul n (256 ^ suc i) 256) in
    rw (low_first (suc (suc i)) count n, next)

pub write_fixed : (count n : ℕ) → bytes_low_first 0 count n ≡ to_le count n
write_fixed count n = low_first 0 count n ∙ rw div-one

-- Of the widths.
module _ (at : ℕ) (l : List ℕ) where
  pub read_part_2 : at + 2 ≤ length l → from_le_bytes w16 (part at 2 l) ≡ le (part at 2 l)
  read_part_2 h = read_fixed 1 (part at 2 l) (length_part at 2 l h)

  pub read_part_4 : at + 4 ≤ length l → from_le_bytes w32 (part at 4 l) ≡ le (part at 4 l)
  read_part_4 h = read_fixed 3 (part at 4 l) (length_part at 4 l h)

  pub read_part_8 : at + 8 ≤ length l → from_le_bytes w64 (part at 8 l) ≡ le (part at 8 l)
  read_part_8 h = read_fixed 7 (part at 8 l) (length_part at 8 l h)

module _ (at n count : ℕ) (new bytes l : List ℕ) where
  pub write_part_2 : new ≡ bytes → bytes ≡ to_le_bytes w16 n → count ≡ 2 → put_mid at count l new ≡ splice at (to_le 2 n) l
  write_part_2 e f g = written_part at count new l (to_le 2 n) (e ∙ f ∙ write_fixed 2 n) (g ∙ sym (length_to_le 2 n))

  pub write_part_4 : new ≡ bytes → bytes ≡ to_le_bytes w32 n → count ≡ 4 → put_mid at count l new ≡ splice at (to_le 4 n) l
  write_part_4 e f g = written_part at count new l (to_le 4 n) (e ∙ f ∙ write_fixed 4 n) (g ∙ sym (length_to_le 4 n))

  pub write_part_8 : new ≡ bytes → bytes ≡ to_le_bytes w64 n → count ≡ 8 → put_mid at count l new ≡ splice at (to_le 8 n) l
  write_part_8 e f g = written_part at count new l (to_le 8 n) (e ∙ f ∙ write_fixed 8 n) (g ∙ sym (length_to_le 8 n))
