-- The loops of this crate: what each has done when it has some elements left. Assumes nothing.
use Prim.Native.Nat.{ℕ, suc, ◌+◌, ◌-◌, ◌*◌, ◌^◌, ◌≤◌, ◌<◌}
use native.Mathlib.Omega.{arith}
use native.Mathlib.Nat.{add-zero, sub-zero, one-le-pow, pow-suc}
use mathlib.Core.Path.{◌≡◌, refl, sym, ap, ◌∙◌}
use mathlib.Core.List.{List, [], ◌∷◌, ◌++◌}
use mathlib.Core.Bool.{Bool, true, false, ◌&&◌}
use lib.Dec.{eqb, lit<}
use lib.ListN.{length, drop, get_or, set, replicate, length-set, length-append, drop_of_length-le}
use Rattle.lists.specs.Parts.{splice, zeros}
use Rattle.lists.specs.Le.{le}
use Rattle.lists.proofs.Parts.{drop_left, splice_nil, splice_cons}
use Rattle.lists.proofs.Le.{le_append, digit, fewer}

-- A loop that writes v over s₀ from place `at` on, one element after the other: it has made `s` when it has written i elements,
-- and `rest` is what is left to write.
pub record Writing {A : Type 0} (at i : ℕ) (v rest s₀ s : List A) : Type 0 where
  pub long : length s ≡ length s₀
  pub left : splice (at + i) rest s ≡ splice at v s₀

module _ {A : Type 0} where
  pub writing_none : (at : ℕ) (v s : List A) → Writing at 0 v v s s
  writing_none at v s = record { long = refl; left = rw add-zero }

  pub writing_more : {at i : ℕ} {v rest s₀ s : List A} (a : A) (more : List A) → Writing at i v rest s₀ s → rest ≡ a ∷ more → at + i < length s →
      Writing at (i + 1) v more s₀ (set s (at + i) a)
  writing_more {at} {i} {s = s} a more w e h =
      let place : at + (i + 1) ≡ at + i + 1 = omega arith in
      record { long = length-set s (at + i) a ∙ w.long; left = rw (place, splice_cons, ← e) w.left }

  pub writing_done : {at i : ℕ} {v rest s₀ s : List A} → Writing at i v rest s₀ s → rest ≡ [] → s ≡ splice at v s₀
  writing_done {at} {i} {s = s} w e = sym (splice_nil (at + i) s) ∙ rw e at w.left

  -- What is left of a repeat, by its first element.
  pub replicate_left : (a : A) {i n : ℕ} → i < n → replicate (n - i) a ≡ a ∷ replicate (n - (i + 1)) a
  replicate_left a {i} {n} h = let one : n - i ≡ suc (n - (i + 1)) = omega arith in rw one

-- A loop that reads the number of count bytes, from the last byte down: `rest` is what it has still to read, and `sum` the number of what stands behind.
pub record Reading (count sum : ℕ) (rest bytes : List ℕ) : Type 0 where
  pub within : length rest ≤ count
  pub reads : sum * 256 ^ length rest + le rest ≡ le bytes
  pub small : sum < 256 ^ (count - length rest)

pub reading_none : {count : ℕ} (bytes : List ℕ) → length bytes ≡ count → Reading count 0 bytes bytes
reading_none {count} bytes e =
    record {
      within = omega arith;
      reads = omega arith;
      small = one-le-pow (count - length bytes) 256 (lit< tt);
    }

pub reading_more : {count sum b : ℕ} {rest bytes : List ℕ} (more : List ℕ) → Reading count sum rest bytes → rest ≡ more ++ (b ∷ []) → b < 256 →
    Reading count (sum * 256 + b) more bytes
unfolding le
reading_more {count} {sum} {b} {rest} {bytes} more r e byte =
    let long : length rest ≡ suc (length more) = ap length e ∙ length-append more (b ∷ []) ∙ omega arith in
    let left : suc (count - length rest) ≡ count - length more = omega (arith, r.within) in
    let last : le rest ≡ (0 + b) * 256 ^ length more + le more = ap le e ∙ le_append more (b ∷ []) in
    let parts : sum * (256 ^ length more * 256) + ((0 + b) * 256 ^ length more + le more) ≡ le bytes = rw (long, last, pow-suc) at r.reads in
    record {
      within = omega (arith, r.within);
      reads = omega arith;
      small = rw left at (digit (count - length rest) r.small byte);
    }

-- With a byte left of at most 8, the sum has room for one more.
pub reading_room : {count sum : ℕ} {rest bytes : List ℕ} (more : List ℕ) (b : ℕ) → Reading count sum rest bytes → rest ≡ more ++ (b ∷ []) → count ≤ 8 → sum < 256 ^ 7
reading_room {count} {rest = rest} more b r e few =
    let long : length rest ≡ suc (length more) = ap length e ∙ length-append more (b ∷ []) ∙ omega arith in
    fewer (count - length rest) 7 r.small (omega arith)

pub reading_done : {count sum : ℕ} {rest bytes : List ℕ} → Reading count sum rest bytes → length rest ≡ 0 → (sum ≡ le bytes) × (sum < 256 ^ count)
unfolding le
reading_done {rest = []} r e = (sym (sym r.reads ∙ omega arith), rw sub-zero at r.small)
reading_done {rest = b ∷ l} r e = absurd (omega arith)

-- A loop that asks whether every element is zero: `z` says so of those before place i, and those from there on decide the rest.
pub zeros_more : (z : Bool) (i : ℕ) (l : List ℕ) → i < length l → (z && zeros (drop i l)) ≡ (z && eqb (get_or l i 0) 0 && zeros (drop (i + 1) l))
unfolding zeros
zeros_more true i l h = rw (drop_left l 0 h)
zeros_more false i l h = refl

pub zeros_done : (z : Bool) (i : ℕ) (l : List ℕ) → length l ≤ i → (z && zeros (drop i l)) ≡ z
unfolding zeros
zeros_done true i l h = rw (drop_of_length-le l h)
zeros_done false i l h = refl

-- Nothing written leaves everything.
pub none_written : (at : ℕ) (v l : List ℕ) → length v ≡ 0 → l ≡ splice at v l
none_written at [] l e = sym (splice_nil at l)
none_written at (a ∷ v) l e = absurd (omega arith)
