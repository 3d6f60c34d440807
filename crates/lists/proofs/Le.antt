-- Laws of little-endian numbers. Assumes nothing.
use Prim.Native.Nat.{ℕ, zero, suc, ◌+◌, ◌-◌, ◌*◌, ◌/◌, ◌%◌, ◌^◌, ◌≤◌, ◌<◌}
use native.Mathlib.Omega.{arith}
use native.Mathlib.Nat.{pow-suc, pow-le-pow_right, lt_of_lt_of_le, mod-lt, div-lt_iff_lt-mul, div-add-mod', mul_assoc, add_assoc, add-mul}
use mathlib.Core.Path.{◌≡◌, refl, sym, ap, ◌∙◌}
use mathlib.Core.List.{List, [], ◌∷◌, ◌++◌}
use mathlib.Core.Bool.{◌&&◌}
use lib.ListN.{length, drop, get_or, replicate, length-take}
use lib.Seq.{drop-cons}
use lib.Arith.{digits_lt, digits_div, digits_mod}
use lib.Dec.{T, eqb, lit<, eqb→eq}
use Rattle.lists.specs.Parts.{part, zeros, Bytes}
use Rattle.lists.specs.Le.{le, to_le}
use Rattle.lists.proofs.Bytes.{Bytes_nil, Bytes_cons, Bytes_part}
use Rattle.lists.proofs.Parts.{drop_left, length_part, get_d_part}
use Rattle.lists.proofs.Tests.{same, T_and, T_and_left, T_and_right, eq→eqb}

-- One more byte below, and fewer bytes than k.
pub digit : (k : ℕ) {n b : ℕ} → n < 256 ^ k → b < 256 → n * 256 + b < 256 ^ suc k
digit k h g = rw pow-suc (digits_lt h g)

pub fewer : (j k : ℕ) {n : ℕ} → n < 256 ^ j → j ≤ k → n < 256 ^ k
fewer j k h g = lt_of_lt_of_le h (pow-le-pow_right (lit< tt) g)

-- The bytes from place j of a part on, by the byte there and those after it.
pub le_from : (at n j : ℕ) (l : List ℕ) → at + n ≤ length l → j < n →
    le (drop j (part at n l)) ≡ le (drop (suc j) (part at n l)) * 256 + get_or l (at + j) 0
unfolding le
le_from at n j l fits below =
    let long : j < length (part at n l) = rw (length_part at n l fits) below in
    rw (drop-cons (part at n l) j 0 long, get_d_part at n l j 0 below)

pub to_le_left : {i count : ℕ} (n : ℕ) → i < count → to_le (count - i) n ≡ n % 256 ∷ to_le (count - (i + 1)) (n / 256)
unfolding to_le
to_le_left {i} {count} n h = let one : count - i ≡ suc (count - (i + 1)) = omega arith in rw one

-- ---- sizes

pub length_to_le : (count n : ℕ) → length (to_le count n) ≡ count
unfolding to_le
length_to_le zero n = refl
length_to_le (suc count) n = ap suc (length_to_le count (n / 256))

pub Bytes_to_le : (count n : ℕ) → Bytes (to_le count n)
unfolding to_le
Bytes_to_le zero n = Bytes_nil
Bytes_to_le (suc count) n = Bytes_cons (to_le count (n / 256)) (mod-lt n (lit< tt)) (Bytes_to_le count (n / 256))

pub le_bound : (l : List ℕ) → Bytes l → le l < 256 ^ length l
unfolding le
le_bound [] h = lit< tt
le_bound (b ∷ l) h = digit (length l) (le_bound l (λ i. h (suc i))) (h zero)

pub le_part_bound : (at n : ℕ) (l : List ℕ) → Bytes l → le (part at n l) < 256 ^ n
unfolding part
le_part_bound at n l h =
    fewer (length (part at n l)) n (le_bound (part at n l) (Bytes_part at n l h)) (simp length-take (omega arith))

-- ---- both round trips

pub le_to_le : (count n : ℕ) → n < 256 ^ count → le (to_le count n) ≡ n
unfolding le to_le
le_to_le zero n h = omega arith
le_to_le (suc count) n h =
    let more : n / 256 < 256 ^ count = (div-lt_iff_lt-mul (lit< tt)).1 (rw pow-suc at h) in
    rw (le_to_le count (n / 256) more) (div-add-mod' n 256)

pub to_le_le : (l : List ℕ) → Bytes l → to_le (length l) (le l) ≡ l
unfolding le to_le
to_le_le [] h = refl
to_le_le (b ∷ l) h = rw (digits_mod (le l) (h zero), digits_div (le l) (h zero), to_le_le l (λ i. h (suc i)))

-- Two lists of bytes of one length that stand for the same number are the same.
pub le_injective : (a b : List ℕ) → Bytes a → Bytes b → length a ≡ length b → le a ≡ le b → a ≡ b
le_injective a b h k e f = sym (to_le_le a h) ∙ rw (e, f) (to_le_le b k)

-- Two numbers that fit and have the same bytes are the same.
pub to_le_injective : (count m n : ℕ) → m < 256 ^ count → n < 256 ^ count → to_le count m ≡ to_le count n → m ≡ n
to_le_injective count m n h k e = sym (le_to_le count m h) ∙ ap le e ∙ le_to_le count n k

-- ---- one byte, two numbers end to end, and zero

pub le_one : (at : ℕ) (l : List ℕ) → at < length l → le (part at 1 l) ≡ get_or l at 0
unfolding le part
le_one at l h = rw (drop_left l 0 h) (omega arith)

pub le_append : (a b : List ℕ) → le (a ++ b) ≡ le b * 256 ^ length a + le a
unfolding le
le_append [] b = omega arith
le_append (x ∷ a) b = rw (le_append a b, pow-suc) (rw (add-mul, mul_assoc, add_assoc))

-- The number is zero exactly when every byte is.
pub le_zero : (l : List ℕ) → eqb (le l) 0 ≡ zeros l
unfolding le zeros
le_zero [] = refl
le_zero (b ∷ l) = same (eqb (le l * 256 + b) 0) (eqb b 0 && zeros l) (there (le_zero l)) (back (le_zero l))
  where
    there : eqb (le l) 0 ≡ zeros l → T (eqb (le l * 256 + b) 0) → T (eqb b 0 && zeros l)
    there e t =
        let none : le l * 256 + b ≡ 0 = eqb→eq (le l * 256 + b) 0 t in
        T_and (eqb b 0) (zeros l) (eq→eqb b 0 (omega arith)) (rw e at (eq→eqb (le l) 0 (omega arith)))

    back : eqb (le l) 0 ≡ zeros l → T (eqb b 0 && zeros l) → T (eqb (le l * 256 + b) 0)
    back e t =
        let low : b ≡ 0 = eqb→eq b 0 (T_and_left (eqb b 0) (zeros l) t) in
        let high : le l ≡ 0 = eqb→eq (le l) 0 (rw e (T_and_right (eqb b 0) (zeros l) t)) in
        eq→eqb (le l * 256 + b) 0 (omega arith)

pub to_le_zero : (count : ℕ) → to_le count 0 ≡ replicate count 0
unfolding to_le
to_le_zero zero = refl
to_le_zero (suc count) = ap (λ (m : List ℕ). 0 ∷ m) (to_le_zero count)
