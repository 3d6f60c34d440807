-- The digits that the kit makes of a number are its decimal. Assumes nothing.
use Prim.Native.Nat.{ℕ, zero, suc, ◌+◌, ◌-◌, ◌*◌, ◌/◌, ◌%◌, ◌^◌, ◌≤◌, ◌<◌}
use native.Mathlib.Omega.{arith}
use native.Mathlib.Nat.{pow-suc, one-le-pow, mod-lt, mod-eq_of_lt, le-div_iff_mul-le, div-lt_iff_lt-mul, pow-le-pow_right, le_of_suc-le-suc, lt_of_not-le}
use mathlib.Core.Path.{◌≡◌}
use lib.Dec.{ltb, lit<}
use borrow.Author.Tests.{lt-ltb, le-ltb}
use Rattle.io.specs.Digits.{hex_digit_ascii, last_digits, IsDigitCount}
use Rattle.program.specs.Text.{decimal_within, decimal}

glyph_low : (d : ℕ) → d < 10 → hex_digit_ascii d ≡ 48 + d
glyph_low d h = rw (lt-ltb d 10 h)

-- As many steps more as one likes.
within : (k f n : ℕ) → n ≤ f → n < 10 ^ suc k → (0 < k → 10 ^ k ≤ n) → last_digits 10 (suc k) n ≡ decimal_within f (ltb n 10) n
unfolding decimal_within
within zero zero n h small large =
    let low : n < 10 = omega arith in
    rw (mod-eq_of_lt low, glyph_low n low)
within zero (suc f) n h small large =
    let low : n < 10 = omega arith in
    rw (lt-ltb n 10 low, mod-eq_of_lt low, glyph_low n low)
within (suc k) zero n h small large =
    let one = one-le-pow (suc k) 10 (lit< tt) in
    let big : 10 ^ suc k ≤ n = large (omega arith) in
    absurd (omega arith)
within (suc k) (suc f) n h small large =
    let p : 10 ^ suc k ≡ 10 ^ k * 10 = pow-suc 10 k in
    let q : 10 ^ suc (suc k) ≡ 10 ^ suc k * 10 = pow-suc 10 (suc k) in
    let one = one-le-pow k 10 (lit< tt) in
    let big : 10 ^ suc k ≤ n = large (omega arith) in
    let high : 10 ≤ n = omega arith in
    let a : n / 10 < 10 ^ suc k = (div-lt_iff_lt-mul {k = 10} (lit< tt)).1 (rw q at small) in
    let b : 10 ^ k ≤ n / 10 = (le-div_iff_mul-le {k = 10} (lit< tt)).1 (rw p at big) in
    rw (le-ltb n 10 high, glyph_low (n % 10) (mod-lt n (lit< tt)), within k f (n / 10) (omega arith) a (λ _. b))

pub decimal_digits : (n k : ℕ) → IsDigitCount 10 1 n k → last_digits 10 k n ≡ decimal n
unfolding decimal
decimal_digits n zero f = absurd (omega (arith, f.0))
decimal_digits n (suc k) f = within k n n (omega arith) f.1 (λ h. go (f.2 (omega arith)))
  where
    go : 10 ^ (suc k - 1) ≤ n → 10 ^ k ≤ n
    go h = let one : suc k - 1 ≡ k = omega arith in rw one at h

-- A number of 64 bits has at most twenty digits.
pub few_digits : (n k : ℕ) → n < 2 ^ 64 → IsDigitCount 10 1 n k → k ≤ 20
few_digits n k h f = le_of_suc-le-suc (lt_of_not-le many)
  where
    many : 20 < k → ⊥
    many over =
        let p : 10 ^ (k - 1) ≤ n = f.2 (omega arith) in
        let r : 20 ≤ k - 1 = omega arith in
        let q : 10 ^ 20 ≤ 10 ^ (k - 1) = pow-le-pow_right (lit< tt) r in
        omega arith
