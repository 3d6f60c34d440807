-- Laws of `every`. Assumes nothing.
use Prim.Native.Nat.{ℕ, zero, suc, ◌+◌, ◌<◌}
use native.Mathlib.Omega.{arith}
use native.Mathlib.Nat.{le_of_suc-le-suc, not-suc-le-zero, eq-or-lt_of_le}
use native.Mathlib.Numerals.{add-one}
use mathlib.Core.Path.{◌≡◌, refl}
use mathlib.Core.Logic.{◌⊎◌, inl, inr}
use mathlib.Core.Bool.{Bool, true, false, ◌&&◌, true≢false}
use Rattle.lists.specs.Parts.{every}
use Rattle.lists.proofs.Tests.{and_in, and_left, and_right, and_fails, never_both, from_T, to_false}

-- `every p n` holds exactly when p holds of each number below n.
pub every_in : (p : ℕ → Bool) (n : ℕ) → ((i : ℕ) → i < n → p i ≡ true) → every p n ≡ true
unfolding every
every_in p zero h = refl
every_in p (suc n) h = and_in (every_in p n (λ i k. h i (omega arith))) (h n (omega arith))

pub every_out : (p : ℕ → Bool) (n : ℕ) → every p n ≡ true → (i : ℕ) → i < n → p i ≡ true
unfolding every
every_out p zero e i h = absurd (not-suc-le-zero h)
every_out p (suc n) e i h = go (eq-or-lt_of_le (le_of_suc-le-suc h)) (every_out p n (and_left (every p n) (p n) e) i)
  where
    go : (i ≡ n) ⊎ (i < n) → (i < n → p i ≡ true) → p i ≡ true
    go (inl q) below = rw q (and_right (every p n) (p n) e)
    go (inr k) below = below k

-- A loop that asks one number after the other: none is asked, one more holds, one fails.
pub every_none : (p : ℕ → Bool) → every p 0 ≡ true
unfolding every
every_none p = refl

pub every_more : (p : ℕ → Bool) (n : ℕ) → every p n ≡ true → p n ≡ true → every p (n + 1) ≡ true
unfolding every
every_more p n e f = rw add-one (and_in e f)

pub every_fail : (p : ℕ → Bool) (n i : ℕ) → i < n → p i ≡ false → every p n ≡ false
every_fail p n i h f = to_false (every p n) (λ t. never_both (every_out p n (from_T (every p n) t) i h) f)

pub every_ext : (p q : ℕ → Bool) (n : ℕ) → ((i : ℕ) → i < n → p i ≡ q i) → every p n ≡ every q n
unfolding every
every_ext p q zero h = refl
every_ext p q (suc n) h = rw (every_ext p q n (λ i k. h i (omega arith)), h n (omega arith))

pub every_and : (p q : ℕ → Bool) (n : ℕ) → every (λ (i : ℕ). p i && q i) n ≡ (every p n && every q n)
unfolding every
every_and p q zero = refl
every_and p q (suc n) = rw (every_and p q n) (shuffle (every p n) (every q n) (p n) (q n))
  where
    shuffle : (a b c d : Bool) → (a && b && (c && d)) ≡ (a && c && (b && d))
    shuffle true true c d = refl
    shuffle true false true d = refl
    shuffle true false false d = refl
    shuffle false b c d = refl

-- Where not every one holds, there is one below n that fails.
pub every_fails : (p : ℕ → Bool) (n : ℕ) → every p n ≡ false → (i : ℕ) × (i < n) × (p i ≡ false)
unfolding every
every_fails p zero e = absurd (true≢false e)
every_fails p (suc n) e = go (and_fails (every p n) (p n) e) (every_fails p n)
  where
    go : (every p n ≡ false) ⊎ ((every p n ≡ true) × (p n ≡ false)) → (every p n ≡ false → (i : ℕ) × (i < n) × (p i ≡ false)) → (i : ℕ) × (i < suc n) × (p i ≡ false)
    go (inl f) below = let found = below f in (found.0, omega arith, found.2)
    go (inr f) below = (n, omega arith, f.1)
