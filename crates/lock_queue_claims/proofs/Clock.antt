-- Laws of f64 for leases: a valid wait is not below its period, the difference of two times is not above zero where the
-- clock went back and grows with the later one, and what is no number is out of range. Assumes nothing.
use Prim.Native.Nat.{ℕ, zero, suc, ◌+◌, ◌-◌, ◌*◌, ◌%◌, ◌^◌, ◌≤◌, ◌<◌}
use native.Mathlib.Nat.{
  mul-one,
  mul_assoc,
  mul_comm,
  mul_left_comm,
  mul-sub,
  zero-mul,
  mul-pos,
  le_trans,
  le_of_eq,
  lt_of_lt_of_le,
  not-le_of_lt,
  mul-le-mul_left,
  mul-le-mul_right,
  add_comm,
  sub-add_cancel,
}
use native.Mathlib.Omega.{arith}
use mathlib.Core.Path.{◌≡◌, refl, sym, ap, subst, ◌∙◌}
use mathlib.Core.Bool.{Bool, true, false, cond, ◌&&◌, ◌||◌}
use mathlib.Core.Logic.{◌⊎◌, inl, inr}
use borrow.Author.Tests.{leb-true, leb-false, ltb-true, ltb-false, le-ltb}
use Rattle.lists.proofs.Tests.{cases, T_or_cases}
use lib.IntN.{ℤ, pos, negsuc}
use lib.Dec.{T, ltb, leb, eqb, ltb→lt, lt→ltb, leb→le, eqb→eq, eqb-suc-zero}
use lib.Pow.{pow-add, pow_pos, pow_mono, pow-lt, shl_lt}
use lib.Ieee.{Float, nan, inf, fin, Format, binary64, prec, emax, low, up, down, odd, units, round, sum, add, sub, mul, div, lt, le, fits, of_int}
use lib.Ieee.Fits.{reach, down_pos, and_l, and_r}
use lib.Ieee.Exact.{HasValue, round_exact}
use lib.Ieee.Order.{le_of_values, round_mono}
use lib.Ieee.Positive.{num, den, den_pos, positive, own_value, value_pos, above, above_of_le, le→cross, le_trans_positive, through}
use lib.Ieee.Scale.{finite}
use Rattle.floats.specs.Numbers.{whole_float, half}
use Rattle.lock_queue.specs.declared.Lease.{Lease}
use Rattle.lock_queue.specs.declared.LeaseExpiry.{LeaseExpiry}
use Rattle.lock_queue.specs.Lease.{valid_term, valid_time, wait, in_range}
use Rattle.lock_queue_claims.specs.Stability.{OverForGood, WaitsPeriod}

-- ---- a negative rounding is not above zero
units_negative : (f : Format) (q k : ℕ) → T (above (units f true q k)) → ⊥
unfolding units odd
units_negative f q k = go (ltb (q * 2 ^ k) (2 ^ (low f + suc (emax f)))) q
  where
    go : (b : Bool) (r : ℕ) → T (above (cond b (odd (suc (prec f)) true r k (low f)) (inf true))) → ⊥
    go true zero t = t
    go true (suc r) t = t
    go false r t = t

round_negative : (f : Format) (a c : ℕ) → T (above (round f true a c)) → ⊥
unfolding round
round_negative f a c t = units_negative f _ _ t

-- ---- what is at least a value above zero is above zero
pub above_le : (w d : Float) → T (above w) → T (le w d) → T (above d)
unfolding le
above_le nan d a h = absurd a
above_le (inf true) d a h = absurd a
above_le (inf false) nan a h = absurd h
above_le (inf false) (inf true) a h = absurd h
above_le (inf false) (inf false) a h = tt
above_le (inf false) (fin t n d) a h = absurd h
above_le (fin true m e) d a h = absurd a
above_le (fin false m e) d a h = above_of_le (fin false m e) d a h

-- ---- the difference where the clock went back
finite_sub : (f : Format) (s : Bool) (m : ℕ) (e : ℤ) (t : Bool) (n : ℕ) (d : ℤ) → T (lt (fin s m e) (fin t n d)) → T (above (sub f (fin s m e) (fin t n d))) → ⊥
unfolding lt sub sum
finite_sub f false m e false n d h a = go (ltb (m * up e * down d) (n * up d * down e)) h a
  where
    go : (b : Bool) → T b → T
        (above (cond b (round f true (n * up d * down e - m * up e * down d) (down e * down d))
        (round f (false && ltb (n * up d * down e) (m * up e * down d)) (m * up e * down d - n * up d * down e) (down e * down d)))) → ⊥
    go true t a = round_negative f (n * up d * down e - m * up e * down d) (down e * down d) a
    go false t a = t
finite_sub f false m e true n d h a = h
finite_sub f true m e false n d h a = round_negative f _ _ a
finite_sub f true m e true n d h a =
    go (ltb (m * up e * down d) (n * up d * down e)) (ltb (n * up d * down e) (m * up e * down d)) (ltb→lt (m * up e * down d) (n * up d * down e)) (ltb→lt (n * up d * down e) (m * up e * down d)) h a
  where
    both : (x y : ℕ) → x < y → y < x → ⊥
    both x y h k = omega arith

    go : (b c : Bool) → (T b → m * up e * down d < n * up d * down e) → (T c → n * up d * down e < m * up e * down d) → T c → T
        (above (cond b (round f false (n * up d * down e - m * up e * down d) (down e * down d))
        (round f c (m * up e * down d - n * up d * down e) (down e * down d)))) → ⊥
    go true c k l t a = both (m * up e * down d) (n * up d * down e) (k tt) (l t)
    go false true k l t a = round_negative f (m * up e * down d - n * up d * down e) (down e * down d) a
    go false false k l t a = t

-- ---- a value of the format above zero, rounded, is above zero
apart : (a b : ℕ) → 2 ^ a ≤ 2 ^ b → a ≤ b
apart a b h = go (cases (leb a b))
  where
    go : (leb a b ≡ true) ⊎ (leb a b ≡ false) → a ≤ b
    go (inl e) = leb-true a b e
    go (inr e) = absurd (not-le_of_lt (pow-lt (leb-false a b e)) h)

four : (a b c d : Bool) → T (a && b && c && d) → T a × T b × T c × T d
four true true true true t = (tt, tt, tt, tt)
four true true true false t = absurd t
four true true false d t = absurd t
four true false c d t = absurd t
four false b c d t = absurd t

-- The tests of `fits`.
holds : (f : Format) (q : ℕ) (e : ℤ) → T (fits f (fin false (suc q) e)) → (suc q < 2 ^ prec f) × (down e ≤ 2 ^ low f) × (suc q * up e < 2 ^ suc (emax f) * down e)
unfolding fits
holds f q e t =
    let all = four (eqb (suc q % 2) 1) (ltb (suc q) (2 ^ prec f)) (leb (down e) (2 ^ low f)) (ltb (suc q * up e) (2 ^ suc (emax f) * down e)) t in
    (ltb→lt (suc q) (2 ^ prec f) all.1, leb→le (down e) (2 ^ low f) all.2, ltb→lt (suc q * up e) (2 ^ suc (emax f) * down e) all.3)

keeps : (f : Format) (q : ℕ) (e : ℤ) → T (fits f (fin false (suc q) e)) → HasValue (round f false (suc q * up e) (down e)) false (suc q * up e) (down e)
keeps f q (pos k) t =
    let h = holds f q (pos k) t in
    let small = h.0 in
    let fine = h.2 in
    let less : suc q * 2 ^ k < 2 ^ suc (emax f) = subst (λ (x : ℕ). suc q * 2 ^ k < x) (mul-one (2 ^ suc (emax f))) fine in
    let shifted : suc q * 2 ^ k * 2 ^ low f < 2 ^ (suc (emax f) + low f) = shl_lt (suc (emax f)) (low f) less in
    let joined : suc q * 2 ^ k * 2 ^ low f ≡ suc q * 2 ^ (k + low f) = mul_assoc (suc q) (2 ^ k) (2 ^ low f) ∙ ap (λ (x : ℕ). suc q * x) (sym (pow-add 2 k (low f))) in
    round_exact f false (suc q * 2 ^ k) 1 (suc q) (k + low f) (pow_pos 0) small
    (subst (λ (x : ℕ). x < 2 ^ (low f + suc (emax f))) joined (subst (λ (x : ℕ). suc q * 2 ^ k * 2 ^ low f < 2 ^ x) (add_comm (suc (emax f)) (low f)) shifted))
    (joined ∙ sym (mul-one (suc q * 2 ^ (k + low f))))
keeps f q (negsuc k) t =
    let h = holds f q (negsuc k) t in
    let small = h.0 in
    let deep : suc k ≤ low f = apart (suc k) (low f) h.1 in
    let j = low f - suc k in
    let back : j + suc k ≡ low f = sub-add_cancel deep in
    let whole_float : 2 ^ low f ≡ 2 ^ j * 2 ^ suc k = ap (λ (x : ℕ). 2 ^ x) (sym back) ∙ pow-add 2 j (suc k) in
    let room : prec f + j ≤ low f + suc (emax f) = within (prec f) (emax f) (low f) k (reach f) in
    round_exact f false (suc q * 1) (2 ^ suc k) (suc q) j (pow_pos (suc k)) small
    (lt_of_lt_of_le (shl_lt (prec f) j small) (pow_mono room))
    (ap (λ (x : ℕ). x * 2 ^ low f) (mul-one (suc q)) ∙ ap (λ (x : ℕ). suc q * x) whole_float ∙ sym (mul_assoc (suc q) (2 ^ j) (2 ^ suc k)))
  where
    within : (p m l k : ℕ) → p ≤ suc m → p + (l - suc k) ≤ l + suc m
    within p m l k h = omega arith

-- ---- the wait
abbrev nil : Float
nil = fin false 0 (pos 0)

abbrev one : Float
one = fin false 1 (pos 0)

whole_0 : whole_float 0 ≡ nil
unfolding whole_float of_int
whole_0 = refl

whole_1 : whole_float 1 ≡ one
unfolding whole_float of_int
whole_1 = refl

one_rounded : round binary64 false 1 1 ≡ one
unfolding round
one_rounded = refl

-- One and a drift that is not negative, rounded, is at least one.
longer : (d : Float) → T (finite d) → T (le nil d) → T (le one (add binary64 one d))
unfolding add sum le
longer nan f h = absurd f
longer (inf s) f h = absurd f
longer (fin false n k) f h =
    subst (λ (x : Float). T (le x (round binary64 false (1 * up (pos 0) * down k + n * up k * down (pos 0)) (down (pos 0) * down k)))) one_rounded
    (round_mono binary64 1 1 (1 * up (pos 0) * down k + n * up k * down (pos 0)) (down (pos 0) * down k) (pow_pos 0) (mul-pos (pow_pos 0) (down_pos k)) (omega arith))
longer (fin true n k) f h = go (ltb (1 * down k) (n * up k * 1)) (ltb→lt (1 * down k) (n * up k * 1))
  where
    zeros : 0 * 1 * down k ≡ n * up k * 1
    zeros = eqb→eq (0 * 1 * down k) (n * up k * 1) (and_l (eqb (0 * 1 * down k) (n * up k * 1)) (eqb (0 * 1 * down k) 0) h)

    go : (b : Bool) → (T b → 1 * down k < n * up k * 1) → T
        (le one (cond b (round binary64 true (n * up k * 1 - 1 * down k) (1 * down k)) (round binary64 false (1 * down k - n * up k * 1) (1 * down k))))
    go true k' = absurd (omega (arith, k' tt, zeros))
    go false k' =
        subst (λ (x : Float). T (le x (round binary64 false (1 * down k - n * up k * 1) (1 * down k)))) one_rounded
        (round_mono binary64 1 1 (1 * down k - n * up k * 1) (1 * down k) (pow_pos 0) (mul-pos (pow_pos 0) (down_pos k)) (omega (arith, zeros)))

-- ---- the order of values above zero

-- Values above zero, an infinity too, one not above the next.
le_all : (x y z : Float) → T (above x) → T (above y) → T (above z) → T (le x y) → T (le y z) → T (le x z)
unfolding le
le_all nan y z a b c h k = absurd a
le_all (inf true) y z a b c h k = absurd a
le_all (inf false) nan z a b c h k = absurd b
le_all (inf false) (inf true) z a b c h k = absurd b
le_all (inf false) (inf false) z a b c h k = k
le_all (inf false) (fin t n d) z a b c h k = absurd h
le_all (fin true m e) y z a b c h k = absurd a
le_all (fin false m e) nan z a b c h k = absurd b
le_all (fin false m e) (inf true) z a b c h k = absurd b
le_all (fin false m e) (inf false) nan a b c h k = absurd c
le_all (fin false m e) (inf false) (inf true) a b c h k = absurd c
le_all (fin false m e) (inf false) (inf false) a b c h k = tt
le_all (fin false m e) (inf false) (fin t p g) a b c h k = absurd k
le_all (fin false m e) (fin true n d) z a b c h k = absurd b
le_all (fin false m e) (fin false n d) nan a b c h k = absurd c
le_all (fin false m e) (fin false n d) (inf true) a b c h k = absurd c
le_all (fin false m e) (fin false n d) (inf false) a b c h k = tt
le_all (fin false m e) (fin false n d) (fin true p g) a b c h k = absurd c
le_all (fin false m e) (fin false n d) (fin false p g) a b c h k = le_trans_positive (fin false m e) (fin false n d) (fin false p g) a b c h k

le_through : (x y z : Float) → T (above x) → T (le x y) → T (le y z) → T (le x z)
le_through x y z a h k =
    let b = above_le x y a h in
    le_all x y z a b (above_le y z b k) h k

-- A period above zero, lengthened, is not below the period.
lengthened : (f : Format) (m : ℕ) (e : ℤ) (y : Float) → T (fits f (fin false (suc m) e)) → T (above y) → T (le one y) → T (le (fin false (suc m) e) (mul f (fin false (suc m) e) y))
unfolding mul
lengthened f m e nan t a h = absurd a
lengthened f m e (inf true) t a h = absurd a
lengthened f m e (inf false) t a h = subst (λ (b : Bool). T (le (fin false (suc m) e) (cond b nan (inf false)))) (sym (eqb-suc-zero m)) (unfold le in tt)
lengthened f m e (fin true n k) t a h = absurd a
lengthened f m e (fin false n k) t a h =
    let cross : 1 * 1 * down k ≤ n * up k * 1 = le→cross one (fin false n k) tt a h in
    let at_least : down k ≤ n * up k = omega arith in
    let grows = scaled (suc m * up e) (down e) (n * up k) (down k) at_least in
    let period : Float = fin false (suc m) e in
    let rounded : Float = round f false (suc m * up e) (down e) in
    le_through period rounded (round f false (suc m * up e * (n * up k)) (down e * down k)) some
    (le_of_values period rounded (suc m * up e) (down e) (suc m * up e) (down e) (down_pos e) (down_pos e) (own_value period some) (keeps f m e t) (omega arith))
    (round_mono f (suc m * up e) (down e) (suc m * up e * (n * up k)) (down e * down k) (down_pos e) (mul-pos (down_pos e) (down_pos k)) grows)
  where
    some : T (positive (fin false (suc m) e))
    some = lt→ltb 0 (suc m) (omega arith)

    scaled : (p d n k : ℕ) → k ≤ n → p * (d * k) ≤ p * n * d
    scaled p d n k h = le_trans (mul-le-mul_left p (mul-le-mul_left d h)) (le_of_eq (ap (λ (x : ℕ). p * x) (mul_comm d n) ∙ sym (mul_assoc p n d)))

-- ---- what the limits say
bounded : (x : Float) (t : Bool) (n : ℕ) (d : ℤ) → T (le nil x) → T (le x (fin t n d)) → T (finite x)
unfolding le
bounded nan t n d h k = absurd h
bounded (inf true) t n d h k = absurd h
bounded (inf false) t n d h k = absurd k
bounded (fin s m e) t n d h k = tt

-- A period within its limits.
waits : (p y : Float) (t : Bool) (n : ℕ) (d : ℤ) → T (fits binary64 p) → T (lt nil p) → T (le p (fin t n d)) → T (above y) → T (le one y) → T (above p) × T (le p (mul binary64 p y))
unfolding lt le
waits nan y t n d f h k a b = absurd h
waits (inf true) y t n d f h k a b = absurd h
waits (inf false) y t n d f h k a b = absurd k
waits (fin true m e) y t n d f h k a b = absurd h
waits (fin false zero e) y t n d f h k a b = let z : 0 * 1 * down e < 0 * up e * 1 = ltb→lt (0 * 1 * down e) (0 * up e * 1) h in absurd (omega arith)
waits (fin false (suc m) e) y t n d f h k a b = (lt→ltb 0 (suc m) (omega arith), lengthened binary64 m e y f a b)

pub back : (x y : Float) → T (finite x) → T (finite y) → T (lt x y) → T (above (sub binary64 x y)) → ⊥
back nan y f g h = absurd f
back (inf s) y f g h = absurd f
back (fin s m e) nan f g h = absurd g
back (fin s m e) (inf t) f g h = absurd g
back (fin s m e) (fin t n d) f g h = finite_sub binary64 s m e t n d h

pub valid_time_finite : (t : Float) → T (valid_time t) → T (finite t)
unfolding whole_float of_int
valid_time_finite t h = bounded t _ _ _ (and_l (le nil t) (le t (whole_float 1_000_000_000)) h) (and_r (le nil t) (le t (whole_float 1_000_000_000)) h)

-- The period is above zero, and the wait is not below it.
wait_from : (l : Lease) → T (fits binary64 l.period) → T (valid_term l) → T (above l.period) × T (le l.period (wait l))
unfolding whole_float half of_int div
wait_from l f h =
    let all = four (lt nil l.period) (le l.period (whole_float 86400)) (le nil l.drift) (le l.drift half) h in
    let y = add binary64 one l.drift in
    let at_least : T (le one y) = longer l.drift (bounded l.drift _ _ _ all.2 all.3) all.2 in
    waits l.period y _ _ _ f all.0 all.1 (above_of_le one y tt at_least) at_least

pub waits_period : WaitsPeriod
waits_period l f h = (wait_from l f h).1

pub wait_above : (l : Lease) → T (fits binary64 l.period) → T (valid_term l) → T (above (wait l))
wait_above l f h = let from = wait_from l f h in above_le l.period (wait l) from.0 from.1

-- ---- later times

-- A time that is not below zero: -0 is 0.
pub record AtLeastZero (x : Float) : Type 0 where
  pub is_finite : T (finite x)
  pub zero_or_more : T (le nil x)

pub valid_time_zero : (t : Float) → T (valid_time t) → AtLeastZero t
unfolding whole_float of_int
valid_time_zero t h = record { is_finite = valid_time_finite t h; zero_or_more = and_l (le nil t) (le t (whole_float 1_000_000_000)) h }

-- A negative sign is that of -0.
minus_zero : (m : ℕ) (e : ℤ) → T (le nil (fin true m e)) → m * up e ≡ 0
unfolding le
minus_zero m e h =
    let same : 0 * 1 * down e ≡ m * up e * 1 = eqb→eq (0 * 1 * down e) (m * up e * 1) (and_l (eqb (0 * 1 * down e) (m * up e * 1)) (eqb (0 * 1 * down e) 0) h) in
    omega (arith, same)

-- Zero, rounded, is not above zero.
flat : (f : Format) (s : Bool) (c : ℕ) → 0 < c → T (above (round f s 0 c)) → ⊥
flat f true c h a = round_negative f 0 c a
flat f false c h a = nothing (round f false 0 c) (round_exact f false 0 c 0 0 h (pow_pos (prec f)) (pow_pos (low f + suc (emax f))) (zero-mul (2 ^ low f) ∙ sym (zero-mul c))) a
  where
    nothing : (x : Float) → HasValue x false 0 c → T (above x) → ⊥
    nothing nan v a = a
    nothing (inf t) v a = v
    nothing (fin true m e) v a = a
    nothing (fin false m e) v a = let p = value_pos (fin false m e) 0 c a h v in omega arith

-- The difference of two such times, as fractions: above zero only where the first is the larger.
module _ (f : Format) where
  apart_above : (x y : Float) → AtLeastZero x → AtLeastZero y → T (above (sub f x y)) → num y * den x < num x * den y
  unfolding sub sum
  apart_above nan y zx zy a = absurd zx.is_finite
  apart_above (inf s) y zx zy a = absurd zx.is_finite
  apart_above (fin s m e) nan zx zy a = absurd zy.is_finite
  apart_above (fin s m e) (inf t) zx zy a = absurd zy.is_finite
  apart_above (fin false m e) (fin false n d) zx zy a = go (m * up e * down d) (n * up d * down e) (ltb (m * up e * down d) (n * up d * down e)) refl a
    where
      go : (p q : ℕ) (b : Bool) → ltb p q ≡ b → T (above (cond b (round f true (q - p) (down e * down d)) (round f (false && ltb q p) (p - q) (down e * down d)))) → q < p
      go p q true h a = absurd (round_negative f (q - p) (down e * down d) a)
      go p q false h a = pick (cases (ltb q p))
        where
          pick : (ltb q p ≡ true) ⊎ (ltb q p ≡ false) → q < p
          pick (inl l) = ltb-true q p l
          pick (inr l) =
              let none : p - q ≡ 0 = omega (arith, ltb-false q p l) in
              absurd (flat f false (down e * down d) (mul-pos (down_pos e) (down_pos d)) (subst (λ (k : ℕ). T (above (round f false k (down e * down d)))) none a))
  apart_above (fin false m e) (fin true n d) zx zy a = go (m * up e * down d) (n * up d * down e) (ap (λ (k : ℕ). k * down e) (minus_zero n d zy.zero_or_more) ∙ zero-mul (down e)) a
    where
      go : (p q : ℕ) → q ≡ 0 → T (above (round f false (p + q) (down e * down d))) → q < p
      go p q z a = pick (cases (ltb q p))
        where
          pick : (ltb q p ≡ true) ⊎ (ltb q p ≡ false) → q < p
          pick (inl l) = ltb-true q p l
          pick (inr l) =
              let none : p + q ≡ 0 = omega (arith, z, ltb-false q p l) in
              absurd (flat f false (down e * down d) (mul-pos (down_pos e) (down_pos d)) (subst (λ (k : ℕ). T (above (round f false k (down e * down d)))) none a))
  apart_above (fin true m e) (fin false n d) zx zy a = absurd (round_negative f (m * up e * down d + n * up d * down e) (down e * down d) a)
  apart_above (fin true m e) (fin true n d) zx zy a =
      absurd
      (go (m * up e * down d) (n * up d * down e) (ap (λ (k : ℕ). k * down d) (minus_zero m e zx.zero_or_more) ∙ zero-mul (down d))
      (ap (λ (k : ℕ). k * down e) (minus_zero n d zy.zero_or_more) ∙ zero-mul (down e)) a)
    where
      go : (p q : ℕ) → p ≡ 0 → q ≡ 0 → T (above (cond (ltb p q) (round f false (q - p) (down e * down d)) (round f (true && ltb q p) (p - q) (down e * down d)))) → ⊥
      go p q y z a =
          let less = le-ltb p q (omega (arith, y, z)) in
          let none : p - q ≡ 0 = omega (arith, y, z) in
          flat f (ltb q p) (down e * down d) (mul-pos (down_pos e) (down_pos d)) (subst (λ (k : ℕ). T (above (round f (ltb q p) k (down e * down d)))) none (rw less at a))

  -- Where the first is the larger, it is the rounded difference of the fractions.
  apart_is : (x y : Float) → AtLeastZero x → AtLeastZero y → num y * den x < num x * den y → sub f x y ≡ round f false (num x * den y - num y * den x) (den x * den y)
  unfolding sub sum
  apart_is nan y zx zy h = absurd zx.is_finite
  apart_is (inf s) y zx zy h = absurd zx.is_finite
  apart_is (fin s m e) nan zx zy h = absurd zy.is_finite
  apart_is (fin s m e) (inf t) zx zy h = absurd zy.is_finite
  apart_is (fin false m e) (fin false n d) zx zy h = rw (le-ltb (m * up e * down d) (n * up d * down e) (omega (arith, h)))
  apart_is (fin false m e) (fin true n d) zx zy h =
      let none : n * up d * down e ≡ 0 = ap (λ (k : ℕ). k * down e) (minus_zero n d zy.zero_or_more) ∙ zero-mul (down e) in
      let same : m * up e * down d + n * up d * down e ≡ m * up e * down d - n * up d * down e = omega (arith, none) in
      ap (λ (k : ℕ). round f false k (down e * down d)) same
  apart_is (fin true m e) (fin t n d) zx zy h = absurd (below_none (n * up d * down e) (m * up e) (down d) (minus_zero m e zx.zero_or_more) h)
    where
      below_none : (a p q : ℕ) → p ≡ 0 → a < p * q → ⊥
      below_none a p q z l = let empty : p * q ≡ 0 = ap (λ (k : ℕ). k * q) z ∙ zero-mul q in omega (arith, l, empty)

-- The order of two such times is that of their fractions.
times_cross : (x y : Float) → AtLeastZero x → AtLeastZero y → T (le x y) → num x * den y ≤ num y * den x
unfolding le
times_cross nan y zx zy h = absurd zx.is_finite
times_cross (inf s) y zx zy h = absurd zx.is_finite
times_cross (fin s m e) nan zx zy h = absurd zy.is_finite
times_cross (fin s m e) (inf t) zx zy h = absurd zy.is_finite
times_cross (fin true m e) (fin t n d) zx zy h =
    let none : m * up e * down d ≡ 0 = ap (λ (k : ℕ). k * down d) (minus_zero m e zx.zero_or_more) ∙ zero-mul (down d) in
    omega (arith, none)
times_cross (fin false m e) (fin false n d) zx zy h = go (m * up e * down d) (n * up d * down e) h
  where
    go : (p q : ℕ) → T (ltb p q || (eqb p q && true)) → p ≤ q
    go p q t = pick (T_or_cases (ltb p q) (eqb p q && true) t)
      where
        pick : T (ltb p q) ⊎ T (eqb p q && true) → p ≤ q
        pick (inl l) = omega (arith, ltb→lt p q l)
        pick (inr l) = omega (arith, eqb→eq p q (and_l (eqb p q) true l))
times_cross (fin false m e) (fin true n d) zx zy h = go (m * up e * down d) (n * up d * down e) h
  where
    go : (p q : ℕ) → T (eqb p q && eqb p 0) → p ≤ q
    go p q l = omega (arith, eqb→eq p q (and_l (eqb p q) (eqb p 0) l))

-- X / dx - B / db ≤ Z / dz - B / db for X / dx ≤ Z / dz.
grown : (X dx Z dz B db : ℕ) → X * dz ≤ Z * dx → (X * db - B * dx) * (dz * db) ≤ (Z * db - B * dz) * (dx * db)
grown X dx Z dz B db h =
    let a : dz * db * (X * db) ≤ dx * db * (Z * db) = simp (mul_assoc, mul_left_comm) (simp (mul_assoc, mul_comm) at (mul-le-mul_right (db * db) h)) in
    let b : dz * db * (B * dx) ≡ dx * db * (B * dz) = simp (mul_assoc, mul_comm, mul_left_comm) in
    le_trans (le_of_eq (mul_comm (X * db - B * dx) (dz * db) ∙ mul-sub (dz * db) (X * db) (B * dx)))
    (le_trans (less (dz * db * (X * db)) (dz * db * (B * dx)) (dx * db * (Z * db)) (dx * db * (B * dz)) a b)
    (le_of_eq (sym (mul_comm (Z * db - B * dz) (dx * db) ∙ mul-sub (dx * db) (Z * db) (B * dz)))))
  where
    less : (p q r s : ℕ) → p ≤ r → q ≡ s → p - q ≤ r - s
    less p q r s h e = omega arith

-- Time goes on, and so does the difference, once it is above zero.
pub later_apart : (f : Format) (begin now later : Float) → AtLeastZero begin → AtLeastZero now → AtLeastZero later → T (le now later)
    → T (above (sub f now begin))
    → T (le (sub f now begin) (sub f later begin))
later_apart f begin now later zb zn zl h a =
    let past : num begin * den now < num now * den begin = apart_above f now begin zn zb a in
    let order : num now * den later ≤ num later * den now = times_cross now later zn zl h in
    let past-later : num begin * den later < num later * den begin = still past order (cases (ltb (num begin * den later) (num later * den begin))) in
    subst (λ (z : Float). T (le z (sub f later begin))) (sym (apart_is f now begin zn zb past))
    (subst (λ (z : Float). T (le (round f false (num now * den begin - num begin * den now) (den now * den begin)) z)) (sym (apart_is f later begin zl zb past-later))
    (round_mono f (num now * den begin - num begin * den now) (den now * den begin) (num later * den begin - num begin * den later) (den later * den begin)
    (mul-pos (den_pos now) (den_pos begin)) (mul-pos (den_pos later) (den_pos begin))
    (grown (num now) (den now) (num later) (den later) (num begin) (den begin) order)))
  where
    still : num begin * den now < num now * den begin → num now * den later ≤ num later * den now
        → (ltb (num begin * den later) (num later * den begin) ≡ true) ⊎ (ltb (num begin * den later) (num later * den begin) ≡ false)
        → num begin * den later < num later * den begin
    still past order (inl l) = ltb-true (num begin * den later) (num later * den begin) l
    still past order (inr l) =
        let back-again : num now * den begin ≤ num begin * den now =
        through (num now) (num later) (num begin) (den now) (den later) (den begin) (den_pos later) order (ltb-false (num begin * den later) (num later * den begin) l) in
        absurd (omega (arith, past, back-again))

pub over_for_good : OverForGood
over_for_good r later f range time order over =
    let first = and_l (valid_term r.lease && valid_time r.begin) (valid_time r.now) range in
    let term = and_l (valid_term r.lease) (valid_time r.begin) first in
    let positive-wait = wait_above r.lease f term in
    let passed = above_le (wait r.lease) (sub binary64 r.now r.begin) positive-wait over in
    le_through (wait r.lease) (sub binary64 r.now r.begin) (sub binary64 later r.begin) positive-wait over
    (later_apart binary64 r.begin r.now later
    (valid_time_zero r.begin (and_r (valid_term r.lease) (valid_time r.begin) first))
    (valid_time_zero r.now (and_r (valid_term r.lease && valid_time r.begin) (valid_time r.now) range))
    (valid_time_zero later time)
    order passed)

-- ---- no number
none_below : (x : Float) → x ≡ nan → T (lt nil x) → ⊥
unfolding lt
none_below x e h = subst (λ (y : Float). T (lt nil y)) e h

none_least : (x : Float) → x ≡ nan → T (le nil x) → ⊥
unfolding le
none_least x e h = subst (λ (y : Float). T (le nil y)) e h

pub none_fine : (r : LeaseExpiry) → (r.lease.period ≡ nan) ⊎ (r.lease.drift ≡ nan) ⊎ (r.begin ≡ nan) ⊎ (r.now ≡ nan) → T (in_range r) → ⊥
unfolding whole_float of_int
none_fine r no_one all = go no_one
  where
    first : T (valid_term r.lease && valid_time r.begin)
    first = and_l (valid_term r.lease && valid_time r.begin) (valid_time r.now) all

    terms : T (lt nil r.lease.period) × T (le r.lease.period (whole_float 86400)) × T (le nil r.lease.drift) × T (le r.lease.drift half)
    terms = four (lt nil r.lease.period) (le r.lease.period (whole_float 86400)) (le nil r.lease.drift) (le r.lease.drift half)
        (and_l (valid_term r.lease) (valid_time r.begin) first)

    go : (r.lease.period ≡ nan) ⊎ (r.lease.drift ≡ nan) ⊎ (r.begin ≡ nan) ⊎ (r.now ≡ nan) → ⊥
    go (inl e) = none_below r.lease.period e terms.0
    go (inr (inl e)) = none_least r.lease.drift e terms.2
    go (inr (inr (inl e))) = none_least r.begin e (and_l (le nil r.begin) (le r.begin (whole_float 1_000_000_000)) (and_r (valid_term r.lease) (valid_time r.begin) first))
    go (inr (inr (inr e))) = none_least r.now e (and_l (le nil r.now) (le r.now (whole_float 1_000_000_000)) (and_r (valid_term r.lease && valid_time r.begin) (valid_time r.now) all))
