-- Two drops are near both ways, and so do sections agree: a difference the other way round is the same with the other sign, or zero both times. Assumes nothing.
use Prim.Native.Nat.{ℕ, zero, suc, ◌+◌, ◌-◌, ◌*◌, ◌/◌, ◌%◌, ◌^◌, ◌<◌, compare}
use native.Mathlib.Omega.{arith}
use native.Mathlib.Nat.{add_comm, mul_comm, mul-pos}
use mathlib.Core.Path.{◌≡◌, refl, sym, ap, subst, ◌∙◌}
use mathlib.Core.Logic.{◌⊎◌, inl, inr}
use mathlib.Core.Bool.{Bool, true, false, cond, not, ◌&&◌, ◌||◌, beq, and_comm, not-not}
use borrow.Author.Tests.{eqb-true, ltb-true, ltb-false}
use lib.Dec.{eqb, ltb, lit<}
use Rattle.lists.proofs.Tests.{eqb_comm}
use lib.IntN.{pos}
use lib.Ieee.{Float, nan, inf, fin, Format, binary64, prec, emax, low, up, down, size, nearest, odd, units, round, neg, sum, add, sub, div, of_int, below, level, lt, eq, le}
use lib.Ieee.Fits.{down_pos, core, round_is}
use lib.Ieee.Scale.{round_same}
use Rattle.floats.specs.Numbers.{whole_float, half}
use Rattle.text_drops.specs.Drop.{drop_of, in_fahrenheit, near}
use Rattle.texts.specs.Text.{TextStep, words, temperature, section, done, ◌then◌}
use Rattle.texts.specs.Agree.{agree_step}
use Rattle.texts_claims.specs.Claims.{NearBothWays, AgreeBothWays}

-- ---- signs

neg_neg : (x : Float) → neg (neg x) ≡ x
unfolding neg
neg_neg nan = refl
neg_neg (inf s) = ap inf (not-not s)
neg_neg (fin s m e) = ap (λ (t : Bool). fin t m e) (not-not s)

-- Rounding does not look at the sign.
neg_odd : (d : ℕ) (s : Bool) (q k l : ℕ) → neg (odd d s q k l) ≡ odd d (not s) q k l
unfolding neg odd
neg_odd d s zero k l = refl
neg_odd d s (suc q) k l = refl

neg_cond : (b : Bool) (x y : Float) → neg (cond b x y) ≡ cond b (neg x) (neg y)
neg_cond true x y = refl
neg_cond false x y = refl

neg_units : (f : Format) (s : Bool) (q k : ℕ) → neg (units f s q k) ≡ units f (not s) q k
unfolding units neg
neg_units f s q k =
    let small : Bool = ltb (q * 2 ^ k) (2 ^ (low f + suc (emax f))) in
    neg_cond small (odd (suc (prec f)) s q k (low f)) (inf s)
    ∙ ap (λ (x : Float). cond small x (inf (not s))) (neg_odd (suc (prec f)) s q k (low f))

neg_round : (s : Bool) (a c : ℕ) → neg (round binary64 s a c) ≡ round binary64 (not s) a c
neg_round s a c = ap neg (round_is binary64 s a c) ∙ neg_core (a * 2 ^ low binary64) (size (a * 2 ^ low binary64 / c) - prec binary64) ∙ sym (round_is binary64 (not s) a c)
  where
    neg_core : (n k : ℕ) → neg (core binary64 s n c k) ≡ core binary64 (not s) n c k
    neg_core n k = neg_units binary64 s (nearest (n / (c * 2 ^ k)) (compare (n % (c * 2 ^ k) * 2) (c * 2 ^ k))) k

-- ---- comparisons of numbers with both signs changed

below_neg : (s t : Bool) (a b : ℕ) → below (not s) a (not t) b ≡ below t b s a
below_neg false false a b = refl
below_neg false true a b = ap (ltb 0) (add_comm a b)
below_neg true false a b = refl
below_neg true true a b = refl

level_neg : (s t : Bool) (a b : ℕ) → level (not s) a (not t) b ≡ level t b s a
level_neg s t a b = go (eqb a b) refl
  where
    signs : (s t : Bool) → beq (not s) (not t) ≡ beq t s
    signs false false = refl
    signs false true = refl
    signs true false = refl
    signs true true = refl

    go : (q : Bool) → eqb a b ≡ q → level (not s) a (not t) b ≡ level t b s a
    go true e = let same = eqb-true a b e in rw (same, signs s t)
    go false e = rw (e, eqb_comm b a ∙ e)

le_neg : (x y : Float) → le (neg x) (neg y) ≡ le y x
unfolding le lt eq neg
le_neg nan nan = refl
le_neg nan (inf t) = refl
le_neg nan (fin t n d) = refl
le_neg (inf s) nan = refl
le_neg (inf s) (inf t) = signs s t
  where
    signs : (s t : Bool) → (not s && not (not t) || beq (not s) (not t)) ≡ (t && not s || beq t s)
    signs false false = refl
    signs false true = refl
    signs true false = refl
    signs true true = refl
le_neg (inf s) (fin t n d) = refl
le_neg (fin s m e) nan = refl
le_neg (fin s m e) (inf t) = signs t
  where
    signs : (t : Bool) → (not (not t) || false) ≡ (t || false)
    signs true = refl
    signs false = refl
le_neg (fin s m e) (fin t n d) =
    let a : ℕ = m * up e * down d in
    let b : ℕ = n * up d * down e in
    ap (λ (p : Bool). p || level (not s) a (not t) b) (below_neg s t a b) ∙ ap (λ (q : Bool). below t b s a || q) (level_neg s t a b)

-- ---- differences

-- The one is the other with its sign changed, or both are zero.
abbrev Opposite : Float → Float → Type 0
Opposite x y = (x ≡ neg y) ⊎ ((x ≡ fin false 0 (pos 0)) × (y ≡ fin false 0 (pos 0)))

zero_over_one : round binary64 false 0 1 ≡ fin false 0 (pos 0)
unfolding round units odd
zero_over_one = refl

round_zero : (a c : ℕ) → a ≡ 0 → 0 < c → round binary64 false a c ≡ fin false 0 (pos 0)
round_zero a c e h = ap (λ (n : ℕ). round binary64 false n c) e ∙ round_same binary64 false 0 c 0 1 h (lit< tt) (omega arith) ∙ zero_over_one

sums : (s t : Bool) (a b c : ℕ) → 0 < c → Opposite (sum binary64 s a (not t) b c) (sum binary64 t b (not s) a c)
unfolding sum
sums false true a b c h = inl (ap (λ (n : ℕ). round binary64 false n c) (add_comm a b) ∙ sym (neg_round true (b + a) c))
sums true false a b c h = inl (ap (λ (n : ℕ). round binary64 true n c) (add_comm a b) ∙ sym (neg_round false (b + a) c))
sums false false a b c h = go (ltb a b) (ltb b a) refl refl
  where
    go : (p q : Bool) → ltb a b ≡ p → ltb b a ≡ q
        → Opposite (cond p (round binary64 true (b - a) c) (round binary64 false (a - b) c)) (cond q (round binary64 true (a - b) c) (round binary64 false (b - a) c))
    go true true e f = let up = ltb-true a b e in let down = ltb-true b a f in absurd (omega arith)
    go true false e f = inl (sym (neg_round false (b - a) c))
    go false true e f = inl (sym (neg_round true (a - b) c))
    go false false e f =
        let up = ltb-false a b e in
        let down = ltb-false b a f in
        inr (round_zero (a - b) c (omega arith) h, round_zero (b - a) c (omega arith) h)
sums true true a b c h = go (ltb a b) (ltb b a) refl refl
  where
    go : (p q : Bool) → ltb a b ≡ p → ltb b a ≡ q
        → Opposite (cond p (round binary64 false (b - a) c) (round binary64 q (a - b) c)) (cond q (round binary64 false (a - b) c) (round binary64 p (b - a) c))
    go true true e f = let up = ltb-true a b e in let down = ltb-true b a f in absurd (omega arith)
    go true false e f = inl (sym (neg_round true (b - a) c))
    go false true e f = inl (sym (neg_round false (a - b) c))
    go false false e f =
        let up = ltb-false a b e in
        let down = ltb-false b a f in
        inr (round_zero (a - b) c (omega arith) h, round_zero (b - a) c (omega arith) h)

opposite : (x y : Float) → Opposite (sub binary64 x y) (sub binary64 y x)
unfolding sub add neg
opposite nan nan = inl refl
opposite nan (inf t) = inl refl
opposite nan (fin t n d) = inl refl
opposite (inf s) nan = inl refl
opposite (inf false) (inf false) = inl refl
opposite (inf false) (inf true) = inl refl
opposite (inf true) (inf false) = inl refl
opposite (inf true) (inf true) = inl refl
opposite (inf s) (fin t n d) = inl (ap inf (sym (not-not s)))
opposite (fin s m e) nan = inl refl
opposite (fin s m e) (inf t) = inl refl
opposite (fin s m e) (fin t n d) =
    let a : ℕ = m * up e * down d in
    let b : ℕ = n * up d * down e in
    subst (λ (c : ℕ). Opposite (sum binary64 s a (not t) b (down e * down d)) (sum binary64 t b (not s) a c)) (mul_comm (down e) (down d))
    (sums s t a b (down e * down d) (mul-pos (down_pos e) (down_pos d)))

-- What is at most a half the one way is at least minus a half the other.
zero_mirrored : le (fin false 0 (pos 0)) half ≡ le (neg half) (fin false 0 (pos 0))
unfolding div neg le of_int whole_float half
zero_mirrored = refl

mirrored : (x y : Float) → Opposite x y → le x half ≡ le (neg half) y
mirrored x y (inl e) = ap (λ (z : Float). le z half) e ∙ sym (le_neg half (neg y)) ∙ ap (le (neg half)) (neg_neg y)
mirrored x y (inr z) = ap (λ (w : Float). le w half) z.0 ∙ zero_mirrored ∙ ap (le (neg half)) (sym z.1)

pub near_both_ways_lem : NearBothWays
unfolding near
near_both_ways_lem a b =
    let x : Float = in_fahrenheit a in
    let y : Float = in_fahrenheit b in
    let one = mirrored (sub binary64 x y) (sub binary64 y x) (opposite x y) in
    let two = mirrored (sub binary64 y x) (sub binary64 x y) (opposite y x) in
    rw (one, two) (and_comm (le (neg half) (sub binary64 y x)) (le (neg half) (sub binary64 x y)))

-- ---- sections

mutual
  unfolding agree_step

  step_both_ways : (s t : TextStep) → agree_step s t ≡ agree_step t s
  step_both_ways (words w) (words v) = refl
  step_both_ways (words w) (temperature k n) = refl
  step_both_ways (words w) (section s) = refl
  step_both_ways (temperature k n) (words w) = refl
  step_both_ways (temperature k n) (temperature l m) = near_both_ways_lem (drop_of k n) (drop_of l m)
  step_both_ways (temperature k n) (section s) = refl
  step_both_ways (section s) (words w) = refl
  step_both_ways (section s) (temperature k n) = refl
  step_both_ways (section s) (section t) = agree_both_ways_lem s t

  pub agree_both_ways_lem : AgreeBothWays
  agree_both_ways_lem done done = refl
  agree_both_ways_lem done (t then ts) = refl
  agree_both_ways_lem (s then ss) done = refl
  agree_both_ways_lem (s then ss) (t then ts) = rw (step_both_ways s t, agree_both_ways_lem ss ts)
