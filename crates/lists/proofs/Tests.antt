-- Laws of tests and of lists of tests. Assumes nothing.
use Prim.Native.Nat.{ℕ, zero, suc, ◌<◌, max, suc-le-suc, zero-le}
use native.Mathlib.Omega.{arith}
use mathlib.Core.Path.{◌≡◌, refl, sym, ap, ◌∙◌, subst}
use mathlib.Core.Logic.{◌↔◌, ◌⊎◌, inl, inr}
use mathlib.Core.List.{List, [], ◌∷◌, ◌++◌}
use mathlib.Core.Bool.{Bool, true, false, not, ◌&&◌, ◌||◌, beq, true≢false}
use borrow.Author.Tests.{ltb-true, ltb-false, lt-ltb, le-ltb, eq-eqb}
use lib.Dec.{T, eqb, ltb, eqb→eq}
use lib.ListN.{length, get_or}
use Rattle.lists.specs.Table.{all_from, all}

-- ---- a test and its truth

pub to_T : {b : Bool} → b ≡ true → T b
to_T e = subst T (sym e) tt

pub from_T : (b : Bool) → T b → b ≡ true
from_T true t = refl
from_T false t = absurd t

pub to_false : (b : Bool) → (T b → ⊥) → b ≡ false
to_false true f = absurd (f tt)
to_false false f = refl

pub from_false : {b : Bool} → b ≡ false → T b → ⊥
from_false e t = subst T e t

pub never_both : {b : Bool} → b ≡ true → b ≡ false → ⊥
never_both e f = true≢false (sym e ∙ f)

-- The two cases of a test, with its equation.
pub cases : (b : Bool) → (b ≡ true) ⊎ (b ≡ false)
cases true = inl refl
cases false = inr refl

-- Two tests that hold together are equal.
pub same : (a b : Bool) → (T a → T b) → (T b → T a) → a ≡ b
same true b f g = sym (from_T b (f tt))
same false true f g = absurd (g tt)
same false false f g = refl

pub along : {P : Type 0} {a b : Bool} → a ≡ b → (P ↔ T a) → P ↔ T b
along {P} e h = subst (λ (t : Bool). P ↔ T t) e h

-- ---- and, or, not

pub and_in : {a b : Bool} → a ≡ true → b ≡ true → (a && b) ≡ true
and_in e f = rw (e, f)

pub and_left : (a b : Bool) → (a && b) ≡ true → a ≡ true
and_left true b e = refl
and_left false b e = e

pub and_right : (a b : Bool) → (a && b) ≡ true → b ≡ true
and_right true b e = e
and_right false b e = absurd (true≢false (sym e))

-- A conjunction fails: its first test fails, or the first holds and the second fails.
pub and_fails : (a b : Bool) → (a && b) ≡ false → (a ≡ false) ⊎ ((a ≡ true) × (b ≡ false))
and_fails true b e = inr (refl, e)
and_fails false b e = inl refl

pub or_left : {a : Bool} (b : Bool) → a ≡ true → (a || b) ≡ true
or_left b e = rw e

pub or_right : (a : Bool) {b : Bool} → b ≡ true → (a || b) ≡ true
or_right true e = refl
or_right false e = e

pub or_cases : (a b : Bool) → (a || b) ≡ true → (a ≡ true) ⊎ (b ≡ true)
or_cases true b e = inl refl
or_cases false b e = inr e

pub or_fails : (a b : Bool) → (a || b) ≡ false → (a ≡ false) × (b ≡ false)
or_fails true b e = absurd (true≢false e)
or_fails false b e = (refl, e)

pub or_none : {a b : Bool} → a ≡ false → b ≡ false → (a || b) ≡ false
or_none e f = rw (e, f)

pub not_in : {a : Bool} → a ≡ false → not a ≡ true
not_in e = rw e

-- The same of `T`.
pub T_and : (a b : Bool) → T a → T b → T (a && b)
T_and true b s t = t
T_and false b s t = s

pub T_and_left : (a b : Bool) → T (a && b) → T a
T_and_left true b t = tt
T_and_left false b t = t

pub T_and_right : (a b : Bool) → T (a && b) → T b
T_and_right true b t = t
T_and_right false b t = absurd t

pub T_or_left : (a b : Bool) → T a → T (a || b)
T_or_left true b t = tt
T_or_left false b t = absurd t

pub T_or_right : (a b : Bool) → T b → T (a || b)
T_or_right true b t = tt
T_or_right false b t = t

pub T_or_cases : (a b : Bool) → T (a || b) → T a ⊎ T b
T_or_cases true b t = inl tt
T_or_cases false b t = inr t

-- ---- comparisons

pub eq→eqb : (m n : ℕ) → m ≡ n → T (eqb m n)
eq→eqb m n e = to_T (eq-eqb m n e)

pub eqb_comm : (m n : ℕ) → eqb m n ≡ eqb n m
eqb_comm m n =
    same (eqb m n) (eqb n m) (λ t. eq→eqb n m (sym (eqb→eq m n t))) (λ t. eq→eqb m n (sym (eqb→eq n m t)))

pub ltb_max : (n a b : ℕ) → ltb n (max a b) ≡ (ltb n a || ltb n b)
ltb_max n a b = go (cases (ltb n a)) (cases (ltb n b))
  where
    go : (ltb n a ≡ true) ⊎ (ltb n a ≡ false) → (ltb n b ≡ true) ⊎ (ltb n b ≡ false) → ltb n (max a b) ≡ (ltb n a || ltb n b)
    go (inl e) f = lt-ltb n (max a b) (omega (arith, ltb-true n a e)) ∙ sym (or_left (ltb n b) e)
    go (inr e) (inl f) = lt-ltb n (max a b) (omega (arith, ltb-true n b f)) ∙ sym (or_right (ltb n a) f)
    go (inr e) (inr f) = le-ltb n (max a b) (omega (arith, ltb-false n a e, ltb-false n b f)) ∙ sym (or_none e f)

pub beq_true : (a b : Bool) → beq a b ≡ true → a ≡ b
beq_true true true e = refl
beq_true true false e = sym e
beq_true false true e = e
beq_true false false e = refl

-- ---- lists of tests

pub all_from_and : (b : Bool) (ts : List Bool) → all_from b ts ≡ (b && all ts)
unfolding all_from all
all_from_and true ts = refl
all_from_and false [] = refl
all_from_and false (t ∷ ts) = all_from_and false ts

pub all_cons : (t : Bool) (ts : List Bool) → all (t ∷ ts) ≡ (t && all ts)
unfolding all_from all
all_cons t ts = all_from_and t ts

pub all_append : (ss ts : List Bool) → all (ss ++ ts) ≡ (all ss && all ts)
unfolding all_from all
all_append [] ts = refl
all_append (true ∷ ss) ts = all_append ss ts
all_append (false ∷ ss) ts = all_from_and false (ss ++ ts) ∙ sym (ap (λ (b : Bool). b && all ts) (all_from_and false ss))

-- All hold exactly when each one does.
pub all_in : (ts : List Bool) → ((i : ℕ) → i < length ts → get_or ts i true ≡ true) → all ts ≡ true
unfolding all_from all
all_in [] h = refl
all_in (t ∷ ts) h = all_cons t ts ∙ and_in (h 0 (suc-le-suc zero-le)) (all_in ts (λ i k. h (suc i) (suc-le-suc k)))

pub all_out : (ts : List Bool) → all ts ≡ true → (i : ℕ) → get_or ts i true ≡ true
all_out [] e i = refl
all_out (t ∷ ts) e zero = and_left t (all ts) (sym (all_cons t ts) ∙ e)
all_out (t ∷ ts) e (suc i) = all_out ts (and_right t (all ts) (sym (all_cons t ts) ∙ e)) i

-- Where not all hold, one of them fails.
pub all_fails : (ts : List Bool) → all ts ≡ false → (i : ℕ) × (get_or ts i true ≡ false)
unfolding all_from all
all_fails [] e = absurd (true≢false e)
all_fails (false ∷ ts) e = (0, refl)
all_fails (true ∷ ts) e = let rest = all_fails ts e in (suc rest.0, rest.1)

-- Where one fails, not all hold.
pub all_fails_at : (ts : List Bool) (i : ℕ) → get_or ts i true ≡ false → all ts ≡ false
all_fails_at ts i h = go (cases (all ts))
  where
    go : (all ts ≡ true) ⊎ (all ts ≡ false) → all ts ≡ false
    go (inl e) = absurd (never_both (all_out ts e i) h)
    go (inr e) = e
