-- Laws of a table of numbered refusals, by number and not by place. Assumes nothing.
use Prim.Native.Nat.{ℕ, zero, suc}
use native.Mathlib.Omega.{arith}
use mathlib.Core.Path.{◌≡◌, refl, sym, subst, ◌∙◌}
use mathlib.Core.Logic.{◌↔◌}
use mathlib.Core.List.{List, [], ◌∷◌, ◌++◌}
use mathlib.Core.Bool.{Bool, true, false, cond, not, ◌&&◌, ◌||◌}
use borrow.Author.Tests.{eqb-true, eqb-false}
use lib.Dec.{T, eqb, T_not}
use Rattle.lists.proofs.Tests.{eq→eqb, T_and_left, T_and_right, T_or_left, T_or_right}
use Rattle.lists.specs.Table.{Row, row, first, no_row, applies, earlier, numbered, once, settled}

-- The number that is given stands on a row.
pub first_in : (rs : List Row) (n : ℕ) → first rs ≡ suc n → T (numbered (suc n) rs)
first_in [] n e = absurd (omega arith)
first_in (r ∷ rs) n e = go r.applies e (first_in rs n)
  where
    go : (a : Bool) → cond a r.gives (first rs) ≡ suc n → (first rs ≡ suc n → T (numbered (suc n) rs)) →
        T (eqb r.gives (suc n) || numbered (suc n) rs)
    go true h rest = T_or_left (eqb r.gives (suc n)) (numbered (suc n) rs) (eq→eqb r.gives (suc n) h)
    go false h rest = T_or_right (eqb r.gives (suc n)) (numbered (suc n) rs) (rest h)

-- Each row of such a table has a number of its own, and none has 0.
module _ (r : Row) (rs : List Row) (o : T (once (r ∷ rs))) where
  once_nonzero : r.gives ≡ 0 → ⊥
  once_nonzero e =
      T_not (eqb r.gives 0)
      (T_and_left (not (eqb r.gives 0)) (not (numbered r.gives rs)) (T_and_left (not (eqb r.gives 0) && not (numbered r.gives rs)) (once rs) o))
      (eq→eqb r.gives 0 e)

  once_other : T (numbered r.gives rs) → ⊥
  once_other =
      T_not (numbered r.gives rs)
      (T_and_right (not (eqb r.gives 0)) (not (numbered r.gives rs)) (T_and_left (not (eqb r.gives 0) && not (numbered r.gives rs)) (once rs) o))

  once_rest : T (once rs)
  once_rest = T_and_right (not (eqb r.gives 0) && not (numbered r.gives rs)) (once rs) o

-- Each number exactly when its row applies and none above it does.
pub given : (rs : List Row) → T (once rs) → (n : ℕ) → (first rs ≡ suc n) ↔ (T (applies (suc n) rs) × T (no_row (earlier (suc n) rs)))
given [] o n = (λ e. absurd (omega arith), λ h. absurd h.0)
given (r ∷ rs) o n = go r.applies (eqb r.gives (suc n)) refl (given rs (once_rest r rs o) n)
  where
    go : (a b : Bool) → eqb r.gives (suc n) ≡ b → (first rs ≡ suc n) ↔ (T (applies (suc n) rs) × T (no_row (earlier (suc n) rs))) →
        (cond a r.gives (first rs) ≡ suc n) ↔ (T (cond b a (applies (suc n) rs)) × T (no_row (cond b [] (row a r.gives ∷ earlier (suc n) rs))))
    go true true q rest = (λ e. (tt, tt), λ h. eqb-true r.gives (suc n) q)
    go true false q rest = (λ e. absurd (eqb-false r.gives (suc n) q e), λ h. absurd h.1)
    go false true q rest = (
      λ e. absurd (once_other r rs o (subst (λ (k : ℕ). T (numbered k rs)) (sym (eqb-true r.gives (suc n) q)) (first_in rs n e))),
      λ h. absurd h.0,
    )
    go false false q rest = rest

-- Answer 0, accepted, exactly when no row applies.
pub unapplied : (rs : List Row) → T (once rs) → (first rs ≡ 0) ↔ T (no_row rs)
unapplied [] o = (λ e. tt, λ t. refl)
unapplied (r ∷ rs) o = go r.applies (unapplied rs (once_rest r rs o))
  where
    go : (a : Bool) → (first rs ≡ 0) ↔ T (no_row rs) → (cond a r.gives (first rs) ≡ 0) ↔ T (not a && no_row rs)
    go true rest = (λ e. absurd (once_nonzero r rs o e), λ t. absurd t)
    go false rest = rest

-- Rows behind a table: they are asked where it accepts.
pub first_then : (rs ss : List Row) → T (once rs) → first (rs ++ ss) ≡ settled (first rs) (first ss) (first rs)
first_then [] ss o = refl
first_then (r ∷ rs) ss o = go r.applies r.gives (once_nonzero r rs o) (first_then rs ss (once_rest r rs o))
  where
    go : (a : Bool) (n : ℕ) → (n ≡ 0 → ⊥) → first (rs ++ ss) ≡ settled (first rs) (first ss) (first rs)
        → cond a n (first (rs ++ ss)) ≡ settled (cond a n (first rs)) (first ss) (cond a n (first rs))
    go true zero h rest = absurd (h refl)
    go true (suc n) h rest = refl
    go false n h rest = rest

-- One row more behind a table, with a number of its own: that number is given exactly where the table accepts and the row applies; any other is the
-- table's.
module _ (rs : List Row) (b : Bool) (m : ℕ) (o : T (once rs)) (own : numbered (suc m) rs ≡ false) where
  pub last_given : (first (rs ++ (row b (suc m) ∷ [])) ≡ suc m) ↔ ((first rs ≡ 0) × (b ≡ true))
  last_given = (λ e. go (first rs) b refl (sym (first_then rs (row b (suc m) ∷ []) o) ∙ e), λ h. first_then rs (row b (suc m) ∷ []) o ∙ rw (h.0, h.1))
    where
      go : (n : ℕ) (a : Bool) → first rs ≡ n → settled n (cond a (suc m) 0) n ≡ suc m → (n ≡ 0) × (a ≡ true)
      go zero true f e = (refl, refl)
      go zero false f e = absurd (omega arith)
      go (suc n) a f e = absurd (subst T own (first_in rs m (f ∙ e)))

  pub last_idle : (first (rs ++ (row b (suc m) ∷ [])) ≡ suc m → ⊥) → first (rs ++ (row b (suc m) ∷ [])) ≡ first rs
  last_idle h = first_then rs (row b (suc m) ∷ []) o ∙ go (first rs) b (λ e. h (first_then rs (row b (suc m) ∷ []) o ∙ e))
    where
      go : (n : ℕ) (a : Bool) → (settled n (cond a (suc m) 0) n ≡ suc m → ⊥) → settled n (cond a (suc m) 0) n ≡ n
      go zero true f = absurd (f refl)
      go zero false f = refl
      go (suc n) a f = refl

-- Where no row applies, none does by its number.
pub none_applies : (rs : List Row) → T (no_row rs) → (n : ℕ) → applies n rs ≡ false
none_applies [] t n = refl
none_applies (r ∷ rs) t n = go r.applies (eqb r.gives n) t (λ u. none_applies rs u n)
  where
    go : (a b : Bool) → T (not a && no_row rs) → (T (no_row rs) → applies n rs ≡ false) → cond b a (applies n rs) ≡ false
    go true b u rest = absurd u
    go false true u rest = refl
    go false false u rest = rest u

-- What goes by the number.
module _ {A : Type 0} {n : ℕ} (new old : A) where
  pub settled_new : n ≡ 0 → settled n new old ≡ new
  settled_new e = rw e

  pub settled_old : (n ≡ 0 → ⊥) → settled n new old ≡ old
  settled_old h = go n refl
    where
      go : (k : ℕ) → n ≡ k → settled n new old ≡ old
      go zero e = absurd (h e)
      go (suc k) e = rw e

-- Each row's number, and 0, has a property: so has the answer.
abbrev pub gives_all : (ℕ → Bool) → List Row → Bool
gives_all p [] = true
gives_all p (r ∷ rs) = p r.gives && gives_all p rs

pub first_all : (p : ℕ → Bool) (rs : List Row) → T (p 0) → T (gives_all p rs) → T (p (first rs))
first_all p [] z t = z
first_all p (r ∷ rs) z t =
    go r.applies (T_and_left (p r.gives) (gives_all p rs) t) (first_all p rs z (T_and_right (p r.gives) (gives_all p rs) t))
  where
    go : (a : Bool) → T (p r.gives) → T (p (first rs)) → T (p (cond a r.gives (first rs)))
    go true here rest = here
    go false here rest = rest
