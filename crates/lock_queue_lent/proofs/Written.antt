-- Laws of entries written over others, one place after another.
-- Assumes nothing.
use mathlib.Core.Path.{◌≡◌, refl, sym, ap, ◌∙◌}
use native.Mathlib.Omega.{arith}
use Prim.Native.Nat.{ℕ, zero, suc, ◌+◌, ◌≤◌, ◌<◌}
use native.Mathlib.Nat.{add-zero, add-suc, not-suc-le-zero, le_of_suc-le-suc}
use mathlib.Core.List.{List, [], ◌∷◌}
use mathlib.Core.Logic.{◌⊎◌, inl, inr}
use lib.ListN.{length, get_or, set, take, drop}
use Rattle.std.proofs.Common.{min, ◌++◌}
use Rattle.lock_queue_lent.specs.Slice.{written}
use Rattle.lock_queue.specs.declared.Waiting.{Waiting}

one_more : (i : ℕ) → i + 1 ≡ suc i
one_more i = add-suc i zero ∙ ap suc (add-zero i)

pub written_none : (from onto : List Waiting) → written 0 from onto ≡ onto
unfolding written
written_none from onto = refl

pub written_nothing : (n : ℕ) (onto : List Waiting) → written n [] onto ≡ onto
unfolding written
written_nothing zero onto = refl
written_nothing (suc n) onto = refl

pub written_nowhere : (n : ℕ) (from : List Waiting) → written n from [] ≡ []
unfolding written
written_nowhere zero from = refl
written_nowhere (suc n) [] = refl
written_nowhere (suc n) (a ∷ from) = refl

pub written_length : (n : ℕ) (from onto : List Waiting) → length (written n from onto) ≡ length onto
unfolding written
written_length zero from onto = refl
written_length (suc n) [] onto = refl
written_length (suc n) (a ∷ from) [] = refl
written_length (suc n) (a ∷ from) (b ∷ onto) = ap suc (written_length n from onto)

next : (n : ℕ) (from onto : List Waiting) (d : Waiting) → n < length from → n < length onto →
    set (written n from onto) n (get_or from n d) ≡ written (suc n) from onto
unfolding written
next n [] onto d l m = absurd (not-suc-le-zero l)
next n (a ∷ from) [] d l m = absurd (not-suc-le-zero m)
next zero (a ∷ from) (b ∷ onto) d l m = refl
next (suc n) (a ∷ from) (b ∷ onto) d l m = ap (λ (ws : List Waiting). a ∷ ws) (next n from onto d (le_of_suc-le-suc l) (le_of_suc-le-suc m))

-- One more entry is written.
pub written_next : (n : ℕ) (from onto : List Waiting) (d : Waiting) → n < length from → n < length onto →
    set (written n from onto) n (get_or from n d) ≡ written (n + 1) from onto
written_next n from onto d l m = next n from onto d l m ∙ ap (λ (k : ℕ). written k from onto) (sym (one_more n))

-- Where either list has ended, no more are written.
pub written_done : (n m : ℕ) (from onto : List Waiting) → n ≤ m → (length from ≤ n) ⊎ (length onto ≤ n) → written n from onto ≡ written m from onto
unfolding written
written_done n m [] onto l e = written_nothing n onto ∙ sym (written_nothing m onto)
written_done n m (a ∷ from) [] l e = written_nowhere n (a ∷ from) ∙ sym (written_nowhere m (a ∷ from))
written_done zero m (a ∷ from) (b ∷ onto) l (inl e) = absurd (not-suc-le-zero e)
written_done zero m (a ∷ from) (b ∷ onto) l (inr e) = absurd (not-suc-le-zero e)
written_done (suc n) zero (a ∷ from) (b ∷ onto) l e = absurd (not-suc-le-zero l)
written_done (suc n) (suc m) (a ∷ from) (b ∷ onto) l (inl e) = ap (λ (ws : List Waiting). a ∷ ws) (written_done n m from onto (le_of_suc-le-suc l) (inl (le_of_suc-le-suc e)))
written_done (suc n) (suc m) (a ∷ from) (b ∷ onto) l (inr e) = ap (λ (ws : List Waiting). a ∷ ws) (written_done n m from onto (le_of_suc-le-suc l) (inr (le_of_suc-le-suc e)))

-- What a copy of the first entries, as many as both lists have, leaves.
pub written_front : (k : ℕ) (from onto : List Waiting) → k ≡ min (length onto) (length from) →
    take k from ++ drop k onto ≡ written (length onto) from onto
unfolding written
written_front zero from [] e = refl
written_front (suc k) from [] e = absurd (omega (arith, e))
written_front zero [] (b ∷ onto) e = refl
written_front (suc k) [] (b ∷ onto) e = absurd (omega (arith, e))
written_front zero (a ∷ from) (b ∷ onto) e = absurd (omega (arith, e))
written_front (suc k) (a ∷ from) (b ∷ onto) e = ap (λ (ws : List Waiting). a ∷ ws) (written_front k from onto (omega (arith, e)))

-- A list is written as far as it goes.
pub written_all : (n : ℕ) (from onto : List Waiting) → length from ≡ n → written (length onto) from onto ≡ written n from onto
unfolding written
written_all zero [] onto e = written_nothing (length onto) onto
written_all zero (a ∷ from) onto e = absurd (omega (arith, e))
written_all (suc n) [] onto e = absurd (omega (arith, e))
written_all (suc n) (a ∷ from) [] e = refl
written_all (suc n) (a ∷ from) (b ∷ onto) e = ap (λ (ws : List Waiting). a ∷ ws) (written_all n from onto (omega (arith, e)))
