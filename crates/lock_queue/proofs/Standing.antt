-- Laws of the standing entries and their desks. Assumes nothing.
use Rattle.std.proofs.Common.{Some, None}
use Rattle.std.specs.List.{position, position_or_len, list_all}
use Prim.Native.Nat.{ℕ, suc, ◌+◌, ◌≤◌, ◌<◌}
use native.Mathlib.Omega.{arith}
use mathlib.Core.Path.{◌≡◌, refl, ap, ◌∙◌}
use mathlib.Core.List.{List, [], ◌∷◌, ◌++◌, map}
use mathlib.Core.Bool.{Bool, true, false, cond, not, ◌&&◌, ◌||◌}
use borrow.Author.Tests.{eq-eqb, ne_eqb, lt-ltb, ltb-true}
use lib.Dec.{ltb, eqb, leb-suc-suc}
use lib.ListN.{length, take, get_or, length-map, length-take}
use Rattle.stamps.specs.Stamp.{exclusive}
use Rattle.lock_queue.specs.Queue.{no_waiting, desk, desks, stands, first_place, place, looked, no_exclusive, holds_at, holds}
use Rattle.lock_queue.specs.declared.Waiting.{Waiting}

-- ---- the place where a desk first stands

pub stands_place : (d : ℕ) (es : List ℕ) → ltb (first_place d es) (length es) ≡ stands d es
unfolding first_place stands
stands_place d [] = refl
stands_place d (e ∷ es) = go (eqb e d) (stands_place d es)
  where
    go : (b : Bool) → ltb (first_place d es) (length es) ≡ stands d es →
        ltb (cond b 0 (suc (first_place d es))) (suc (length es)) ≡ (b || stands d es)
    go true h = lt-ltb 0 (suc (length es)) (omega arith)
    go false h = leb-suc-suc (suc (first_place d es)) (length es) ∙ h

pub place_within : (d : ℕ) (es : List ℕ) → first_place d es ≤ length es
unfolding first_place
place_within d [] = omega arith
place_within d (e ∷ es) = go (eqb e d) (place_within d es)
  where
    go : (b : Bool) → first_place d es ≤ length es → cond b 0 (suc (first_place d es)) ≤ suc (length es)
    go true h = omega arith
    go false h = omega arith

pub stands_below : (d count : ℕ) (l : List Waiting) → stands d (desks (take count l)) ≡ true → first_place d (desks (take count l)) < count
stands_below d count l e =
    let es = desks (take count l) in
    omega (arith, ltb-true (first_place d es) (length es) (stands_place d es ∙ e), length-map (take count l) desk, length-take count l)

-- The place as the library's search of the entries finds it.
first_position : (d : ℕ) (ws : List Waiting) → position_or_len (λ (w : Waiting). eqb (desk w) d) ws ≡ first_place d (desks ws)
unfolding first_place
first_position d [] = refl
first_position d (w ∷ ws) = go (eqb (desk w) d) (first_position d ws)
  where
    go : (b : Bool) → position_or_len (λ (w : Waiting). eqb (desk w) d) ws ≡ first_place d (desks ws) →
        cond (not b) (1 + position_or_len (λ (w : Waiting). eqb (desk w) d) ws) 0 ≡ cond b 0 (suc (first_place d (desks ws)))
    go true h = refl
    go false h = omega arith

pub place_position : (d : ℕ) (ws : List Waiting) → position (λ (w : Waiting). eqb (desk w) d) ws ≡ place d (desks ws)
place_position d ws = rw (first_position d ws, ← length-map ws desk, stands_place d (desks ws))

pub placed : (d : ℕ) (es : List ℕ) {i : ℕ} → place d es ≡ Some i → (stands d es ≡ true) × (first_place d es ≡ i)
placed d es {i} = go (stands d es)
  where
    go : (b : Bool) → cond b (Some (first_place d es)) None ≡ Some i → (b ≡ true) × (first_place d es ≡ i)
    go true e = (refl, cc)
    go false e = cc

pub unplaced : (d : ℕ) (es : List ℕ) → place d es ≡ None → stands d es ≡ false
unplaced d es = go (stands d es)
  where
    go : (b : Bool) → cond b (Some (first_place d es)) None ≡ None → b ≡ false
    go true e = cc
    go false e = refl

-- ---- the entries that stand, and the place i where a desk first stands there

module _ (d : ℕ) (ws : List Waiting) {i : ℕ} (at : place d (desks ws) ≡ Some i) where
  stood : stands d (desks ws) ≡ true
  stood = (placed d (desks ws) at).0

  first : first_place d (desks ws) ≡ i
  first = (placed d (desks ws) at).1

  pub place_inside : i < length ws
  place_inside =
      omega (arith, first, ltb-true (first_place d (desks ws)) (length (desks ws)) (stands_place d (desks ws) ∙ stood), length-map ws desk)

  pub looked_found : i + 1 ≡ looked d (desks ws)
  unfolding looked
  looked_found = rw (stood, first)

  pub holds_exclusive : (get_or ws i no_waiting).mode ≡ exclusive → eqb i 0 ≡ holds d ws
  unfolding holds holds_at
  holds_exclusive e = rw (stood, first, eq-eqb _ _ e)

  pub holds_shared : ((get_or ws i no_waiting).mode ≡ exclusive → ⊥) → no_exclusive (take i ws) ≡ holds d ws
  unfolding holds holds_at
  holds_shared e = rw (stood, first, ne_eqb _ _ e)

module _ (d : ℕ) (ws : List Waiting) (missing : place d (desks ws) ≡ None) where
  pub looked_none : length ws ≡ looked d (desks ws)
  unfolding looked
  looked_none = rw (unplaced d (desks ws) missing, length-map ws desk)

  pub holds_none : false ≡ holds d ws
  unfolding holds
  holds_none = rw (unplaced d (desks ws) missing)

-- No entry is exclusive, as the library's test of all of them says it.
pub no_exclusive_all : (ws : List Waiting) → list_all (λ (w : Waiting). not (eqb w.mode exclusive)) ws ≡ no_exclusive ws
unfolding no_exclusive
no_exclusive_all [] = refl
no_exclusive_all (w ∷ ws) = ap (λ (b : Bool). not (eqb w.mode exclusive) && b) (no_exclusive_all ws)

-- ---- lists end to end

pub map-append : {A B : Type 0} (f : A → B) (xs ys : List A) → map f (xs ++ ys) ≡ map f xs ++ map f ys
map-append f [] ys = refl
map-append f (x ∷ xs) ys = ap (λ (l : List _). f x ∷ l) (map-append f xs ys)

pub stands_append : (d : ℕ) (es fs : List ℕ) → stands d (es ++ fs) ≡ (stands d es || stands d fs)
unfolding stands
stands_append d [] fs = refl
stands_append d (e ∷ es) fs = go (eqb e d) (stands_append d es fs)
  where
    go : (b : Bool) → stands d (es ++ fs) ≡ (stands d es || stands d fs) → (b || stands d (es ++ fs)) ≡ (b || stands d es || stands d fs)
    go true h = refl
    go false h = h
