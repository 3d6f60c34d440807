-- Laws of runs: a list of steps behind another one, and a run that is walked once. Assumes nothing.
use mathlib.Core.Path.{◌≡◌, refl, ap, ◌∙◌}
use mathlib.Core.List.{List, [], ◌∷◌, ◌++◌}
use mathlib.Core.Bool.{Bool, true, false, ◌&&◌}
use Rattle.lists.specs.Runs.{foldl, every_along}

module _ {S A : Type 0} (step : S → A → S) where
  -- What comes behind goes on from the state that was left.
  pub foldl_append : (y : S) (a b : List A) → foldl step y (a ++ b) ≡ foldl step (foldl step y a) b
  unfolding foldl
  foldl_append y [] b = refl
  foldl_append y (m ∷ a) b = foldl_append (step y m) a b

module _ {S A : Type 0} (test : S → A → Bool) (step : S → A → S) where
  pub along_append : (y : S) (a b : List A) → every_along test step y (a ++ b) ≡ (every_along test step y a && every_along test step (foldl step y a) b)
  unfolding foldl every_along
  along_append y [] b = refl
  along_append y (m ∷ a) b = ap (λ (t : Bool). test y m && t) (along_append (step y m) a b) ∙ assoc (test y m) _ _
    where
      assoc : (p q r : Bool) → (p && (q && r)) ≡ (p && q && r)
      assoc true q r = refl
      assoc false q r = refl

-- The state that a run leaves, and whether each step passed: walked once, for worked cases, where each step costs.
pub record Walked (S : Type 0) : Type 0 where
  pub left : S
  pub passed : Bool

module _ {S A : Type 0} (test : S → A → Bool) (step : S → A → S) where
  unfoldable pub walk : S → List A → Walked S
  walk y [] = record { left = y; passed = true }
  walk y (m ∷ steps) = let rest = walk (step y m) steps in record { left = rest.left; passed = test y m && rest.passed }

  pub walk_is : (y : S) (steps : List A) → ((walk y steps).left ≡ foldl step y steps) × ((walk y steps).passed ≡ every_along test step y steps)
  unfolding foldl every_along walk
  walk_is y [] = (refl, refl)
  walk_is y (m ∷ steps) = let rest = walk_is (step y m) steps in (rest.0, ap (λ (b : Bool). test y m && b) rest.1)
