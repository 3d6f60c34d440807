-- Runs: steps in the order in which they happen, each on the state that those before it left.
-- Assumes nothing.
use Rattle.std.specs.Prelude.{List, [], ◌∷◌, Bool, true, ◌&&◌}

module _ {S A : Type 0} where
  -- The state that a list of steps leaves.
  unfoldable pub foldl : (S → A → S) → S → List A → S
  foldl step y [] = y
  foldl step y (a ∷ steps) = foldl step (step y a) steps

  -- Each step passes a test, in the state that the steps before it left.
  unfoldable pub every_along : (S → A → Bool) → (S → A → S) → S → List A → Bool
  every_along test step y [] = true
  every_along test step y (a ∷ steps) = test y a && every_along test step (step y a) steps
