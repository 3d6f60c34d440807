-- What a function that writes a text leaves.
-- Assumes nothing.
use Rattle.std.specs.Prelude.{ℕ, ◌+◌, ◌≤◌, ◌≡◌, List, length}
use Rattle.lists.specs.Parts.{splice}

-- The bytes `before` became `after`: the text stands in them from place `at` on, and what is handed back is the place behind it, at most so many
-- bytes further on.
pub record Put (at most : ℕ) (text before after : List ℕ) (behind : ℕ) : Type 0 where
  pub written : after ≡ splice at text before
  pub counted : behind ≡ at + length text
  pub few : behind ≤ at + most
