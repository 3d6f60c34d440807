-- What a desk knows of a card and what it proposes, as arrays of two stamps: s, then x.
-- Assumes nothing.
use Rattle.std.specs.Prelude.{ℕ, List, [], ◌∷◌, get_or}
use Rattle.stamps.specs.declared.Pair.{Pair}
use Rattle.desk_proposals.specs.declared.Known.{Known}

-- The pair that an array holds, and the other way round.
abbrev pub pair_in : List ℕ → Pair
pair_in stamps = record { s = get_or stamps 0 0; x = get_or stamps 1 0 }

abbrev pub stamps_of : Pair → List ℕ
stamps_of p = p.s ∷ p.x ∷ []

-- What a desk with its start knows, where the array holds the largest s and x that it has heard of.
abbrev pub known_in : ℕ → ℕ → List ℕ → Known
known_in desk start stamps = record { desk = desk; start = start; pair = pair_in stamps }
