-- What a desk has seen of a card (docs/RULES.md, rule 16.24) as an array of four numbers.
-- Assumes nothing.
use Rattle.std.specs.Prelude.{ℕ, List, [], ◌∷◌, cond, not, get_or, eqb}
use Rattle.transaction_steps.specs.declared.LastSeen.{LastSeen}

abbrev pub seen_in : List ℕ → LastSeen
seen_in l = record { known = not (eqb (get_or l 0 0) 0); held = not (eqb (get_or l 1 0) 0); mark = get_or l 2 0; reach = get_or l 3 0 }

abbrev pub seen_numbers : LastSeen → List ℕ
seen_numbers v = cond v.known 1 0 ∷ cond v.held 1 0 ∷ v.mark ∷ v.reach ∷ []
