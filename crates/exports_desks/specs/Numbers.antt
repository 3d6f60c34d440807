-- What a desk shows, for callers that name things by numbers.
-- Assumes nothing.
use Rattle.std.specs.Prelude.{ℕ, zero, suc, cond, ltb, length}
use Rattle.desk_shows.specs.Show.{Text, shown_number, shown_part}
use Rattle.desk_shows.specs.declared.Asked.{Asked}
use Rattle.desk_shows.specs.declared.Asked.TheVariants.{Original, Translation}
use Rattle.numbers.specs.Numbers.{MALFORMED}

-- The text that a desk shows, for a caller that names the language by a number: 0 the original, 1 the translation.

-- The language that a number names.
abbrev pub asked_of : ℕ → Asked
asked_of zero = Original
asked_of (suc asked) = Translation

-- The number: what the desk's text has, and malformed where the language is neither of the two.
abbrev pub asked_number : Text → Text → ℕ → ℕ → ℕ → ℕ
asked_number o t edition from asked = cond (ltb 1 asked) MALFORMED (shown_number o t edition from (asked_of asked))

-- How many first bytes of the buffer asked for are shown.
abbrev pub shown_length : Text → Text → ℕ → ℕ → ℕ → ℕ
shown_length o t edition from asked = cond (ltb 1 asked) 0 (length (shown_part o t edition from (asked_of asked)))
