-- A run of a stream where so many numbers can be written: which commands it judges, how many they are, and where it stops (rules 8.2, 8.5 and 8.7).
-- Assumes nothing.
use Rattle.std.specs.Prelude.{ℕ, ◌/◌, ◌≡◌, List, length, take}
use Rattle.formats.specs.Format.{Format}
use Rattle.lists.specs.Parts.{splice, concat_map}
use Rattle.store.specs.Runs.{Run, runs, per_line, numbers_of}
use Rattle.stream.specs.Stream.{commands, end_to_end}
use Rattle.store.specs.declared.Ran.{Ran}

-- The commands that have a place for their line, from the first on.
abbrev pub judged_of : Format → List ℕ → ℕ → List (List ℕ)
judged_of f stream lent = take (lent / per_line) (commands f stream)

-- How many they are, and the byte behind them.
abbrev pub ran_of : Format → List ℕ → ℕ → Ran
ran_of f stream lent = record { count = length (judged_of f stream lent); end = length (end_to_end (judged_of f stream lent)) }

-- The lines of a run as numbers, end to end.
abbrev pub lined : Run → List ℕ
lined r = concat_map numbers_of r.answers

-- What a run comes to (rules 8.2 to 8.5 and 8.7): how far it goes, and the image, the reply buffer and the lines after it.
abbrev pub RunsTo : Format → List ℕ → List ℕ → List ℕ → List ℕ → Ran → List ℕ → List ℕ → List ℕ → Type 0
RunsTo f image stream reply lines ran image' reply' lines' =
    (ran ≡ ran_of f stream (length lines))
    × ((image' ≡ (runs f image reply (judged_of f stream (length lines))).image)
    × ((reply' ≡ (runs f image reply (judged_of f stream (length lines))).reply)
    × (lines' ≡ splice 0 (lined (runs f image reply (judged_of f stream (length lines)))) lines)))
