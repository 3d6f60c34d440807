-- Recovery as the operation hands it back (rules 11.16 and 11.19): the pairs that it is given, and its answer.
-- Assumes nothing.
use Rattle.std.specs.Prelude.{ℕ, List, Result, Ok, Err}
use Rattle.redo_recovery_model.specs.Recovery.{Pairs, recovered}
use Rattle.redo_recovery.specs.declared.LentPairs.{LentPairs}
use Rattle.redo_recovery.specs.declared.stops.Stopped.{Stopped}

-- The pairs in two lent slices, by card.
abbrev pub pairs_of : List ℕ → List ℕ → Pairs
pairs_of s x = record { s = s; x = x }

abbrev pub pairs_in : LentPairs → Pairs
pairs_in p = pairs_of p.s.now p.x.now

-- A number and a line; zeros where recovery came to its end.
pub record Recovered : Type 0 where
  pub number : ℕ
  pub line : ℕ

abbrev pub recovery_told : Result (Unit {0}) Stopped → Recovered
recovery_told (Ok done) = record { number = 0; line = 0 }
recovery_told (Err s) = record { number = s.number; line = s.line }

-- Rule 11.19: the number and the line.
abbrev pub recovery_answer : Pairs → List ℕ → List ℕ → Recovered
recovery_answer pairs log image = record { number = (recovered pairs log image).number; line = (recovered pairs log image).line }
