-- Worked cases of the output in lent bytes (rule 8.6), and of a run whose lines run out; and all worked cases of the program as one table. Proved in proofs/Cases.antt.
-- Assumes nothing.
use Rattle.std.specs.Prelude.{ℕ, ◌≡◌, List, [], ◌∷◌, map, take}
use Rattle.formats.specs.Format.{V1, V2}
use Rattle.store_model.specs.Words.{Sent}
use Rattle.store_model.specs.Cases.{case_p, all_written}
use Rattle.stream.specs.Stream.{end_to_end}
use Rattle.store.specs.Ran.{judged_of, ran_of, lined}
use Rattle.store.specs.Runs.{runs}
use Rattle.program.specs.Program.{output_within}
use Rattle.program_claims.specs.Cases.{stream_p, input_p, output_p, ran, CaseP, ShortCases, RunCases, Decimals}

-- A stream of version 2: commands of 71, 69, 70, 71 and 72 bytes. That of case P has commands of 55, 52, 55 and 55 bytes, and five bytes more.
abbrev pub languages_stream : List ℕ
languages_stream = end_to_end (map (λ (s : Sent). s.command) all_written)

pub record LinesCases : Type 0 where
  -- 238,518 bytes are enough for any output, and with one byte less nothing is written
  pub enough : output_within 238518 input_p ≡ output_p
  pub one_less : output_within 238517 input_p ≡ []
  -- a line takes eight numbers (`RunCases` has version 1): seven, eight, 39, 40 and more than enough of them
  pub goes_2 : map (ran_of V2 languages_stream) (7 ∷ 8 ∷ 39 ∷ 40 ∷ 41 ∷ []) ≡ ran 0 0 ∷ ran 1 71 ∷ ran 4 281 ∷ ran 5 353 ∷ ran 5 353 ∷ []
  -- the commands that are judged are the first ones, and their lines are eight numbers each, the number first
  pub judged : judged_of V1 stream_p 31 ≡ take 3 (map (λ (s : Sent). s.command) case_p.sent)
  pub lines :
      lined (runs V1 case_p.start [] (judged_of V1 stream_p 23))
      ≡ 0 ∷ 4295032832 ∷ 4295032832 ∷ 0 ∷ 0 ∷ 1 ∷ 0 ∷ 0
      ∷ 6 ∷ 4295032832 ∷ 4295032832 ∷ 0 ∷ 0 ∷ 1 ∷ 0 ∷ 0 ∷ []

-- One table of the worked cases of the program: case P, inputs without a line for a command, runs, decimals and lines.
abbrev pub ProgramCases : Type 0
ProgramCases = CaseP × (ShortCases × (RunCases × (Decimals × LinesCases)))
