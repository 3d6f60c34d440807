-- Case P (section 8 of the rules), whole: from the bytes of the input to the bytes that are printed; runs with few places for lines; and numbers in decimal.
-- Assumes nothing.
use Rattle.std.specs.Prelude.{ℕ, ◌≡◌, List, [], ◌∷◌, ◌++◌, map, take, replicate}
use Rattle.formats.specs.Format.{V1, V2}
use Rattle.guard.specs.declared.Answer.{Answer}
use Rattle.image.specs.Image.{fresh}
use Rattle.store_model.specs.Words.{Sent}
use Rattle.store_model.specs.Cases.{case_p, names, text205}
use Rattle.stream.specs.Stream.{end_to_end, commands}
use Rattle.store.specs.Runs.{runs}
use Rattle.store.specs.Ran.{ran_of}
use Rattle.store.specs.declared.Ran.{Ran}
use Rattle.program.specs.Text.{quoted, decimal}
use Rattle.program.specs.Program.{output_of}
use Rattle.program_claims.specs.Claims.{GoesOn}

-- The image of one fresh card with room 16, the four commands,
-- and five bytes more.
abbrev pub stream_p : List ℕ
stream_p = end_to_end (map (λ (s : Sent). s.command) case_p.sent) ++ (3 ∷ 2 ∷ 0 ∷ 0 ∷ 0 ∷ [])

abbrev pub input_p : List ℕ
input_p = case_p.start ++ stream_p

abbrev pub output_p : List ℕ
output_p =
    quoted "cards 1\n"
    ++ quoted "1 0 4295032832 4295032832 0 0 1 0 0\n"
    ++ quoted "2 6 4295032832 4295032832 0 0 1 0 0\n"
    ++ quoted "3 0 8590065664 8590065664 0 0 1 1 0\n"
    ++ quoted "4 3 8590065664 8590065664 0 0 1 1 0\n"
    ++ quoted "cut 5\n"

abbrev pub CaseP : Type 0
CaseP = output_of input_p ≡ output_p

-- Inputs without a line for a command: none at all, the image alone, an image that lacks its last byte, as many zeros as an input may have bytes,
-- one more, and images of version 2.
pub record ShortCases : Type 0 where
  pub empty : output_of [] ≡ quoted "bad store\n"
  pub alone : output_of case_p.start ≡ quoted "cards 1\nend\n"
  pub lacking : output_of (take 79 case_p.start) ≡ quoted "bad store\n"
  pub longest : output_of (replicate 65536 0) ≡ quoted "bad store\n"
  pub longer : output_of (replicate 65537 0) ≡ quoted "too long\n"
  -- images of version 2: a fresh one, and one that lacks its last byte
  pub second : output_of (fresh V2 1 16) ≡ quoted "bad store\n"
  pub second_lacking : output_of (take 143 (fresh V2 1 16)) ≡ quoted "bad store\n"

-- Rule 8.7: of case P's stream, with a place for no line, for one and a part of another, for all four and for more; where each run stops.
abbrev pub ran : ℕ → ℕ → Ran
ran count end = record { count = count; end = end }

-- Two commands of version 2: the original is written and read. A buffer of one byte is too short for the text.
abbrev pub stream2 : List ℕ
stream2 = (names 3 0 0 text205 []).command ++ (names 1 0 0 [] []).command

pub record RunCases : Type 0 where
  pub places : map (ran_of V1 stream_p) (7 ∷ 8 ∷ 15 ∷ 31 ∷ 32 ∷ 400 ∷ []) ≡ ran 0 0 ∷ ran 1 55 ∷ ran 1 55 ∷ ran 3 162 ∷ ran 4 217 ∷ ran 4 217 ∷ []
  pub places_2 : map (ran_of V2 stream2) (0 ∷ 8 ∷ 16 ∷ []) ≡ ran 0 0 ∷ ran 1 71 ∷ ran 2 139 ∷ []
  pub short : map (λ (a : Answer). a.number) (runs V2 (fresh V2 1 16) (9 ∷ []) (commands V2 stream2)).answers ≡ 0 ∷ 8 ∷ []
  -- seven numbers that make no line are not filled up by the next run
  pub gone_on : GoesOn V2 (fresh V2 1 16) (9 ∷ []) stream2 15 8 16

-- One digit more at each power of ten, up to the largest number of 64 bits.
pub record Decimals : Type 0 where
  pub none : decimal 0 ≡ quoted "0"
  pub one : decimal 9 ≡ quoted "9"
  pub two : decimal 10 ≡ quoted "10"
  pub last_two : decimal 99 ≡ quoted "99"
  pub three : decimal 100 ≡ quoted "100"
  pub byte : decimal 256 ≡ quoted "256"
  pub four : decimal 1000 ≡ quoted "1000"
  pub commands : decimal 1260 ≡ quoted "1260"
  pub twenty : decimal 18446744073709551615 ≡ quoted "18446744073709551615"
