-- What is claimed of a run of either version, and of the program's output (rules 8.4, 8.5, 8.7 and 9.1).
-- Assumes nothing.
use Rattle.std.specs.Prelude.{ℕ, ◌+◌, ◌-◌, ◌*◌, ◌/◌, ◌≤◌, ◌<◌, ◌≡◌, List, [], ◌∷◌, ◌++◌, map, reverse, true, T, eqb, length, take, drop, get_or, replicate}
use Rattle.formats.specs.Format.{Format, V1, version}
use Rattle.lists.specs.Parts.{Bytes}
use Rattle.guard.specs.declared.Answer.{Answer}
use Rattle.image.specs.Layout.{shape_ok}
use Rattle.image.specs.Bytes.{version_of, count_of, room_of}
use Rattle.image.specs.Image.{sound, fresh}
use Rattle.store_model.specs.Serve.{serve}
use Rattle.store_model.specs.Words.{Sent, Event, image_after, trace_from}
use Rattle.lists.specs.Search.{none}
use Rattle.store_model.specs.Claims.{Claim}
use Rattle.stream.specs.Stream.{commands}
use Rattle.image.specs.Image.{good_front}
use Rattle.program.specs.Text.{decimal, quoted}
use Rattle.program.specs.Program.{first_line, line_of, lines_from, last_line, left_over, most_input, run_of, output_of}
use Rattle.store.specs.Runs.{Run, runs, per_line}
use Rattle.store.specs.Ran.{judged_of, ran_of, lined}

-- The answers of a run are those of judging command by command: one for each command, and each is the store's, on the image and the reply
-- buffer as the commands before leave them.
pub record Stepwise (v : Format) (image reply : List ℕ) (cs : List (List ℕ)) : Type 0 where
  pub whole : length (runs v image reply cs).answers ≡ length cs
  pub each : (i : ℕ) (none : Answer) → i < length cs →
      get_or (runs v image reply cs).answers i none ≡ (serve v (runs v image reply (take i cs)).image (get_or cs i []) (runs v image reply (take i cs)).reply).answer
  -- Line i, counted from 0, stands behind the lines of the first i commands, and shows its place, counted from 1, and answer i.
  pub lines : (i : ℕ) (none : Answer) → i < length cs →
      lines_from 1 (runs v image reply cs).answers
      ≡ lines_from 1 (runs v image reply (take i cs)).answers
      ++ (line_of (i + 1) (get_or (runs v image reply cs).answers i none) ++ lines_from (i + 2) (drop (i + 1) (runs v image reply cs).answers))

-- ---- a run and the trace that demand 3 speaks of

-- A run's commands as requests: each is sent with the reply buffer as the one before left it.
unfoldable pub requests : Format → List ℕ → List ℕ → List (List ℕ) → List Sent
requests v image reply [] = []
requests v image reply (c ∷ cs) =
    record { command = c; lent = reply } ∷ requests v (serve v image c reply).image (serve v image c reply).reply cs

-- Their trace from the same image, latest first.
abbrev pub traced : Format → List ℕ → List ℕ → List (List ℕ) → List Event
traced v image reply cs = trace_from v image (reverse (requests v image reply cs))

-- A run is the trace of its requests.
pub record Traced (v : Format) (image reply : List ℕ) (cs : List (List ℕ)) : Type 0 where
  -- the requests are the commands, in their order,
  pub sends : map (λ (s : Sent). s.command) (requests v image reply cs) ≡ cs
  -- with one reply buffer: the first is lent it as it is at first, each later one as the trace shows it after the one before, and the last one
  -- leaves it as the run does,
  pub lends :
      map (λ (s : Sent). s.lent) (requests v image reply cs) ++ ((runs v image reply cs).reply ∷ [])
      ≡ reply ∷ map (λ (e : Event). e.reply) (reverse (traced v image reply cs))
  -- the answers are those of the trace, in order, and the image is left as the requests leave it
  pub answers : (runs v image reply cs).answers ≡ map (λ (e : Event). e.answer) (reverse (traced v image reply cs))
  pub leaves : (runs v image reply cs).image ≡ image_after v image (reverse (requests v image reply cs))

-- So demand 3 speaks of a run: every sentence of it holds of the trace of a stream's commands behind a fresh image, with a reply buffer of any length and content;
-- of all of them, and of those that have a place for their line where the run stops for want of one. The program's reply buffer has C zeros.
pub record GuardedRun (v : Format) (n c : ℕ) (stream reply : List ℕ) : Type 0 where
  pub all : Claim n (requests v (fresh v n c) reply (commands v stream)) (traced v (fresh v n c) reply (commands v stream))
  pub some : (lent : ℕ) → Claim n (requests v (fresh v n c) reply (judged_of v stream lent)) (traced v (fresh v n c) reply (judged_of v stream lent))

abbrev pub Guarded : Type 0
Guarded = (v : Format) (n c : ℕ) (stream reply : List ℕ) → T (shape_ok v n c) → Bytes stream → Bytes reply → GuardedRun v n c stream reply

-- ---- a run that is gone on with (rule 8.7)

-- A run of a stream where so many numbers are lent for lines.
abbrev pub run_within : Format → List ℕ → List ℕ → List ℕ → ℕ → Run
run_within v image reply stream lent = runs v image reply (judged_of v stream lent)

-- What is left of the stream behind it: the bytes from its end on.
abbrev pub rest_of : Format → List ℕ → ℕ → List ℕ
rest_of v stream lent = drop (ran_of v stream lent).end stream

-- The run of the rest, on the image and with the reply buffer that the first run left.
abbrev pub run_of_rest : Format → List ℕ → List ℕ → List ℕ → ℕ → ℕ → Run
run_of_rest v image reply stream first second =
    run_within v (run_within v image reply stream first).image (run_within v image reply stream first).reply (rest_of v stream first) second

-- One run with as many lines as both, against the two.
pub record GoesOn (v : Format) (image reply stream : List ℕ) (first second lent : ℕ) : Type 0 where
  -- the rest has the commands that had no place for their line, and no other
  pub rest : commands v (rest_of v stream first) ≡ drop (first / per_line) (commands v stream)
  -- commands and bytes count on
  pub counts : (ran_of v stream lent).count ≡ (ran_of v stream first).count + (ran_of v (rest_of v stream first) second).count
  pub ends : (ran_of v stream lent).end ≡ (ran_of v stream first).end + (ran_of v (rest_of v stream first) second).end
  -- the lines stand end to end, and the image and the reply buffer are left alike
  pub lines : lined (run_within v image reply stream lent) ≡ lined (run_within v image reply stream first) ++ lined (run_of_rest v image reply stream first second)
  pub image_left_lem : (run_within v image reply stream lent).image ≡ (run_of_rest v image reply stream first second).image
  pub reply_left : (run_within v image reply stream lent).reply ≡ (run_of_rest v image reply stream first second).reply

abbrev pub GoingOn : Type 0
GoingOn =
    (v : Format) (image reply stream : List ℕ) (first second lent : ℕ) → lent / per_line ≡ first / per_line + second / per_line
    → GoesOn v image reply stream first second lent

-- ---- the program on a good store

-- Once the store is good, it stays sound: no command is answered 9. Nor is any answered 8: a text has at most C bytes, and so many has the reply
-- buffer.
pub record Served (input : List ℕ) : Type 0 where
  pub never_9 : none (λ (a : Answer). eqb a.number 9) (run_of input).answers ≡ true
  pub never_8 : none (λ (a : Answer). eqb a.number 8) (run_of input).answers ≡ true
  pub stays : sound V1 (run_of input).image ≡ true

abbrev pub Serves : Type 0
Serves = (input : List ℕ) → Bytes input → good_front input ≡ true → Served input

-- ---- what is printed

-- The number that digits stand for, read from the left behind what was read so far.
unfoldable pub read_on : ℕ → List ℕ → ℕ
read_on sum [] = sum
read_on sum (d ∷ ds) = read_on (sum * 10 + (d - 48)) ds

-- A number in decimal can be read back, each byte of it is a digit, and only 0 begins with a zero.
pub record Numeral (n : ℕ) : Type 0 where
  pub back : read_on 0 (decimal n) ≡ n
  pub each : (i : ℕ) → i < length (decimal n) → (48 ≤ get_or (decimal n) i 0) × (get_or (decimal n) i 0 ≤ 57)
  pub front : 0 < n → 48 < get_or (decimal n) 0 0

-- Behind a sound image in front, within the limit, the output is the first line, a line for each answer of the run that the claims above speak of,
-- and the last line.
abbrev pub Prints : Type 0
Prints =
    (image stream : List ℕ) → sound V1 image ≡ true → length (image ++ stream) ≤ most_input
    → output_of (image ++ stream) ≡ first_line (count_of image) ++ (lines_from 1 (runs V1 image (replicate (room_of image) 0) (commands V1 stream)).answers ++ last_line (left_over stream))

-- No output is empty. So where nothing is written, because too few bytes were lent, the count tells it.
abbrev pub NeverEmpty : Type 0
NeverEmpty = (input : List ℕ) → 0 < length (output_of input)

-- An input whose header has not the number 1, as an image of version 2 has not, sound or damaged, gets the line for a bad store, and no text.
abbrev pub NoVersion2 : Type 0
NoVersion2 =
    (input : List ℕ) → (version_of input ≡ version V1 → ⊥) → length input ≤ most_input → output_of input ≡ quoted "bad store\n"

pub record ProgramClaims : Type 0 where
  pub stepwise : (v : Format) (image reply : List ℕ) (cs : List (List ℕ)) → Stepwise v image reply cs
  pub traces : (v : Format) (image reply : List ℕ) (cs : List (List ℕ)) → Traced v image reply cs
  pub guarded : Guarded
  pub going_on : GoingOn
  pub serves : Serves
  pub prints : Prints
  pub numerals : (n : ℕ) → Numeral n
  pub never_empty : NeverEmpty
  pub no_version_2 : NoVersion2
