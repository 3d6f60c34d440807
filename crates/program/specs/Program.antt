-- What the program prints for its input, byte for byte (rules 8.3 to 8.6).
-- Assumes nothing.
use Rattle.std.specs.Prelude.{ℕ, ◌+◌, ◌*◌, ◌-◌, ◌/◌, List, [], ◌∷◌, ◌++◌, cond, ltb, eqb, length, take, drop, replicate}
use Rattle.formats.specs.Format.{V1, fixed}
use Rattle.image.specs.Bytes.{count_of, room_of}
use Rattle.image.specs.Image.{good_front, front_size}
use Rattle.guard.specs.declared.Answer.{Answer}
use Rattle.lists.specs.Parts.{concat_map}
use Rattle.store.specs.Runs.{Run, runs, numbers_of, per_line}
use Rattle.stream.specs.Stream.{commands, end_of}
use Rattle.program.specs.Text.{quoted, decimal, spaced, most_digits}

-- ---- The lines (rule 8.4).

-- The first line tells how many cards the image has.
unfoldable pub first_line : ℕ → List ℕ
first_line cards = quoted "cards" ++ spaced cards ++ quoted "\n"

-- A command's line: its place, then the numbers of its answer.
abbrev pub line_by : ℕ → List ℕ → List ℕ
line_by place numbers = decimal place ++ concat_map spaced numbers ++ quoted "\n"

unfoldable pub line_of : ℕ → Answer → List ℕ
line_of place a = line_by place (numbers_of a)

-- The lines of answers, counted on from a place.
unfoldable pub lines_from : ℕ → List Answer → List ℕ
lines_from place [] = []
lines_from place (a ∷ more) = line_of place a ++ lines_from (place + 1) more

-- The last line tells how many bytes are left over, if any.
unfoldable pub last_line : ℕ → List ℕ
last_line left = cond (eqb left 0) (quoted "end\n") (quoted "cut" ++ spaced left ++ quoted "\n")

-- The bytes behind a stream's last whole command.
abbrev pub left_over : List ℕ → ℕ
left_over stream = length stream - end_of V1 stream

-- The lines of a stream that is run over an image with a reply buffer: one for each whole command, counted from 1, and the last.
abbrev pub printed : List ℕ → List ℕ → List ℕ → List ℕ
printed image reply stream = lines_from 1 (runs V1 image reply (commands V1 stream)).answers ++ last_line (left_over stream)

-- ---- The whole output for an input (rule 8.3).

-- The longest input.
abbrev pub most_input : ℕ
most_input = 65536

-- The input taken apart: the image in front, the stream behind it; and C zeros to reply in.
abbrev pub image_of : List ℕ → List ℕ
image_of input = take (front_size input) input

abbrev pub stream_of : List ℕ → List ℕ
stream_of input = drop (front_size input) input

abbrev pub blank_of : List ℕ → List ℕ
blank_of input = replicate (room_of input) 0

-- The run of an input.
abbrev pub run_of : List ℕ → Run
run_of input = runs V1 (image_of input) (blank_of input) (commands V1 (stream_of input))

-- Takes the bytes of standard input to those of standard output.
unfoldable pub output_of : List ℕ → List ℕ
output_of input =
    cond (ltb most_input (length input)) (quoted "too long\n")
    (cond (good_front input) (first_line (count_of input) ++ printed (image_of input) (blank_of input) (stream_of input))
    (quoted "bad store\n"))

-- ---- How long it can be.

-- A line has at most nine numbers, and one byte more with each.
abbrev pub most_line : ℕ
most_line = (per_line + 1) * (1 + most_digits)

-- A command has at least its fixed part; and there is the last line.
abbrev pub most_printed : List ℕ → ℕ
most_printed stream = (length stream / (fixed V1) + 1) * most_line

-- 1,260 commands of 52 bytes, the first line and the last.
abbrev pub most_output : ℕ
most_output = (most_input / (fixed V1) + 2) * most_line

-- What is written where so many bytes are lent: nothing where they are too few for the longest output (rule 8.6).
unfoldable pub output_within : ℕ → List ℕ → List ℕ
output_within lent input = cond (ltb lent most_output) [] (output_of input)
