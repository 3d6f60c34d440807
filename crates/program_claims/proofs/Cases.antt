-- The worked cases, by computation on bytes; what is written in lent bytes is case P's output. Assumes nothing.
use Prim.Native.Nat.{ℕ}
use native.Mathlib.Omega.{arith}
use mathlib.Core.Path.{◌≡◌, refl}
use mathlib.Core.List.{[], ◌∷◌}
use lib.ListN.{length, replicate, length-replicate}
use Rattle.image.proofs.InFront.{front_sound_lem}
use Rattle.program.proofs.Answered.{long_output, bad_output}
use Rattle.formats.specs.Format.{V2}
use Rattle.lists.specs.Parts.{part, splice, tabulate, concat_map, every, zeros}
use Rattle.lists.specs.Table.{all, all_from}
use Rattle.lists.specs.Le.{le, to_le}
use Rattle.commands.specs.Command.{well_formed}
use Rattle.commands.specs.Bytes.{fields_of, payload, formed, command_bytes}
use Rattle.guard.specs.Entry.{entry_sound}
use Rattle.guard.specs.Judge.{raise}
use Rattle.guard.specs.Replies.{replied}
use Rattle.image.specs.Layout.{shape_ok}
use Rattle.image.specs.Bytes.{header, entry_bytes, pad, read_entry, entry_at}
use Rattle.image.specs.Image.{bodies, encode, card_at, decode, tail_zero, translation_sound, card_sound, header_sound, sound, fresh}
use Rattle.store_model.specs.Serve.{stepped, serve_by, serve}
use Rattle.stream.specs.Stream.{whole, commands_within, commands, end_within, end_of}
use Rattle.image.specs.Image.{good_front}
use Rattle.program.specs.Program.{line_of, lines_from, first_line, last_line, output_of, output_within}
use Rattle.store.specs.Runs.{numbers_of, runs}
use Rattle.program.specs.Text.{quoted, decimal_within, decimal}
use Rattle.program_claims.specs.Cases.{stream2, input_p, output_p, CaseP, ShortCases, RunCases, Decimals}
use Rattle.program_claims.specs.Edges.{LinesCases, ProgramCases}
use Rattle.program_claims.proofs.GoingOn.{going_on}

case_p_lem : CaseP
unfolding output_of quoted decimal_within decimal first_line line_of lines_from last_line runs numbers_of good_front commands commands_within end_of end_within
    whole serve serve_by stepped sound header_sound card_sound translation_sound tail_zero decode card_at entry_at read_entry encode bodies pad
    entry_bytes header shape_ok fresh replied raise entry_sound command_bytes formed payload fields_of well_formed all all_from le to_le part splice tabulate
    concat_map every zeros
case_p_lem = refl

longest : output_of (replicate 65536 0) ≡ quoted "bad store\n"
unfolding sound header_sound all all_from le part
longest =
    let n : length (replicate {A = ℕ} 65536 0) ≡ 65536 = length-replicate {A = ℕ} 65536 0 in
    bad_output _ (omega (arith, n)) (front_sound_lem (replicate 65536 0) 16 refl (omega (arith, n)) (omega (arith, n)))

longer : output_of (replicate 65537 0) ≡ quoted "too long\n"
longer = let n : length (replicate {A = ℕ} 65537 0) ≡ 65537 = length-replicate {A = ℕ} 65537 0 in long_output _ (omega (arith, n))

short_cases : ShortCases
unfolding output_of quoted decimal_within decimal first_line line_of lines_from last_line runs numbers_of good_front commands commands_within end_of end_within
    whole serve serve_by stepped sound header_sound card_sound translation_sound tail_zero decode card_at entry_at read_entry encode bodies pad
    entry_bytes header shape_ok fresh replied raise entry_sound command_bytes formed payload fields_of well_formed all all_from le to_le part splice tabulate
    concat_map every zeros
short_cases = record { empty = refl; alone = refl; lacking = refl; longest = longest; longer = longer; second = refl; second_lacking = refl }

run_cases : RunCases
unfolding runs commands commands_within whole serve serve_by stepped sound header_sound card_sound translation_sound tail_zero decode card_at entry_at
    read_entry encode bodies pad entry_bytes header shape_ok fresh replied raise entry_sound command_bytes formed payload fields_of well_formed all all_from
    le to_le part splice tabulate concat_map every zeros
run_cases = record { places = refl; places_2 = refl; short = refl; gone_on = going_on V2 (fresh V2 1 16) (9 ∷ []) stream2 15 8 16 refl }

decimals : Decimals
unfolding quoted decimal_within decimal
decimals =
    record {
      none = refl;
      one = refl;
      two = refl;
      last_two = refl;
      three = refl;
      byte = refl;
      four = refl;
      commands = refl;
      twenty = refl;
    }

enough : output_within 238518 input_p ≡ output_p
unfolding output_within
enough = case_p_lem

one_less : output_within 238517 input_p ≡ []
unfolding output_within
one_less = refl

lines_cases : LinesCases
unfolding good_front commands commands_within whole runs numbers_of serve serve_by stepped sound header_sound card_sound translation_sound tail_zero
    decode card_at entry_at read_entry encode bodies pad entry_bytes header shape_ok fresh replied raise entry_sound command_bytes formed payload fields_of
    well_formed all all_from le to_le part splice tabulate concat_map every zeros
lines_cases =
    record {
      enough = enough;
      one_less = one_less;
      goes_2 = refl;
      judged = refl;
      lines = refl;
    }

pub program_cases : ProgramCases
program_cases = (case_p_lem, (short_cases, (run_cases, (decimals, lines_cases))))
