-- Theorems on the program, used where their hypotheses only just hold: case P's input, an image with no stream behind
-- it, no input. A stricter hypothesis or a sentence left out is noticed here. Assumes nothing.
use Prim.Native.Nat.{◌<◌}
use native.Mathlib.Omega.{arith}
use mathlib.Core.Path.{◌≡◌, refl}
use mathlib.Core.List.{[], ◌++◌}
use mathlib.Core.Bool.{true}
use lib.Dec.{eqb}
use lib.ListN.{length, replicate}
use Rattle.formats.specs.Format.{V1}
use Rattle.lists.specs.Parts.{part, concat_map, every, zeros, Bytes}
use Rattle.lists.specs.Le.{le, to_le}
use Rattle.lists.specs.Search.{none}
use Rattle.lists.specs.Table.{all, all_from}
use Rattle.commands.specs.Bytes.{command_bytes}
use Rattle.guard.specs.Entry.{entry_sound}
use Rattle.guard.specs.declared.Answer.{Answer}
use Rattle.image.specs.Layout.{shape_ok}
use Rattle.image.specs.Bytes.{count_of, room_of, header, read_entry, entry_at}
use Rattle.image.specs.Image.{tail_zero, translation_sound, card_sound, header_sound, sound, fresh, good_front}
use Rattle.store_model.specs.Cases.{case_p}
use Rattle.store_model.proofs.ByTest.{bytes_by_lem}
use Rattle.stream.specs.Stream.{commands}
use Rattle.store.specs.Runs.{runs}
use Rattle.program.specs.Text.{decimal}
use Rattle.program.specs.Program.{first_line, lines_from, last_line, left_over, run_of, output_of}
use Rattle.program_claims.specs.Claims.{read_on}
use Rattle.program_claims.specs.Cases.{input_p}
use Rattle.program_claims.proofs.Claims.{claims}

input_bytes : Bytes input_p
unfolding fresh header command_bytes to_le concat_map
input_bytes = bytes_by_lem input_p tt

input_good : good_front input_p ≡ true
unfolding good_front sound header_sound card_sound translation_sound tail_zero entry_at read_entry fresh header shape_ok entry_sound command_bytes all all_from le to_le part concat_map every zeros
input_good = refl

-- Case P: no command gets 9 or 8, and the store stays sound.
no_9 : none (λ (a : Answer). eqb a.number 9) (run_of input_p).answers ≡ true
no_9 = (claims.serves input_p input_bytes input_good).never_9

no_8 : none (λ (a : Answer). eqb a.number 8) (run_of input_p).answers ≡ true
no_8 = (claims.serves input_p input_bytes input_good).never_8

stays : sound V1 (run_of input_p).image ≡ true
stays = (claims.serves input_p input_bytes input_good).stays

-- An image alone: the first line, no other, and the last.
start_sound : sound V1 case_p.start ≡ true
unfolding sound header_sound card_sound translation_sound tail_zero entry_at read_entry fresh header shape_ok entry_sound all all_from le to_le part every zeros
start_sound = refl

alone : output_of (case_p.start ++ []) ≡ first_line (count_of case_p.start) ++
    (lines_from 1 (runs V1 case_p.start (replicate (room_of case_p.start) 0) (commands V1 [])).answers ++ last_line (left_over []))
unfolding fresh header to_le
alone = claims.prints case_p.start [] start_sound (omega arith)

-- Some output even for no input; 0 and the largest number in decimal, read back.
some_output : 0 < length (output_of [])
some_output = claims.never_empty []

back_zero : read_on 0 (decimal 0) ≡ 0
back_zero = (claims.numerals 0).back

back_largest : read_on 0 (decimal 18446744073709551615) ≡ 18446744073709551615
back_largest = (claims.numerals 18446744073709551615).back
