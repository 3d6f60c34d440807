-- The run by both sections, by computation. Assumes nothing.
use native.Mathlib.Omega.{arith}
use mathlib.Core.Path.{◌≡◌, refl}
use mathlib.Core.List.{List, [], ◌∷◌}
use mathlib.Core.Bool.{Bool, true, ◌&&◌}
use lib.Dec.{T}
use Rattle.formats.specs.Format.{V1}
use Rattle.lists.specs.Parts.{part, splice, tabulate, concat_map, every, zeros}
use Rattle.lists.specs.Le.{le, to_le}
use Rattle.lists.specs.Table.{all, all_from}
use Rattle.lists.proofs.Tests.{and_left, and_right}
use Rattle.lists.specs.Runs.{foldl, every_along}
use Rattle.commands.specs.Command.{well_formed}
use Rattle.commands.specs.Bytes.{fields_of, payload, formed, command_bytes}
use Rattle.guard.specs.Entry.{entry_sound}
use Rattle.guard.specs.Judge.{raise}
use Rattle.guard.specs.Replies.{replied}
use Rattle.image.specs.Layout.{shape_ok}
use Rattle.image.specs.Bytes.{header, entry_bytes, pad, read_entry, entry_at}
use Rattle.image.specs.Image.{bodies, encode, card_at, decode, tail_zero, translation_sound, card_sound, header_sound, sound, fresh}
use Rattle.store_model.specs.Serve.{stepped, serve_by, serve}
use Rattle.redo_log.specs.Log.{shaped, last_begun, opened, follows, total, start_at, record_at, record_ok, good_log, records}
use Rattle.redo_log.specs.Append.{stored, puts, line_bytes, stores, appended}
use Rattle.redo_recovery_model.specs.Recovery.{due, recovery_sent, recovery_step, recovering}
use Rattle.redo_recovery_model.specs.Claims.{rewritten}
use Rattle.desk_proposals.specs.Propose.{learnt, next_t, pair_for, proposed}
use Rattle.desk_system.specs.System.{step_to}
use Rattle.transactions.specs.System.{with_updates, shown_by, after_step}
use Rattle.transactions.specs.Desks.{DeskStep, outside, by_desk, after_desk_step, AllDeskSteps}
use Rattle.transactions.proofs.Claims.{zeros_blank}
use Rattle.transactions_cases.proofs.Cases.{below_test, sent_test, sent_tested, pairs_test, step_test, step_tested}
use Rattle.transactions_system.specs.Together.{moves_in, steps_in, sends_along}
use Rattle.transactions_system.specs.Cases.{dealt, Dealt}

desk_steps_test : List DeskStep → Bool
desk_steps_test [] = true
desk_steps_test (outside s ∷ steps) = sent_test s && desk_steps_test steps
desk_steps_test (by_desk d m ∷ steps) = step_test m && desk_steps_test steps

desk_steps_tested : (steps : List DeskStep) → desk_steps_test steps ≡ true → AllDeskSteps steps
unfolding desk_steps_test
desk_steps_tested [] e = tt
desk_steps_tested (outside s ∷ steps) e = (sent_tested s (and_left (sent_test s) (desk_steps_test steps) e), desk_steps_tested steps (and_right (sent_test s) (desk_steps_test steps) e))
desk_steps_tested (by_desk d m ∷ steps) e = (step_tested m (and_left (step_test m) (desk_steps_test steps) e), desk_steps_tested steps (and_right (step_test m) (desk_steps_test steps) e))

are_bytes : desk_steps_test (steps_in dealt) ≡ true
unfolding desk_steps_test step_test sent_test pairs_test below_test command_bytes to_le steps_in
are_bytes = refl

shape_one : T (shape_ok V1 1 16)
unfolding shape_ok all all_from
shape_one = tt

pub dealt_by_both : Dealt
unfolding moves_in steps_in sends_along every_along foldl step_to learnt next_t pair_for proposed after_desk_step after_step
    with_updates shown_by rewritten due recovering recovery_step recovery_sent stored puts line_bytes stores appended shaped last_begun opened follows total
    start_at record_at record_ok good_log records serve serve_by stepped sound header_sound card_sound translation_sound tail_zero decode card_at entry_at
    read_entry encode bodies pad entry_bytes header shape_ok fresh replied raise entry_sound command_bytes formed payload fields_of well_formed all all_from
    le to_le part splice tabulate concat_map every zeros
dealt_by_both =
    record {
      rules =
          record {
            shape = shape_one;
            nobody = refl;
            blank = λ d. zeros_blank 2265 (omega arith) (omega arith);
            bytes = desk_steps_tested (steps_in dealt) are_bytes;
            sends = refl;
            moves = refl;
            steps = refl;
          };
      shows = refl;
      released = refl;
    }
