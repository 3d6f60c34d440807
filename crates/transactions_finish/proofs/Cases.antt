-- The worked runs, by computation. Assumes nothing.
use native.Mathlib.Omega.{arith}
use mathlib.Core.Path.{◌≡◌, refl}
use mathlib.Core.Bool.{true, false}
use lib.Dec.{T, eqb}
use Rattle.formats.specs.Format.{V1}
use Rattle.lists.specs.Parts.{part, splice, tabulate, concat_map, every, zeros}
use Rattle.lists.specs.Le.{le, to_le}
use Rattle.lists.specs.Table.{all, all_from}
use Rattle.lists.specs.Runs.{foldl, every_along}
use Rattle.commands.specs.Command.{well_formed}
use Rattle.commands.specs.Bytes.{fields_of, payload, formed, command_bytes}
use Rattle.guard.specs.Entry.{entry_sound}
use Rattle.guard.specs.Judge.{raise}
use Rattle.guard.specs.Replies.{replied}
use Rattle.image.specs.Layout.{shape_ok}
use Rattle.image.specs.Bytes.{header, entry_bytes, pad, read_entry, entry_at}
use Rattle.image.specs.Image.{bodies, encode, card_at, decode, tail_zero, translation_sound, card_sound, header_sound, sound, fresh}
use Rattle.store_model.specs.Serve.{stepped, serve_by, serve}
use Rattle.redo_log.specs.Log.{shaped, last_begun, opened, follows, total, start_at, record_at, record_ok, good_log, records}
use Rattle.redo_log.specs.Append.{stored, puts, line_bytes, stores, appended}
use Rattle.redo_log_claims.specs.Cases.{empty_log}
use Rattle.redo_recovery_model.specs.Recovery.{due}
use Rattle.redo_recovery_model.specs.Claims.{rewritten}
use Rattle.transactions.specs.System.{one_desk_opening, with_updates, after_step, lawful_all}
use Rattle.transactions.proofs.Claims.{fresh_clean, zeros_blank}
use Rattle.transactions_cases.proofs.Cases.{below_test, sent_test, pairs_test, step_test, steps_test, steps_tested}
use Rattle.transactions_progress.specs.Progress.{originals_due}
use Rattle.transaction_steps.specs.Steps.{first_due, last_due, next_step}
use Rattle.transaction_steps_claims.specs.Follower.{after_doing}
use Rattle.transactions_finish.specs.Finish.{lines_due, cards_due, own_doings}
use Rattle.transactions_finish.specs.Cases.{half_done, half_done_in, outlook_in, outlook, FinishRuns}

is_enough : outlook_in (half_done_in 32) ≡ outlook true
unfolding lines_due cards_due own_doings originals_due foldl every_along after_doing first_due last_due next_step after_step with_updates rewritten due
    stored puts line_bytes stores appended shaped last_begun opened follows total start_at record_at record_ok good_log records serve serve_by stepped sound
    header_sound card_sound translation_sound tail_zero decode card_at entry_at read_entry encode bodies pad entry_bytes header shape_ok fresh replied raise
    entry_sound command_bytes formed payload fields_of well_formed all all_from le to_le part splice tabulate concat_map every zeros
is_enough = refl

is_short : outlook_in (half_done_in 31) ≡ outlook false
unfolding lines_due cards_due own_doings originals_due foldl every_along after_doing first_due last_due next_step after_step with_updates rewritten due
    stored puts line_bytes stores appended shaped last_begun opened follows total start_at record_at record_ok good_log records serve serve_by stepped sound
    header_sound card_sound translation_sound tail_zero decode card_at entry_at read_entry encode bodies pad entry_bytes header shape_ok fresh replied raise
    entry_sound command_bytes formed payload fields_of well_formed all all_from le to_le part splice tabulate concat_map every zeros
is_short = refl

are_bytes : steps_test half_done ≡ true
unfolding steps_test step_test sent_test pairs_test below_test command_bytes to_le
are_bytes = refl

are_lawful : lawful_all 5 (one_desk_opening (fresh V1 2 16) (empty_log 32)) half_done ≡ true
unfolding every_along foldl after_step with_updates rewritten due stored puts line_bytes stores appended shaped last_begun opened follows total start_at
    record_at record_ok good_log records serve serve_by stepped sound header_sound card_sound translation_sound tail_zero decode card_at entry_at read_entry
    encode bodies pad entry_bytes header shape_ok fresh replied raise entry_sound command_bytes formed payload fields_of well_formed all all_from le to_le
    part splice tabulate concat_map every zeros
are_lawful = refl

shape_two : T (shape_ok V1 2 16)
unfolding shape_ok all all_from
shape_two = tt

pub finish_runs : FinishRuns
finish_runs =
    record {
      enough = is_enough;
      short = is_short;
      met = record {
        image = fresh V1 2 16;
        log = empty_log 32;
        steps = half_done;
        store = fresh_clean (λ e. eqb e 5) refl 2 16 shape_two;
        blank = zeros_blank 2233 (omega arith) (omega arith);
        sent = steps_tested half_done are_bytes;
        rules = are_lawful;
        led = refl;
      };
    }
