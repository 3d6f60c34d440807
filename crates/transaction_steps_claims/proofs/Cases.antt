-- The worked cases, by computation. Assumes nothing.
use mathlib.Core.Path.{refl}
use Rattle.lists.specs.Parts.{part, splice, tabulate, concat_map, every, zeros}
use Rattle.lists.specs.Le.{le, to_le}
use Rattle.lists.specs.Table.{all, all_from}
use Rattle.lists.specs.Runs.{foldl, every_along}
use Rattle.commands.specs.Command.{well_formed}
use Rattle.commands.specs.Bytes.{fields_of, payload, formed, command_bytes}
use Rattle.guard.specs.Entry.{entry_sound}
use Rattle.guard.specs.Judge.{raise}
use Rattle.guard.specs.Replies.{replied}
use Rattle.image.specs.Layout.{shape_ok}
use Rattle.image.specs.Bytes.{header, entry_bytes, pad, read_entry, entry_at}
use Rattle.image.specs.Image.{bodies, encode, card_at, decode, tail_zero, translation_sound, card_sound, header_sound, sound, fresh}
use Rattle.store_model.specs.Serve.{stepped, serve_by, serve}
use Rattle.redo_log.specs.Log.{shaped, last_begun, opened, follows, total, start_at, record_at, record_ok, good_log, records}
use Rattle.redo_log.specs.Append.{stored, puts, line_bytes, stores, appended}
use Rattle.redo_log_claims.specs.Claims.{appended_all}
use Rattle.redo_recovery_model.specs.Recovery.{due}
use Rattle.redo_recovery_model.specs.Claims.{rewritten}
use Rattle.transactions.specs.System.{with_updates, after_step}
use Rattle.transaction_steps.specs.Steps.{first_due, last_due, next_step, next_of}
use Rattle.transaction_steps_claims.specs.Follower.{after_doing}
use Rattle.transaction_steps_claims.specs.AgainCases.{AgainCases}
use Rattle.transaction_steps_claims.specs.Cases.{StepRows, FollowerRuns, NextStepCases}

step_rows : StepRows
unfolding first_due last_due next_step next_of due last_begun opened shaped follows total start_at record_at record_ok good_log records all all_from le to_le part
    tabulate every
step_rows =
    record {
      opening = refl;
      given_up = refl;
      another = refl;
      writing = refl;
      hazard = refl;
      second = refl;
      third = refl;
      bytes = refl;
      answers = refl;
      no_entry_lem = refl;
    }

follower_runs : FollowerRuns
unfolding foldl every_along after_doing first_due last_due next_step after_step with_updates rewritten due stored puts line_bytes stores appended shaped last_begun
    opened follows total start_at record_at record_ok good_log records serve serve_by stepped sound header_sound card_sound translation_sound tail_zero decode
    card_at entry_at read_entry encode bodies pad entry_bytes header shape_ok fresh replied raise entry_sound command_bytes formed payload fields_of well_formed
    all all_from le to_le part splice tabulate concat_map every zeros
follower_runs = record { told = refl; whole = refl; deaf = refl; still = refl }

again_cases : AgainCases
unfolding due appended_all stored puts line_bytes stores appended shaped last_begun opened follows total start_at record_at record_ok good_log records all all_from
    le to_le part splice tabulate every zeros
again_cases = record { begins = refl; front = refl; behind = refl; kept = refl }

pub next_step_cases : NextStepCases
next_step_cases = (step_rows, (follower_runs, again_cases))
