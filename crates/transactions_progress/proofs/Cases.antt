-- The edges of what can be written, by computation. Assumes nothing.
use mathlib.Core.Path.{refl}
use Rattle.lists.specs.Parts.{part, splice, tabulate, concat_map, every, zeros}
use Rattle.lists.specs.Le.{le, to_le}
use Rattle.lists.specs.Table.{all, all_from}
use Rattle.lists.specs.Runs.{foldl, every_along}
use Rattle.commands.specs.Command.{well_formed}
use Rattle.commands.specs.Bytes.{fields_of, payload, formed, command_bytes}
use Rattle.guard.specs.Entry.{entry_sound}
use Rattle.guard.specs.Judge.{raise}
use Rattle.guard.specs.Replies.{replied}
use Rattle.image.specs.Layout.{shape_ok}
use Rattle.image.specs.Bytes.{header, entry_bytes, pad, read_entry, entry_at}
use Rattle.image.specs.Image.{bodies, encode, card_at, decode, tail_zero, translation_sound, card_sound, header_sound, sound, fresh}
use Rattle.store_model.specs.Serve.{stepped, serve_by, serve}
use Rattle.redo_log.specs.Log.{shaped, last_begun, opened, follows, total, start_at, record_at, record_ok, good_log, records}
use Rattle.redo_log.specs.Append.{stored, puts, line_bytes, stores, appended}
use Rattle.redo_log_claims.specs.Claims.{appended_all}
use Rattle.redo_recovery_model.specs.Recovery.{due, recovery_sent, recovery_step, recovering, recovered}
use Rattle.redo_recovery_model.specs.Claims.{rewritten}
use Rattle.transactions.specs.System.{with_updates, after_step}
use Rattle.transactions_progress.specs.Progress.{originals_due}
use Rattle.transactions_progress.specs.Holders.{after_acting}
use Rattle.transactions_progress.specs.Cases.{FinishCases, HandoverCases, ProgressRuns}

finish_cases : FinishCases
unfolding originals_due appended_all recovered recovering recovery_step recovery_sent due stored puts line_bytes stores appended shaped last_begun opened
    follows total start_at record_at record_ok good_log records serve serve_by stepped sound header_sound card_sound translation_sound tail_zero decode card_at
    entry_at read_entry encode bodies pad entry_bytes header shape_ok fresh replied raise entry_sound command_bytes formed payload fields_of well_formed all
    all_from le to_le part splice tabulate concat_map every zeros
finish_cases = record { room = refl; cards = refl; sides = refl; editions = refl; pairs = refl }

handover_cases : HandoverCases
unfolding every_along foldl after_acting after_step with_updates rewritten due stored puts line_bytes stores appended shaped last_begun opened
    follows total start_at record_at record_ok good_log records serve serve_by stepped sound header_sound card_sound translation_sound tail_zero decode card_at
    entry_at read_entry encode bodies pad entry_bytes header shape_ok fresh replied raise entry_sound command_bytes formed payload fields_of well_formed all
    all_from le to_le part splice tabulate concat_map every zeros
handover_cases = record { rules = refl; minded = refl; former = refl; new = refl }

pub progress_runs : ProgressRuns
progress_runs = (finish_cases, handover_cases)
