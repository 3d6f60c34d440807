-- The stories, the runs that break one rule and the other worked runs, by computation on bytes. Assumes nothing.
use mathlib.Core.Path.{refl, ◌≡◌, sym, subst}
use lib.Ieee.{of_bits, of_int, add, sub, mul, div, neg, lt, le as at_most}
use Rattle.floats.specs.Numbers.{whole_float, half}
use Rattle.lists.specs.Parts.{part, splice, tabulate, concat_map, every, zeros}
use Rattle.lists.specs.Le.{le, to_le}
use Rattle.lists.specs.Table.{all, all_from}
use Rattle.lists.specs.Runs.{foldl, every_along}
use Rattle.commands.specs.Command.{well_formed}
use Rattle.commands.specs.Bytes.{fields_of, payload, formed, command_bytes}
use Rattle.guard.specs.Entry.{entry_sound}
use Rattle.guard.specs.Judge.{raise}
use Rattle.guard.specs.Replies.{replied}
use Rattle.image.specs.Layout.{shape_ok}
use Rattle.image.specs.Bytes.{header, entry_bytes, pad, read_entry, entry_at}
use Rattle.image.specs.Image.{makes, bodies, encode, card_at, decode, tail_zero, translation_sound, card_sound, header_sound, sound, fresh}
use Rattle.store_model.specs.Serve.{stepped, serve_by, serve}
use Rattle.image.specs.Convert.{converted}
use Rattle.image.specs.Image.{makes, bodies, encode, card_at, decode, tail_zero, translation_sound, card_sound, header_sound, sound, fresh}
use Rattle.redo_log.specs.Log.{shaped, last_begun, opened, follows, total, start_at, record_at, record_ok, good_log, records}
use Rattle.redo_log.specs.Append.{stored, puts, line_bytes, stores, appended}
use Rattle.redo_log_claims.specs.Claims.{appended_all}
use Rattle.redo_recovery_model.specs.Recovery.{due, recovery_sent, recovery_step, recovering, recovered}
use Rattle.lock_queue.specs.Queue.{stands, first_place, no_exclusive, holds_at, holds}
use Rattle.lock_queue.specs.Good.{distinct, good}
use Rattle.lock_queue.specs.Requests.{joined, removed, without, upgrading, queue_joined, answered, number, after, answer}
use Rattle.desk_proposals.specs.Propose.{learnt, next_t, pair_for, proposed}
use Rattle.desk_system.specs.System.{send_steps, step_to, system_after, send}
use Rattle.desk_system_cases.specs.Trials.{Story, LongStory, ManyManagers, RulesNeeded, single_card}
use native.Mathlib.Omega.{arith}
use mathlib.Core.List.{map}
use Rattle.formats.specs.Format.{V1}
use Rattle.store_model.specs.Words.{image_after, trace_from, trace_of}
use Rattle.store_model.specs.Claims.{Intruded}
use Rattle.store_model.specs.Cases.{sent_d}
use Rattle.store_model.proofs.Premise.{premise_tells}
use Rattle.desk_system_cases.specs.HistoryCases.{Lived, HistoryNeeds}
use Rattle.desk_system_cases.specs.ProgressCases.{GuardCases, SpendCases}
use Rattle.desk_system_cases.specs.Runs.{DeskRuns}

story_holds : Story
unfolding every_along foldl step_to learnt next_t pair_for proposed answered number after answer upgrading queue_joined first_place good distinct stands
    joined removed without serve serve_by stepped sound header_sound card_sound translation_sound tail_zero decode card_at entry_at read_entry encode bodies
    pad entry_bytes header shape_ok fresh replied raise entry_sound command_bytes formed payload fields_of well_formed all all_from le to_le part splice
    tabulate concat_map every zeros shaped total good_log records
story_holds = record { rules = refl; ends = refl; carried = refl; below = refl }

long_story_lem : LongStory
unfolding every_along foldl step_to send_steps due recovery_sent recovery_step recovering recovered appended_all stored puts line_bytes stores appended
    shaped last_begun opened follows total start_at record_at record_ok good_log records converted makes learnt next_t pair_for proposed answered number
    after answer upgrading queue_joined first_place good distinct stands joined removed without serve serve_by stepped sound header_sound card_sound
    translation_sound tail_zero decode card_at entry_at read_entry encode bodies pad entry_bytes header shape_ok fresh replied raise entry_sound command_bytes
    formed payload fields_of well_formed all all_from le to_le part splice tabulate concat_map every zeros of_bits of_int whole_float half add sub mul div neg lt at_most
long_story_lem = record { rules = refl; ends = refl; not_proposed = refl; not_exclusive = refl }

many_managers_lem : ManyManagers
unfolding every_along foldl step_to learnt next_t pair_for proposed answered number after answer upgrading queue_joined first_place good distinct stands
    no_exclusive holds_at holds joined removed without serve serve_by stepped sound header_sound card_sound translation_sound tail_zero decode card_at entry_at
    read_entry encode bodies pad entry_bytes header shape_ok fresh replied raise entry_sound command_bytes formed payload fields_of well_formed all all_from le
    to_le part splice tabulate concat_map every zeros
many_managers_lem = record { rules = refl; answers = refl; held_0 = refl; held_1 = refl }

rules_needed : RulesNeeded
unfolding every_along foldl step_to learnt next_t pair_for proposed answered number after answer upgrading queue_joined first_place good distinct stands
    joined removed without serve serve_by stepped sound header_sound card_sound translation_sound tail_zero decode card_at entry_at read_entry encode bodies
    pad entry_bytes header shape_ok fresh replied raise entry_sound command_bytes formed payload fields_of well_formed all all_from le to_le part splice
    tabulate concat_map every zeros
rules_needed =
    record {
      start_again = record { before = refl; refused = refl; after = refl; broken = refl };
      never_proposed = record { before = refl; refused = refl; after = refl; broken = refl };
      never_proposed_update = record { before = refl; refused = refl; after = refl; broken = refl };
      other_mode = record { before = refl; refused = refl; after = refl; broken = refl };
      other_card = record { before = refl; refused = refl; after = refl; broken = refl };
      never_proposed_ask = record { before = refl; refused = refl; after = refl; broken = refl };
      half_learnt = record { before = refl; refused = refl; after = refl; broken = refl };
      learnt_elsewhere = record { before = refl; refused = refl; after = refl; broken = refl };
      own_forgotten = record { before = refl; after = refl; broken = refl };
      not_above = record { before = refl; after = refl; broken = refl };
      guessed = record { before = refl; after = refl; broken = refl };
      kept_x = record { before = refl; after = refl; broken = refl };
      knew = record { before = refl; after = refl; broken = refl };
      stored = record { before = refl; after = refl; broken = refl };
      queued = record { before = refl; after = refl; broken = refl };
    }

-- ---- the whole system

lived_through : Lived
unfolding every_along foldl step_to send_steps due recovery_sent recovery_step recovering recovered appended_all stored puts line_bytes stores appended
    shaped last_begun opened follows total start_at record_at record_ok good_log records converted makes learnt next_t pair_for proposed answered number
    after answer upgrading queue_joined first_place good distinct stands joined removed without serve serve_by stepped sound header_sound card_sound
    translation_sound tail_zero decode card_at entry_at read_entry encode bodies pad entry_bytes header shape_ok fresh replied raise entry_sound command_bytes
    formed payload fields_of well_formed all all_from le to_le part splice tabulate concat_map every zeros
lived_through = record { rules = refl; cut = refl; logged = refl; ends = refl }

-- Requests alone leave demand 3's log.
only_sent : (system_after single_card (map send sent_d)).store.trace ≡ trace_of V1 1 16 sent_d
unfolding foldl step_to trace_of trace_from image_after
only_sent = refl

history_needs : HistoryNeeds
unfolding every_along foldl step_to learnt appended shaped good_log records command_bytes formed payload fields_of well_formed all all_from le to_le part splice
    tabulate concat_map every zeros
history_needs =
    record { unruled = refl; intruded = subst Intruded (sym only_sent) premise_tells.without; bad_log = refl; no_record = refl }

-- ---- desks that get on

guard_cases : GuardCases
unfolding image_after next_t pair_for proposed serve serve_by stepped sound header_sound card_sound translation_sound tail_zero decode card_at entry_at read_entry encode
    bodies pad entry_bytes header shape_ok fresh replied raise entry_sound command_bytes formed payload fields_of well_formed all all_from le to_le part splice
    tabulate concat_map every zeros
guard_cases = record { near = refl; edge = refl; passes = refl; too_far = refl; far = refl; unrelying = refl; overtaken = refl }

spend_cases : SpendCases
unfolding every_along foldl step_to learnt next_t pair_for proposed answered number after answer upgrading queue_joined first_place good distinct stands
    joined removed without serve serve_by stepped sound header_sound card_sound translation_sound tail_zero decode card_at entry_at read_entry encode bodies
    pad entry_bytes header shape_ok fresh replied raise entry_sound command_bytes formed payload fields_of well_formed all all_from le to_le part splice
    tabulate concat_map every zeros
spend_cases =
    record {
      refused = refl;
      after = refl;
      spent = refl;
      none_made = refl;
      guarded = refl;
      enough = record { raised = omega arith; together = omega arith };
      not_enough = λ s. absurd (omega (arith, s.raised));
      alone = record { raised = omega arith; together = omega arith };
    }

-- ---- all of them

pub desk_runs : DeskRuns
desk_runs = (story_holds, (long_story_lem, (many_managers_lem, (rules_needed, (lived_through, (history_needs, (guard_cases, spend_cases)))))))
