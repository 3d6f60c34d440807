-- Theorems on what is due, used where their hypotheses only just hold: a text as long as the room, a stamp as far ahead
-- as the guard allows, nothing due and no pairs, one step behind the commit, a log that was just taken over. A stricter
-- hypothesis or a sentence left out is noticed here.
-- Assumes nothing.
use Prim.Native.Nat.{ℕ}
use native.Mathlib.Omega.{arith}
use mathlib.Core.Path.{◌≡◌, refl}
use mathlib.Core.List.{List, [], ◌∷◌}
use mathlib.Core.Bool.{true}
use lib.Dec.{T, eqb}
use lib.ListN.{length}
use Rattle.formats.specs.Format.{V1}
use Rattle.lists.specs.Parts.{part, splice, tabulate, concat_map, every, zeros}
use Rattle.lists.specs.Le.{le, to_le}
use Rattle.lists.specs.Table.{all, all_from}
use Rattle.lists.specs.Runs.{foldl, every_along}
use Rattle.commands.specs.Command.{original, well_formed}
use Rattle.commands.specs.Bytes.{fields_of, payload, formed, command_bytes}
use Rattle.guard.specs.Entry.{entry_sound}
use Rattle.guard.specs.Judge.{raise}
use Rattle.guard.specs.Replies.{replied}
use Rattle.image.specs.Layout.{shape_ok}
use Rattle.image.specs.Bytes.{header, entry_bytes, pad, read_entry, entry_at}
use Rattle.image.specs.Image.{bodies, encode, card_at, decode, tail_zero, translation_sound, card_sound, header_sound, sound, fresh}
use Rattle.store_model.specs.Serve.{stepped, serve_by, serve}
use Rattle.store_model.specs.Cases.{long, text205}
use Rattle.redo_log.specs.Log.{shaped, last_begun, opened, follows, total, start_at, record_at, record_ok, good_log, records}
use Rattle.redo_log.specs.Append.{stored, puts, line_bytes, stores, appended}
use Rattle.redo_log_claims.specs.Claims.{appended_all}
use Rattle.redo_log_claims.specs.Cases.{begin_of, update_of, empty_log}
use Rattle.redo_recovery_model.specs.Recovery.{Pairs, due, recovered}
use Rattle.redo_recovery_model.specs.Claims.{text_in, rewritten}
use Rattle.transactions.specs.System.{OneDesk, order, arrive, recover, with_updates, after_step, after_steps}
use Rattle.transactions.specs.Claims.{Clean, Blank, Moment}
use Rattle.transactions.proofs.Claims.{fresh_clean, zeros_blank}
use Rattle.transactions_cases.specs.Cases.{at_first, text190, one, five, writes1, prepare, logs, up_to_commit}
use Rattle.transactions_cases.proofs.Cases.{below_test, bytes_tested, sent_test, pairs_test, pairs_tested, step_test, step_tested, steps_test, steps_tested}
use Rattle.transactions_progress.specs.Progress.{originals_due, can_finish, good_pairs}
use Rattle.transactions_progress.specs.Holders.{seen_as, ActingBytes, holders_opening}
use Rattle.transactions_progress.specs.Cases.{logged_once, each_under, handed_over, after_handover}
use Rattle.transactions_progress.proofs.Claims.{recovery_taken, one_step_finishes}
use Rattle.transactions_progress.proofs.Holders.{holders_are_one}
use Rattle.transactions_progress.proofs.Cases.{progress_runs}

shape_two : T (shape_ok V1 2 16)
unfolding shape_ok all all_from
shape_two = tt

clean : Clean (λ e. eqb e 5) (fresh V1 2 16)
clean = fresh_clean (λ e. eqb e 5) refl 2 16 shape_two

blank : Blank (empty_log 64)
blank = zeros_blank 2265 (omega arith) (omega arith)

-- ---- a recovery that is refused nothing (rule 16.22)

abbrev filling : List ℕ
filling = logged_once (update_of 1 1 (long 16) ∷ [])

filling_bytes : below_test 256 filling ≡ true
unfolding below_test appended_all stored puts line_bytes stores appended shaped last_begun opened follows total start_at record_at record_ok good_log records all all_from le to_le part every
filling_bytes = refl

filling_can : can_finish (fresh V1 2 16) (records filling) ≡ true
unfolding originals_due due appended_all stored puts line_bytes stores appended shaped last_begun opened follows total start_at record_at record_ok good_log records
    decode card_at entry_at read_entry encode bodies pad entry_bytes header fresh all all_from le to_le part tabulate concat_map every
filling_can = refl

farthest : good_pairs (fresh V1 2 16) (records filling) (each_under (five 1000000)) ≡ true
unfolding due appended_all stored puts line_bytes stores appended shaped last_begun opened follows total start_at record_at record_ok good_log records
    decode card_at entry_at read_entry encode bodies pad entry_bytes header fresh all all_from le to_le part tabulate concat_map every
farthest = refl

filling_good : good_log filling ≡ true
unfolding appended_all stored puts line_bytes stores appended shaped last_begun opened follows total start_at record_at record_ok good_log all all_from le to_le part every
filling_good = refl

pairs_fit : pairs_test (each_under (five 1000000)) ≡ true
unfolding pairs_test below_test
pairs_fit = refl

filled : (recovered (each_under (five 1000000)) filling (fresh V1 2 16)).number ≡ 0
filled =
    recovery_taken (each_under (five 1000000)) filling (fresh V1 2 16) (pairs_tested (each_under (five 1000000)) pairs_fit) (bytes_tested filling filling_bytes)
    clean.bytes clean.sounds filling_good filling_can farthest

-- Nothing due, no pairs, the shortest log.
abbrev no_pairs : Pairs
no_pairs = record { s = []; x = [] }

none_fit : pairs_test no_pairs ≡ true
unfolding pairs_test below_test
none_fit = refl

shortest : Blank (empty_log 0)
shortest = zeros_blank 2201 (omega arith) (omega arith)

nothing_taken : (recovered no_pairs (empty_log 0) (fresh V1 2 16)).number ≡ 0
unfolding records record_at tabulate le part every
nothing_taken =
    recovery_taken no_pairs (empty_log 0) (fresh V1 2 16) (pairs_tested no_pairs none_fit) shortest.bytes clean.bytes clean.sounds shortest.good refl refl

-- ---- one step behind the commit, with nothing written out (rule 16.22)

commit_bytes : steps_test up_to_commit ≡ true
unfolding steps_test step_test sent_test below_test command_bytes to_le
commit_bytes = refl

abbrev after : OneDesk
after = after_steps 5 at_first up_to_commit

committed : Moment 5 after
unfolding every_along foldl after_step with_updates rewritten due stored puts line_bytes stores appended shaped last_begun opened follows total start_at
    record_at record_ok good_log records serve serve_by stepped sound header_sound card_sound translation_sound tail_zero decode card_at entry_at read_entry
    encode bodies pad entry_bytes header shape_ok fresh replied raise entry_sound command_bytes formed payload fields_of well_formed all all_from le to_le
    part splice tabulate concat_map every zeros
committed =
    record {
      image = fresh V1 2 16;
      log = empty_log 64;
      steps = up_to_commit;
      store = clean;
      blank = blank;
      sent = steps_tested up_to_commit commit_bytes;
      rules = refl;
      led = refl;
    }

finish_fits : pairs_test (each_under (five 3)) ≡ true
unfolding pairs_test below_test
finish_fits = refl

finishes : text_in (after_step 5 after (recover (each_under (five 3)) (length (records after.log)))).image original 0 ≡ after.meant 0 original
unfolding originals_due every_along foldl after_step with_updates rewritten due stored puts line_bytes stores appended shaped last_begun opened follows total start_at
    record_at record_ok good_log records serve serve_by stepped sound header_sound card_sound translation_sound tail_zero decode card_at entry_at read_entry
    encode bodies pad entry_bytes header shape_ok fresh replied raise entry_sound command_bytes formed payload fields_of well_formed all all_from le to_le
    part splice tabulate concat_map every zeros
finishes = one_step_finishes 5 after (each_under (five 3)) committed (pairs_tested (each_under (five 3)) finish_fits) refl refl refl 0 original

-- ---- another desk for one that is down (rule 16.23): a log that was just taken over, and one that nobody touched

handed_bytes : ActingBytes handed_over
unfolding step_test sent_test below_test command_bytes to_le
handed_bytes = (
  step_tested (writes1 0 (one 1) text190) refl,
  (
    step_tested (logs (begin_of 1)) refl,
    (step_tested (logs (update_of 0 1 text205)) refl, (step_tested (order (prepare 0 (one 1) (five 2)) 0 0) refl, (step_tested (arrive 0) refl, tt))),
  ),
)

handed_moment : Moment 5 (seen_as after_handover.holder after_handover)
handed_moment = holders_are_one 5 1 (fresh V1 2 16) (empty_log 64) handed_over clean blank handed_bytes progress_runs.1.rules

untouched : Moment 5 (seen_as 70000 (holders_opening 70000 (fresh V1 2 16) (empty_log 0)))
unfolding every_along foldl
untouched = holders_are_one 5 70000 (fresh V1 2 16) (empty_log 0) [] clean shortest tt refl
