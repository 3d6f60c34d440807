-- Theorems on the steps that a desk is told, used where their hypotheses only just hold: a desk that forgets, falls and
-- logs half a record, a card that is not there, a store on which nothing has happened, a stamp as far ahead as the guard
-- allows. A stricter hypothesis or a sentence left out is noticed here.
-- Assumes nothing.
use Prim.Native.Nat.{ℕ, ◌+◌, ◌≤◌}
use native.Mathlib.Omega.{arith}
use mathlib.Core.Path.{◌≡◌, refl}
use mathlib.Core.List.{List, [], ◌∷◌, ◌++◌, map}
use mathlib.Core.Bool.{true, false}
use lib.Dec.{T, eqb}
use lib.ListN.{length}
use Rattle.formats.specs.Format.{V1}
use Rattle.lists.specs.Parts.{part, splice, tabulate, concat_map, every, zeros}
use Rattle.lists.specs.Le.{le, to_le}
use Rattle.lists.specs.Table.{all, all_from}
use Rattle.lists.specs.Runs.{foldl, every_along}
use Rattle.commands.specs.Command.{well_formed}
use Rattle.commands.specs.Bytes.{fields_of, payload, formed, command_bytes}
use Rattle.image.specs.Layout.{shape_ok}
use Rattle.image.specs.Bytes.{header, entry_bytes, pad, read_entry, entry_at}
use Rattle.image.specs.Image.{bodies, encode, card_at, decode, fresh}
use Rattle.redo_log.specs.Log.{LogRecord, synced_kind, shaped, last_begun, opened, follows, total, start_at, record_at, record_ok, good_log, records}
use Rattle.redo_log.specs.Append.{stored, puts, line_bytes, stores, appended}
use Rattle.redo_log_claims.specs.Cases.{begin_of, empty_log}
use Rattle.redo_recovery_model.specs.Recovery.{due}
use Rattle.transactions.specs.System.{OneDesk, Step, other, order, arrive, append, crash, recover, renew, mark_in, written_out, outcome, after_step}
use Rattle.transactions.specs.Claims.{StepBytes, AllSteps, Clean, Blank, Moment}
use Rattle.transactions.proofs.Claims.{fresh_clean, zeros_blank}
use Rattle.transactions_cases.specs.Cases.{at_first, five, prepare, begins, prepares_both, commits, writes_out0, releases0, overtaken, notes}
use Rattle.transactions_cases.proofs.Cases.{below_test, sent_test, pairs_test, step_test, step_tested, steps_test, steps_tested}
use Rattle.transaction_steps.specs.Steps.{plain_step, nothing_step, next_step}
use Rattle.transaction_steps_claims.specs.Follower.{no_mind, Doing, logging, renewing, dropping, falling, DoingBytes, AllDoings, follower_opening, after_doing, after_doings, all_as_told}
use Rattle.transaction_steps_claims.specs.Ends.{Course, course_after, Notes, EndsSoon, nobody_between}
use Rattle.transaction_steps_claims.specs.Cases.{done_as_told}
use Rattle.transaction_steps_claims.proofs.Follower.{followers_keep_the_rules}
use Rattle.transaction_steps_claims.proofs.Ends.{steps_end}
use Rattle.transaction_steps_claims.proofs.Taken.{orders_taken}
use Rattle.transaction_steps_claims.proofs.Cases.{next_step_cases}

shape_two : T (shape_ok V1 2 16)
unfolding shape_ok all all_from
shape_two = tt

clean : Clean (λ e. eqb e 5) (fresh V1 2 16)
clean = fresh_clean (λ e. eqb e 5) refl 2 16 shape_two

blank : Blank (empty_log 64)
blank = zeros_blank 2265 (omega arith) (omega arith)

-- ---- a desk that does as it is told (rule 16.26): through the hazard

followed : (m : Step) → StepBytes m → DoingBytes (done_as_told m)
followed (other s) b = b
followed (order s line from) b = b
followed (arrive i) b = tt
followed (append budget r) b = b
followed crash b = tt
followed (recover pairs lines) b = tt
followed renew b = tt

all_followed : (steps : List Step) → AllSteps steps → AllDoings (map done_as_told steps)
all_followed [] b = tt
all_followed (m ∷ steps) b = (followed m b.0, all_followed steps b.1)

abbrev hazard : List Step
hazard = begins ++ prepares_both ++ commits ++ writes_out0 ++ releases0 ++ overtaken ++ notes

hazard_bytes : steps_test hazard ≡ true
unfolding steps_test step_test sent_test pairs_test below_test command_bytes to_le
hazard_bytes = refl

abbrev after_hazard : OneDesk
after_hazard = (after_doings 5 (follower_opening (fresh V1 2 16) (empty_log 64)) (map done_as_told hazard)).desk

through_hazard : Moment 5 after_hazard
through_hazard =
    followers_keep_the_rules 5 (fresh V1 2 16) (empty_log 64) (map done_as_told hazard) clean blank (all_followed hazard (steps_tested hazard hazard_bytes)) next_step_cases.1.0.told

-- It forgets a card that is not there, falls, logs half a begin and then a whole one, and lets its log begin again.
abbrev idly : List Doing
idly = dropping 9 ∷ falling ∷ logging 3 (begin_of 1) ∷ logging 16 (begin_of 1) ∷ renewing ∷ []

idly_bytes : AllDoings idly
unfolding step_test below_test to_le
idly_bytes = (tt, (tt, (step_tested (append 3 (begin_of 1)) refl, (step_tested (append 16 (begin_of 1)) refl, (tt, tt)))))

idly_told : all_as_told 5 (follower_opening (fresh V1 2 16) (empty_log 4)) idly ≡ true
unfolding every_along after_doing after_step due stored puts line_bytes stores appended shaped last_begun opened follows total start_at record_at record_ok good_log
    records all all_from le to_le part splice tabulate every zeros
idly_told = refl

idle_moment : Moment 5 (after_doings 5 (follower_opening (fresh V1 2 16) (empty_log 4)) idly).desk
idle_moment = followers_keep_the_rules 5 (fresh V1 2 16) (empty_log 4) idly clean (zeros_blank 2205 (omega arith) (omega arith)) idly_bytes idly_told

-- ---- the steps for a card end, each sentence (rule 16.28)

abbrev note : ℕ → ℕ → LogRecord
note k t = record { kind = synced_kind; body = k ∷ 0 ∷ t ∷ 0 ∷ 0 ∷ 0 ∷ [] }

noted : Notes note
unfolding le part
noted = record { kind = λ k t. refl; card = λ k t. omega arith; transaction = λ k t. omega arith }

ends : EndsSoon note 5 9 after_hazard
ends = steps_end note noted 5 9 after_hazard through_hazard

ends_few : ends.steps ≤ length (records after_hazard.log) + 3
ends_few = ends.few

abbrev at_end : Course
at_end = course_after note 5 9 ends.steps (record { lines = records after_hazard.log; bears = (mark_in after_hazard.image 9).desk; seen = no_mind.seen })

ends_resting : next_step 5 at_end.lines 9 false at_end.seen ≡ plain_step nothing_step
ends_resting = ends.ended.rests

ends_unmarked : eqb at_end.bears 5 ≡ false
ends_unmarked = ends.ended.unmarked

ends_done : written_out at_end.lines 9 0 (length at_end.lines) ≡ true
ends_done = ends.ended.done

-- ---- an order that nobody came before (rule 16.29)

beginning : Moment 5 at_first
unfolding every_along foldl
beginning = followers_keep_the_rules 5 (fresh V1 2 16) (empty_log 64) [] clean blank tt refl

nobody_came : all (nobody_between (decode V1 (fresh V1 2 16)) (prepare 1 0 (five 1000000))) ≡ true
unfolding decode card_at entry_at read_entry encode bodies pad entry_bytes header fresh command_bytes formed payload fields_of well_formed all all_from le to_le part
    tabulate concat_map every zeros
nobody_came = refl

taken : (outcome at_first (prepare 1 0 (five 1000000))).answer.number ≡ 0
taken = orders_taken 5 at_first (prepare 1 0 (five 1000000)) beginning nobody_came
