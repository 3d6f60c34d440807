-- Theorems on transactions and editions, used where their hypotheses only just hold: nothing has happened yet, a card
-- under the mark with both lines due, a reader who is refused. A stricter hypothesis or a sentence left out is noticed
-- here.
-- Assumes nothing.
use Prim.Native.Nat.{ℕ}
use native.Mathlib.Omega.{arith}
use mathlib.Core.Path.{◌≡◌, refl}
use mathlib.Core.List.{List, [], ◌++◌}
use mathlib.Core.Bool.{Bool, true, false, not}
use lib.Dec.{T, eqb}
use lib.ListN.{length}
use Rattle.formats.specs.Format.{V1}
use Rattle.lists.specs.Parts.{part, splice, tabulate, concat_map, every, zeros}
use Rattle.lists.specs.Le.{le, to_le}
use Rattle.lists.specs.Table.{all, all_from}
use Rattle.lists.specs.Runs.{foldl, every_along}
use Rattle.commands.specs.Command.{well_formed}
use Rattle.commands.specs.Bytes.{fields_of, payload, formed, command_bytes}
use Rattle.guard.specs.Entry.{entry_sound}
use Rattle.guard.specs.Judge.{raise}
use Rattle.guard.specs.Replies.{replied}
use Rattle.image.specs.Layout.{shape_ok}
use Rattle.image.specs.Bytes.{header, entry_bytes, pad, read_entry, entry_at}
use Rattle.image.specs.Image.{bodies, encode, card_at, decode, tail_zero, translation_sound, card_sound, header_sound, sound, fresh}
use Rattle.stamps.specs.Stamp.{no_mark}
use Rattle.store_model.specs.Serve.{stepped, serve_by, serve}
use Rattle.store_model.specs.Words.{Sent}
use Rattle.store_model.specs.Cases.{mark_of, long}
use Rattle.redo_log.specs.Log.{shaped, last_begun, opened, follows, total, start_at, record_at, record_ok, good_log, records}
use Rattle.redo_log.specs.Append.{stored, puts, line_bytes, stores, appended}
use Rattle.redo_log_claims.specs.Cases.{empty_log}
use Rattle.redo_recovery_model.specs.Recovery.{due}
use Rattle.redo_recovery_model.specs.Claims.{rewritten}
use Rattle.transactions.specs.System.{OneDesk, Step, mark_in, with_updates, outcome, after_step, after_steps}
use Rattle.transactions.specs.Claims.{Moment}
use Rattle.transactions.proofs.Claims.{fresh_clean, zeros_blank}
use Rattle.transactions_cases.specs.Cases.{at_first, five, command, both}
use Rattle.transactions_cases.proofs.Cases.{below_test, sent_test, step_test, steps_test, steps_tested}
use Rattle.transactions_editions.specs.Editions.{current_in, current_by, meant_current}
use Rattle.transactions_editions.specs.Cases.{written_twice, makes_ready, commits_it}
use Rattle.transactions.specs.Desks.{Desks, desks_opening, DesksMoment}
use Rattle.transactions_editions.specs.Desks.{desks_meant_current}
use Rattle.transactions_editions.proofs.Claims.{editions_at_once, translations_read}
use Rattle.transactions_editions.proofs.Desks.{desks_editions_at_once, desks_translations_read}

-- ---- two moments: the beginning, and desk 5's commit of both texts of card 0

shape_two : T (shape_ok V1 2 16)
unfolding shape_ok all all_from
shape_two = tt

beginning : Moment 5 at_first
unfolding every_along foldl
beginning =
    record {
      image = fresh V1 2 16;
      log = empty_log 64;
      steps = [];
      store = fresh_clean (λ e. eqb e 5) refl 2 16 shape_two;
      blank = zeros_blank 2265 (omega arith) (omega arith);
      sent = tt;
      rules = refl;
      led = refl;
    }

abbrev committing : List Step
committing = written_twice ++ (makes_ready both ++ commits_it)

committing_bytes : steps_test committing ≡ true
unfolding steps_test step_test sent_test below_test command_bytes to_le
committing_bytes = refl

committed : Moment 5 (after_steps 5 at_first committing)
unfolding every_along foldl after_step with_updates rewritten due stored puts line_bytes stores appended shaped last_begun opened follows total start_at
    record_at record_ok good_log records serve serve_by stepped sound header_sound card_sound translation_sound tail_zero decode card_at entry_at read_entry
    encode bodies pad entry_bytes header shape_ok fresh replied raise entry_sound command_bytes formed payload fields_of well_formed all all_from le to_le
    part splice tabulate concat_map every zeros
committed =
    record {
      image = fresh V1 2 16;
      log = empty_log 64;
      steps = committing;
      store = fresh_clean (λ e. eqb e 5) refl 2 16 shape_two;
      blank = zeros_blank 2265 (omega arith) (omega arith);
      sent = steps_tested committing committing_bytes;
      rules = refl;
      led = refl;
    }

-- ---- whether a translation is current, each sentence (rule 16.19)

-- On a card that is not there, too: nothing is behind nothing.
plain_first : current_in at_first.image 9 ≡ meant_current 5 at_first beginning 9
unfolding beginning decode sound fresh encode bodies tabulate concat_map card_at entry_at read_entry header entry_bytes pad le to_le part
plain_first = (editions_at_once 5 at_first beginning).plain 9 refl

abbrev after : OneDesk
after = after_steps 5 at_first committing

plain_other : eqb (mark_in after.image 1).desk 5 ≡ false → current_in after.image 1 ≡ meant_current 5 after committed 1
plain_other = (editions_at_once 5 after committed).plain 1

marked_then :
    eqb (mark_in after.image 0).desk 5 ≡ true → current_by (records after.log) 0 (length (records after.log)) (current_in after.image 0) ≡ meant_current 5 after committed 0
marked_then = (editions_at_once 5 after committed).marked 0

-- ---- a read of the translation (rule 16.20): it is refused at first, and it may expect another desk's mark

abbrev translation : Sent
translation = command 2 0 (five 9) (five 9) no_mark no_mark [] (long 3)

first_refused_lem : (outcome at_first translation).answer.number ≡ 6
unfolding serve serve_by stepped sound header_sound card_sound translation_sound tail_zero decode card_at entry_at read_entry encode bodies pad entry_bytes header
    shape_ok fresh replied raise entry_sound command_bytes formed payload fields_of well_formed all all_from le to_le part splice tabulate concat_map every zeros
first_refused_lem = refl

refused_so : meant_current 5 at_first beginning 0 ≡ false
unfolding command_bytes fields_of le to_le part
refused_so = (translations_read 5 at_first beginning translation refl refl).refused first_refused_lem

abbrev marked4 : Sent
marked4 = command 2 0 (five 9) (five 9) (mark_of 4 1) no_mark [] (long 3)

shown_so : (outcome after marked4).answer.number ≡ 0 → meant_current 5 after committed 0 ≡ true
unfolding command_bytes fields_of le to_le part
shown_so = (translations_read 5 after committed marked4 refl refl).shown

-- ---- many desks: all that have a number are under the rules, and nothing has happened yet

abbrev but0 : ℕ → Bool
but0 d = not (eqb d 0)

abbrev all_first : Desks
all_first = desks_opening (fresh V1 2 16) (λ (d : ℕ). empty_log 64)

all_begin : DesksMoment but0 all_first
unfolding every_along foldl
all_begin =
    record {
      image = fresh V1 2 16;
      logs = λ d. empty_log 64;
      steps = [];
      store = fresh_clean but0 refl 2 16 shape_two;
      blank = λ d. zeros_blank 2265 (omega arith) (omega arith);
      sent = tt;
      rules = refl;
      led = refl;
    }

desks_plain : current_in all_first.image 9 ≡ desks_meant_current but0 all_first all_begin 9
unfolding decode sound fresh encode bodies tabulate concat_map card_at entry_at read_entry header entry_bytes pad le to_le part
desks_plain = (desks_editions_at_once but0 all_first all_begin).plain 9 refl

desks_marked :
    but0 (mark_in all_first.image 0).desk ≡ true
    → current_by (records (all_first.part (mark_in all_first.image 0).desk).log) 0 (length (records (all_first.part (mark_in all_first.image 0).desk).log)) (current_in all_first.image 0)
    ≡ desks_meant_current but0 all_first all_begin 0
desks_marked = (desks_editions_at_once but0 all_first all_begin).marked 0

desks_refused : desks_meant_current but0 all_first all_begin 0 ≡ false
unfolding command_bytes fields_of le to_le part
desks_refused = (desks_translations_read but0 all_first all_begin translation refl refl).refused first_refused_lem

desks_shown : (outcome at_first translation).answer.number ≡ 0 → desks_meant_current but0 all_first all_begin 0 ≡ true
unfolding command_bytes fields_of le to_le part
desks_shown = (desks_translations_read but0 all_first all_begin translation refl refl).shown
