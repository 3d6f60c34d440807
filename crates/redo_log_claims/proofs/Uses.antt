-- Theorems on the redo log, used where their hypotheses only just hold: any bytes as a log, a cut at the first and at
-- the last store, a refused append among others. A stricter hypothesis or a sentence left out is noticed here.
-- Assumes nothing.
use Prim.Native.Nat.{ℕ, ◌<◌}
use native.Mathlib.Omega.{arith}
use mathlib.Core.Path.{◌≡◌, refl}
use mathlib.Core.Logic.{inl, inr}
use mathlib.Core.List.{List, [], ◌∷◌, ◌++◌}
use mathlib.Core.Bool.{true}
use lib.ListN.{length, get_or}
use Rattle.lists.specs.Parts.{part, every}
use Rattle.lists.specs.Le.{le, to_le}
use Rattle.lists.specs.Table.{all, all_from}
use Rattle.redo_log.specs.Log.{LogRecord, record_count, record_transaction, good_log, records, shaped, last_begun, opened, follows, total, start_at, record_at, record_ok}
use Rattle.redo_log.specs.Append.{stored, puts, line_bytes, stores, append_number, appended}
use Rattle.redo_log_claims.specs.Claims.{appended_all, all_stores, admitted_of, wholly, cut_after}
use Rattle.redo_log_claims.specs.Cases.{begin_of, commit_of, empty_log}
use Rattle.redo_log_claims.proofs.Claims.{appends, histories}
use Rattle.redo_log_claims.proofs.Life.{append_resumes, appends_in_three}
use Rattle.redo_log_claims.proofs.Order.{above_every}

-- To bytes that are no log, of a record that is none: refused, and nothing changes.
bad_number : append_number 0 [] (record { kind = 9; body = [] }) ≡ 23
unfolding good_log
bad_number = refl

bad_kept : appended 0 [] (record { kind = 9; body = [] }) ≡ []
bad_kept = (appends 0 [] (record { kind = 9; body = [] })).bad bad_number

stores_bad : length (stores [] (record { kind = 9; body = [] })) ≡ 12
stores_bad = (appends 0 [] (record { kind = 9; body = [] })).all

-- A begin, cut one store before its end, and whole.
cut15 : append_number 15 (empty_log 4) (begin_of 1) ≡ 26
unfolding shaped last_begun opened follows start_at record_at good_log every le to_le part
cut15 = refl

cut15_reads : records (appended 15 (empty_log 4) (begin_of 1)) ≡ records (empty_log 4)
cut15_reads = ((appends 15 (empty_log 4) (begin_of 1)).cut cut15).1

count15 : record_count (appended 15 (empty_log 4) (begin_of 1)) ≡ 0
unfolding to_le
count15 = (appends 15 (empty_log 4) (begin_of 1)).count_last (omega arith)

whole16 : append_number 16 (empty_log 4) (begin_of 1) ≡ 0
unfolding shaped last_begun opened follows start_at record_at good_log every le to_le part
whole16 = refl

whole16_reads : records (appended 16 (empty_log 4) (begin_of 1)) ≡ records (empty_log 4) ++ begin_of 1 ∷ []
whole16_reads = ((appends 16 (empty_log 4) (begin_of 1)).whole whole16).1

-- With the body's four stores made, the last byte in front of the bodies is as it was.
front4 : get_or (appended 4 (empty_log 4) (begin_of 1)) 2200 0 ≡ get_or (empty_log 4) 2200 0
unfolding to_le
front4 = (appends 4 (empty_log 4) (begin_of 1)).body_first (omega arith) 2200 (omega arith)

-- A list with a refused append in it, cut before the first store, and not at all.
abbrev three : List LogRecord
three = begin_of 1 ∷ begin_of 1 ∷ commit_of 1 ∷ []

start_good : good_log (empty_log 8) ≡ true
unfolding good_log every
start_good = refl

cut0 : records (cut_after 0 (empty_log 8) three) ≡ records (empty_log 8) ++ wholly 0 (admitted_of (empty_log 8) three)
cut0 = (histories 0 (empty_log 8) three start_good).back

cut99 : records (cut_after 99 (empty_log 8) three) ≡ records (empty_log 8) ++ wholly 99 (admitted_of (empty_log 8) three)
cut99 = (histories 99 (empty_log 8) three start_good).back

cut99_good : good_log (cut_after 99 (empty_log 8) three) ≡ true
cut99_good = (histories 99 (empty_log 8) three start_good).good

cut99_same : stored (all_stores (empty_log 8) three) (empty_log 8) ≡ appended_all (empty_log 8) three
cut99_same = (histories 99 (empty_log 8) three start_good).same

-- ---- an append that is cut and made again (rule 11.24): before its first store, and one before its last with one more

resumes0 : appended 0 (appended 0 (empty_log 4) (begin_of 1)) (begin_of 1) ≡ appended 0 (empty_log 4) (begin_of 1)
unfolding shaped last_begun opened follows start_at record_at good_log every le to_le part
resumes0 = append_resumes 0 0 (empty_log 4) (begin_of 1) (omega arith) refl

resumes15 : appended 16 (appended 15 (empty_log 4) (begin_of 1)) (begin_of 1) ≡ appended 16 (empty_log 4) (begin_of 1)
resumes15 = append_resumes 15 16 (empty_log 4) (begin_of 1) (omega arith) cut15

-- ---- body, line and count, one behind the other (rule 11.25): the bytes next to each

body_front : get_or (appended 4 (empty_log 4) (begin_of 1)) 2200 0 ≡ get_or (empty_log 4) 2200 0
unfolding start_at total record_at le part to_le
body_front = (appends_in_three (empty_log 4) (begin_of 1)).body 2200 (inl (omega arith))

line_behind : get_or (appended 15 (empty_log 4) (begin_of 1)) 12 0 ≡ get_or (appended 4 (empty_log 4) (begin_of 1)) 12 0
unfolding to_le
line_behind = (appends_in_three (empty_log 4) (begin_of 1)).line 12 (inr (omega arith))

count_behind : get_or (appended 16 (empty_log 4) (begin_of 1)) 1 0 ≡ get_or (appended 15 (empty_log 4) (begin_of 1)) 1 0
unfolding to_le
count_behind = (appends_in_three (empty_log 4) (begin_of 1)).count 1 (omega arith)

-- Of a record that is none, to what is no log.
count_none : get_or (appended 12 [] (record { kind = 9; body = [] })) 1 0 ≡ get_or (appended 11 [] (record { kind = 9; body = [] })) 1 0
count_none = (appends_in_three [] (record { kind = 9; body = [] })).count 1 (omega arith)

-- ---- above every earlier one (rule 11.5): with no record, and at the end of a log with one

start_good4 : good_log (empty_log 4) ≡ true
unfolding good_log every
start_good4 = refl

first_above : 0 < 1
unfolding last_begun
first_above = ((above_every (empty_log 4) start_good4 0 (omega arith) 1).0 (omega arith)).0

abbrev begun : List ℕ
begun = appended 16 (empty_log 4) (begin_of 7)

begun_good : good_log begun ≡ true
unfolding stored puts line_bytes stores appended shaped last_begun opened follows total start_at record_at record_ok good_log every all all_from le to_le part
begun_good = refl

next_above : record_transaction (record_at begun 0) < 8
unfolding stored puts line_bytes stores appended shaped last_begun opened follows total start_at record_at record_ok good_log every all all_from le to_le part
next_above = ((above_every begun begun_good 1 (omega arith) 8).0 (omega arith)).1 0 (omega arith) refl
