-- The worked cases: appends by the records that the log holds, the rest by computation on bytes. Assumes nothing.
use Prim.Native.Nat.{ℕ, zero, suc, ◌+◌, ◌*◌, ◌≤◌, ◌<◌}
use native.Mathlib.Omega.{arith}
use mathlib.Core.Path.{◌≡◌, refl, ap, ◌∙◌}
use mathlib.Core.List.{List, [], ◌∷◌, ◌++◌, map, head-eq_of_cons-eq, tail-eq_of_cons-eq}
use mathlib.Core.Bool.{Bool, true, false, cond, ◌&&◌, and-true}
use borrow.Author.Tests.{leb-true, ne_eqb, le-leb, le-ltb}
use lib.Dec.{leb, ltb, lit≤}
use lib.ListN.{length, replicate, length-replicate, get_or-replicate}
use Rattle.lists.specs.Parts.{part, tabulate, concat_map, every}
use Rattle.lists.specs.Le.{le, to_le}
use Rattle.lists.specs.Table.{all, all_from, settled}
use Rattle.redo_log.specs.Log.{
  LogRecord,
  no_record,
  bodies_from,
  most_log,
  line_place,
  shaped,
  last_begun,
  opened,
  follows,
  joins,
  total,
  start_at,
  record_at,
  record_ok,
  good_log,
  log_number,
  records,
  read_back,
  read_at,
}
use Rattle.redo_log.specs.Append.{stored, puts, line_bytes, stores, lacks, append_number, appended}
use Rattle.lists.proofs.Parts.{part_replicate}
use Rattle.redo_log_claims.specs.Claims.{appended_all}
use Rattle.redo_log_claims.specs.Cases.{begin_of, update_of, empty_log, AppendCase, CaseHolds, AllHold, append_cases, LogCases, one_synced, synced_log, LastLine}
use Rattle.redo_log_claims.specs.Edges.{log_record, wide, order_cases, EdgeCases, LogWorked}
use Rattle.redo_log_claims.proofs.Claims.{appends}
use Rattle.redo_log_claims.proofs.Zeros.{zero_logs}
use Rattle.redo_log_claims.proofs.Holding.{Holding, nth, start_by, number_by, held_by, held_all, number_by_lem, holding_more, line_by_lem, holding_all, holding_none}

-- ---- appends, by records

read_held : {size : ℕ} {rs : List LogRecord} {log : List ℕ} → Holding size rs log → read_back log ≡ rs
read_held is = rw is.good is.back

-- What is asked of a case, computed on records: there is room for the log, the number, and what is read back then.
abbrev Asked : Type 0
Asked = Bool × (ℕ × List LogRecord)

abbrev held_before : AppendCase → List LogRecord
held_before c = held_all (bodies_from + c.room) [] c.before

abbrev found : AppendCase → Asked
found c = (
  leb (bodies_from + c.room) most_log,
  (number_by c.budget (bodies_from + c.room) (held_before c) c.appending, held_by c.budget (bodies_from + c.room) (held_before c) c.appending),
)

abbrev asked : AppendCase → Asked
asked c = (true, (c.gives, c.back))

case_holds : (c : AppendCase) → found c ≡ asked c → CaseHolds c
case_holds c e =
    let fits : bodies_from + c.room ≤ most_log = leb-true (bodies_from + c.room) most_log (ap (λ (a : Asked). a.0) e) in
    let before = holding_all (bodies_from + c.room) [] c.before (empty_log c.room) (holding_none c.room fits) in (
      number_by_lem (bodies_from + c.room) (held_before c) _ before c.budget c.appending ∙ ap (λ (a : Asked). a.1.0) e,
      read_held (holding_more (bodies_from + c.room) (held_before c) _ before c.budget c.appending) ∙ ap (λ (a : Asked). a.1.1) e,
    )

all_hold : (cs : List AppendCase) → map found cs ≡ map asked cs → AllHold cs
all_hold [] e = tt
all_hold (c ∷ cs) e = (case_holds c (head-eq_of_cons-eq e), all_hold cs (tail-eq_of_cons-eq e))

appends_hold : AllHold append_cases
unfolding held_all start_by shaped last_begun opened follows le to_le part
appends_hold = all_hold append_cases refl

orders_hold : AllHold order_cases
unfolding held_all start_by shaped last_begun opened follows le to_le part
orders_hold = all_hold order_cases refl

-- A body of 303 bytes, behind a begin.
begun : Holding 2508 (begin_of 7 ∷ []) (appended 16 (empty_log 307) (begin_of 7))
unfolding start_by shaped last_begun opened follows le to_le part
begun = holding_more 2508 [] (empty_log 307) (holding_none 307 (lit≤ tt)) 16 (begin_of 7)

wide_line : part 12 11 (appended_all (empty_log 307) wide) ≡ 2 ∷ 157 ∷ 8 ∷ 0 ∷ 0 ∷ 47 ∷ 1 ∷ 217 ∷ 42 ∷ 1 ∷ 0 ∷ []
unfolding appended_all start_by shaped last_begun opened follows line_bytes total le to_le part
wide_line = line_by_lem 2508 (begin_of 7 ∷ []) (appended 16 (empty_log 307) (begin_of 7)) begun (update_of 258 2 (replicate 300 255)) refl

wide_held : held_all 2508 [] wide ≡ wide
unfolding held_all start_by shaped last_begun opened follows le to_le part
wide_held = refl

wide_back : read_back (appended_all (empty_log 307) wide) ≡ wide
wide_back = read_held (holding_all 2508 [] wide (empty_log 307) (holding_none 307 (lit≤ tt))) ∙ wide_held

-- ---- limits, by laws

zeros_number : (n : ℕ) → log_number (replicate n 0) ≡ cond (leb bodies_from n && leb n most_log) 0 23
zeros_number n = ap (λ (b : Bool). cond b 0 23) (zero_logs n).good

long_update : (n : ℕ) → shaped (log_record 2 (0 ∷ 0 ∷ 1 ∷ replicate n 0)) ≡ ltb (suc (suc (suc n))) 65536
unfolding shaped
long_update n = rw (length-replicate {A = ℕ} n 0, le-leb 3 (suc (suc (suc n))) (omega arith)) (and-true (ltb (suc (suc (suc n))) 65536))

-- Lines of zeros have no bodies.
start_zeros : (c i : ℕ) → i ≤ 199 → start_at (c ∷ replicate 2200 0) i ≡ bodies_from
unfolding start_at part le
start_zeros c zero h = refl
start_zeros c (suc i) h =
    let place : line_place i + 5 ≡ suc (11 * i + 5) = omega arith in
    rw (start_zeros c i (omega arith), place, part_replicate {A = ℕ} (11 * i + 5) 2 2200 0 (omega arith))

line199 : lacks (199 ∷ replicate 2200 0) no_record ≡ false
line199 = rw (start_zeros 199 199 (lit≤ tt))

-- ---- the tables

log_cases : LogCases
unfolding part tabulate every le to_le all all_from shaped last_begun opened follows total start_at record_at record_ok good_log records read_at stored puts line_bytes stores appended
log_cases =
    record {
      appends = appends_hold;
      line = refl;
      body = refl;
      there = refl;
      past = refl;
      shortest = zeros_number 2201;
      short = zeros_number 2200;
      many = refl;
      longest = zeros_number 65536;
      long = zeros_number 65537;
      stored4 = refl;
      stored5 = refl;
    }

edge_cases : EdgeCases
unfolding part tabulate concat_map every le to_le all all_from shaped last_begun opened follows total start_at record_at record_ok good_log records read_at stored puts line_bytes stores appended
edge_cases =
    record {
      read = refl;
      named = refl;
      transactions = refl;
      cards = refl;
      side = refl;
      text = refl;
      uncounted = refl;
      bad = refl;
      counted201 = refl;
      wide_line = wide_line;
      wide_back = wide_back;
      full = refl;
      full_kept = refl;
      bad_kept = refl;
      none = refl;
      orders = orders_hold;
      longest = zeros_number 65536;
      longer = zeros_number 65537;
      line199 = line199;
      line200 = refl;
      sum = refl;
      long = long_update 65532;
      over = long_update 65533;
    }

-- ---- the last line: synced records, each of 6 bytes, and nothing else

abbrev synced : ℕ → List LogRecord
synced k = replicate k one_synced

more_synced : (k : ℕ) → synced k ++ one_synced ∷ [] ≡ synced (suc k)
more_synced zero = refl
more_synced (suc k) = ap (λ (l : List LogRecord). one_synced ∷ l) (more_synced k)

start_synced : (k i : ℕ) → i ≤ k → start_by (synced k) i ≡ bodies_from + i * 6
unfolding start_by to_le
start_synced k zero h = refl
start_synced k (suc i) h =
    let here = start_synced k i (omega arith) in
    let six : length (nth (synced k) i).body ≡ 6 = ap (λ (r : LogRecord). length r.body) (get_or-replicate k i one_synced no_record (omega arith)) in
    omega (arith, here, six)

-- A synced record may come at any time.
may : (last : ℕ) (running : Bool) → joins last running one_synced ≡ true
unfolding shaped follows to_le
may last running = refl

taken : (k : ℕ) → k < 200 → (budget : ℕ) → 18 ≤ budget → number_by budget 3501 (synced k) one_synced ≡ 0
unfolding to_le
taken k h budget enough =
    let there = start_synced k k (omega arith) in
    rw (may, length-replicate k one_synced, ne_eqb k 200 (λ z. omega arith), le-ltb 3501 (start_by (synced k) k + 6) (omega (arith, there)), le-ltb budget 18 enough)

held_synced : (n k : ℕ) → k + n ≤ 200 → held_all 3501 (synced k) (synced n) ≡ synced (k + n)
unfolding held_all to_le
held_synced zero k h = let same : k + 0 ≡ k = omega arith in rw same
held_synced (suc n) k h =
    let same : suc k + n ≡ k + suc n = omega arith in
    let next : held_by 18 3501 (synced k) one_synced ≡ synced (suc k) = ap (λ (m : ℕ). settled m (synced k ++ one_synced ∷ []) (synced k)) (taken k (omega arith) 18 (lit≤ tt)) ∙ more_synced k in
    ap (λ (l : List LogRecord). held_all 3501 l (synced n)) next ∙ held_synced n (suc k) (omega arith) ∙ ap synced same

filled : (n : ℕ) → n ≤ 200 → Holding 3501 (synced n) (synced_log n)
filled n h =
    let is = holding_all 3501 [] (synced n) (empty_log 1300) (holding_none 1300 (lit≤ tt)) in
    let same : 0 + n ≡ n = omega arith in
    record { good = is.good; back = is.back ∙ held_synced n 0 (omega arith) ∙ ap synced same; long = is.long }

last_line : LastLine
last_line =
    let most = filled 200 (lit≤ tt) in
    let full : (budget : ℕ) → append_number budget (synced_log 200) one_synced ≡ 24 = λ budget. number_by_lem 3501 (synced 200) (synced_log 200) most budget one_synced ∙ rw may in
    record {
      last = number_by_lem 3501 (synced 199) (synced_log 199) (filled 199 (lit≤ tt)) 18 one_synced ∙ taken 199 (omega arith) 18 (lit≤ tt);
      back = read_held most;
      full = full 18;
      none_left = full 0;
      kept = (appends 18 (synced_log 200) one_synced).full (full 18);
    }

pub log_worked : LogWorked
log_worked = (log_cases, (edge_cases, last_line))
