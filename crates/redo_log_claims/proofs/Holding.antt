-- A good log by its length and the records that it holds: what the next append answers, and what the log holds then. So
-- a worked case of appends is computed on records, and not on bytes. Assumes nothing.
use Prim.Native.Nat.{ℕ, zero, suc, ◌+◌, ◌≤◌, ◌<◌}
use native.Mathlib.Omega.{arith}
use mathlib.Core.Path.{◌≡◌, refl, sym, ap, ◌∙◌}
use mathlib.Core.List.{List, [], ◌∷◌, ◌++◌}
use mathlib.Core.Bool.{Bool, true, false, not, ◌||◌}
use borrow.Author.Tests.{le-leb, le-ltb}
use lib.ListN.{length, get_or, length-replicate}
use lib.Dec.{ltb, eqb}
use Rattle.lists.specs.Parts.{part}
use Rattle.lists.specs.Table.{row, first, settled}
use Rattle.redo_log.specs.Log.{LogRecord, no_record, bodies_from, most_log, most_records, record_count, line_place, length_at, start_at, record_at, last_begun, opened, joins, good_log, records}
use Rattle.redo_log.specs.Append.{line_bytes, accepts, lacks, append_number, appended}
use Rattle.redo_log.proofs.Records.{good_record, body_long, last_ext, opened_ext}
use Rattle.redo_log.proofs.ReadBack.{length_records, record_of}
use Rattle.redo_log.proofs.Stores.{stores_written}
use Rattle.redo_log.proofs.Steps.{admitted, left_23, left_24, left_0}
use Rattle.redo_log_claims.specs.Claims.{needed, appended_all, admitted_of, wholly, cut_after}
use Rattle.redo_log_claims.specs.Cases.{empty_log}
use Rattle.redo_log_claims.proofs.Written.{written_full, line_there}
use Rattle.redo_log_claims.proofs.Zeros.{zero_logs}
use Rattle.redo_log_claims.proofs.Claims.{appends, read_after_lem, histories}

pub record Holding (size : ℕ) (rs : List LogRecord) (log : List ℕ) : Type 0 where
  pub good : good_log log ≡ true
  pub back : records log ≡ rs
  pub long : length log ≡ size

-- Record i, and where body i begins.
abbrev pub nth : List LogRecord → ℕ → LogRecord
nth rs i = get_or rs i no_record

unfoldable pub start_by : List LogRecord → ℕ → ℕ
start_by rs zero = bodies_from
start_by rs (suc i) = start_by rs i + length (nth rs i).body

-- The number of an append, by the records.
abbrev pub number_by : ℕ → ℕ → List LogRecord → LogRecord → ℕ
number_by budget size rs r =
    first
    (row (not (joins (last_begun (nth rs) (length rs)) (opened (nth rs) (length rs)) r)) 23
    ∷ row (eqb (length rs) most_records || ltb size (start_by rs (length rs) + length r.body)) 24
    ∷ row (ltb budget (needed r)) 26
    ∷ [])

-- The records after it, and after many.
abbrev pub held_by : ℕ → ℕ → List LogRecord → LogRecord → List LogRecord
held_by budget size rs r = settled (number_by budget size rs r) (rs ++ r ∷ []) rs

unfoldable pub held_all : ℕ → List LogRecord → List LogRecord → List LogRecord
held_all size rs [] = rs
held_all size rs (r ∷ more) = held_all size (held_by (needed r) size rs r) more

module _ (size : ℕ) (rs : List LogRecord) (log : List ℕ) (is : Holding size rs log) where
  pub count : record_count log ≡ length rs
  count = sym (length_records log) ∙ ap length is.back

  pub here : (i : ℕ) → i < length rs → record_at log i ≡ nth rs i
  here i h = sym (record_of log i (rw count h)) ∙ ap (λ (l : List LogRecord). nth l i) is.back

  pub starts : (i : ℕ) → i ≤ length rs → start_at log i ≡ start_by rs i
  unfolding start_at start_by
  starts zero h = refl
  starts (suc i) h =
      let below : i < record_count log = rw count (omega arith) in
      let long : length_at log i ≡ length (nth rs i).body = sym (body_long log i (good_record log is.good i below)) ∙ ap (λ (r : LogRecord). length r.body) (here i (omega arith)) in
      rw (starts i (omega arith), long)

  start : start_at log (record_count log) ≡ start_by rs (length rs)
  start = ap (start_at log) count ∙ starts (length rs) (omega arith)

  pub number_by_lem : (budget : ℕ) (r : LogRecord) → append_number budget log r ≡ number_by budget size rs r
  number_by_lem budget r =
      let last : last_begun (record_at log) (record_count log) ≡ last_begun (nth rs) (length rs) = ap (last_begun (record_at log)) count ∙ last_ext (record_at log) (nth rs) (length rs) here in
      let running : opened (record_at log) (record_count log) ≡ opened (nth rs) (length rs) = ap (opened (record_at log)) count ∙ opened_ext (record_at log) (nth rs) (length rs) here in
      rw (is.good, last, running, start, count, is.long)

  pub holding_more : (budget : ℕ) (r : LogRecord) → Holding size (held_by budget size rs r) (appended budget log r)
  holding_more budget r =
      let after = read_after_lem budget log r is.good in
      record { good = after.0; back = after.1 ∙ rw (number_by_lem budget r, is.back); long = (appends budget log r).long ∙ is.long }

  -- The line of an append that is taken.
  pub line_by_lem : (r : LogRecord) → number_by (needed r) size rs r ≡ 0 → part (line_place (length rs)) 11 (appended (needed r) log r) ≡ line_bytes (start_by rs (length rs)) r
  line_by_lem r e = go (accepts log r) (lacks log r) refl refl
    where
      go : (a f : Bool) → accepts log r ≡ a → lacks log r ≡ f → part (line_place (length rs)) 11 (appended (needed r) log r) ≡ line_bytes (start_by rs (length rs)) r
      go false f p q = let left = left_23 (needed r) log r p in absurd (omega (arith, left.0, number_by_lem (needed r) r, e))
      go true true p q = let left = left_24 (needed r) log r p q in absurd (omega (arith, left.0, number_by_lem (needed r) r, e))
      go true false p q =
          let room = admitted log r p q in
          let left = left_0 (needed r) log r p q (le-ltb (needed r) (needed r) (omega arith)) in
          rw (left.1, stores_written log r room (needed r), written_full (needed r) log r (omega arith), ← start, ← count) (line_there log r room)

pub holding_all : (size : ℕ) (rs more : List LogRecord) (log : List ℕ) → Holding size rs log → Holding size (held_all size rs more) (appended_all log more)
unfolding appended_all held_all
holding_all size rs [] log is = is
holding_all size rs (r ∷ more) log is = holding_all size (held_by (needed r) size rs r) more (appended (needed r) log r) (holding_more size rs log is (needed r) r)

pub holding_none : (room : ℕ) → bodies_from + room ≤ most_log → Holding (bodies_from + room) [] (empty_log room)
holding_none room h =
    let empty = zero_logs (bodies_from + room) in
    record {
      good = empty.good ∙ rw (le-leb bodies_from (bodies_from + room) (omega arith), le-leb (bodies_from + room) most_log h);
      back = empty.empty;
      long = length-replicate {A = ℕ} (bodies_from + room) 0;
    }

-- ---- many appends, and one cut somewhere among all their stores

-- The records of those that are not refused, by the records.
unfoldable pub admitted_by : ℕ → List LogRecord → List LogRecord → List LogRecord
admitted_by size rs [] = []
admitted_by size rs (r ∷ more) = settled (number_by (needed r) size rs r) (r ∷ []) [] ++ admitted_by size (held_by (needed r) size rs r) more

admitted_by_lem : (size : ℕ) (rs more : List LogRecord) (log : List ℕ) → Holding size rs log → admitted_of log more ≡ admitted_by size rs more
unfolding admitted_of admitted_by
admitted_by_lem size rs [] log is = refl
admitted_by_lem size rs (r ∷ more) log is =
    rw (number_by_lem size rs log is (needed r) r, admitted_by_lem size (held_by (needed r) size rs r) more (appended (needed r) log r) (holding_more size rs log is (needed r) r))

pub holding_cut : (k size : ℕ) (rs more : List LogRecord) (log : List ℕ) → Holding size rs log → Holding size (rs ++ wholly k (admitted_by size rs more)) (cut_after k log more)
holding_cut k size rs more log is =
    let run = histories k log more is.good in
    record { good = run.good; back = run.back ∙ rw (is.back, admitted_by_lem size rs more log is); long = run.long ∙ is.long }
