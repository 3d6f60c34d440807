-- Laws of what is read of a log, in the words of the code. Assumes nothing.
use Prim.Native.Nat.{ℕ, zero, suc, ◌+◌, ◌≤◌, ◌<◌}
use native.Mathlib.Numerals.{add-one}
use mathlib.Core.Path.{◌≡◌, refl, sym, ap, ◌∙◌, subst}
use mathlib.Core.Logic.{◌⊎◌, inl, inr}
use mathlib.Core.List.{List, [], ◌∷◌}
use mathlib.Core.Bool.{Bool, true, false, cond, not, ◌&&◌, ◌||◌}
use borrow.Author.Tests.{eqb-true, eq-eqb, ne_eqb, le-leb, lt-leb}
use lib.ListN.{length}
use lib.Dec.{ltb, leb, eqb}
use Rattle.lists.specs.Parts.{part, every}
use Rattle.lists.specs.Le.{field}
use Rattle.lists.specs.Table.{all, all_from}
use Rattle.lists.proofs.Tests.{and_right, cases}
use Rattle.lists.proofs.Every.{every_fail}
use Rattle.redo_log.specs.Log.{
  LogRecord,
  begin_kind,
  commit_kind,
  bodies_from,
  most_log,
  most_records,
  shaped,
  follows,
  joins,
  total,
  checksum,
  kind_at,
  place_at,
  length_at,
  sum_at,
  record_count,
  start_at,
  record_at,
  record_transaction,
  last_begun,
  opened,
  record_ok,
  good_log,
}
use Rattle.redo_log.proofs.Records.{start_next, ok_inside}
use Rattle.std.specs.List.{sum_by}
use Rattle.std.proofs.lemmas.List.Sums.{sum_by-cons}

-- ---- the sum

-- The bytes added up, as the library adds them.
pub total_sum : (body : List ℕ) → sum_by (λ (x : ℕ). x) body ≡ total body
unfolding total
total_sum [] = refl
total_sum (b ∷ l) = sum_by-cons (λ (x : ℕ). x) b l ∙ ap (λ (n : ℕ). b + n) (total_sum l)

-- ---- a record that may follow

abbrev pub logged : ℕ → List ℕ → LogRecord
logged kind body = record { kind = kind; body = body }

module _ (last : ℕ) (running : Bool) (kind : ℕ) (body : List ℕ) where
  pub join_unshaped : shaped (logged kind body) ≡ false → joins last running (logged kind body) ≡ false
  join_unshaped s = rw s

  pub join_update : shaped (logged kind body) ≡ true → kind ≡ 2 → joins last running (logged kind body) ≡ running
  unfolding follows
  join_update s e = rw (s, eq-eqb kind 2 e)

  pub join_synced : shaped (logged kind body) ≡ true → (kind ≡ 2 → ⊥) → kind ≡ 4 → joins last running (logged kind body) ≡ true
  unfolding follows
  join_synced s n2 e = rw (s, ne_eqb kind 2 n2, eq-eqb kind 4 e)

  pub join_begin : shaped (logged kind body) ≡ true → (kind ≡ 2 → ⊥) → (kind ≡ 4 → ⊥) → kind ≡ 1 → joins last running (logged kind body) ≡ ltb last (field 0 4 body)
  unfolding follows
  join_begin s n2 n4 e = rw (s, ne_eqb kind 2 n2, ne_eqb kind 4 n4, eq-eqb kind 1 e)

  pub join_commit : shaped (logged kind body) ≡ true → (kind ≡ 2 → ⊥) → (kind ≡ 4 → ⊥) → (kind ≡ 1 → ⊥) → joins last running (logged kind body) ≡ (running && eqb (field 0 4 body) last)
  unfolding follows
  join_commit s n2 n4 n1 = rw (s, ne_eqb kind 2 n2, ne_eqb kind 4 n4, ne_eqb kind 1 n1)

-- ---- a record of the log

module _ (log : List ℕ) (i : ℕ) where
  pub ok_beyond : length log < start_at log i + length_at log i → record_ok log i ≡ false
  unfolding record_ok start_at
  ok_beyond h = rw (lt-leb (start_at log i + length_at log i) (length log) h)

  pub ok_by : start_at log i + length_at log i ≤ length log →
      record_ok log i ≡ (eqb (place_at log i) (start_at log i) && eqb (sum_at log i) (checksum (record_at log i).body) && joins (last_begun (record_at log) i)
      (opened (record_at log) i) (record_at log i))
  unfolding record_ok start_at all all_from
  ok_by h = rw (le-leb (start_at log i + length_at log i) (length log) h)

  -- The last transaction begun, with record i.
  pub last_next : (kind last : ℕ) (body : List ℕ) → kind ≡ (record_at log i).kind → body ≡ (record_at log i).body → last ≡ last_begun (record_at log) i
      → cond (eqb kind begin_kind) (field 0 4 body) last ≡ last_begun (record_at log) (i + 1)
  unfolding last_begun record_at
  last_next kind last body ek eb el = rw (add-one, ek, eb, el) (go (cases (eqb (kind_at log i) 1)))
    where
      go : (eqb (kind_at log i) 1 ≡ true) ⊎ (eqb (kind_at log i) 1 ≡ false)
          → cond (eqb (kind_at log i) 1) (field 0 4 (record_at log i).body) (last_begun (record_at log) i)
          ≡ cond (eqb (kind_at log i) 1) (record_transaction (record_at log i)) (last_begun (record_at log) i)
      go (inl e) = let k : kind_at log i ≡ 1 = eqb-true (kind_at log i) 1 e in rw k
      go (inr e) = rw e

  pub opened_next : opened (record_at log) (i + 1) ≡ (eqb (kind_at log i) begin_kind || opened (record_at log) i && not (eqb (kind_at log i) commit_kind))
  unfolding opened record_at
  opened_next = rw add-one

  pub start_plus : start_at log (i + 1) ≡ start_at log i + length_at log i
  start_plus = rw add-one (start_next log i)

  -- The test of the code: the line's place and sum, and the record's fit.
  pub ok_code : (p q s n stop last : ℕ) (running j : Bool) → n ≡ length_at log i → stop + n ≤ length log
      → p ≡ place_at log i
      → q ≡ sum_at log i
      → stop ≡ start_at log i
      → last ≡ last_begun (record_at log) i
      → running ≡ opened (record_at log) i
      → s ≡ checksum (part stop n log)
      → j ≡ joins last running (logged (kind_at log i) (part stop n log))
      → (eqb p stop && eqb q s && j) ≡ record_ok log i
  unfolding record_at
  ok_code p q s n stop last running j en h ep eq es el er ec ej =
      sym (ok_by (subst (λ (m : ℕ). m + length_at log i ≤ length log) es (subst (λ (m : ℕ). stop + m ≤ length log) en h))
      ∙ rw (ep, eq, ec, ej, el, er, en, es))

-- ---- the whole log

module _ (log : List ℕ) where
  pub bad_short : length log < 2201 → good_log log ≡ false
  unfolding good_log
  bad_short h = rw (lt-leb bodies_from (length log) h)

  pub bad_long : 65536 < length log → good_log log ≡ false
  unfolding good_log
  bad_long h = rw (lt-leb (length log) most_log h) (falls (leb bodies_from (length log)) (leb (record_count log) most_records) (every (record_ok log) (record_count log)))
    where
      falls : (a b c : Bool) → (a && false && b && c) ≡ false
      falls true b c = refl
      falls false b c = refl

  pub bad_count : 200 < record_count log → good_log log ≡ false
  unfolding good_log
  bad_count h = rw (lt-leb (record_count log) most_records h) (falls (leb bodies_from (length log)) (leb (length log) most_log) (every (record_ok log) (record_count log)))
    where
      falls : (a b c : Bool) → (a && b && false && c) ≡ false
      falls true true c = refl
      falls true false c = refl
      falls false b c = refl

  pub bad_record : (i : ℕ) → i < record_count log → record_ok log i ≡ false → good_log log ≡ false
  unfolding good_log
  bad_record i h e = rw (every_fail (record_ok log) (record_count log) i h e) (falls (leb bodies_from (length log)) (leb (length log) most_log) (leb (record_count log) most_records))
    where
      falls : (a b c : Bool) → (a && b && c && false) ≡ false
      falls true true true = refl
      falls true true false = refl
      falls true false c = refl
      falls false b c = refl

  pub good_by : 2201 ≤ length log → length log ≤ 65536 → record_count log ≤ 200 → every (record_ok log) (record_count log) ≡ true → good_log log ≡ true
  unfolding good_log
  good_by f m n e = rw (le-leb 2201 (length log) f, le-leb (length log) 65536 m, le-leb (record_count log) 200 n, e)

  -- What the scan knows before record i, of the first `count` records of `bytes`.
  pub record Scanning (bytes : List ℕ) (count stop last : ℕ) (running : Bool) (i : ℕ) : Type 0 where
    pub same : bytes ≡ log
    pub counted : count ≡ i
    pub kept : every (record_ok bytes) count ≡ true
    pub stops : stop ≡ start_at bytes count
    pub lasts : last ≡ last_begun (record_at bytes) count
    pub runs : running ≡ opened (record_at bytes) count

  pub scanning_none : Scanning log 0 2201 0 false 0
  unfolding start_at last_begun opened every
  scanning_none = record { same = refl; counted = refl; kept = refl; stops = refl; lasts = refl; runs = refl }

-- The last record is reached.
pub record Scanned (log : List ℕ) (stop last : ℕ) (running : Bool) : Type 0 where
  pub good : good_log log ≡ true
  pub stops : stop ≡ start_at log (record_count log)
  pub lasts : last ≡ last_begun (record_at log) (record_count log)
  pub runs : running ≡ opened (record_at log) (record_count log)

pub scanning_done : (log bytes : List ℕ) (count stop last : ℕ) (running : Bool) (i : ℕ) → 2201 ≤ length log → length log ≤ 65536 → record_count log ≤ 200 → i ≡ record_count log
    → Scanning log bytes count stop last running i → Scanned log stop last running
scanning_done log bytes count stop last running i f m n e s =
    let all_of : count ≡ record_count log = s.counted ∙ e in
    record {
      good = good_by log f m n (rw (s.same, all_of) at s.kept);
      stops = rw (s.same, all_of) at s.stops;
      lasts = rw (s.same, all_of) at s.lasts;
      runs = rw (s.same, all_of) at s.runs;
    }

-- The bodies of a good log lie within it.
pub start_fits : (log : List ℕ) → 2201 ≤ length log → (n : ℕ) → every (record_ok log) n ≡ true → start_at log n ≤ length log
unfolding start_at every
start_fits log h zero e = h
start_fits log h (suc n) e = ok_inside log n (and_right (every (record_ok log) n) (record_ok log n) e)
