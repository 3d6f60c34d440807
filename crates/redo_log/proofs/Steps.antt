-- An append, branch by branch. Assumes nothing.
use Prim.Native.Nat.{ℕ, ◌+◌, ◌≤◌, ◌<◌}
use native.Mathlib.Omega.{arith}
use mathlib.Core.Path.{◌≡◌, sym, subst, ◌∙◌}
use mathlib.Core.List.{List}
use mathlib.Core.Bool.{true, false, ◌||◌}
use borrow.Author.Tests.{ltb-true, ltb-false, lt-ltb, le-ltb, eqb-false}
use lib.ListN.{length, take}
use lib.Dec.{ltb, eqb}
use Rattle.lists.proofs.Tests.{and_left, and_right, or_fails}
use Rattle.redo_log.specs.Log.{LogRecord, most_records, good_log, shaped, joins, record_count, start_at, record_at, last_begun, opened}
use Rattle.redo_log.specs.Append.{stored, stores, accepts, lacks, append_number, appended}
use Rattle.redo_log.specs.inner.Admitted.{Admitted}
use Rattle.redo_log.proofs.Records.{good_out}
use Rattle.redo_log.specs.declared.inner.records.CheckedLog.{CheckedLog}
use Rattle.redo_log.proofs.Reading.{logged, start_fits}

-- ---- the answer and the log that is left, by the tests

pub admitted : (log : List ℕ) (r : LogRecord) → accepts log r ≡ true → lacks log r ≡ false → Admitted log r
admitted log r a f =
    let g = good_out log (and_left (good_log log) _ a) in
    let l = or_fails (eqb (record_count log) most_records) (ltb (length log) (start_at log (record_count log) + length r.body)) f in
    let ne : record_count log ≡ most_records → ⊥ = eqb-false (record_count log) most_records l.0 in
    record {
      from = g.from;
      most = g.most;
      below = omega (arith, g.few, ne);
      checks = g.checks;
      joining = and_right (good_log log) _ a;
      fits = ltb-false (length log) (start_at log (record_count log) + length r.body) l.1;
    }

pub left_23 : (k : ℕ) (log : List ℕ) (r : LogRecord) → accepts log r ≡ false → (append_number k log r ≡ 23) × (appended k log r ≡ log)
unfolding appended
left_23 k log r a = (rw a, rw a)

pub left_24 : (k : ℕ) (log : List ℕ) (r : LogRecord) → accepts log r ≡ true → lacks log r ≡ true → (append_number k log r ≡ 24) × (appended k log r ≡ log)
unfolding appended
left_24 k log r a f = (rw (a, f), rw (a, f))

pub left_26 : (k : ℕ) (log : List ℕ) (r : LogRecord) → accepts log r ≡ true → lacks log r ≡ false → ltb k (length r.body + 12) ≡ true →
    (append_number k log r ≡ 26) × (appended k log r ≡ stored (take k (stores log r)) log)
unfolding appended
left_26 k log r a f b = (rw (a, f, b), rw (a, f, b))

pub left_0 : (k : ℕ) (log : List ℕ) (r : LogRecord) → accepts log r ≡ true → lacks log r ≡ false → ltb k (length r.body + 12) ≡ false →
    (append_number k log r ≡ 0) × (appended k log r ≡ stored (take k (stores log r)) log)
unfolding appended
left_0 k log r a f b = (rw (a, f, b), rw (a, f, b))

-- ---- the branches of the code

pub step_bad : (log : List ℕ) (kind : ℕ) (body : List ℕ) (k : ℕ) → good_log log ≡ false → (23 ≡ append_number k log (logged kind body)) × (log ≡ appended k log (logged kind body))
step_bad log kind body k g =
    let no : accepts log (logged kind body) ≡ false = rw g in
    let left = left_23 k log (logged kind body) no in
    (sym left.0, sym left.1)

module _ (s : CheckedLog) (log : List ℕ) (kind : ℕ) (body : List ℕ) (k : ℕ) (e : s.bytes.now ≡ log) where
  is_good : good_log log ≡ true
  is_good = subst (λ (l : List ℕ). good_log l ≡ true) e s.good

  pub stop_is : s.stop ≡ start_at log (record_count log)
  stop_is = subst (λ (l : List ℕ). s.stop ≡ start_at l (record_count l)) e s.stops

  last_is : s.last ≡ last_begun (record_at log) (record_count log)
  last_is = subst (λ (l : List ℕ). s.last ≡ last_begun (record_at l) (record_count l)) e s.lasts

  running_is : s.running ≡ opened (record_at log) (record_count log)
  running_is = subst (λ (l : List ℕ). s.running ≡ opened (record_at l) (record_count l)) e s.runs

  pub stop_within : s.stop ≤ length log
  stop_within = let out = good_out log is_good in rw stop_is (start_fits log out.from (record_count log) out.checks)

  pub sized : (2201 ≤ length log) × (length log ≤ 65536)
  sized = let out = good_out log is_good in (out.from, out.most)

  join_is : joins s.last s.running (logged kind body) ≡ joins (last_begun (record_at log) (record_count log)) (opened (record_at log) (record_count log)) (logged kind body)
  join_is = rw (last_is, running_is)

  pub step_misfit : joins s.last s.running (logged kind body) ≡ false → (23 ≡ append_number k log (logged kind body)) × (log ≡ appended k log (logged kind body))
  step_misfit j =
      let no : accepts log (logged kind body) ≡ false = rw (is_good, sym join_is ∙ j) in
      let left = left_23 k log (logged kind body) no in
      (sym left.0, sym left.1)

  module _ (j : joins s.last s.running (logged kind body) ≡ true) where
    yes' : accepts log (logged kind body) ≡ true
    yes' = rw (is_good, sym join_is ∙ j)

    pub short : length body < 65536
    unfolding shaped
    short = ltb-true (length body) 65536 (and_left (ltb (length body) 65536) _ (and_left (shaped (logged kind body)) _ j))

    lack_is : (eqb (record_count log) 200 || ltb (length log) (s.stop + length body)) ≡ lacks log (logged kind body)
    lack_is = rw stop_is

    pub step_full : (eqb (record_count log) 200 || ltb (length log) (s.stop + length body)) ≡ true → (24 ≡ append_number k log (logged kind body)) × (log ≡ appended k log (logged kind body))
    step_full f =
        let left = left_24 k log (logged kind body) yes' (sym lack_is ∙ f) in
        (sym left.0, sym left.1)

    module _ (f : (eqb (record_count log) 200 || ltb (length log) (s.stop + length body)) ≡ false) where
      pub step_room : Admitted log (logged kind body)
      step_room = admitted log (logged kind body) yes' (sym lack_is ∙ f)

      pub step_cut : k < length body + 12 → (26 ≡ append_number k log (logged kind body)) × (stored (take k (stores log (logged kind body))) log ≡ appended k log (logged kind body))
      step_cut h =
          let left = left_26 k log (logged kind body) yes' (sym lack_is ∙ f) (lt-ltb k (length body + 12) h) in
          (sym left.0, sym left.1)

      pub step_done : length body + 12 ≤ k → (0 ≡ append_number k log (logged kind body)) × (stored (take k (stores log (logged kind body))) log ≡ appended k log (logged kind body))
      step_done h =
          let left = left_0 k log (logged kind body) yes' (sym lack_is ∙ f) (le-ltb k (length body + 12) h) in
          (sym left.0, sym left.1)
