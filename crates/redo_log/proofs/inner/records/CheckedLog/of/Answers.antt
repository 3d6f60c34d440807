-- The loop carries what is known of the first records (`Scanning`). Assumes nothing.
use native.Mathlib.Omega.{arith}
use mathlib.Core.Path.{◌∙◌}
use Rattle.redo_log.proofs.Reading.{scanning_none, scanning_done, bad_short, bad_long, bad_count, bad_record}
use Rattle.redo_log.proofs.inner.records.CheckedLog.of.Goals as goal
use Rattle.redo_log.proofs.inner.records.CheckedLog.of.Goals.{then-bytes-lt-BODIES-via-then-bytes-lt-BODIES, then-bytes-lt-BODIES-via-else-bytes-lt-BODIES+then-bytes-gt-MOST_LOG}

pub returns-then-bytes-lt-BODIES : goal.returns-then-bytes-lt-BODIES
returns-then-bytes-lt-BODIES c =
    elim c.then-bytes-lt-BODIES.branch [
      | then-bytes-lt-BODIES-via-then-bytes-lt-BODIES w ↦ bad_short _ w.if-bytes-lt-BODIES.true
      | then-bytes-lt-BODIES-via-else-bytes-lt-BODIES+then-bytes-gt-MOST_LOG w ↦ bad_long _ w.if-bytes-gt-MOST_LOG.true
    ]

pub returns-then-count-gt-MOST_RECORDS : goal.returns-then-count-gt-MOST_RECORDS
returns-then-count-gt-MOST_RECORDS c = bad_count _ c.if-count-gt-MOST_RECORDS.true

pub loop-init : goal.loop-init
loop-init c = scanning_none c.args.bytes.now

pub invariant_of-front : goal.invariant_of-front
invariant_of-front c =
    let s = c.loop.invariant in
    record {
      from = rw s.same (omega arith);
      most = rw s.same (omega arith);
      few = omega (arith, s.counted);
      kept = s.kept;
      stops = s.stops;
      lasts = s.lasts;
      runs = s.runs;
    }

pub with_next-requires : goal.with_next-requires
with_next-requires c = omega (arith, c.loop.invariant.counted)

pub returns-in_err-front : goal.returns-in_err-front
returns-in_err-front c =
    let s = c.loop.invariant in
    rw c.from_residual.ensures (bad_record c.args.bytes.now c.loop.counter (omega arith) (rw (s.same, s.counted) at c.in_err-front.ensures))

pub loop-preserved : goal.loop-preserved
loop-preserved c =
    let s = c.loop.invariant in
    let f = c.in_ok-front.front in
    record {
      same = c.in_ok-front.ensures.0 ∙ s.same;
      counted = omega (arith, c.in_ok-front.ensures.1, s.counted);
      kept = f.kept;
      stops = f.stops;
      lasts = f.lasts;
      runs = f.runs;
    }

pub invariant_of-result : goal.invariant_of-result
invariant_of-result c =
    let s = scanning_done c.args.bytes.now _ _ _ _ _ _ (omega arith) (omega arith) c.if-count-gt-MOST_RECORDS.false (omega (arith, c.loop.auto.counter-end, c.loop-test.false)) c.loop.invariant in
    record { good = s.good; stops = s.stops; lasts = s.lasts; runs = s.runs }
