-- The line lies within the table and the body within the log; the three tests are then those defined. Assumes nothing.
use lib.ListN.{length}
use mathlib.Core.Path.{◌≡◌, sym, ◌∙◌}
use mathlib.Core.Bool.{true}
use Prim.Native.Nat.{◌+◌, ◌-◌, ◌≤◌}
use Rattle.lists.specs.Parts.{part}
use Rattle.lists.proofs.Every.{every_more}
use native.Mathlib.Omega.{arith}
use Rattle.redo_log.specs.Log.{record_ok}
use Rattle.redo_log.proofs.Records.{body_at, record_kind}
use Rattle.redo_log.proofs.Reading.{ok_beyond, ok_code, start_fits, start_plus, last_next, opened_next}
use Rattle.redo_log.proofs.inner.reading.Front.with_next.Goals as goal

pub overflow_sub-log : goal.overflow_sub-log
overflow_sub-log c = rw c.args.self.stops (start_fits c.args.self.log.now c.args.self.from c.args.self.count c.args.self.kept)

pub returns-then-log-self : goal.returns-then-log-self
returns-then-log-self c = ok_beyond c.args.self.log.now c.args.self.count (omega (arith, c.read_u16-size.ensures, c.args.self.stops, c.if-log-self.true))

pub slice_bounds-body-end : goal.slice_bounds-body-end
slice_bounds-body-end c =
    let within : c.args.self.stop ≤ length c.args.self.log.now = rw c.args.self.stops (start_fits c.args.self.log.now c.args.self.from c.args.self.count c.args.self.kept) in
    omega (arith, within, c.if-log-self.false)

pub returns-then-not-is_ok : goal.returns-then-not-is_ok
unfolding part
returns-then-not-is_ok c =
    let within : c.args.self.stop ≤ length c.args.self.log.now = rw c.args.self.stops (start_fits c.args.self.log.now c.args.self.from c.args.self.count c.args.self.kept) in
    let count : (c.args.self.stop + c.read_u16-size.result - c.args.self.stop) ≡ c.read_u16-size.result = omega arith in
    let here : c.args.self.stop + (c.args.self.stop + c.read_u16-size.result - c.args.self.stop) ≤ length c.args.self.log.now = omega (arith, within, c.if-log-self.false) in
    sym (ok_code c.args.self.log.now c.args.self.count _ _ _ (c.args.self.stop + c.read_u16-size.result - c.args.self.stop) _ _ _ _
    (count ∙ c.read_u16-size.ensures) here c.read_u32.ensures c.read_u32-2.ensures c.args.self.stops
    c.args.self.lasts c.args.self.runs c.sum_of.ensures c.may_join.ensures)
    ∙ c.if-not-is_ok.true

pub invariant_of-result : goal.invariant_of-result
unfolding part
invariant_of-result c =
    let within : c.args.self.stop ≤ length c.args.self.log.now = rw c.args.self.stops (start_fits c.args.self.log.now c.args.self.from c.args.self.count c.args.self.kept) in
    let count : (c.args.self.stop + c.read_u16-size.result - c.args.self.stop) ≡ c.read_u16-size.result = omega arith in
    let here : c.args.self.stop + (c.args.self.stop + c.read_u16-size.result - c.args.self.stop) ≤ length c.args.self.log.now = omega (arith, within, c.if-log-self.false) in
    let ok : record_ok c.args.self.log.now c.args.self.count ≡ true =
    sym (ok_code c.args.self.log.now c.args.self.count _ _ _ (c.args.self.stop + c.read_u16-size.result - c.args.self.stop) _ _ _ _
    (count ∙ c.read_u16-size.ensures) here c.read_u32.ensures c.read_u32-2.ensures c.args.self.stops
    c.args.self.lasts c.args.self.runs c.sum_of.ensures c.may_join.ensures)
    ∙ c.if-not-is_ok.false in
    record {
      from = c.args.self.from;
      most = c.args.self.most;
      few = omega (arith, c.requires);
      kept = every_more (record_ok c.args.self.log.now) c.args.self.count c.args.self.kept ok;
      stops = rw (c.read_u16-size.ensures, c.args.self.stops) (sym (start_plus c.args.self.log.now c.args.self.count));
      lasts = c.last_after.ensures ∙ last_next c.args.self.log.now c.args.self.count _ c.args.self.last _ (sym (record_kind c.args.self.log.now c.args.self.count))
          (body_at c.args.self.log.now c.args.self.count _ _ c.args.self.stops c.read_u16-size.ensures) c.args.self.lasts;
      runs = rw c.args.self.runs (sym (opened_next c.args.self.log.now c.args.self.count));
    }
