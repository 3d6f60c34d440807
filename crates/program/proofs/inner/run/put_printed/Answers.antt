-- The loop: the lines of what is left to run are left to write, and the check of the image holds on. The measure is what is left of the stream.
-- Assumes nothing.
use mathlib.Core.Path.{refl, ap, sym, ◌∙◌}
use borrow.Author.Rules.{rules}
use native.Mathlib.Omega.{arith}
use lib.ListN.{length}
use Rattle.store.proofs.Running.{per_line_lem}
use Rattle.program.proofs.Running.{running_none, running_stops, running_judged, running_within, running_more, running_less, running_fits, running_done, line_put}
use Rattle.program.proofs.inner.run.put_printed.Goals as goal

pub loop-line-init : goal.loop-line-init
loop-line-init c = let p = c.requires in (running_none _ _ _ _ _ p.1, p.0, refl)

pub slice_bounds-many-count : goal.slice_bounds-many-count
slice_bounds-many-count c = omega (arith, c.loop-line.invariant.0.walked.within)

pub slice_bounds-many-start : goal.slice_bounds-many-start
slice_bounds-many-start c = omega (arith, c.loop-line.invariant.0.walked.within)

pub slice_bounds-many-end : goal.slice_bounds-many-end
slice_bounds-many-end c = omega (arith, c.loop-line.invariant.0.walked.within)

pub many-ran-requires : goal.many-ran-requires
many-ran-requires c = sym c.loop-line.invariant.1

pub put_line-to-requires : goal.put_line-to-requires
put_line-to-requires c =
    let one = running_judged c.loop-line.invariant.0 c.loop-line.line c.loop-line.invariant.2 c.many-ran.ensures.ran c.if-ran-eq0.false in
    let w = running_within c.loop-line.invariant.0 _ one.0 in
    omega (arith, w.0, w.1, w.2, w.3)

pub overflow_add-place : goal.overflow_add-place
overflow_add-place c =
    let one = running_judged c.loop-line.invariant.0 c.loop-line.line c.loop-line.invariant.2 c.many-ran.ensures.ran c.if-ran-eq0.false in
    let w = running_within c.loop-line.invariant.0 _ one.0 in
    omega (arith, w.0, w.1, w.2, w.3, c.well_formed)

pub overflow_add-from : goal.overflow_add-from
overflow_add-from c =
    let one = running_judged c.loop-line.invariant.0 c.loop-line.line c.loop-line.invariant.2 c.many-ran.ensures.ran c.if-ran-eq0.false in
    let w = running_within c.loop-line.invariant.0 _ one.0 in
    omega (arith, w.0, w.1, w.2, w.3, c.well_formed)

pub loop-line-smaller : goal.loop-line-smaller
loop-line-smaller c =
    let one = running_judged c.loop-line.invariant.0 c.loop-line.line c.loop-line.invariant.2 c.many-ran.ensures.ran c.if-ran-eq0.false in
    running_less c.loop-line.invariant.0 _ one.0

pub loop-line-preserved : goal.loop-line-preserved
loop-line-preserved c =
    let one = running_judged c.loop-line.invariant.0 c.loop-line.line c.loop-line.invariant.2 c.many-ran.ensures.ran c.if-ran-eq0.false in (
      running_more c.loop-line.invariant.0 _ _ _ _ _ _ one.0 refl one.1.1.0 one.1.1.1
          (line_put _ _ one.1.0 c.put_line-to.ensures) (search rules) (search rules),
      sym c.many-ran.ensures.kept,
      ap length one.1.0 ∙ per_line_lem _,
    )

pub overflow_sub-stream : goal.overflow_sub-stream
overflow_sub-stream c = omega (arith, c.loop-line.invariant.0.walked.within)

pub put_last-requires : goal.put_last-requires
put_last-requires c = running_fits c.loop-line.invariant.0 (running_stops c.loop-line.invariant.0 c.loop-line.line c.loop-line.invariant.2 c.many-ran.ensures.ran c.if-ran-eq0.true)

pub returns : goal.returns
returns c =
    running_done c.loop-line.invariant.0 (running_stops c.loop-line.invariant.0 c.loop-line.line c.loop-line.invariant.2 c.many-ran.ensures.ran c.if-ran-eq0.true)
    (search rules) c.put_last.ensures
