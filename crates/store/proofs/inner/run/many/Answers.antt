-- The loop: what is left to run leaves what the whole run leaves, and the check of the image holds on. The measure is what is left of the stream.
-- Assumes nothing.
use mathlib.Core.Path.{◌≡◌, refl, sym, ◌∙◌}
use borrow.Author.Rules.{rules}
use native.Mathlib.Omega.{arith}
use lib.ListN.{length}
use Rattle.store.proofs.Running.{running_none, running_within, running_more, running_less, ended, full_none, cut_none, rest_whole, rest_cut}
use Rattle.store.proofs.inner.run.many.Goals as goal

pub loop-count-init : goal.loop-count-init
loop-count-init c = (running_none _ _ _ _ _ _ (omega arith), c.requires, refl)

pub slice_bounds-next_at-count : goal.slice_bounds-next_at-count
slice_bounds-next_at-count c = omega (arith, c.loop-count.invariant.0.walked.within)

pub slice_bounds-next_at-start : goal.slice_bounds-next_at-start
slice_bounds-next_at-start c = omega (arith, c.loop-count.invariant.0.walked.within)

pub slice_bounds-next_at-end : goal.slice_bounds-next_at-end
slice_bounds-next_at-end c = omega (arith, c.loop-count.invariant.0.walked.within)

pub overflow_add-end : goal.overflow_add-end
overflow_add-end c =
    let w = running_within c.loop-count.invariant.0 _
    (rest_whole _ _ _ _ (sym c.next_at.ensures ∙ c.in-Some.is))
    c.if-room-count.false in
    omega (arith, w.0, w.1, w.2, w.3, c.well_formed)

pub slice_bounds-judge-count : goal.slice_bounds-judge-count
slice_bounds-judge-count c =
    let w = running_within c.loop-count.invariant.0 _
    (rest_whole _ _ _ _ (sym c.next_at.ensures ∙ c.in-Some.is))
    c.if-room-count.false in
    omega (arith, w.0, w.1, w.2, w.3)

pub slice_bounds-judge-start : goal.slice_bounds-judge-start
slice_bounds-judge-start c =
    let w = running_within c.loop-count.invariant.0 _
    (rest_whole _ _ _ _ (sym c.next_at.ensures ∙ c.in-Some.is))
    c.if-room-count.false in
    omega (arith, w.0, w.1, w.2, w.3)

pub slice_bounds-judge-end : goal.slice_bounds-judge-end
slice_bounds-judge-end c =
    let w = running_within c.loop-count.invariant.0 _
    (rest_whole _ _ _ _ (sym c.next_at.ensures ∙ c.in-Some.is))
    c.if-room-count.false in
    omega (arith, w.0, w.1, w.2, w.3)

pub judge-answer-requires : goal.judge-answer-requires
judge-answer-requires c = c.loop-count.invariant.1

pub overflow_mul-count : goal.overflow_mul-count
overflow_mul-count c =
    let w = running_within
    c.loop-count.invariant.0 _
    (rest_whole _ _ _ _ (sym c.next_at.ensures
    ∙ c.in-Some.is))
    c.if-room-count.false in
    let long : length c.loop-count.lines
    ≡ length c.args.lines.now =
    c.loop-count.invariant.0.long in
    omega (
      arith,
      w.0,
      w.1,
      w.2,
      w.3,
      long,
      c.well_formed,
    )

pub put_line-requires : goal.put_line-requires
put_line-requires c =
    let w = running_within
    c.loop-count.invariant.0 _
    (rest_whole _ _ _ _ (sym c.next_at.ensures
    ∙ c.in-Some.is))
    c.if-room-count.false in
    omega (arith, w.0, w.1, w.2, w.3)

pub overflow_add-count : goal.overflow_add-count
overflow_add-count c =
    let w = running_within
    c.loop-count.invariant.0 _
    (rest_whole _ _ _ _ (sym
    c.next_at.ensures
    ∙ c.in-Some.is))
    c.if-room-count.false in
    omega (
      arith,
      w.0,
      w.1,
      w.2,
      w.3,
      c.well_formed,
    )

pub loop-count-smaller : goal.loop-count-smaller
loop-count-smaller c = running_less c.loop-count.invariant.0 _ (rest_whole _ _ _ _ (sym c.next_at.ensures ∙ c.in-Some.is))

pub loop-count-preserved : goal.loop-count-preserved
loop-count-preserved c =
    let e = c.judge-answer.ensures in (
      running_more
          c.loop-count.invariant.0 _ _ _ _ _
          (rest_whole _ _ _ _ (sym
          c.next_at.ensures
          ∙ c.in-Some.is))
          c.if-room-count.false
          e.served.0 e.served.1.0 e.served.1.1 c.put_line.ensures (search rules) (search rules),
      e.kept,
      c.loop-count.invariant.2,
    )

pub returns-then-room-count : goal.returns-then-room-count
returns-then-room-count c = let i = c.loop-count.invariant in let all = ended i.0 (full_none i.0 c.if-room-count.true) i.2 i.1 in record { ran = all.0; kept = all.1 }

pub returns-in_default : goal.returns-in_default
returns-in_default c = let i = c.loop-count.invariant in let all = ended i.0 (cut_none i.0 (rest_cut _ _ _ (sym c.next_at.ensures ∙ c.in_default.is))) i.2 i.1 in record { ran = all.0; kept = all.1 }
