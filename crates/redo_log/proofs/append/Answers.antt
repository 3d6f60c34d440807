-- Row by row: each return is one row of an append, and the last two are what its first stores leave. Assumes nothing.
use native.Mathlib.Omega.{arith}
use mathlib.Core.Path.{sym, ◌∙◌}
use Rattle.redo_log.proofs.Steps.{step_bad, step_misfit, step_full, step_room, step_cut, step_done, stop_is, stop_within, sized, short}
use Rattle.redo_log.proofs.append.Goals as goal

pub returns-in_default-clause-log : goal.returns-in_default-clause-log
returns-in_default-clause-log c = (step_bad c.args.log.now c.args.kind c.args.body.now c.args.budget c.in_default.ensures).1

pub returns-then-not-may_join-clause-log : goal.returns-then-not-may_join-clause-log
returns-then-not-may_join-clause-log c = (step_misfit c.in-Some.good c.args.log.now c.args.kind c.args.body.now c.args.budget c.in-Some.ensures (sym c.may_join.ensures ∙ c.if-not-may_join.true)).1

pub bounds-log-0 : goal.bounds-log-0
bounds-log-0 c = omega (arith, sized c.in-Some.good c.args.log.now c.args.kind c.args.body.now c.args.budget c.in-Some.ensures)

pub overflow_add-stop : goal.overflow_add-stop
overflow_add-stop c = omega (
  arith,
  stop_within c.in-Some.good c.args.log.now c.args.kind c.args.body.now c.args.budget c.in-Some.ensures,
  sized c.in-Some.good c.args.log.now c.args.kind
      c.args.body.now c.args.budget c.in-Some.ensures,
  short c.in-Some.good c.args.log.now c.args.kind c.args.body.now c.args.budget c.in-Some.ensures
      (sym c.may_join.ensures ∙ c.if-not-may_join.false),
)

pub returns-then-log-stop-clause-log : goal.returns-then-log-stop-clause-log
returns-then-log-stop-clause-log c = (step_full c.in-Some.good c.args.log.now c.args.kind c.args.body.now c.args.budget c.in-Some.ensures
    (sym c.may_join.ensures ∙ c.if-not-may_join.false) c.if-log-stop.true).1

pub store-requires : goal.store-requires
store-requires c = (
  stop_is c.in-Some.good c.args.log.now c.args.kind c.args.body.now c.args.budget c.in-Some.ensures,
  step_room c.in-Some.good c.args.log.now c.args.kind c.args.body.now c.args.budget c.in-Some.ensures (sym c.may_join.ensures ∙ c.if-not-may_join.false) c.if-log-stop.false,
  omega (arith, short c.in-Some.good c.args.log.now c.args.kind c.args.body.now c.args.budget c.in-Some.ensures (sym c.may_join.ensures ∙ c.if-not-may_join.false)),
)

pub returns-then-budget-body-clause-log : goal.returns-then-budget-body-clause-log
returns-then-budget-body-clause-log c = c.store.ensures ∙ (step_cut c.in-Some.good c.args.log.now c.args.kind c.args.body.now c.args.budget c.in-Some.ensures
    (sym c.may_join.ensures ∙ c.if-not-may_join.false) c.if-log-stop.false c.if-budget-body.true).1

pub returns-clause-log : goal.returns-clause-log
returns-clause-log c = c.store.ensures ∙ (step_done c.in-Some.good c.args.log.now c.args.kind c.args.body.now c.args.budget c.in-Some.ensures
    (sym c.may_join.ensures ∙ c.if-not-may_join.false) c.if-log-stop.false c.if-budget-body.false).1
