-- Row by row: each return is a row of the table. Assumes nothing.
use mathlib.Core.Path.{ap, ◌∙◌}
use mathlib.Core.List.{List}
use Prim.Native.Nat.{ℕ}
use borrow.Author.Tests.{eq-eqb, ne_eqb, not-true, not-false}
use Rattle.transaction_steps.specs.Steps.{next_of}
use Rattle.transaction_steps.proofs.Stepping.{surveys, good_desk, bad_desk, bad_bytes, step_bad, step_look, step_finish, step_ready, step_release, step_nothing}
use Rattle.transaction_steps.proofs.next_step.Goals as goal

pub returns-in_default : goal.returns-in_default
returns-in_default c =
    step_bad c.args.log.now c.args.desk c.args.card c.args.going c.args.seen (bad_bytes c.args.log.now c.args.desk c.in_default.ensures)

pub returns-then-desk-eq0 : goal.returns-then-desk-eq0
returns-then-desk-eq0 c =
    step_bad c.args.log.now c.args.desk c.args.card c.args.going c.args.seen (bad_desk c.args.log.now c.args.desk c.if-desk-eq0.true)

pub returns-then-not-seen : goal.returns-then-not-seen
returns-then-not-seen c =
    step_look c.in-Some.log.bytes.now c.args.desk c.args.card c.args.going c.args.seen
    (good_desk c.in-Some.log.bytes.now c.args.desk c.in-Some.log.good c.if-desk-eq0.false) (not-true _ c.if-not-seen.true)
    ∙ ap (λ (l : List ℕ). next_of l c.args.desk c.args.card c.args.going c.args.seen) c.in-Some.ensures

pub returns-then-found : goal.returns-then-found
returns-then-found c =
    c.finish.ensures
    ∙ step_finish c.in-Some.log.bytes.now c.args.desk c.args.card c.args.going c.args.seen
    (good_desk c.in-Some.log.bytes.now c.args.desk c.in-Some.log.good c.if-desk-eq0.false) c.in-Some.log.last c.in-Some.log.running c.survey_records-found.result
    (surveys c.in-Some.log.bytes.now c.args.card c.args.seen.reach c.in-Some.log.last c.in-Some.log.running c.survey_records-found.result c.in-Some.log.lasts
    c.in-Some.log.runs c.survey_records-found.ensures) (not-false _ c.if-not-seen.false) c.if-found.true
    ∙ ap (λ (l : List ℕ). next_of l c.args.desk c.args.card c.args.going c.args.seen) c.in-Some.ensures

pub returns-then-going-log : goal.returns-then-going-log
returns-then-going-log c =
    c.make_ready.ensures
    ∙ step_ready c.in-Some.log.bytes.now c.args.desk c.args.card c.args.going c.args.seen
    (good_desk c.in-Some.log.bytes.now c.args.desk c.in-Some.log.good c.if-desk-eq0.false) c.in-Some.log.last c.in-Some.log.running c.survey_records-found.result
    (surveys c.in-Some.log.bytes.now c.args.card c.args.seen.reach c.in-Some.log.last c.in-Some.log.running c.survey_records-found.result c.in-Some.log.lasts
    c.in-Some.log.runs c.survey_records-found.ensures) (not-false _ c.if-not-seen.false) c.if-found.false c.if-going-log.true
    ∙ ap (λ (l : List ℕ). next_of l c.args.desk c.args.card c.args.going c.args.seen) c.in-Some.ensures

pub returns-then-seen-desk : goal.returns-then-seen-desk
returns-then-seen-desk c =
    step_release c.in-Some.log.bytes.now c.args.desk c.args.card c.args.going c.args.seen
    (good_desk c.in-Some.log.bytes.now c.args.desk c.in-Some.log.good c.if-desk-eq0.false) c.in-Some.log.last c.in-Some.log.running c.survey_records-found.result
    (surveys c.in-Some.log.bytes.now c.args.card c.args.seen.reach c.in-Some.log.last c.in-Some.log.running c.survey_records-found.result c.in-Some.log.lasts
    c.in-Some.log.runs c.survey_records-found.ensures) (not-false _ c.if-not-seen.false) c.if-found.false c.if-going-log.false (eq-eqb _ _ c.if-seen-desk.true)
    ∙ ap (λ (l : List ℕ). next_of l c.args.desk c.args.card c.args.going c.args.seen) c.in-Some.ensures

pub returns : goal.returns
returns c =
    step_nothing c.in-Some.log.bytes.now c.args.desk c.args.card c.args.going c.args.seen
    (good_desk c.in-Some.log.bytes.now c.args.desk c.in-Some.log.good c.if-desk-eq0.false) c.in-Some.log.last c.in-Some.log.running c.survey_records-found.result
    (surveys c.in-Some.log.bytes.now c.args.card c.args.seen.reach c.in-Some.log.last c.in-Some.log.running c.survey_records-found.result c.in-Some.log.lasts
    c.in-Some.log.runs c.survey_records-found.ensures) (not-false _ c.if-not-seen.false) c.if-found.false c.if-going-log.false (ne_eqb _ _ c.if-seen-desk.false)
    ∙ ap (λ (l : List ℕ). next_of l c.args.desk c.args.card c.args.going c.args.seen) c.in-Some.ensures
