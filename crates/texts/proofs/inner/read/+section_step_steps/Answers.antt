-- The cycle of calls of a section, its steps and a step: the nesting falls from a section to its steps, and the steps' loop counts them down. Assumes nothing.
use mathlib.Core.Path.{sym, subst}
use Prim.Native.Nat.{ℕ, ◌+◌, ◌-◌}
use native.Mathlib.Omega.{arith}
use Rattle.texts.specs.inner.Read.{ReadsSection, ReadsStep, ReadsSteps}
use Rattle.std.specs.Prelude.{Option, Some, None}
use Rattle.texts.proofs.Reading.{section_short, section_deep, section_other, section_read_at, step_short, step_section, step_other, steps_none, steps_more, steps_ill}
use Rattle.texts.proofs.inner.read.+section_step_steps.Goals as goal

pub section-returns-then-nesting-eq0 : goal.section-returns-then-nesting-eq0
section-returns-then-nesting-eq0 t c =
    let start = c.args in
    subst (λ (k : ℕ). ReadsSection start.text.now start.at k None) (sym c.if-nesting-eq0.true) (section_deep start.text.now start.at)

pub section-returns-then-text-at : goal.section-returns-then-text-at
section-returns-then-text-at t c =
    let start = c.args in
    section_short start.text.now start.at start.nesting (omega (arith, c.if-text-at.true))

pub section-returns-then-text-at-lt2 : goal.section-returns-then-text-at-lt2
section-returns-then-text-at-lt2 t c =
    let start = c.args in
    section_short start.text.now start.at start.nesting c.if-text-at-lt2.true

pub section-returns-then-text-at-ne-SECTION_BEGINS : goal.section-returns-then-text-at-ne-SECTION_BEGINS
section-returns-then-text-at-ne-SECTION_BEGINS t c =
    let start = c.args in
    section_other start.text.now start.at start.nesting (omega (arith, c.if-text-at-lt2.false, c.if-text-at.false)) c.if-text-at-ne-SECTION_BEGINS.true

pub section-returns : goal.section-returns
section-returns t c =
    let start = c.args in
    section_read_at start.text.now start.at start.nesting _ c.if-nesting-eq0.false
    (omega (arith, c.if-text-at-lt2.false, c.if-text-at.false))
    (c.type_inv.text (start.at + 1)).fits c.if-text-at-ne-SECTION_BEGINS.false c.steps.ensures

pub step-returns-then-text-at : goal.step-returns-then-text-at
step-returns-then-text-at t c =
    let start = c.args in
    step_short start.text.now start.at start.nesting (omega (arith, c.if-text-at.true))

pub step-returns-then-text-at-lt2 : goal.step-returns-then-text-at-lt2
step-returns-then-text-at-lt2 t c =
    let start = c.args in
    step_short start.text.now start.at start.nesting c.if-text-at-lt2.true

pub step-returns-then-kind-eq-SECTION : goal.step-returns-then-kind-eq-SECTION
step-returns-then-kind-eq-SECTION t c =
    let start = c.args in
    step_section start.text.now start.at start.nesting _ c.if-text-at.false c.if-kind-eq-SECTION.true c.section.ensures

pub step-returns : goal.step-returns
step-returns t c =
    let start = c.args in
    step_other start.text.now start.at start.nesting c.if-text-at.false c.if-kind-eq-WORDS.false c.if-kind-eq-DROP.false c.if-kind-eq-SECTION.false

pub steps-returns-in_err-next : goal.steps-returns-in_err-next
steps-returns-in_err-next t c =
    let start = c.args in
    let here = c.loop in
    let read = subst (λ (r : Option ℕ). ReadsStep start.text.now here.next start.nesting r) c.in_err-next.was c.step.ensures in
    rw c.from_residual.ensures (here.invariant None (steps_ill start.text.now here.next start.nesting _ (λ none. omega (arith, none, c.loop-test.true)) read))

pub steps-loop-preserved : goal.steps-loop-preserved
steps-loop-preserved t c =
    let start = c.args in
    let here = c.loop in
    let read = subst (λ (r : Option ℕ). ReadsStep start.text.now here.next start.nesting r) c.in_ok-next.was c.step.ensures in
    λ r reads. here.invariant r (steps_more start.text.now here.next start.nesting _ (start.count - here.counter) r (λ none. omega (arith, none, c.loop-test.true)) read
    (subst (λ (k : ℕ). ReadsSteps start.text.now c.in_ok-next.next start.nesting k r) (omega arith) reads))

pub steps-returns : goal.steps-returns
steps-returns t c =
    let start = c.args in
    let here = c.loop in
    here.invariant (Some here.next) (steps_none start.text.now here.next start.nesting _ (omega (arith, c.loop-test.false)))
