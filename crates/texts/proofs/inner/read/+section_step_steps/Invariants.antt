-- The cycle of calls of a section, its steps and a step: the nesting falls from a section to its steps, and the steps' loop counts them down. Assumes nothing.
use Prim.Native.Nat.{ℕ, ◌+◌, ◌-◌, ◌*◌}
use Rattle.texts.specs.inner.Read.{ReadsSteps}
use Rattle.std.specs.Prelude.{Option}
use Rattle.texts.proofs.inner.read.+section_step_steps.Given as goal

abbrev pub decreases-section : goal.decreases-section
decreases-section l = 3 * l.nesting

abbrev pub decreases-step : goal.decreases-step
decreases-step l = 3 * l.nesting + 1

abbrev pub decreases-steps : goal.decreases-steps
decreases-steps l = 3 * l.nesting + 2

-- Whatever the steps from here on are read as, the whole is.
abbrev pub invariant-steps-loop : goal.invariant-steps-loop
invariant-steps-loop l = (r : Option ℕ) → ReadsSteps l.text l.next l.nesting (l.count - l.counter) r → ReadsSteps l.text l.at l.nesting l.count r
