-- The cycle of calls of the walk over two texts: the nesting falls from two sections to their steps, and the steps' loop counts them down. Assumes nothing.
use Prim.Native.Nat.{◌+◌, ◌-◌, ◌*◌, ◌≤◌}
use Rattle.texts.specs.Text.{Section}
use Rattle.texts.specs.inner.Walk.{Walk, TwoRuns, RunsWalked}
use Rattle.texts.proofs.inner.walk.+sections_step_steps.Given as goal

abbrev pub decreases-sections : goal.decreases-sections
decreases-sections l = 3 * l.nesting

abbrev pub decreases-step : goal.decreases-step
decreases-step l = 3 * l.nesting + 1

abbrev pub decreases-steps : goal.decreases-steps
decreases-steps l = 3 * l.nesting + 2

-- Steps stand at both places, and whatever is walked from here on, the whole is.
abbrev pub invariant-steps-loop : goal.invariant-steps-loop
invariant-steps-loop l = (l.counter ≤ l.many) × (l.counter ≤ l.more) × ((s t : Section) × TwoRuns l.a l.x l.b l.y l.nesting (l.many - l.counter) (l.more - l.counter) s t)
    × ((r : Walk) → RunsWalked l.a l.x l.b l.y l.nesting (l.many - l.counter) (l.more - l.counter) r → RunsWalked l.a l.i l.b l.j l.nesting l.many l.more r)
