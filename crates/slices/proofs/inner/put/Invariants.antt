-- The loop: after i bytes those of v from place i on are left to write. Assumes nothing.
use lib.ListN.{drop}
use Rattle.slices.proofs.Loops.{Writing}
use Rattle.slices.proofs.inner.put.Given as goal

abbrev pub invariant-loop-i : goal.invariant-loop-i
invariant-loop-i l = Writing l.at l.i l.v (drop l.i l.v) l.initial.s l.s
