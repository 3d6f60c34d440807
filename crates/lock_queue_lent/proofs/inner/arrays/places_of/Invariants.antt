-- The loop fills the places. Assumes nothing.
use Rattle.lock_queue_lent.specs.Arrays.{places_of}
use Rattle.lock_queue_lent.proofs.Arrays.{Filling}
use Rattle.lock_queue_lent.proofs.inner.arrays.places_of.Given as goal

abbrev pub invariant-loop-i : goal.invariant-loop-i
invariant-loop-i l = Filling (places_of l.modes l.s l.x) l.places.at l.i
