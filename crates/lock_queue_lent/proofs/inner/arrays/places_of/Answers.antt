-- The loop fills the places. Assumes nothing.
use native.Mathlib.Omega.{arith}
use Rattle.lists.proofs.ConcatMap.{length_tabulate, get_d_tabulate}
use Rattle.lock_queue.specs.Queue.{no_waiting}
use Rattle.lock_queue_lent.specs.Arrays.{places_of}
use Rattle.lock_queue_lent.proofs.Arrays.{filling_none, filling_more, filling_done}
use Rattle.lock_queue_lent.proofs.inner.arrays.places_of.Goals as goal

pub loop-i-init : goal.loop-i-init
unfolding places_of
loop-i-init c = filling_none _ _ (length_tabulate _ 32)

pub loop-i-preserved : goal.loop-i-preserved
unfolding places_of
loop-i-preserved c =
    filling_more no_waiting _ c.loop-i.invariant (rw length_tabulate (omega arith)) (get_d_tabulate _ 32 _ no_waiting (omega arith))

pub returns : goal.returns
unfolding places_of
returns c = filling_done c.loop-i.invariant (rw length_tabulate (omega arith))
