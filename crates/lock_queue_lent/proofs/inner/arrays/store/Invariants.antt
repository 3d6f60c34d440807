-- The loop fills the three arrays. Assumes nothing.
use mathlib.Core.Path.{◌≡◌}
use lib.ListN.{length}
use Rattle.lock_queue_lent.specs.Arrays.{modes_of, shared_of, exclusive_of}
use Rattle.lock_queue_lent.proofs.Arrays.{Filling}
use Rattle.lock_queue_lent.proofs.inner.arrays.store.Given as goal

abbrev pub invariant-loop-i : goal.invariant-loop-i
invariant-loop-i l = (length l.places.at ≡ 32)
    × Filling (modes_of l.places.at) l.modes l.i
    × Filling (shared_of l.places.at) l.s l.i
    × Filling (exclusive_of l.places.at) l.x l.i
