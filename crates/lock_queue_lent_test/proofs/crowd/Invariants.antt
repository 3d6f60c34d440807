-- One more guest stands in its place at each turn. Assumes nothing.
use mathlib.Core.Path.{◌≡◌}
use lib.ListN.{replicate}
use Rattle.lock_queue_claims.specs.Trials.{guest, crowded}
use Rattle.lock_queue.specs.Queue.{most_places}
use Rattle.lock_queue_lent.specs.Slice.{written}
use Rattle.lock_queue_lent_test.proofs.crowd.Given as goal

abbrev pub invariant-loop-i : goal.invariant-loop-i
invariant-loop-i l = l.all ≡ written l.i crowded.places (replicate most_places (guest 1))
