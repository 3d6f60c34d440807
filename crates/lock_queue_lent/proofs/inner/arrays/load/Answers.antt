use Rattle.lock_queue_lent.proofs.inner.arrays.load.Goals as goal

pub returns : goal.returns
returns c = rw c.places_of.ensures
