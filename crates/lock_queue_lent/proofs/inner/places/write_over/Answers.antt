-- A copy of the first entries. Assumes nothing.
use Rattle.lock_queue_lent.proofs.Written.{written_front}
use Rattle.lock_queue_lent.proofs.inner.places.write_over.Goals as goal

pub returns : goal.returns
returns c = rw c.copy_from_slice.ensures.after (written_front c.min-n.result c.args.from.now c.args.onto.now c.min-n.ensures)
