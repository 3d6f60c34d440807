-- Loaded, judged by value, and stored back: what the lent queue comes to. Assumes nothing.
use Rattle.lock_queue.specs.Requests.{lapses}
use Rattle.lock_queue_lent.proofs.Loaded.{settled_lent}
use Rattle.lock_queue_lent.proofs.lapse.Goals as goal

pub returns : goal.returns
returns c =
    settled_lent c.args.places.now c.store.new.places c.args.kept (lapses c.args.expiry) c.lapse-outcome.result c.store.result
    c.load.ensures c.lapse-outcome.ensures c.store.ensures
