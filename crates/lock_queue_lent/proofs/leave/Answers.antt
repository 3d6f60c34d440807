-- Loaded, judged by value, and stored back: what the lent queue comes to. Assumes nothing.
use Rattle.lock_queue.specs.Requests.{leaves}
use Rattle.lock_queue_lent.proofs.Loaded.{settled_lent}
use Rattle.lock_queue_lent.proofs.leave.Goals as goal

pub returns : goal.returns
returns c =
    settled_lent c.args.places.now c.store.new.places c.args.kept (leaves c.args.desk) c.leave-outcome.result c.store.result
    c.load.ensures c.leave-outcome.ensures c.store.ensures
