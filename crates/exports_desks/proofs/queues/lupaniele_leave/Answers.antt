-- Loaded, asked, written. Assumes nothing.
use Rattle.lock_queue.specs.Requests.{leaves}
use Rattle.exports_desks.proofs.Exits.{exits}
use Rattle.exports_desks.proofs.queues.lupaniele_leave.Goals as goal

pub returns : goal.returns
returns c =
    exits
    c.args.places
    (leaves c.args.desk)
    c.load-queue.ensures
    c.leave-outcome.ensures
    c.write_outcome.ensures
