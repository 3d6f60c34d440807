-- Loaded, asked, written. Assumes nothing.
use Rattle.lock_queue.specs.Queue.{waiting}
use Rattle.lock_queue.specs.Requests.{asks}
use Rattle.exports_desks.proofs.Exits.{exits}
use Rattle.exports_desks.proofs.queues.lupaniele_ask.Goals as goal

pub returns : goal.returns
returns c =
    exits
    c.args.places
    (asks (waiting c.args.mode c.args.asked_s c.args.asked_x))
    c.load-queue.ensures
    c.ask-outcome.ensures
    c.write_outcome.ensures
