-- Loaded, judged, written. Assumes nothing.
use Rattle.lock_queue.specs.Requests.{lapses}
use Rattle.exports_desks.specs.Expiries.{expiry_of}
use Rattle.exports_desks.proofs.Exits.{exits}
use Rattle.exports_desks.proofs.queues.lupaniele_lapse.Goals as goal

pub returns : goal.returns
returns c =
    let start = c.args in
    exits
    start.places
    (lapses (expiry_of start.desk start.period start.drift start.begin start.time))
    c.load-queue.ensures
    c.lapse-outcome.ensures
    c.write_outcome.ensures
