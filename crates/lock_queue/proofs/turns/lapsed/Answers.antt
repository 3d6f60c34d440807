-- Accepted: the queue is good, and the desk stands. Assumes nothing.
use mathlib.Core.Path.{sym}
use Rattle.lock_queue.specs.Queue.{state}
use Rattle.lock_queue.specs.Requests.{lapses}
use Rattle.lock_queue.proofs.Judged.{accepted_count, leave_stands, lapse_leaves}
use Rattle.lock_queue.proofs.turns.lapsed.Goals as goal

pub without-requires-clause-fits : goal.without-requires-clause-fits
without-requires-clause-fits c = accepted_count c.args.lent (state c.args.queue) (lapses c.args.expiry) (sym (c.in_ok-lapsing.ensures))

pub without-requires-clause-there : goal.without-requires-clause-there
without-requires-clause-there c =
    let q = state c.args.queue in
    leave_stands c.args.lent q c.args.expiry.desk (lapse_leaves c.args.lent q c.args.expiry (sym (c.in_ok-lapsing.ensures)))
