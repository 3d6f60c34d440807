-- Accepted: the queue is good, and the desk stands. Assumes nothing.
use mathlib.Core.Path.{sym}
use Rattle.lock_queue.specs.Queue.{state}
use Rattle.lock_queue.specs.Requests.{leaves}
use Rattle.lock_queue.proofs.Judged.{accepted_count, leave_stands}
use Rattle.lock_queue.proofs.turns.left.Goals as goal

pub without-requires-clause-fits : goal.without-requires-clause-fits
without-requires-clause-fits c = accepted_count c.args.lent (state c.args.queue) (leaves c.args.desk) (sym (c.in_ok-leaving.ensures))

pub without-requires-clause-there : goal.without-requires-clause-there
without-requires-clause-there c = leave_stands c.args.lent (state c.args.queue) c.args.desk (sym (c.in_ok-leaving.ensures))
