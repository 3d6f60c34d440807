-- The outcome of what the request makes of the queue. Assumes nothing.
use mathlib.Core.Path.{refl}
use Rattle.lock_queue.specs.Requests.{leaves}
use Rattle.lock_queue.proofs.Judged.{turned_outcome}
use Rattle.lock_queue.proofs.leave.Goals as goal

pub returns : goal.returns
returns c =
    turned_outcome c.args.lent c.args.queue (leaves c.args.desk) c.left.result c.outcome.result c.left.ensures.told c.left.ensures.made refl
    c.outcome.ensures.answer c.outcome.ensures.queue
