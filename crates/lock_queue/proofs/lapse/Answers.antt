-- The outcome of what the request makes of the queue. Assumes nothing.
use mathlib.Core.Path.{refl}
use Rattle.lock_queue.specs.Requests.{lapses}
use Rattle.lock_queue.proofs.Judged.{turned_outcome}
use Rattle.lock_queue.proofs.lapse.Goals as goal

pub returns : goal.returns
returns c =
    turned_outcome c.args.lent c.args.queue (lapses c.args.expiry) c.lapsed.result c.outcome.result c.lapsed.ensures.told c.lapsed.ensures.made refl
    c.outcome.ensures.answer c.outcome.ensures.queue
