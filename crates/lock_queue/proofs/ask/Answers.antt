-- The outcome of what the request makes of the queue. Assumes nothing.
use Rattle.lock_queue.specs.Requests.{asks}
use Rattle.lock_queue.proofs.Judged.{turned_outcome}
use Rattle.lock_queue.proofs.ask.Goals as goal

pub returns : goal.returns
returns c =
    turned_outcome c.args.lent c.args.queue (asks c.args.new) c.asked.result c.outcome.result c.asked.ensures.told c.asked.ensures.made c.desk.ensures
    c.outcome.ensures.answer c.outcome.ensures.queue
