-- Accepted: the queue is good, and the queue that the entry joins has a free place. Assumes nothing.
use mathlib.Core.Path.{sym}
use Rattle.lock_queue.specs.Queue.{state}
use Rattle.lock_queue.specs.Requests.{asks}
use Rattle.lock_queue.proofs.Judged.{accepted_count, ask_place}
use Rattle.lock_queue.proofs.turns.asked.Goals as goal

pub queue_joined-requires : goal.queue_joined-requires
queue_joined-requires c = accepted_count c.args.lent (state c.args.queue) (asks c.args.new) (sym (c.in_ok-asking.ensures))

pub joined-requires : goal.joined-requires
joined-requires c =
    let place = ask_place c.args.lent (state c.args.queue) c.args.new (sym (c.in_ok-asking.ensures)) in
    rw (← c.queue_joined.ensures) at place
