-- The length and the count first, then the stamps and the entries. Assumes nothing.
use Rattle.lock_queue.specs.Queue.{state}
use Rattle.lock_queue.proofs.Checks.{good_unsized, good_rest}
use Rattle.lock_queue.proofs.inner.rules.good.Goals as goal

pub returns-then-not-lent-queue : goal.returns-then-not-lent-queue
returns-then-not-lent-queue c = good_unsized c.args.lent (state c.args.queue.now) c.if-not-lent-queue.true

pub returns : goal.returns
returns c =
    let start = c.args in
    rw (c.entries_good.ensures, c.standing.ensures, c.stamp_valid-2.ensures, c.stamp_valid.ensures)
    (good_rest start.lent (state start.queue.now) c.if-not-lent-queue.false)
