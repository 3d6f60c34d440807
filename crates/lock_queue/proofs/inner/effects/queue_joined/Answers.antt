-- By whether it is an upgrade. Assumes nothing.
use mathlib.Core.Path.{sym, ap, ◌∙◌}
use Rattle.lock_queue.specs.Queue.{state, standing, desk}
use Rattle.lock_queue.specs.Requests.{without}
use Rattle.lock_queue.proofs.Upgrades.{up_stands, queue_joined_up, queue_joined_plain}
use Rattle.lock_queue.proofs.inner.effects.queue_joined.Goals as goal

pub without-requires-clause-there : goal.without-requires-clause-there
without-requires-clause-there c =
    let q = state c.args.queue in
    rw c.desk.ensures
    (up_stands c.args.new.mode (desk c.args.new) (standing q) (rw (← c.standing.ensures, ← c.upgrading.ensures) c.if-upgrading.true))

pub returns-then-upgrading : goal.returns-then-upgrading
returns-then-upgrading c =
    let q = state c.args.queue in
    c.without.ensures
    ∙ ap (λ d. without d q) c.desk.ensures
    ∙ sym (queue_joined_up c.args.new.mode (desk c.args.new) q (rw (← c.standing.ensures, ← c.upgrading.ensures) c.if-upgrading.true))

pub returns : goal.returns
returns c =
    let q = state c.args.queue in
    sym (queue_joined_plain c.args.new.mode (desk c.args.new) q (rw (← c.standing.ensures, ← c.upgrading.ensures) c.if-upgrading.false))
