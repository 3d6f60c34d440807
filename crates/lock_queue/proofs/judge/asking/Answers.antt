-- Each return, by the tests on the way. Assumes nothing.
use Rattle.lock_queue.specs.Requests.{number}
use Rattle.lock_queue.proofs.judge.asking.Goals as goal

pub returns-then-not-good : goal.returns-then-not-good
unfolding number
returns-then-not-good c =
    rw (
      ← c.good.ensures,
      c.if-not-good.true,
    )

pub returns-then-not-formed : goal.returns-then-not-formed
unfolding number
returns-then-not-formed c =
    rw (
      ← c.good.ensures,
      c.if-not-good.false,
      ← c.formed.ensures,
      c.if-not-formed.true,
    )

pub returns-then-already : goal.returns-then-already
unfolding number
returns-then-already c =
    rw (
      ← c.good.ensures,
      c.if-not-good.false,
      ← c.formed.ensures,
      c.if-not-formed.false,
      ← c.standing-standing.ensures,
      ← c.upgrading-upgrade.ensures,
      ← c.desk.ensures,
      ← c.already.ensures,
      c.if-already.true,
    )

pub returns-then-stale : goal.returns-then-stale
unfolding number
returns-then-stale c =
    rw (
      ← c.good.ensures,
      c.if-not-good.false,
      ← c.formed.ensures,
      c.if-not-formed.false,
      ← c.standing-standing.ensures,
      ← c.upgrading-upgrade.ensures,
      ← c.desk.ensures,
      ← c.already.ensures,
      c.if-already.false,
      ← c.stale.ensures,
      c.if-stale.true,
    )

pub returns-then-full : goal.returns-then-full
unfolding number
returns-then-full c =
    rw (
      ← c.good.ensures,
      c.if-not-good.false,
      ← c.formed.ensures,
      c.if-not-formed.false,
      ← c.standing-standing.ensures,
      ← c.upgrading-upgrade.ensures,
      ← c.desk.ensures,
      ← c.already.ensures,
      c.if-already.false,
      ← c.stale.ensures,
      c.if-stale.false,
      ← c.full.ensures,
      c.if-full.true,
    )

pub returns : goal.returns
unfolding number
returns c =
    rw (
      ← c.good.ensures,
      c.if-not-good.false,
      ← c.formed.ensures,
      c.if-not-formed.false,
      ← c.standing-standing.ensures,
      ← c.upgrading-upgrade.ensures,
      ← c.desk.ensures,
      ← c.already.ensures,
      c.if-already.false,
      ← c.stale.ensures,
      c.if-stale.false,
      ← c.full.ensures,
      c.if-full.false,
    )
