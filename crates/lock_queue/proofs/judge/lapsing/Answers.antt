-- Each return, by the tests on the way. Assumes nothing.
use Rattle.lock_queue.specs.Requests.{number}
use Rattle.lock_queue.proofs.judge.lapsing.Goals as goal

pub returns-then-not-good : goal.returns-then-not-good
unfolding number
returns-then-not-good c = rw (← c.good.ensures, c.if-not-good.true)

pub returns-then-not-valid_term-valid_time : goal.returns-then-not-valid_term-valid_time
unfolding number
returns-then-not-valid_term-valid_time c =
    rw (
      ← c.good.ensures,
      c.if-not-good.false,
      ← c.valid_term.ensures,
      ← c.valid_time.ensures,
      ← c.valid_time-2.ensures,
      c.if-not-valid_term-valid_time.true,
    )

pub returns-then-not-stands : goal.returns-then-not-stands
unfolding number
returns-then-not-stands c =
    rw (
      ← c.good.ensures,
      c.if-not-good.false,
      ← c.valid_term.ensures,
      ← c.valid_time.ensures,
      ← c.valid_time-2.ensures,
      c.if-not-valid_term-valid_time.false,
      ← c.standing.ensures,
      ← c.stands.ensures,
      c.if-not-stands.true,
    )

pub returns-then-not-expired : goal.returns-then-not-expired
unfolding number
returns-then-not-expired c =
    rw (
      ← c.good.ensures,
      c.if-not-good.false,
      ← c.valid_term.ensures,
      ← c.valid_time.ensures,
      ← c.valid_time-2.ensures,
      c.if-not-valid_term-valid_time.false,
      ← c.standing.ensures,
      ← c.stands.ensures,
      c.if-not-stands.false,
      ← c.expired.ensures,
      c.if-not-expired.true,
    )

pub returns : goal.returns
unfolding number
returns c =
    rw (
      ← c.good.ensures,
      c.if-not-good.false,
      ← c.valid_term.ensures,
      ← c.valid_time.ensures,
      ← c.valid_time-2.ensures,
      c.if-not-valid_term-valid_time.false,
      ← c.standing.ensures,
      ← c.stands.ensures,
      c.if-not-stands.false,
      ← c.expired.ensures,
      c.if-not-expired.false,
    )
