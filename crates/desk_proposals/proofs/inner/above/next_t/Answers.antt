use borrow.Author.Tests.{lt-ltb, le-ltb}
use Rattle.desk_proposals.specs.Propose.{next_t}
use Rattle.desk_proposals.proofs.inner.above.next_t.Goals as goal

-- src/lib.rt:39:9
pub returns-then-n-t : goal.returns-then-n-t
unfolding next_t
returns-then-n-t c = rw (lt-ltb _ _ c.if-n-t.true)

-- src/lib.rt:34:1
pub returns : goal.returns
unfolding next_t
returns c = rw (le-ltb _ _ c.if-n-t.false)
