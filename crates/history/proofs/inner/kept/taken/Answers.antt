-- By the test on the card. Assumes nothing.
use borrow.Author.Tests.{eq-eqb, ne_eqb}
use Rattle.history.proofs.Walk.{never_spent}
use Rattle.history.proofs.inner.kept.taken.Goals as goal

pub raised-requires : goal.raised-requires
raised-requires c = (never_spent c.args.e c.args.c c.requires, c.update.ensures)

pub returns-then-c-card : goal.returns-then-c-card
returns-then-c-card c = rw (c.raised.ensures, eq-eqb _ _ c.if-c-card.true)

pub returns : goal.returns
returns c = rw (ne_eqb _ _ c.if-c-card.false)
