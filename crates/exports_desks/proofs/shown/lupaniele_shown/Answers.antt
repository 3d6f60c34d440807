-- A language beyond the two is refused; the others are asked by their names. Assumes nothing.
use borrow.Author.Tests.{lt-ltb, le-ltb}
use Rattle.exports_desks.proofs.shown.lupaniele_shown.Goals as goal

pub returns-then-asked-gt1 : goal.returns-then-asked-gt1
returns-then-asked-gt1 c = record { number = rw (lt-ltb 1 _ c.if-asked-gt1.true); count = rw (lt-ltb 1 _ c.if-asked-gt1.true) }

pub returns : goal.returns
returns c =
    let named = le-ltb 1 _ c.if-asked-gt1.false in
    record { number = rw (named, ← c.language.ensures) c.length_shown.ensures.number; count = rw (named, ← c.language.ensures) c.length_shown.ensures.count }
