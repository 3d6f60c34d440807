-- By the number. Assumes nothing.
use Rattle.exports_desks.proofs.Languages.{second}
use Rattle.exports_desks.proofs.shown.language.Goals as goal

pub returns-then-asked-eq0 : goal.returns-then-asked-eq0
returns-then-asked-eq0 c = rw c.if-asked-eq0.true

pub returns : goal.returns
returns c = second _ c.if-asked-eq0.false
