-- By the two checks and the walk. Assumes nothing.
use mathlib.Core.Path.{subst}
use Rattle.std.proofs.lemmas.Result.{err_from_is_err_and}
use Rattle.texts.specs.inner.Walk.{SectionsWalked}
use Rattle.texts.proofs.Answers.{same_answer, differ_answer}
use Rattle.texts.proofs.compare.Goals as goal

pub returns-in_err-sections : goal.returns-in_err-sections
returns-in_err-sections c =
    let start = c.args in
    let p = err_from_is_err_and c.from_residual.result c.from_residual.ensures.1 in
    rw (p.1, p.2) (differ_answer start.first.now start.second.now
    (c.well_formed-2.ensures.0 c.if-not-well_formed.false)
    (c.well_formed-3.ensures.0 c.if-not-well_formed-2.false) _
    (subst (SectionsWalked start.first.now 0 start.second.now 0 8) c.in_err-sections.was c.sections.ensures))

pub returns : goal.returns
returns c =
    let start = c.args in
    same_answer start.first.now start.second.now
    (c.well_formed-2.ensures.0 c.if-not-well_formed.false)
    (c.well_formed-3.ensures.0 c.if-not-well_formed-2.false) _ _
    (subst (SectionsWalked start.first.now 0 start.second.now 0 8) c.in_ok-sections.was c.sections.ensures)
