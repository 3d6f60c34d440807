-- One record more, by whether it is an update of the card. Assumes nothing.
use mathlib.Core.Path.{sym, ap, ◌∙◌}
use Rattle.redo_log.specs.Log.{records}
use Rattle.redo_log.specs.inner.Placed.{Placed}
use Rattle.redo_recovery.specs.inner.Step.{due_by}
use Rattle.redo_recovery.proofs.Laws.{last_is, due_at}
use Rattle.transaction_steps.proofs.Laws.{surveyed_same, surveyed_with, update_there}
use Rattle.transaction_steps.proofs.inner.with_record.Goals as goal

pub returns-then-not-is_update_of : goal.returns-then-not-is_update_of
returns-then-not-is_update_of c =
    c.requires.2
    ∙ surveyed_same (records c.args.log.now.bytes.now) c.args.card c.args.reach c.args.begun c.args.record.now.line
    (sym (update_there c.args.log.now.bytes.now c.args.record.now.line c.args.card c.requires.1 c.requires.0) ∙ sym c.is_update_of.ensures ∙ c.if-not-is_update_of.true)

pub returns : goal.returns
returns c =
    surveyed_with (records c.args.log.now.bytes.now) c.args.card c.args.reach c.args.begun c.args.record.now.line c.args.found
    c.requires.2
    (sym (update_there c.args.log.now.bytes.now c.args.record.now.line c.args.card c.requires.1 c.requires.0) ∙ sym c.is_update_of.ensures ∙ c.if-not-is_update_of.false)
    (c.is_due-is.ensures ∙ ap (due_by (records c.args.log.now.bytes.now)) c.requires.0 ∙ due_at c.args.log.now.bytes.now c.args.record.now.line c.requires.1)
    (ap (λ (p : Placed). p.transaction) c.requires.0 ∙ sym (last_is c.args.log.now.bytes.now c.args.record.now.line c.requires.1))
    c.line_after.ensures
    c.transaction_after.ensures
