use mathlib.Core.Path.{sym, ap, ◌∙◌}
use Rattle.lists.proofs.Table.{settled_new, settled_old}
use Rattle.desk_proposals.specs.Propose.{learnt}
use Rattle.desk_proposals.proofs.Propose.{proposed_by, made_fits}
use Rattle.desk_proposals.proofs.Known.propose.Goals as goal

-- src/lib.rt:113:13
pub returns-then-number-ne-ACCEPTED : goal.returns-then-number-ne-ACCEPTED
returns-then-number-ne-ACCEPTED c = proposed_by _ _ (c.number_of-number.ensures ∙ c.may_propose.ensures) (sym (settled_old _ _ c.if-number-ne-ACCEPTED.true)) (sym
    (settled_old _ _ c.if-number-ne-ACCEPTED.true))

-- src/lib.rt:119:13
pub pair_for-pair-requires : goal.pair_for-pair-requires
pair_for-pair-requires c =
    let a = c.args in
    made_fits a.self a.mode (sym (c.number_of-number.ensures ∙ c.may_propose.ensures) ∙ c.if-number-ne-ACCEPTED.false)

-- src/lib.rt:108:5
pub returns : goal.returns
returns c =
    proposed_by _ _ (c.number_of-number.ensures ∙ c.may_propose.ensures)
    (c.pair_for-pair.ensures ∙ sym (settled_new _ _ c.if-number-ne-ACCEPTED.false))
    (c.learn.ensures ∙ ap (learnt _) c.pair_for-pair.ensures ∙ sym (settled_new _ _ c.if-number-ne-ACCEPTED.false))
