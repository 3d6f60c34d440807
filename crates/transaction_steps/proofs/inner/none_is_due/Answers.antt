-- The loop: none of the records so far is due. Assumes nothing.
use native.Mathlib.Omega.{arith}
use Prim.Native.Nat.{ℕ}
use mathlib.Core.Path.{◌≡◌, sym, ap, ◌∙◌, subst}
use mathlib.Core.Bool.{true, not}
use lib.ListN.{length, length-append}
use Rattle.lists.specs.Parts.{every}
use Rattle.lists.proofs.Every.{every_none, every_more, every_fail}
use Rattle.redo_log.specs.Log.{records}
use Rattle.redo_log.proofs.Placed.{turned, ended}
use Rattle.redo_log.proofs.ReadBack.{length_records}
use Rattle.redo_recovery_model.specs.Recovery.{due}
use Rattle.redo_recovery.specs.inner.Step.{due_by}
use Rattle.redo_recovery.proofs.Laws.{due_at}
use Rattle.transaction_steps.proofs.inner.none_is_due.Goals as goal

pub loop-record-init : goal.loop-record-init
loop-record-init c =
    record {
      left_is = rw c.into_iter-record-iterator.ensures.into_iter_gives c.records-record-items.ensures;
      within = omega arith;
      so_far = every_none (λ j. not (due (records c.args.log.now.bytes.now) j));
    }

pub returns-then-is_due : goal.returns-then-is_due
returns-then-is_due c =
    let turn = turned c.args.log.now.bytes.now (length c.loop-record.yielded) _ _ _ c.loop-record.invariant.left_is c.in-Some.ensures.steps in
    sym (every_fail (λ j. not (due (records c.args.log.now.bytes.now) j)) (length (records c.args.log.now.bytes.now)) (length c.loop-record.yielded) (omega
    (arith, turn.0, length_records c.args.log.now.bytes.now)) (ap not (sym (due_at _ _ turn.0) ∙ sym (ap (due_by
    (records c.args.log.now.bytes.now)) turn.1) ∙ sym c.is_due.ensures ∙ c.if-is_due.true)))

pub loop-record-preserved : goal.loop-record-preserved
loop-record-preserved c =
    let turn = turned c.args.log.now.bytes.now (length c.loop-record.yielded) _ _ _ c.loop-record.invariant.left_is c.in-Some.ensures.steps in
    simp length-append
    (record {
      left_is = turn.2;
      within = omega (arith, turn.0);
      so_far = every_more (λ j. not (due (records c.args.log.now.bytes.now) j)) (length c.loop-record.yielded) c.loop-record.invariant.so_far (ap not (sym
          (due_at _ _ turn.0) ∙ sym (ap (due_by (records c.args.log.now.bytes.now)) turn.1) ∙ sym c.is_due.ensures ∙ c.if-is_due.false));
    })

pub returns : goal.returns
returns c =
    let past = ended c.args.log.now.bytes.now (length c.loop-record.yielded) _ c.loop-record.invariant.left_is c.in-None.ensures.steps.0 in
    let whole : length c.loop-record.yielded ≡ length (records c.args.log.now.bytes.now) = omega (arith, past, c.loop-record.invariant.within, length_records c.args.log.now.bytes.now) in
    sym (subst (λ (n : ℕ). every (λ j. not (due (records c.args.log.now.bytes.now) j)) n ≡ true) whole c.loop-record.invariant.so_far)
