-- The loop: what the first lines say. Assumes nothing.
use native.Mathlib.Omega.{arith}
use Prim.Native.Nat.{ℕ, ◌+◌, ◌<◌}
use mathlib.Core.Path.{◌≡◌, sym, ap, ◌∙◌, subst}
use lib.ListN.{length, length-append}
use Rattle.redo_log.specs.Log.{record_count, records}
use Rattle.redo_log.specs.inner.Placed.{Placed, placed_at}
use Rattle.redo_log.proofs.Placed.{turned, ended}
use Rattle.transaction_steps.specs.inner.Surveyed.{surveyed}
use Rattle.transaction_steps.proofs.Laws.{surveyed_none}
use Rattle.transaction_steps.proofs.inner.survey_records.Goals as goal

pub loop-record-init : goal.loop-record-init
loop-record-init c =
    record {
      left_is = rw c.into_iter-record-iterator.ensures.into_iter_gives c.records-record-items.ensures;
      within = omega arith;
      so_far = surveyed_none (records c.args.log.now.bytes.now) c.args.card c.args.reach c.args.begun;
    }

pub with_record-found-requires : goal.with_record-found-requires
with_record-found-requires c =
    let turn = turned c.args.log.now.bytes.now (length c.loop-record.yielded) _ _ _ c.loop-record.invariant.left_is c.in-Some.ensures.steps in
    let line : c.in-Some.record.line ≡ length c.loop-record.yielded = ap (λ (p : Placed). p.line) turn.1 in (
      turn.1 ∙ ap (placed_at c.args.log.now.bytes.now) (sym line),
      subst (λ (n : ℕ). n < record_count c.args.log.now.bytes.now) (sym line) turn.0,
      c.loop-record.invariant.so_far ∙ ap (surveyed (records c.args.log.now.bytes.now) c.args.card c.args.reach c.args.begun) (sym line),
    )

pub loop-record-preserved : goal.loop-record-preserved
loop-record-preserved c =
    let turn = turned c.args.log.now.bytes.now (length c.loop-record.yielded) _ _ _ c.loop-record.invariant.left_is c.in-Some.ensures.steps in
    let line : c.in-Some.record.line ≡ length c.loop-record.yielded = ap (λ (p : Placed). p.line) turn.1 in
    simp length-append
    (record {
      left_is = turn.2;
      within = omega (arith, turn.0);
      so_far = c.with_record-found.ensures ∙ ap (λ (n : ℕ). surveyed (records c.args.log.now.bytes.now) c.args.card c.args.reach c.args.begun (n + 1)) line;
    })

pub returns : goal.returns
returns c =
    let past = ended c.args.log.now.bytes.now (length c.loop-record.yielded) _ c.loop-record.invariant.left_is c.in-None.ensures.steps.0 in
    let all : length c.loop-record.yielded ≡ record_count c.args.log.now.bytes.now = omega (arith, past, c.loop-record.invariant.within) in
    c.loop-record.invariant.so_far ∙ ap (surveyed (records c.args.log.now.bytes.now) c.args.card c.args.reach c.args.begun) all
