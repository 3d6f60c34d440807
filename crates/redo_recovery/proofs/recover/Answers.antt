-- The loop carries what is left of the recovery from record i on (`Going`, proofs/Running). Assumes nothing.
use native.Mathlib.Omega.{arith}
use Prim.Native.Nat.{ℕ}
use mathlib.Core.Path.{refl, sym, ap, ◌∙◌}
use mathlib.Core.List.{List}
use lib.ListN.{length, length-append}
use Rattle.redo_log.specs.Log.{records}
use Rattle.redo_log.specs.inner.Placed.{Placed}
use Rattle.redo_log.specs.inner.Shown.{as_record}
use Rattle.redo_log.proofs.Placed.{turned, ended}
use Rattle.redo_recovery_model.proofs.Steps.{told}
use Rattle.redo_recovery.specs.Recover.{pairs_in, recovery_answer}
use Rattle.redo_recovery.specs.inner.Step.{due_by}
use Rattle.redo_recovery.proofs.Laws.{due_at, due_kind}
use Rattle.redo_recovery.proofs.Writing.{wrote, wrote_unsound, step_idle}
use Rattle.redo_recovery_model.specs.Recovery.{recovered}
use Rattle.redo_recovery.proofs.Running.{pick, going_none, going_more, going_stops, going_done, answers_bad}
use Rattle.redo_recovery.proofs.recover.Goals as goal

pub returns-in_default-clause-answer : goal.returns-in_default-clause-answer
returns-in_default-clause-answer c = (answers_bad (pairs_in c.args.pairs) c.args.log.now c.args.image.now c.in_default.ensures).0

pub returns-in_default-clause-image : goal.returns-in_default-clause-image
returns-in_default-clause-image c = (answers_bad (pairs_in c.args.pairs) c.args.log.now c.args.image.now c.in_default.ensures).1

pub loop-record-init : goal.loop-record-init
loop-record-init c =
    record {
      left_is = rw c.into_iter-record-iterator.ensures.into_iter_gives c.records-records.ensures;
      going = going_none (pairs_in c.args.pairs) c.in-Some.log.bytes.now c.args.image.now c.sound-is_sound.result c.sound-is_sound.ensures;
    }

pub loop-record-preserved-then-not-is_due : goal.loop-record-preserved-then-not-is_due
loop-record-preserved-then-not-is_due c =
    let turn = turned c.in-Some.log.bytes.now (length c.loop-record.yielded) _ _ _ c.loop-record.invariant.left_is c.in-Some-record.ensures.steps in
    let idle = step_idle c.in-Some.log.bytes.now (length c.loop-record.yielded) turn.0 (pairs_in c.args.pairs) c.loop-record.image (sym (due_at _ _ turn.0) ∙ sym (ap (due_by
    (records c.in-Some.log.bytes.now)) turn.1) ∙ sym c.is_due.ensures ∙ c.if-not-is_due.true) in
    simp length-append
    (record {
      left_is = turn.2;
      going = going_more (pairs_in c.args.pairs) c.in-Some.log.bytes.now c.args.image.now c.loop-record.image c.sound-is_sound.result
          (length c.loop-record.yielded) c.loop-record.invariant.going turn.0 idle.0 idle.1 refl c.loop-record.invariant.going.sounds refl;
    })

pub returns-then-not-is_sound-clause-answer : goal.returns-then-not-is_sound-clause-answer
returns-then-not-is_sound-clause-answer c =
    let turn = turned c.in-Some.log.bytes.now (length c.loop-record.yielded) _ _ _ c.loop-record.invariant.left_is c.in-Some-record.ensures.steps in
    let unsound = wrote_unsound c.in-Some.log.bytes.now (length c.loop-record.yielded) turn.0 (pairs_in c.args.pairs) c.loop-record.image (sym (due_at _ _ turn.0) ∙ sym (ap
    (due_by (records c.in-Some.log.bytes.now)) turn.1) ∙ sym c.is_due.ensures ∙ c.if-not-is_due.false) (sym c.loop-record.invariant.going.sounds ∙ c.if-not-is_sound.true) in
    ap (λ (p : Placed). pick 9 p.line) turn.1
    ∙ (going_stops (pairs_in c.args.pairs) c.in-Some.log.bytes.now c.args.image.now c.loop-record.image c.sound-is_sound.result
    (length c.loop-record.yielded) c.loop-record.invariant.going turn.0 unsound.0 unsound.1 c.in-Some.log.good (λ z. absurd (omega arith))).0
    ∙ ap (λ (l : List ℕ). recovery_answer (pairs_in c.args.pairs) l c.args.image.now) c.in-Some.ensures

pub returns-then-not-is_sound-clause-image : goal.returns-then-not-is_sound-clause-image
returns-then-not-is_sound-clause-image c =
    let turn = turned c.in-Some.log.bytes.now (length c.loop-record.yielded) _ _ _ c.loop-record.invariant.left_is c.in-Some-record.ensures.steps in
    let unsound = wrote_unsound c.in-Some.log.bytes.now (length c.loop-record.yielded) turn.0 (pairs_in c.args.pairs) c.loop-record.image (sym (due_at _ _ turn.0) ∙ sym (ap
    (due_by (records c.in-Some.log.bytes.now)) turn.1) ∙ sym c.is_due.ensures ∙ c.if-not-is_due.false) (sym c.loop-record.invariant.going.sounds ∙ c.if-not-is_sound.true) in
    (going_stops (pairs_in c.args.pairs) c.in-Some.log.bytes.now c.args.image.now c.loop-record.image c.sound-is_sound.result
    (length c.loop-record.yielded) c.loop-record.invariant.going turn.0 unsound.0 unsound.1 c.in-Some.log.good (λ z. absurd (omega arith))).1
    ∙ ap (λ (l : List ℕ). (recovered (pairs_in c.args.pairs) l c.args.image.now).image) c.in-Some.ensures

pub apply-number-requires : goal.apply-number-requires
apply-number-requires c = (
  sym c.loop-record.invariant.going.sounds ∙ c.if-not-is_sound.false,
  due_kind (records c.in-Some.log.bytes.now) (as_record c.in-Some-record.record) (sym c.is_due.ensures ∙ c.if-not-is_due.false),
)

pub returns-then-number-ne-ACCEPTED-clause-answer : goal.returns-then-number-ne-ACCEPTED-clause-answer
returns-then-number-ne-ACCEPTED-clause-answer c =
    let turn = turned c.in-Some.log.bytes.now (length c.loop-record.yielded) _ _ _ c.loop-record.invariant.left_is c.in-Some-record.ensures.steps in
    let done = wrote c.in-Some.log.bytes.now (length c.loop-record.yielded) turn.0 (pairs_in c.args.pairs) c.loop-record.image _ (ap (λ (p : Placed). p.entry) turn.1) (sym
    (due_at _ _ turn.0) ∙ sym (ap (due_by (records c.in-Some.log.bytes.now)) turn.1) ∙ sym c.is_due.ensures ∙ c.if-not-is_due.false) in
    ap (λ (p : Placed). pick c.apply-number.result p.line) turn.1
    ∙ (going_stops (pairs_in c.args.pairs) c.in-Some.log.bytes.now c.args.image.now c.loop-record.image c.sound-is_sound.result
    (length c.loop-record.yielded) c.loop-record.invariant.going turn.0 (c.apply-number.ensures.number ∙ done.0)
    (c.apply-number.ensures.image ∙ done.1) c.in-Some.log.good c.if-number-ne-ACCEPTED.true).0
    ∙ ap (λ (l : List ℕ). recovery_answer (pairs_in c.args.pairs) l c.args.image.now) c.in-Some.ensures

pub returns-then-number-ne-ACCEPTED-clause-image : goal.returns-then-number-ne-ACCEPTED-clause-image
returns-then-number-ne-ACCEPTED-clause-image c =
    let turn = turned c.in-Some.log.bytes.now (length c.loop-record.yielded) _ _ _ c.loop-record.invariant.left_is c.in-Some-record.ensures.steps in
    let done = wrote c.in-Some.log.bytes.now (length c.loop-record.yielded) turn.0 (pairs_in c.args.pairs) c.loop-record.image _ (ap (λ (p : Placed). p.entry) turn.1) (sym
    (due_at _ _ turn.0) ∙ sym (ap (due_by (records c.in-Some.log.bytes.now)) turn.1) ∙ sym c.is_due.ensures ∙ c.if-not-is_due.false) in
    (going_stops (pairs_in c.args.pairs) c.in-Some.log.bytes.now c.args.image.now c.loop-record.image c.sound-is_sound.result
    (length c.loop-record.yielded) c.loop-record.invariant.going turn.0 (c.apply-number.ensures.number ∙ done.0)
    (c.apply-number.ensures.image ∙ done.1) c.in-Some.log.good c.if-number-ne-ACCEPTED.true).1
    ∙ ap (λ (l : List ℕ). (recovered (pairs_in c.args.pairs) l c.args.image.now).image) c.in-Some.ensures

pub loop-record-preserved : goal.loop-record-preserved
loop-record-preserved c =
    let turn = turned c.in-Some.log.bytes.now (length c.loop-record.yielded) _ _ _ c.loop-record.invariant.left_is c.in-Some-record.ensures.steps in
    let done = wrote c.in-Some.log.bytes.now (length c.loop-record.yielded) turn.0 (pairs_in c.args.pairs) c.loop-record.image _ (ap (λ (p : Placed). p.entry) turn.1) (sym
    (due_at _ _ turn.0) ∙ sym (ap (due_by (records c.in-Some.log.bytes.now)) turn.1) ∙ sym c.is_due.ensures ∙ c.if-not-is_due.false) in
    simp length-append
    (record {
      left_is = turn.2;
      going = going_more (pairs_in c.args.pairs) c.in-Some.log.bytes.now c.args.image.now c.loop-record.image c.sound-is_sound.result
          (length c.loop-record.yielded) c.loop-record.invariant.going turn.0 (c.apply-number.ensures.number ∙ done.0)
          (c.apply-number.ensures.image ∙ done.1) c.if-number-ne-ACCEPTED.false
          (c.if-not-is_sound.false ∙ sym c.apply-number.ensures.kept) c.apply-number.auto.image;
    })

pub returns-clause-answer : goal.returns-clause-answer
returns-clause-answer c =
    (going_done (pairs_in c.args.pairs) c.in-Some.log.bytes.now c.args.image.now c.loop-record.image c.sound-is_sound.result
    (length c.loop-record.yielded) c.loop-record.invariant.going (ended c.in-Some.log.bytes.now
    (length c.loop-record.yielded) _ c.loop-record.invariant.left_is c.in-None.ensures.steps.0) c.in-Some.log.good ((told (pairs_in c.args.pairs)
    (records c.in-Some.log.bytes.now) c.args.image.now (length c.loop-record.yielded)).line c.loop-record.invariant.going.none)).0
    ∙ ap (λ (l : List ℕ). recovery_answer (pairs_in c.args.pairs) l c.args.image.now) c.in-Some.ensures

pub returns-clause-image : goal.returns-clause-image
returns-clause-image c =
    (going_done (pairs_in c.args.pairs) c.in-Some.log.bytes.now c.args.image.now c.loop-record.image c.sound-is_sound.result
    (length c.loop-record.yielded) c.loop-record.invariant.going (ended c.in-Some.log.bytes.now
    (length c.loop-record.yielded) _ c.loop-record.invariant.left_is c.in-None.ensures.steps.0) c.in-Some.log.good ((told (pairs_in c.args.pairs)
    (records c.in-Some.log.bytes.now) c.args.image.now (length c.loop-record.yielded)).line c.loop-record.invariant.going.none)).1
    ∙ ap (λ (l : List ℕ). (recovered (pairs_in c.args.pairs) l c.args.image.now).image) c.in-Some.ensures
