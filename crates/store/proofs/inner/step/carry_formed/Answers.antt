-- By the outcome of the entry's rows; an accepted command is carried out by its act, and its stamps are written. Assumes nothing.
use native.Mathlib.Omega.{arith}
use mathlib.Core.Path.{refl, ap, ◌∙◌}
use mathlib.Core.Bool.{not}
use Rattle.formats.specs.Format.{format_of}
use Rattle.lists.proofs.Tests.{to_T}
use Rattle.guard.specs.Judge.{raise}
use Rattle.guard.specs.declared.Entry.{Entry}
use Rattle.image.proofs.Decode.{entry_lies}
use Rattle.store.proofs.Acts.{told_is}
use Rattle.store.proofs.Kept.{header_in, keeps_parts}
use Rattle.store.proofs.Step.{exits, refuses, accepts}
use Rattle.store.specs.declared.inner.effects.Effect.{Effect}
use Rattle.store.proofs.inner.step.carry_formed.Goals as goal

pub entry_at-e-requires : goal.entry_at-e-requires
entry_at-e-requires c = (entry_lies (format_of c.args.v) c.args.image.now (to_T c.requires.0) _ c.requires.1, c.requires.2)

pub room-requires : goal.room-requires
room-requires c = header_in _ _ c.requires.0

pub returns-then-is_err : goal.returns-then-is_err
returns-then-is_err c =
    let left = refuses (format_of c.args.v) c.args.image.now c.args.formed.command c.args.text.now c.args.reply.now
    c.entry_at-e.ensures c.room.ensures c.args.formed.by_rules _ c.outcome-outcome.ensures (c.is_err.ensures.negation ∙ ap not c.if-is_err.true) c.number_of-number.ensures in
    let all = exits left c.reply.ensures refl refl in record { answer = all.0; image = all.1.0; reply = all.1.1 }

pub act-effect-requires : goal.act-effect-requires
act-effect-requires c =
    let left = accepts (format_of c.args.v) c.args.image.now c.args.formed.command c.args.text.now c.args.reply.now
    c.entry_at-e.ensures c.room.ensures c.args.formed.by_rules _ c.outcome-outcome.ensures (c.is_err.ensures.negation ∙ ap not c.if-is_err.false) in (
      c.requires.0,
      c.requires.1,
      c.requires.2,
      c.entry_at-e.ensures,
      left.lent,
      omega (arith, left.payload, c.requires.3),
      left.unspent,
      c.args.formed.by_rules,
      c.args.formed.of_command,
    )

pub store_stamps-requires : goal.store_stamps-requires
store_stamps-requires c = omega (arith, entry_lies (format_of c.args.v) c.args.image.now (to_T c.requires.0) _ c.requires.1, c.act-effect.auto.image)

pub returns : goal.returns
returns c =
    let left = accepts (format_of c.args.v) c.args.image.now c.args.formed.command c.args.text.now c.args.reply.now
    c.entry_at-e.ensures c.room.ensures c.args.formed.by_rules _ c.outcome-outcome.ensures (c.is_err.ensures.negation ∙ ap not c.if-is_err.false) in
    let done = c.act-effect.ensures in
    let all = exits left.left (told_is c.entry_at-e.result c.args.formed.command refl done.told c.told.ensures)
    (rw (c.store_stamps.ensures, done.image, ap (λ (d : Effect). d.entry) done.told)
    (keeps_parts (format_of c.args.v) c.args.image.now (λ j. (c.slice_known-1.given j).fits) (to_T c.requires.0) c.args.formed.command c.requires.1
    c.requires.2 c.args.text.now c.requires.3
    (ap (λ (e : Entry). raise e c.args.formed.command) c.entry_at-e.ensures)))
    done.reply in record { answer = all.0; image = all.1.0; reply = all.1.1 }
