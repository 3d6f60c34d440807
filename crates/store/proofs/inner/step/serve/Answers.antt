-- Malformed and no such card by their rows; else the step of the card, with the bytes behind the fixed part as its payload. Assumes nothing.
use mathlib.Core.Path.{refl, ap, ◌∙◌}
use borrow.Author.Tests.{le-ltb}
use Rattle.formats.specs.Format.{format_of}
use Rattle.commands.proofs.Parsing.{nothing_found, found}
use Rattle.commands.proofs.CommandBytes.{length_payload, language_within}
use Rattle.image.specs.Image.{sound}
use Rattle.store_model.proofs.Sound.{stays_sound}
use Rattle.store.proofs.Kept.{header_in}
use Rattle.store.proofs.Step.{serves, behind_place, serve_malformed, serve_no_card, serve_found}
use Rattle.store.proofs.inner.step.serve.Goals as goal

pub returns-in_default-clause-served : goal.returns-in_default-clause-served
returns-in_default-clause-served c =
    serves (serve_malformed (format_of c.args.v) c.args.image.now c.args.command.now c.args.reply.now c.requires
    (nothing_found _ _ _ c.formed.ensures.tests c.formed.ensures.numbers c.in_default.is))
    c.refusal.ensures refl refl

pub count-requires : goal.count-requires
count-requires c = header_in _ _ c.requires

pub returns-then-count-formed-clause-served : goal.returns-then-count-formed-clause-served
returns-then-count-formed-clause-served c =
    let whole = found _ _ _ c.formed.ensures.tests c.formed.ensures.numbers c.in-Some.is in
    serves (serve_no_card (format_of c.args.v) c.args.image.now c.args.command.now c.args.reply.now c.requires
    whole.0 (rw (← whole.1, ← c.count.ensures) (le-ltb _ _ c.if-count-formed.true)))
    c.refusal-then-count-formed.ensures refl refl

pub carry_formed-requires : goal.carry_formed-requires
carry_formed-requires c =
    let f = format_of c.args.v in
    let command = c.args.command.now in
    let whole = found _ _ _ c.formed.ensures.tests c.formed.ensures.numbers c.in-Some.is in (
      c.requires,
      rw (← c.count.ensures) c.if-count-formed.false,
      rw whole.1 (language_within f command whole.0),
      rw (behind_place f command c.layout-start.ensures.fixed, whole.1) (length_payload f command whole.0),
    )

pub returns : goal.returns
returns c =
    let f = format_of c.args.v in
    let command = c.args.command.now in
    let whole = found _ _ _ c.formed.ensures.tests c.formed.ensures.numbers c.in-Some.is in
    let done = c.carry_formed.ensures in
    let left = serves (serve_found f c.args.image.now command c.args.reply.now c.requires
    whole.0 whole.1 (behind_place f command c.layout-start.ensures.fixed) (rw (← c.count.ensures) c.if-count-formed.false))
    done.answer done.image done.reply in record {
      served = left;
      kept = ap (sound f) left.1.0
          ∙ stays_sound f c.args.image.now command c.args.reply.now
          (λ j. (c.slice_known-1.given j).fits)
          (λ j. (c.type_inv.command j).fits)
          (λ j. (c.slice_known-2-1.given j).fits)
          c.requires;
    }
