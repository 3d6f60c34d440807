-- One act after the other; what each leaves is told by the laws of that side. Assumes nothing.
use native.Mathlib.Omega.{arith}
use mathlib.Core.Path.{refl, sym, ap, ◌∙◌}
use borrow.Author.Tests.{eqb-true}
use Rattle.formats.specs.Format.{format_of}
use Rattle.formats.proofs.Numbers.{numbers}
use Rattle.lists.proofs.Tests.{to_T}
use Rattle.guard.specs.Judge.{raise}
use Rattle.image.specs.Image.{card_at}
use Rattle.image.proofs.Decode.{entry_lies}
use Rattle.store.specs.declared.inner.effects.Effect.{Effect}
use Rattle.store.proofs.Acts.{effect_is, other, last_act, length_none, length_original, length_translation}
use Rattle.store.proofs.Kept.{original_room, translation_room, written_original, written_translation, written_none}
use Rattle.store.proofs.Texts.{original_fits, translation_fits, shows_original, shows_translation, shows_none_lem}
use Rattle.store.proofs.inner.effects.act.Goals as goal

pub returns-then-c-eq-VERIFY : goal.returns-then-c-eq-VERIFY
returns-then-c-eq-VERIFY c =
    let act = c.if-c-eq-VERIFY.true in record {
      told = effect_is c.done.ensures (length_none c.args.e c.args.c (other 1 act refl) (other 2 act refl));
      image = written_none (format_of c.args.v) c.args.image.now c.args.c (raise c.args.e c.args.c) c.args.text.now (other 3 act refl) (other 4 act refl);
      reply = shows_none_lem (card_at (format_of c.args.v) c.args.image.now c.args.c.card) c.args.c c.args.reply.now (other 1 act refl) (other 2 act refl);
    }

pub copy_text-requires : goal.copy_text-requires
copy_text-requires c =
    original_fits (format_of c.args.v) c.args.image.now c.requires.0 c.args.c c.requires.1 c.requires.2 c.requires.3 (sym
    c.reads_original.ensures ∙ c.if-reads_original.true) c.body_at-from.ensures c.requires.4

pub returns-then-reads_original : goal.returns-then-reads_original
returns-then-reads_original c =
    let own = sym c.reads_original.ensures ∙ c.if-reads_original.true in
    let act = eqb-true c.args.c.act 1 own in record {
      told = effect_is c.done-then-reads_original.ensures (length_original c.args.e c.args.c own);
      image = written_none (format_of c.args.v) c.args.image.now c.args.c (raise c.args.e c.args.c) c.args.text.now (other 3 act refl) (other 4 act refl);
      reply = shows_original (format_of c.args.v) c.args.image.now c.requires.0 c.args.c c.requires.1 c.requires.2 c.requires.3 own
          c.body_at-from.ensures c.args.reply.now c.copy_text.ensures;
    }

pub overflow_add-c : goal.overflow_add-c
overflow_add-c c = omega (arith, numbers (format_of c.args.v), c.requires.2)

pub copy_text-requires-then-reads_translation : goal.copy_text-requires-then-reads_translation
copy_text-requires-then-reads_translation c =
    translation_fits (format_of c.args.v) c.args.image.now c.requires.0 c.args.c c.requires.1 c.requires.2 c.requires.3 (sym
    c.reads_original.ensures ∙ c.if-reads_original.false) (sym c.reads_translation.ensures ∙ c.if-reads_translation.true)
    c.body_at-from-then-reads_translation.ensures c.requires.4

pub returns-then-reads_translation : goal.returns-then-reads_translation
returns-then-reads_translation c =
    let first = sym c.reads_original.ensures ∙ c.if-reads_original.false in
    let own = sym c.reads_translation.ensures ∙ c.if-reads_translation.true in
    let act = eqb-true c.args.c.act 2 own in record {
      told = effect_is c.done-then-reads_translation.ensures (length_translation c.args.e c.args.c first own);
      image = written_none (format_of c.args.v) c.args.image.now c.args.c (raise c.args.e c.args.c) c.args.text.now (other 3 act refl) (other 4 act refl);
      reply = shows_translation (format_of c.args.v) c.args.image.now c.requires.0 c.args.c c.requires.1 c.requires.2
          c.requires.3 first own c.body_at-from-then-reads_translation.ensures c.args.reply.now c.copy_text-then-reads_translation.ensures;
    }

pub store_text-requires : goal.store_text-requires
store_text-requires c =
    original_room (format_of c.args.v) c.args.image.now c.requires.0 c.args.c c.requires.1 c.requires.2 c.requires.3
    c.args.text.now c.requires.5 c.body_at-at.ensures

pub store_original-requires : goal.store_original-requires
store_original-requires c = omega (arith, entry_lies (format_of c.args.v) c.args.image.now (to_T c.requires.0) _ c.requires.1, c.store_text.auto.image)

pub returns-then-writes_original : goal.returns-then-writes_original
returns-then-writes_original c =
    let own = sym c.writes_original.ensures ∙ c.if-writes_original.true in
    let act = eqb-true c.args.c.act 3 own in record {
      told = effect_is c.done-effect.ensures (length_none c.args.e c.args.c (other 1 act refl) (other 2 act refl));
      image = written_original (format_of c.args.v) c.args.image.now c.requires.0 c.args.c c.requires.1 c.requires.2 c.requires.3
          c.args.text.now c.requires.5 c.body_at-at.ensures (raise c.args.e c.args.c) (ap (λ (d : Effect). d.entry)
          c.done-effect.ensures) c.store_text.ensures c.store_original.ensures own;
      reply = shows_none_lem (card_at (format_of c.args.v) c.args.image.now c.args.c.card) c.args.c c.args.reply.now (other 1 act refl) (other 2 act refl);
    }

pub overflow_add-c-2 : goal.overflow_add-c-2
overflow_add-c-2 c = omega (arith, numbers (format_of c.args.v), c.requires.2)

pub store_text-requires-2 : goal.store_text-requires-2
store_text-requires-2 c =
    translation_room (format_of c.args.v) c.args.image.now c.requires.0 c.args.c c.requires.1 c.requires.2 c.requires.3
    c.args.text.now c.requires.5 c.body_at-at-2.ensures

pub store_translation-requires : goal.store_translation-requires
store_translation-requires c = (omega (arith, entry_lies (format_of c.args.v) c.args.image.now (to_T c.requires.0) _ c.requires.1, c.store_text-2.auto.image), c.requires.2)

pub returns : goal.returns
returns c =
    let one = sym c.reads_original.ensures ∙ c.if-reads_original.false in
    let two = sym c.reads_translation.ensures ∙ c.if-reads_translation.false in
    let three = sym c.writes_original.ensures ∙ c.if-writes_original.false in
    let own = last_act c.args.c c.requires.7 c.if-c-eq-VERIFY.false one two three in record {
      told = effect_is c.done-effect-2.ensures (length_none c.args.e c.args.c one two);
      image = written_translation (format_of c.args.v) c.args.image.now c.requires.0 c.args.c c.requires.1 c.requires.2 c.requires.3
          c.args.text.now c.requires.5 c.body_at-at-2.ensures (raise c.args.e c.args.c) (ap (λ (d : Effect). d.entry)
          c.done-effect-2.ensures) c.store_text-2.ensures c.store_translation.ensures three own;
      reply = shows_none_lem (card_at (format_of c.args.v) c.args.image.now c.args.c.card) c.args.c c.args.reply.now one two;
    }
