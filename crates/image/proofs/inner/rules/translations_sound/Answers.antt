-- The loop: the translations before t keep the rules. Assumes nothing.
use native.Mathlib.Omega.{arith}
use mathlib.Core.Path.{◌≡◌, sym, ◌∙◌}
use Rattle.lists.proofs.Every.{every_none, every_more, every_fail}
use Rattle.formats.specs.Format.{format_of, translations}
use Rattle.image.specs.Image.{translation_sound}
use Rattle.image.proofs.inner.rules.translations_sound.Goals as goal

pub loop-t-init : goal.loop-t-init
loop-t-init c = every_none (translation_sound (format_of c.args.v) c.args.image.now c.args.k)

pub translation_sound-requires : goal.translation_sound-requires
translation_sound-requires c = let given = c.requires in (given.0, given.1, omega (arith, c.layout-t-end.ensures.translations), given.2, given.3)

pub returns-then-not-translation_sound : goal.returns-then-not-translation_sound
returns-then-not-translation_sound c =
    sym (every_fail (translation_sound (format_of c.args.v) c.args.image.now c.args.k) (translations (format_of c.args.v))
    c.loop-t.t (omega (arith, c.layout-t-end.ensures.translations))
    (sym c.translation_sound.ensures ∙ c.if-not-translation_sound.true))

pub loop-t-preserved : goal.loop-t-preserved
loop-t-preserved c =
    every_more (translation_sound (format_of c.args.v) c.args.image.now c.args.k) c.loop-t.t c.loop-t.invariant
    (sym c.translation_sound.ensures ∙ c.if-not-translation_sound.false)

pub returns : goal.returns
returns c =
    let a = c.args in
    let last : c.loop-t.t ≡ translations (format_of a.v) = omega (arith, c.layout-t-end.ensures.translations) in
    sym (rw last at c.loop-t.invariant)
