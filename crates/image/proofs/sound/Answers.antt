-- The loop: every card before k keeps the rules. Assumes nothing.
use Rattle.formats.specs.Format.{format_of}
use Rattle.image.proofs.Bytes.{short, header_size_lem, header_fails, card_fails, all_hold}
use Rattle.image.specs.Bytes.{count_of}
use Rattle.image.specs.Image.{card_sound}
use Rattle.lists.proofs.Every.{every_none, every_more}
use native.Mathlib.Omega.{arith}
use mathlib.Core.Path.{◌≡◌, sym, ◌∙◌}
use Rattle.image.proofs.sound.Goals as goal

pub returns-then-image-lt-HEADER : goal.returns-then-image-lt-HEADER
returns-then-image-lt-HEADER c =
    sym (header_fails (format_of c.args.v) c.args.image.now
    (short (format_of c.args.v) c.args.image.now c.if-image-lt-HEADER.true))

pub returns-then-not-header_sound : goal.returns-then-not-header_sound
returns-then-not-header_sound c = sym (header_fails (format_of c.args.v) c.args.image.now (sym c.header_sound.ensures ∙ c.if-not-header_sound.true))

pub loop-k-init : goal.loop-k-init
loop-k-init c = every_none (card_sound (format_of c.args.v) c.args.image.now)

pub card_sound-requires : goal.card_sound-requires
card_sound-requires c = (
  header_size_lem (format_of c.args.v) c.args.image.now
      (sym c.header_sound.ensures ∙ c.if-not-header_sound.false),
  omega
      (arith, c.count-k-end.ensures),
)

pub returns-then-not-card_sound : goal.returns-then-not-card_sound
returns-then-not-card_sound c =
    sym
    (card_fails (format_of c.args.v) c.args.image.now c.loop-k.k
    (sym c.header_sound.ensures ∙ c.if-not-header_sound.false)
    (omega (arith, c.count-k-end.ensures))
    (sym c.card_sound.ensures ∙ c.if-not-card_sound.true))

pub loop-k-preserved : goal.loop-k-preserved
loop-k-preserved c =
    every_more (card_sound (format_of c.args.v) c.args.image.now) c.loop-k.k c.loop-k.invariant (sym c.card_sound.ensures ∙ c.if-not-card_sound.false)

pub returns : goal.returns
returns c =
    let last : c.loop-k.k ≡ count_of c.args.image.now = omega (arith, c.count-k-end.ensures) in
    sym (all_hold (format_of c.args.v) c.args.image.now
    (sym c.header_sound.ensures ∙ c.if-not-header_sound.false)
    (rw last at c.loop-k.invariant))
