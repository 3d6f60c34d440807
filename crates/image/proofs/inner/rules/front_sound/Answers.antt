-- The stamps and the original. Assumes nothing.
use mathlib.Core.Path.{sym, ◌∙◌}
use Rattle.image.proofs.inner.rules.front_sound.Goals as goal

pub returns-then-not-stamp_valid : goal.returns-then-not-stamp_valid
returns-then-not-stamp_valid c = rw (sym c.stamp_valid.ensures ∙ c.if-not-stamp_valid.true)

pub returns-then-not-stamp_valid-2 : goal.returns-then-not-stamp_valid-2
returns-then-not-stamp_valid-2 c =
    rw (
      sym c.stamp_valid.ensures ∙ c.if-not-stamp_valid.false,
      sym c.stamp_valid-2.ensures ∙ c.if-not-stamp_valid-2.true,
    )

pub returns : goal.returns
returns c =
    rw (
      sym c.stamp_valid.ensures ∙ c.if-not-stamp_valid.false,
      sym c.stamp_valid-2.ensures ∙ c.if-not-stamp_valid-2.false,
    )
    c.text_sound.ensures
