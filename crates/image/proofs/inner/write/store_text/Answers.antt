-- The text, and zeros over what is left of the old one. Assumes nothing.
use Prim.Native.Nat.{ℕ}
use native.Mathlib.Omega.{arith}
use mathlib.Core.Path.{ap, ◌∙◌}
use mathlib.Core.List.{List}
use Rattle.lists.specs.Parts.{splice}
use Rattle.image.proofs.Written.{over_longer, over_shorter}
use Rattle.image.proofs.inner.write.store_text.Goals as goal

pub returns-then-text-old : goal.returns-then-text-old
returns-then-text-old c = rw (c.clear.ensures, c.put_short.ensures) (over_longer _ _ _ _ (omega arith))

pub returns-else-text-old : goal.returns-else-text-old
returns-else-text-old c =
    c.put_short.ensures
    ∙ ap (λ (v : List ℕ). splice c.args.at v c.args.image.now) (over_shorter c.args.old c.args.text.now c.if-text-old.false)
