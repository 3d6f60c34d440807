-- The loop: the cards before k are widened. Assumes nothing.
use mathlib.Core.Path.{◌≡◌}
use Rattle.formats.specs.Format.{V2}
use Rattle.image.specs.Image.{encode}
use Rattle.image.specs.Convert.{widened_up_to}
use Rattle.image.proofs.convert.Given as goal

abbrev pub invariant-loop-k : goal.invariant-loop-k
invariant-loop-k l = l.target ≡ encode V2 (widened_up_to l.k l.image)
