-- The loop: every card before k keeps the rules. Assumes nothing.
use mathlib.Core.Bool.{true}
use mathlib.Core.Path.{◌≡◌}
use Rattle.lists.specs.Parts.{every}
use Rattle.formats.specs.Format.{format_of}
use Rattle.image.specs.Image.{card_sound}
use Rattle.image.proofs.sound.Given as goal

abbrev pub invariant-loop-k : goal.invariant-loop-k
invariant-loop-k l = every (card_sound (format_of l.v) l.image) l.k ≡ true
