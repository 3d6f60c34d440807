-- The loop: the translations before t keep the rules. Assumes nothing.
use mathlib.Core.Bool.{true}
use mathlib.Core.Path.{◌≡◌}
use Rattle.lists.specs.Parts.{every}
use Rattle.formats.specs.Format.{format_of}
use Rattle.image.specs.Image.{translation_sound}
use Rattle.image.proofs.inner.rules.translations_sound.Given as goal

abbrev pub invariant-loop-t : goal.invariant-loop-t
invariant-loop-t l = every (translation_sound (format_of l.v) l.image l.k) l.t ≡ true
