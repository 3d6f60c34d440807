-- The loop: the lines of what is left to run are left to write, and the check of the image holds on. The measure is what is left of the stream.
-- Assumes nothing.
use Prim.Native.Nat.{◌-◌}
use mathlib.Core.Path.{◌≡◌}
use mathlib.Core.Bool.{true}
use lib.ListN.{length}
use Rattle.formats.specs.Format.{V1}
use Rattle.image.specs.Image.{sound}
use Rattle.store.specs.Runs.{per_line}
use Rattle.program.proofs.Running.{Running}
use Rattle.program.proofs.inner.run.put_printed.Given as goal

abbrev pub invariant-loop-line : goal.invariant-loop-line
invariant-loop-line l = Running l.at l.initial.image l.initial.reply l.stream l.initial.out l.image l.reply l.out l.from l.place l.to × (sound V1 l.image ≡ true) × (length l.line ≡ per_line)

abbrev pub decreases-loop-line : goal.decreases-loop-line
decreases-loop-line l = length l.stream - l.from
