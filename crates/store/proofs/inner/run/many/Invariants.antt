-- The loop: what is left to run leaves what the whole run leaves, and the check of the image holds on. The measure is what is left of the stream.
-- Assumes nothing.
use Rattle.formats.specs.Format.{format_of}
use Prim.Native.Nat.{◌-◌, ◌/◌}
use mathlib.Core.Path.{◌≡◌}
use lib.ListN.{length}
use Rattle.image.specs.Image.{sound}
use Rattle.store.specs.Runs.{per_line}
use Rattle.store.proofs.Running.{Running}
use Rattle.store.proofs.inner.run.many.Given as goal

abbrev pub invariant-loop-count : goal.invariant-loop-count
invariant-loop-count l = Running (format_of l.v) l.room l.initial.image l.initial.reply l.stream l.initial.lines l.image l.reply l.lines l.at l.count ×
    (l.checked ≡ sound (format_of l.v) l.image) × (l.room ≡ length l.initial.lines / per_line)

abbrev pub decreases-loop-count : goal.decreases-loop-count
decreases-loop-count l = length l.stream - l.at
