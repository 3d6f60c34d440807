-- The loop: how far it is to the end from the place that is reached. The measure is what is left of the stream. Assumes nothing.
use Rattle.formats.specs.Format.{format_of}
use Prim.Native.Nat.{◌-◌}
use lib.ListN.{length}
use Rattle.stream.proofs.Commands.{Walked}
use Rattle.stream.proofs.end_of.Given as goal

abbrev pub invariant-loop-end : goal.invariant-loop-end
invariant-loop-end l = Walked (format_of l.v) l.stream l.at

abbrev pub decreases-loop-end : goal.decreases-loop-end
decreases-loop-end l = length l.stream - l.at
