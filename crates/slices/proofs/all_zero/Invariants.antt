-- The loop: `zero` says whether the bytes so far are zero, and those that are left decide the rest. Assumes nothing.
use mathlib.Core.Path.{◌≡◌}
use mathlib.Core.Bool.{◌&&◌}
use lib.ListN.{drop}
use Rattle.lists.specs.Parts.{zeros}
use Rattle.slices.proofs.all_zero.Given as goal

abbrev pub invariant-loop-b : goal.invariant-loop-b
invariant-loop-b l = zeros l.s ≡ (l.zero && zeros (drop l.b-index l.s))
