-- The loop: what is left to write of the part is the bytes of `rest`. Assumes nothing.
use Prim.Native.Nat.{◌-◌}
use Rattle.lists.specs.Le.{to_le}
use Rattle.slices.proofs.Loops.{Writing}
use Rattle.slices.proofs.inner.write.Given as goal

abbrev pub invariant-loop-b : goal.invariant-loop-b
invariant-loop-b l = Writing 0 l.b-index (to_le l.count l.value) (to_le (l.count - l.b-index) l.rest) l.initial.b-items l.b-items
