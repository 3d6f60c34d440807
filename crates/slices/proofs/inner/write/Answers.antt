-- The loop: what is left to write of the part is the bytes of `rest`. Assumes nothing.
use Prim.Native.Nat.{◌+◌, ◌-◌}
use native.Mathlib.Omega.{arith}
use native.Mathlib.Nat.{zero-add}
use mathlib.Core.Path.{◌≡◌, ◌∙◌}
use lib.ListN.{length, take, drop, length-take, length-drop}
use Rattle.lists.specs.Le.{to_le}
use Rattle.lists.proofs.Le.{to_le_left, length_to_le}
use Rattle.lists.proofs.Parts.{splice_whole}
use Rattle.slices.proofs.Loops.{writing_more, writing_done}
use Rattle.slices.proofs.Written.{written_part}
use Rattle.slices.proofs.inner.write.Goals as goal

pub loop-b-preserved : goal.loop-b-preserved
loop-b-preserved c =
    let long : length c.loop-b.b-items ≡ c.args.count = simp (length-take, length-drop) at c.loop-b.invariant.long ∙ omega arith in
    rw zero-add at (writing_more _ _ c.loop-b.invariant (to_le_left _ (omega arith)) (omega arith))

pub returns : goal.returns
unfolding to_le
returns c =
    let part : length (take (c.args.at + c.args.count - c.args.at) (drop c.args.at c.args.s.now)) ≡ c.args.count =
    simp (length-take, length-drop) (omega arith) in
    let none : c.args.count - c.loop-b.b-index ≡ 0 = omega (arith, c.loop-b.invariant.long, part) in
    let bytes : length (to_le c.args.count c.args.value) ≡ c.args.count = length_to_le _ _ in
    written_part _ _ _ _ _
    (writing_done c.loop-b.invariant (rw none) ∙ splice_whole _ _ (omega (arith, part, bytes))) (omega (arith, bytes))
