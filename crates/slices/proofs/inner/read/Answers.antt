-- The loop: the bytes that are left, and above them what is read so far, make the number. Assumes nothing.
use Prim.Native.Nat.{ℕ, ◌+◌, ◌-◌}
use native.Mathlib.Omega.{arith}
use mathlib.Core.Path.{◌≡◌, ap, ◌∙◌}
use Rattle.std.specs.Slice.Iter.{iter_rest}
use Rattle.std.specs.declared.iter.Rev.{Rev}
use Rattle.std.proofs.Common.{Iter}
use Rattle.lists.specs.Parts.{part}
use Rattle.lists.proofs.Parts.{length_part}
use Rattle.slices.proofs.Loops.{reading_none, reading_more, reading_done, reading_room}
use Rattle.slices.proofs.inner.read.Goals as goal

pub loop-b-init : goal.loop-b-init
unfolding part
loop-b-init c =
    let count : c.args.at + c.args.count - c.args.at ≡ c.args.count = omega arith in
    let bytes : iter_rest c.into_iter-b-iterator.result.iter ≡ part c.args.at c.args.count c.args.s.now =
    ap (λ (i : Rev (Iter ℕ)). iter_rest i.iter) c.into_iter-b-iterator.ensures.into_iter_gives
    ∙ ap iter_rest c.rev-b-items.ensures.source
    ∙ rw count at c.iter.ensures.rest in
    record { can = tt; ends = tt; read = rw bytes (reading_none _ (length_part c.args.at c.args.count c.args.s.now c.requires.1)) }

pub overflow_mul-sum : goal.overflow_mul-sum
overflow_mul-sum c = let room = reading_room _ _ c.loop-b.invariant.read c.in-Some.ensures.steps (omega arith) in omega arith

pub overflow_add-sum : goal.overflow_add-sum
overflow_add-sum c = let room = reading_room _ _ c.loop-b.invariant.read c.in-Some.ensures.steps (omega arith) in omega arith

pub loop-b-preserved : goal.loop-b-preserved
loop-b-preserved c = record { can = tt; ends = tt; read = reading_more _ c.loop-b.invariant.read c.in-Some.ensures.steps (omega arith) }

pub returns : goal.returns
returns c = reading_done c.loop-b.invariant.read c.in-None.ensures.steps.0
