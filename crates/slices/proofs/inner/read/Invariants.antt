-- The loop: the bytes that are left, and above them what is read so far, make the number. Assumes nothing.
use Rattle.std.specs.Slice.Iter.{iter_rest}
use Rattle.lists.specs.Parts.{part}
use Rattle.slices.proofs.Loops.{Reading}
use Rattle.slices.proofs.inner.read.Given as goal

abbrev pub invariant-loop-b : goal.invariant-loop-b
invariant-loop-b l =
    record {
      can : (goal.iterator-loop-b).can_next l.b-iterator;
      ends : (goal.iterator-loop-b).is_finite l.b-iterator;
      read : Reading l.count l.sum (iter_rest l.b-iterator.iter) (part l.at l.count l.s);
    }
