-- What is printed is the output for what was read: so much of the buffer is lent, and it is the text. Assumes nothing.
use native.Mathlib.Omega.{arith}
use Prim.Native.Nat.{ℕ, ◌≤◌}
use lib.ListN.{length, replicate, length-replicate}
use Rattle.program.specs.Program.{most_output}
use Rattle.program.proofs.Answered.{prints}
use Rattle.cards.proofs.main.Goals as goal

long : most_output ≤ length (replicate {A = ℕ} most_output 0)
long = rw length-replicate (omega arith)

pub slice_bounds-out-end : goal.slice_bounds-out-end
slice_bounds-out-end c = (prints _ (replicate most_output 0) c.output-count.ensures.count c.output-count.ensures.out long).within

pub slice_bounds-print-end-2 : goal.slice_bounds-print-end-2
slice_bounds-print-end-2 c = (prints _ (replicate most_output 0) c.output-count.ensures.count c.output-count.ensures.out long).lends

pub print-requires : goal.print-requires
print-requires c = (prints _ (replicate most_output 0) c.output-count.ensures.count c.output-count.ensures.out long).text
