-- The loop: the numbers behind those that were written are left to write. Assumes nothing.
use Prim.Native.Nat.{◌+◌, ◌*◌, ◌≤◌}
use lib.ListN.{drop}
use Rattle.lists.specs.Parts.{concat_map}
use Rattle.program.specs.Text.{spaced, most_digits}
use Rattle.program.proofs.Puts.{Putting}
use Rattle.program.proofs.inner.lines.put_numbers.Given as goal

abbrev pub invariant-loop-n : goal.invariant-loop-n
invariant-loop-n l = Putting l.at l.to (concat_map spaced l.numbers) (concat_map spaced (drop l.n-index l.numbers)) l.initial.out l.out × (l.to ≤ l.at + l.n-index * (1 + most_digits))
