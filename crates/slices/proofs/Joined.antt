-- A number joined of two: that of its first bytes, and that of the bytes behind them. Assumes nothing.
use Prim.Native.Nat.{ℕ, ◌+◌, ◌*◌, ◌^◌, ◌≤◌}
use mathlib.Core.Path.{◌≡◌}
use mathlib.Core.List.{List}
use lib.ListN.{length}
use Rattle.lists.specs.Parts.{part}
use Rattle.lists.specs.Le.{le}
use Rattle.lists.proofs.Parts.{part_join, length_part}
use Rattle.lists.proofs.Le.{le_append}

-- Of any byte counts: what stands behind the first m bytes counts 256 ^ m times.
pub joined : (at m n : ℕ) (l : List ℕ) → at + m ≤ length l → le (part (at + m) n l) * 256 ^ m + le (part at m l) ≡ le (part at (m + n) l)
joined at m n l fits = rw (part_join at m n l, le_append (part at m l) (part (at + m) n l), length_part at m l fits)
