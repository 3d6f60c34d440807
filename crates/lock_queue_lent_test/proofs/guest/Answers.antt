-- The stamp's start is 0. Assumes nothing.
use mathlib.Core.Path.{sym, ap}
use Prim.Native.Nat.{ℕ}
use native.Mathlib.Nat.{add-zero}
use Rattle.stamps.specs.Stamp.{shared}
use Rattle.lock_queue.specs.Queue.{waiting}
use Rattle.lock_queue_lent_test.proofs.guest.Goals as goal

pub returns : goal.returns
returns c = ap (λ (s : ℕ). waiting shared s 0) (sym (add-zero _))
