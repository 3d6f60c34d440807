-- Laws of upgrading. Assumes nothing.
use Rattle.std.proofs.Common.{Some, None}
use Prim.Native.Nat.{ℕ}
use mathlib.Core.Path.{◌≡◌, sym}
use mathlib.Core.List.{List}
use mathlib.Core.Bool.{true, false, ◌&&◌}
use lib.Dec.{eqb}
use lib.ListN.{get_or}
use Rattle.lists.proofs.Tests.{and_left}
use Rattle.stamps.specs.Stamp.{shared, exclusive}
use Rattle.lock_queue.specs.Queue.{State, no_waiting, standing, desks, stands, place}
use Rattle.lock_queue.specs.declared.Waiting.{Waiting}
use Rattle.lock_queue.proofs.Standing.{placed, unplaced}
use Rattle.lock_queue.specs.Requests.{without, mode_of, upgrading, queue_joined}

pub up_stands : (mode d : ℕ) (ws : List Waiting) → upgrading mode d ws ≡ true → stands d (desks ws) ≡ true
unfolding upgrading
up_stands mode d ws e = and_left (stands d (desks ws)) (eqb mode exclusive && eqb (mode_of d ws) shared) e

-- Who does not stand does not upgrade.
pub absent_plain : (mode d : ℕ) (ws : List Waiting) → stands d (desks ws) ≡ false → upgrading mode d ws ≡ false
unfolding upgrading
absent_plain mode d ws e = rw e

pub queue_joined_up : (mode d : ℕ) (q : State) → upgrading mode d (standing q) ≡ true → queue_joined mode d q ≡ without d q
unfolding queue_joined
queue_joined_up mode d q e = rw e

pub queue_joined_plain : (mode d : ℕ) (q : State) → upgrading mode d (standing q) ≡ false → queue_joined mode d q ≡ q
unfolding queue_joined
queue_joined_plain mode d q e = rw e

-- By the place i where the desk first stands.
pub up_found : (mode d : ℕ) (ws : List Waiting) {i : ℕ} → place d (desks ws) ≡ Some i →
    (eqb mode exclusive && eqb (get_or ws i no_waiting).mode shared) ≡ upgrading mode d ws
unfolding upgrading
up_found mode d ws at = let there = placed d (desks ws) at in rw (there.0, ← there.1)

pub up_none : (mode d : ℕ) (ws : List Waiting) → place d (desks ws) ≡ None → false ≡ upgrading mode d ws
up_none mode d ws missing = sym (absent_plain mode d ws (unplaced d (desks ws) missing))
