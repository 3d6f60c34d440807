-- What is claimed of the lock and of leases over time (rules 7.17 to 7.19, 13.9 and 13.10): somebody holds the lock,
-- nobody else takes it from a holder, nobody overtakes, and a lease that is over stays over. Of any queue and any list
-- of requests. Proved in proofs/Stability.antt and proofs/Clock.antt.
-- Assumes nothing.
use Rattle.std.specs.Prelude.{ℕ, ◌≤◌, ◌≡◌, List, Bool, true, T, ltb, eqb, length, get_or, Float}
use Rattle.std.specs.Float.{binary64}
use Rattle.std.specs.Float.Ieee.{le, fits}
use Rattle.lists.specs.Search.{none}
use Rattle.lock_queue.specs.Queue.{State, no_waiting, standing, desk, desks, first_place, holds}
use Rattle.lock_queue.specs.Good.{good}
use Rattle.lock_queue.specs.Lease.{valid_term, valid_time, wait, expired, in_range}
use Rattle.lock_queue.specs.Requests.{Request, sender}
use Rattle.lock_queue.specs.declared.Lease.{Lease}
use Rattle.lock_queue.specs.declared.LeaseExpiry.{LeaseExpiry}
use Rattle.lock_queue.specs.declared.Waiting.{Waiting}
use Rattle.lock_queue_claims.specs.Traces.{queue_after, granted}

-- Rule 7.17: in a good queue with a place taken somebody holds the lock: the one in front.
abbrev pub SomebodyHolds : Type 0
SomebodyHolds =
    (lent : ℕ) (q : State) → lent ≤ length q.places → T (good lent q) → (q.count ≡ 0 → ⊥) →
    T (holds (desk (get_or q.places 0 no_waiting)) (standing q))

-- None of the requests that are accepted is about this desk and start: it neither asks, upgrades nor leaves, and is not
-- made to leave. What is refused may be about it.
abbrev pub untouched : ℕ → ℕ → State → List Request → Bool
untouched d lent q rs = none (λ r. eqb (sender r) d) (granted lent q rs)

-- Rule 7.18: whatever the others send, a holder holds.
abbrev pub LockKept : Type 0
LockKept =
    (lent : ℕ) (q : State) (d : ℕ) (rs : List Request) → lent ≤ length q.places → untouched d lent q rs ≡ true →
    T (holds d (standing q)) → T (holds d (standing (queue_after lent q rs)))

-- Desk d stands in front of e; one that does not stand is behind all who do.
abbrev pub in_front : ℕ → ℕ → List Waiting → Bool
in_front d e ws = ltb (first_place d (desks ws)) (first_place e (desks ws))

-- Rule 7.19: who stands in front stays in front, and whenever the one behind holds the lock, so does the one in front.
-- Desk e may do anything, leave and come again too.
pub record KeepsAhead (d e : ℕ) (ws : List Waiting) : Type 0 where
  pub ahead : in_front d e ws ≡ true
  pub no_later : T (holds e ws) → T (holds d ws)

abbrev pub NoOvertaking : Type 0
NoOvertaking =
    (lent : ℕ) (q : State) (d e : ℕ) (rs : List Request) → lent ≤ length q.places → untouched d lent q rs ≡ true →
    in_front d e (standing q) ≡ true → KeepsAhead d e (standing (queue_after lent q rs))

-- Rule 13.9: once a lease is over, it is over at every later time that is in range. `fits` says that the period is a
-- value of f64, which it is in every call.
abbrev pub OverForGood : Type 0
OverForGood =
    (r : LeaseExpiry) (later : Float) → T (fits binary64 r.lease.period) → T (in_range r) → T (valid_time later) → T (le r.now later) →
    T (expired r.lease r.begin r.now) → T (expired r.lease r.begin later)

-- Rule 13.10: the wait is never below the period.
abbrev pub WaitsPeriod : Type 0
WaitsPeriod = (l : Lease) → T (fits binary64 l.period) → T (valid_term l) → T (le l.period (wait l))
