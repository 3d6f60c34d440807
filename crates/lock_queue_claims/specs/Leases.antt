-- What is claimed of leaving by lease (rules 13.1 to 13.8), for any queue and any values of f64. Proved in proofs/Leases.antt. That a refusal changes
-- nothing, that each number comes exactly when its row applies, that a good queue stays good and all that Claims and Traces say of any request hold
-- of these requests too.
-- Assumes nothing.
use Rattle.std.specs.Prelude.{ℕ, ◌≡◌, ◌↔◌, ◌⊎◌, T}
use Rattle.std.specs.Float.{nan, binary64}
use Rattle.std.specs.Float.Ieee.{add, sub, mul, lt, le, fits}
use Rattle.floats.specs.Numbers.{whole_float}
use Rattle.lock_queue.specs.Queue.{State, standing, desks, stands}
use Rattle.lock_queue.specs.Good.{good}
use Rattle.lock_queue.specs.Lease.{in_range}
use Rattle.lock_queue.specs.Requests.{leaves, lapses, number, after, answer}
use Rattle.lock_queue.specs.declared.LeaseExpiry.{LeaseExpiry}
use Rattle.numbers.specs.Numbers.{LEASE_OUT_OF_RANGE, LEASE_RUNS}

-- Rules 13.3 to 13.5: a silent desk leaves exactly when the queue is good, the term and the times are in range, the desk stands, and the time since
-- `begin`, rounded once, is at least the period times the rounded sum of 1 and the drift.
abbrev pub LapsesExactly : Type 0
LapsesExactly =
    (lent : ℕ) (q : State) (r : LeaseExpiry) →
    (number lent q (lapses r) ≡ 0)
    ↔ (T (good lent q)
    × T (in_range r)
    × T (stands r.desk (desks (standing q)))
    × T (le (mul binary64 r.lease.period (add binary64 (whole_float 1) r.lease.drift)) (sub binary64 r.now r.begin)))

-- Rule 13.6: answer and queue are those of leaving.
abbrev pub LeavesAsLeaving : Type 0
LeavesAsLeaving =
    (lent : ℕ) (q : State) (r : LeaseExpiry) → number lent q (lapses r) ≡ 0 →
    (answer lent q (lapses r) ≡ answer lent q (leaves r.desk)) × (after lent q (lapses r) ≡ after lent q (leaves r.desk))

-- Rule 13.2: whichever of the four is no number, a good queue's answer is 21.
abbrev pub NoNumber : Type 0
NoNumber =
    (lent : ℕ) (q : State) (r : LeaseExpiry) → (r.lease.period ≡ nan) ⊎ (r.lease.drift ≡ nan) ⊎ (r.begin ≡ nan) ⊎ (r.now ≡ nan) →
    T (good lent q) → number lent q (lapses r) ≡ LEASE_OUT_OF_RANGE

-- The time now is before `begin`.
abbrev pub WentBack : LeaseExpiry → Type 0
WentBack r = T (lt r.now r.begin)

-- Rule 13.7: while the clock is back, no desk leaves. `fits` says that the period is a value of f64, which it is in every call.
abbrev pub ClockBack : Type 0
ClockBack =
    (lent : ℕ) (q : State) (r : LeaseExpiry) → T (fits binary64 r.lease.period) → WentBack r →
    number lent q (lapses r) ≡ 0 → ⊥

-- Rule 13.7: a desk that stands is then waited for.
abbrev pub BackWaits : Type 0
BackWaits =
    (lent : ℕ) (q : State) (r : LeaseExpiry) → T (fits binary64 r.lease.period) → WentBack r →
    T (good lent q) → T (in_range r) → T (stands r.desk (desks (standing q))) → number lent q (lapses r) ≡ LEASE_RUNS
