-- The claims on leaving by lease. Assumes nothing.
use Prim.Native.Nat.{ℕ}
use mathlib.Core.Path.{◌≡◌}
use mathlib.Core.Bool.{true, false, ◌&&◌}
use borrow.Author.Tests.{not-false}
use lib.Dec.{T}
use lib.Ieee.{binary64, sub, fits, lt}
use lib.Ieee.Fits.{and_l, and_r}
use Rattle.lists.proofs.Tests.{to_T, from_T, to_false}
use Rattle.lock_queue.specs.Queue.{State, standing, desks, stands}
use Rattle.lock_queue.specs.Good.{good}
use Rattle.lock_queue.specs.Lease.{valid_term, valid_time, wait, expired, in_range}
use Rattle.lock_queue.specs.Requests.{lapses, number}
use Rattle.lock_queue.specs.declared.LeaseExpiry.{LeaseExpiry}
use Rattle.lock_queue.proofs.Judged.{no_row_lem, lapse_same}
use Rattle.lock_queue_claims.specs.Leases.{LapsesExactly, LeavesAsLeaving, NoNumber, ClockBack, BackWaits}
use Rattle.lock_queue_claims.proofs.Clock.{above_le, back, valid_time_finite, wait_above, none_fine}

-- The number, where no row applies.
ended : (lent : ℕ) (q : State) (r : LeaseExpiry) → good lent q ≡ true → in_range r ≡ true → stands r.desk (desks (standing q)) ≡ true →
    expired r.lease r.begin r.now ≡ true → number lent q (lapses r) ≡ 0
unfolding number
ended lent q r g i s o = rw (g, i, s, o)

pub lapses_exactly : LapsesExactly
lapses_exactly lent q r = (
  λ e. (
    to_T (not-false (good lent q) (no_row_lem lent q (lapses r) e 10)),
    to_T (not-false (in_range r) (no_row_lem lent q (lapses r) e 21)),
    to_T (not-false (stands r.desk (desks (standing q))) (no_row_lem lent q (lapses r) e 15)),
    to_T (not-false (expired r.lease r.begin r.now) (no_row_lem lent q (lapses r) e 25)),
  ),
  λ h.
      ended lent q r (from_T (good lent q) h.0) (from_T (in_range r) h.1) (from_T (stands r.desk (desks (standing q))) h.2)
      (from_T (expired r.lease r.begin r.now) h.3),
)

pub leaves_as_leaving : LeavesAsLeaving
leaves_as_leaving lent q r e = lapse_same lent q r e

pub no_number : NoNumber
unfolding number
no_number lent q r no_one t =
    let bad : in_range r ≡ false = to_false (in_range r) (none_fine r no_one) in
    rw (from_T (good lent q) t, bad)

-- The wait is above zero, and the time since `begin` is not.
not_expired : (r : LeaseExpiry) → T (fits binary64 r.lease.period) → T (lt r.now r.begin) → T (in_range r) → T (expired r.lease r.begin r.now) → ⊥
not_expired r f h all o =
    let first = and_l (valid_term r.lease && valid_time r.begin) (valid_time r.now) all in
    back r.now r.begin
    (valid_time_finite r.now (and_r (valid_term r.lease && valid_time r.begin) (valid_time r.now) all))
    (valid_time_finite r.begin (and_r (valid_term r.lease) (valid_time r.begin) first))
    h
    (above_le (wait r.lease) (sub binary64 r.now r.begin) (wait_above r.lease f (and_l (valid_term r.lease) (valid_time r.begin) first)) o)

pub clock_back : ClockBack
clock_back lent q r f h e = let all = (lapses_exactly lent q r).0 e in not_expired r f h all.1 all.3

pub back_waits : BackWaits
unfolding number
back_waits lent q r f h g i s =
    let runs : expired r.lease r.begin r.now ≡ false = to_false (expired r.lease r.begin r.now) (not_expired r f h i) in
    rw (from_T (good lent q) g, from_T (in_range r) i, from_T (stands r.desk (desks (standing q))) s, runs)
