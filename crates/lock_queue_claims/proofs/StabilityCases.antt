-- The lock over time, by computation, and the theorems used where their hypotheses only just hold: no request at all, a
-- refused one about the desk, the last time of the range, -0. Assumes nothing.
use native.Mathlib.Omega.{arith}
use mathlib.Core.Path.{◌≡◌, refl}
use mathlib.Core.List.{[]}
use mathlib.Core.Bool.{true}
use lib.Dec.{T}
use lib.Ieee.{binary64, of_bits, of_int, add, sub, mul, div, neg, lt, le, fits}
use Rattle.floats.specs.Numbers.{whole_float, half}
use Rattle.lists.specs.Table.{all, all_from}
use Rattle.lists.proofs.Tests.{to_T}
use Rattle.stamps.specs.Stamp.{stamp}
use Rattle.lock_queue.specs.Queue.{standing, stands, first_place, no_exclusive, holds_at, holds}
use Rattle.lock_queue.specs.Good.{distinct, good}
use Rattle.lock_queue.specs.Lease.{wait, expired}
use Rattle.lock_queue.specs.Requests.{joined, removed, without, upgrading, queue_joined, number, after}
use Rattle.lock_queue_claims.specs.Traces.{queue_after, granted}
use Rattle.lock_queue_claims.specs.Trials.{numbers}
use Rattle.lock_queue_claims.specs.LeaseCases.{one_stands, silent}
use Rattle.lock_queue_claims.specs.Stability.{in_front}
use Rattle.lock_queue_claims.specs.StabilityCases.{three_stand, others, LockCases}
use Rattle.lock_queue_claims.proofs.Clock.{over_for_good, waits_period}
use Rattle.lock_queue_claims.proofs.Stability.{somebody_holds, lock_kept, no_overtaking}

pub lock_cases : LockCases
unfolding numbers queue_after granted number after upgrading queue_joined first_place good distinct stands joined removed without holds holds_at no_exclusive all all_from of_bits
    of_int whole_float half add sub mul div neg lt le
lock_cases =
    record {
      answers = refl;
      alone = refl;
      keeps = refl;
      follows = refl;
      passed = refl;
      ahead = refl;
      touched = refl;
      overtaken = refl;
      upgraded = refl;
      lapsed = refl;
      next = refl;
    }

-- ---- the theorems, used

good_three : T (good 4 three_stand)
unfolding good all all_from distinct stands
good_three = to_T refl

holds_one : T (holds (stamp 0 1 0) (standing three_stand))
unfolding holds holds_at no_exclusive stands first_place
holds_one = to_T refl

front_holds : T (holds (stamp 0 1 0) (standing three_stand))
front_holds = somebody_holds 4 three_stand (omega arith) good_three (λ e. absurd (omega arith))

-- As many places as are lent.
front_alone : T (holds (stamp 0 1 0) (standing one_stands))
unfolding good all all_from distinct stands
front_alone = somebody_holds 1 one_stands (omega arith) (to_T refl) (λ e. absurd (omega arith))

-- With a refused request about the desk among them.
kept_through : T (holds (stamp 0 1 0) (standing (queue_after 4 three_stand others)))
kept_through = lock_kept 4 three_stand (stamp 0 1 0) others (omega arith) lock_cases.alone holds_one

kept_through_none : T (holds (stamp 0 1 0) (standing (queue_after 4 three_stand [])))
unfolding granted
kept_through_none = lock_kept 4 three_stand (stamp 0 1 0) [] (omega arith) refl holds_one

-- Desk 3, behind, leaves and comes again; and a desk that never stood.
stays_ahead : in_front (stamp 0 1 0) (stamp 0 3 0) (standing (queue_after 4 three_stand others)) ≡ true
unfolding first_place
stays_ahead = (no_overtaking 4 three_stand (stamp 0 1 0) (stamp 0 3 0) others (omega arith) lock_cases.alone refl).ahead

first_of_both : T (holds (stamp 0 1 0) (standing (queue_after 4 three_stand others)))
unfolding first_place
first_of_both = (no_overtaking 4 three_stand (stamp 0 1 0) (stamp 0 3 0) others (omega arith) lock_cases.alone refl).no_later (to_T lock_cases.follows)

before_a_stranger : in_front (stamp 0 1 0) (stamp 0 9 0) (standing (queue_after 4 three_stand others)) ≡ true
unfolding first_place
before_a_stranger = (no_overtaking 4 three_stand (stamp 0 1 0) (stamp 0 9 0) others (omega arith) lock_cases.alone refl).ahead

-- At the same time, at the last of the range, and since -0.
over_then : T (expired (silent 0x403e_0000_0000_0000 0x0 0x0 0x0).lease (of_bits binary64 0x8000_0000_0000_0000) (of_bits binary64 0x403e_0000_0000_0000))
unfolding of_bits of_int whole_float half add sub mul div neg lt le fits
over_then =
    over_for_good (silent 0x403e_0000_0000_0000 0x0 0x8000_0000_0000_0000 0x403e_0000_0000_0000) (of_bits binary64 0x403e_0000_0000_0000)
    (to_T refl) (to_T refl) (to_T refl) (to_T refl) (to_T refl)

over_at_last : T (expired (silent 0x403e_0000_0000_0000 0x0 0x0 0x0).lease (of_bits binary64 0x8000_0000_0000_0000) (of_bits binary64 0x41cd_cd65_0000_0000))
unfolding of_bits of_int whole_float half add sub mul div neg lt le fits
over_at_last =
    over_for_good (silent 0x403e_0000_0000_0000 0x0 0x8000_0000_0000_0000 0x403e_0000_0000_0000) (of_bits binary64 0x41cd_cd65_0000_0000)
    (to_T refl) (to_T refl) (to_T refl) (to_T refl) (to_T refl)

-- The smallest period.
waits_smallest : T (le (silent 0x1 0x0 0x0 0x0).lease.period (wait (silent 0x1 0x0 0x0 0x0).lease))
unfolding of_bits of_int whole_float half div fits lt le
waits_smallest = waits_period (silent 0x1 0x0 0x0 0x0).lease (to_T refl) (to_T refl)
