-- The worked cases of leaving by lease, by computation; and cases that meet each hypothesis of the claims. Assumes nothing.
use Prim.Native.Nat.{ℕ}
use mathlib.Core.Path.{◌≡◌, refl}
use mathlib.Core.Logic.{inl, inr}
use lib.Ieee.{of_bits, of_int, add, sub, mul, div, neg, lt, le, fits}
use Rattle.floats.specs.Numbers.{whole_float, half}
use Rattle.lists.specs.Table.{all, all_from}
use Rattle.lists.proofs.Tests.{to_T}
use Rattle.stamps.specs.Stamp.{stamp}
use Rattle.lock_queue.specs.Queue.{stands}
use Rattle.lock_queue.specs.Good.{distinct, good}
use Rattle.lock_queue.specs.Requests.{leaves, lapses, number, after}
use Rattle.lock_queue.specs.declared.LeaseExpiry.{LeaseExpiry}
use Rattle.lock_queue_claims.specs.LeaseCases.{one_stands, silent, LeaseEnds, LeaseLimits, TimeLimits, LeaseSpecials, LeaseOrder, LeaseTimes, LeaseCases}
use Rattle.lock_queue_claims.proofs.Leases.{lapses_exactly, leaves_as_leaving, no_number, clock_back, back_waits}

lease_ends : LeaseEnds
unfolding number good all all_from distinct stands of_bits of_int whole_float half add sub mul div neg lt le
lease_ends = refl

lease_limits : LeaseLimits
unfolding number good all all_from distinct stands of_bits of_int whole_float half add sub mul div neg lt le
lease_limits = refl

time_limits : TimeLimits
unfolding number good all all_from distinct stands of_bits of_int whole_float half add sub mul div neg lt le
time_limits = refl

lease_specials : LeaseSpecials
unfolding number good all all_from distinct stands of_bits of_int whole_float half add sub mul div neg lt le
lease_specials = refl

lease_order : LeaseOrder
unfolding number good all all_from distinct stands of_bits of_int whole_float half add sub mul div neg lt le
lease_order = refl

lease_times : LeaseTimes
unfolding of_bits of_int whole_float half add sub mul div neg lt le
lease_times = record { over = refl; sooner = refl; last = refl; waits_45 = refl; waits_30 = refl }

pub lease_cases : LeaseCases
lease_cases = record { ends = lease_ends; terms = lease_limits; times = time_limits; specials = lease_specials; order = lease_order; waits = lease_times }

-- ---- each hypothesis of a claim is met by a case

-- A period of 30, a drift of 0.5, since 145; at 190 it is over, and at 100 the clock went back.
abbrev since : ℕ → LeaseExpiry
since now = silent 0x403e_0000_0000_0000 0x3fe0_0000_0000_0000 0x4062_2000_0000_0000 now

expired_at_190 : number 1 one_stands (lapses (since 0x4067_c000_0000_0000)) ≡ 0
unfolding good all all_from distinct stands of_bits of_int whole_float half add sub mul div neg lt le
expired_at_190 = (lapses_exactly 1 one_stands (since 0x4067_c000_0000_0000)).1 (to_T refl, to_T refl, to_T refl, to_T refl)

left_at_190 : after 1 one_stands (lapses (since 0x4067_c000_0000_0000)) ≡ after 1 one_stands (leaves (stamp 0 1 0))
left_at_190 = (leaves_as_leaving 1 one_stands (since 0x4067_c000_0000_0000) expired_at_190).1

never_at_100 : number 1 one_stands (lapses (since 0x4059_0000_0000_0000)) ≡ 0 → ⊥
unfolding of_bits fits lt
never_at_100 = clock_back 1 one_stands (since 0x4059_0000_0000_0000) (to_T refl) (to_T refl)

waits_at_100 : number 1 one_stands (lapses (since 0x4059_0000_0000_0000)) ≡ 25
unfolding good all all_from distinct stands of_bits of_int whole_float half div fits lt le
waits_at_100 = back_waits 1 one_stands (since 0x4059_0000_0000_0000) (to_T refl) (to_T refl) (to_T refl) (to_T refl) (to_T refl)

-- No number, in each of the four places.
no_period : number 1 one_stands (lapses (silent 0x7ff8_0000_0000_0000 0x0 0x0 0x0)) ≡ 21
unfolding good all all_from distinct stands of_bits
no_period = no_number 1 one_stands (silent 0x7ff8_0000_0000_0000 0x0 0x0 0x0) (inl refl) (to_T refl)

no_drift : number 1 one_stands (lapses (silent 0x0 0x7ff8_0000_0000_0000 0x0 0x0)) ≡ 21
unfolding good all all_from distinct stands of_bits
no_drift = no_number 1 one_stands (silent 0x0 0x7ff8_0000_0000_0000 0x0 0x0) (inr (inl refl)) (to_T refl)

no_begin : number 1 one_stands (lapses (silent 0x0 0x0 0x7ff8_0000_0000_0000 0x0)) ≡ 21
unfolding good all all_from distinct stands of_bits
no_begin = no_number 1 one_stands (silent 0x0 0x0 0x7ff8_0000_0000_0000 0x0) (inr (inr (inl refl))) (to_T refl)

no_now : number 1 one_stands (lapses (silent 0x0 0x0 0x0 0x7ff8_0000_0000_0000)) ≡ 21
unfolding good all all_from distinct stands of_bits
no_now = no_number 1 one_stands (silent 0x0 0x0 0x0 0x7ff8_0000_0000_0000) (inr (inr (inr refl))) (to_T refl)
