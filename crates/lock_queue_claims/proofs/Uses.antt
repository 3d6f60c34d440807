-- Each theorem on the queue, used where its hypotheses only just hold: as many places as are lent, a refused request,
-- the last place. A stricter hypothesis or a sentence left out is noticed here. (Those on upgrades, lists and leases
-- are used in Trials and LeaseCases.) Assumes nothing.
use Prim.Native.Nat.{◌≤◌}
use native.Mathlib.Omega.{arith}
use mathlib.Core.Path.{◌≡◌, refl}
use mathlib.Core.List.{[], ◌∷◌}
use mathlib.Core.Bool.{false}
use lib.Dec.{T}
use lib.ListN.{length, drop, get_or}
use Rattle.lists.proofs.Tests.{to_T}
use Rattle.lists.specs.Table.{all, all_from, no_row, listed}
use Rattle.stamps.specs.Stamp.{stamp, shared, exclusive}
use Rattle.lock_queue.specs.Queue.{no_waiting, waiting, empty_queue, longer, standing, stands, first_place, no_exclusive, holds_at, holds}
use Rattle.lock_queue.specs.Good.{distinct, good}
use Rattle.lock_queue.specs.Requests.{asks, leaves, lapses, queue_rows, mode_of, removed, without, upgrading, number, after, answer}
use Rattle.lock_queue.specs.declared.Waiting.{Waiting}
use Rattle.lock_queue_claims.specs.Trials.{guest, two_shared}
use Rattle.lock_queue_claims.specs.Claims.{ask_numbers, leave_numbers, lapse_numbers}
use Rattle.lock_queue_claims.specs.LeaseCases.{silent}
use Rattle.lock_queue_claims.specs.Answers.{seat, given, four_stand}
use Rattle.lock_queue_claims.proofs.Claims.{
  refusal_leaves,
  others_kept,
  beyond_lent,
  blank_answers,
  looked_within,
  stays_good,
  joins_end,
  gap_closed,
  freed_zeroed,
  largest_grows,
  room_after_leaving,
  asker_holds,
  leaver_holds_nothing,
  holders_shared,
  no_desk_zero,
  acceptance,
  queue_listed,
}
use Rattle.lock_queue_claims.proofs.Upgrades.{upgrade_is_both}

-- ---- numbers that the uses rest on, by computation

good_two : T (good 2 two_shared)
unfolding good all all_from distinct stands
good_two = to_T refl

leaves_one : number 2 two_shared (leaves (seat 1)) ≡ 0
unfolding number good all all_from distinct stands
leaves_one = refl

leaves_none : number 2 two_shared (leaves (seat 3)) ≡ 15
unfolding number good all all_from distinct stands
leaves_none = refl

-- Desk 1's upgrade, with every place taken.
abbrev raise : Waiting
raise = waiting exclusive (stamp 2 2 0) (stamp 1 1 0)

raised : number 2 two_shared (asks raise) ≡ 0
unfolding number upgrading first_place good all all_from distinct stands
raised = refl

-- ---- a refusal, and a malformed ask (rules 7.11 and 7.14)

kept : after 2 two_shared (leaves (seat 3)) ≡ two_shared
kept = refusal_leaves 2 two_shared (leaves (seat 3)) 14 leaves_none

blank_one : answer 2 two_shared (asks no_waiting) ≡ given 1 false 0 0 0
unfolding number upgrading good all all_from distinct stands first_place
blank_one = blank_answers 2 two_shared (asks no_waiting) (to_T refl)

looks_at_all : (answer 2 two_shared (leaves (seat 3))).looked ≤ 2
looks_at_all = looked_within 2 two_shared (leaves (seat 3))

-- ---- a good queue stays good, over exactly the lent places, after an accepted request, a refused one and a lapse (rule 7.4)

stays_left : T (good 2 (after 2 two_shared (leaves (seat 1))))
stays_left = stays_good 2 two_shared (leaves (seat 1)) (omega arith) good_two

stays_refused : T (good 2 (after 2 two_shared (asks no_waiting)))
stays_refused = stays_good 2 two_shared (asks no_waiting) (omega arith) good_two

stays_lapsed : T (good 2 (after 2 two_shared (lapses (silent 0x0 0x0 0x0 0x0))))
stays_lapsed = stays_good 2 two_shared (lapses (silent 0x0 0x0 0x0 0x0)) (omega arith) good_two

-- ---- joining, leaving and the freed place (rules 7.10 and 7.13)

joins : standing (after 2 two_shared (asks raise)) ≡ guest 2 ∷ raise ∷ []
unfolding removed
joins = joins_end 2 two_shared raise (omega arith) raised

closed : standing (after 2 two_shared (leaves (seat 1))) ≡ guest 2 ∷ []
unfolding removed
closed = gap_closed 2 two_shared (seat 1) (omega arith) leaves_one

-- Whatever stands for a place that is not there.
freed : get_or (after 2 two_shared (leaves (seat 1))).places 1 (guest 9) ≡ no_waiting
freed = freed_zeroed 2 two_shared (seat 1) (guest 9) (omega arith) leaves_one

-- The fifth place of five, past the four that stood.
others : drop 4 (after 5 four_stand (leaves (seat 2))).places ≡ waiting 9 2 2 ∷ []
unfolding number after first_place good all all_from distinct stands without removed
others = (others_kept 5 four_stand (leaves (seat 2)) (omega arith)).0

others_long : length (after 5 four_stand (leaves (seat 2))).places ≡ 5
others_long = (others_kept 5 four_stand (leaves (seat 2)) (omega arith)).1

-- One place more than is lent: it makes no difference, and keeps what it holds.
beyond : after 2 (longer (guest 9 ∷ []) two_shared) (asks raise) ≡ longer (guest 9 ∷ []) (after 2 two_shared (asks raise))
beyond = (beyond_lent 2 two_shared (asks raise) (guest 9 ∷ []) (omega arith)).1

beyond_answer : answer 2 (longer (guest 9 ∷ []) two_shared) (asks raise) ≡ answer 2 two_shared (asks raise)
beyond_answer = (beyond_lent 2 two_shared (asks raise) (guest 9 ∷ []) (omega arith)).0

grows : two_shared.largest.x ≤ (after 2 two_shared (asks raise)).largest.x
grows = (largest_grows 2 two_shared (asks raise)).1

-- A full queue has room when one has left, for a desk that was never there.
room : number 2 (after 2 two_shared (leaves (seat 1))) (asks (guest 3)) ≡ 13 → ⊥
room = room_after_leaving 2 two_shared (seat 1) (guest 3) leaves_one

-- An upgrade is a leave, then an ask that is accepted where the desk has left, and both together leave what it leaves.
both_leaves : number 2 two_shared (leaves (seat 1)) ≡ 0
unfolding upgrading first_place stands
both_leaves = (upgrade_is_both 2 two_shared raise (omega arith) (to_T refl) raised).0

both_asks : number 2 (after 2 two_shared (leaves (seat 1))) (asks raise) ≡ 0
unfolding upgrading first_place stands
both_asks = (upgrade_is_both 2 two_shared raise (omega arith) (to_T refl) raised).1

both_after : after 2 two_shared (asks raise) ≡ after 2 (after 2 two_shared (leaves (seat 1))) (asks raise)
unfolding upgrading first_place stands
both_after = (upgrade_is_both 2 two_shared raise (omega arith) (to_T refl) raised).2

-- ---- who holds (rule 7.5)

raised_waits : (answer 2 two_shared (asks raise)).holds ≡ false
unfolding removed
raised_waits = asker_holds 2 two_shared raise (omega arith) raised

leaver : (answer 2 two_shared (leaves (seat 1))).holds ≡ false
leaver = leaver_holds_nothing 2 two_shared (seat 1) (omega arith)

leaver_refused : (answer 2 two_shared (leaves (seat 3))).holds ≡ false
leaver_refused = leaver_holds_nothing 2 two_shared (seat 3) (omega arith)

both_shared : (mode_of (seat 1) (standing two_shared) ≡ shared) × (mode_of (seat 2) (standing two_shared) ≡ shared)
unfolding stands first_place no_exclusive holds_at holds
both_shared = holders_shared 2 two_shared (seat 1) (seat 2) good_two (λ e. omega (arith, e)) (to_T refl) (to_T refl)

-- Desk 0 with the first start and with the last.
zero_first : number 2 two_shared (leaves 0) ≡ 15
zero_first = no_desk_zero 2 two_shared 0 good_two (omega arith)

zero_last : number 2 two_shared (leaves 65535) ≡ 15
zero_last = no_desk_zero 2 two_shared 65535 good_two (omega arith)

-- ---- numbers (rules 5.1 and 7.14)

no_row_lem : T (no_row (queue_rows 2 two_shared (leaves (seat 1))))
no_row_lem = (acceptance 2 two_shared (leaves (seat 1))).0 leaves_one

accepted : number 2 two_shared (leaves (seat 1)) ≡ 0
accepted = (acceptance 2 two_shared (leaves (seat 1))).1 no_row_lem

-- No place at all, and none lent.
asked_none : T (listed ask_numbers (number 0 (empty_queue []) (asks no_waiting)))
asked_none = queue_listed.asked 0 (empty_queue []) no_waiting

left_none : T (listed leave_numbers (number 0 (empty_queue []) (leaves 0)))
left_none = queue_listed.left 0 (empty_queue []) 0

lapsed_none : T (listed lapse_numbers (number 0 (empty_queue []) (lapses (silent 0x0 0x0 0x0 0x0))))
lapsed_none = queue_listed.lapsed 0 (empty_queue []) (silent 0x0 0x0 0x0 0x0)
