-- The worked cases of the queue, by computation. Assumes nothing.
use native.Mathlib.Omega.{arith}
use mathlib.Core.Path.{◌≡◌, refl}
use mathlib.Core.Logic.{inl, inr}
use mathlib.Core.List.{[], ◌∷◌}
use mathlib.Core.Bool.{true}
use lib.Dec.{T}
use Rattle.lists.proofs.Tests.{to_T}
use Rattle.stamps.specs.Stamp.{stamp, exclusive}
use Rattle.lock_queue.specs.declared.Waiting.{Waiting}
use Rattle.lists.specs.Parts.{tabulate}
use Rattle.lists.specs.Table.{all, all_from}
use Rattle.lock_queue.specs.Queue.{most_places, waiting, empty_queue, standing, desk, stands, first_place, looked, no_exclusive, holds_at, holds}
use Rattle.lock_queue.specs.Good.{distinct, good}
use Rattle.lock_queue.specs.Requests.{asks, leaves, joined, removed, without, upgrading, queue_joined, answered, number, after, answer}
use Rattle.lock_queue_claims.specs.Traces.{queue_after, granted, largest_asked, lasting}
use Rattle.lock_queue_claims.specs.Trials.{numbers, guest, two_shared, unused, trace_sent, TrialN, TrialUpgrade, TrialUpgraded, TrialTrace, QueueTrials}
use Rattle.lock_queue_claims.proofs.Upgrades.{twelve_means, upgrade_by_pair, upgrade_never_full, upgrade_is_both, newcomer_joins_end, newcomer_holds}
use Rattle.lock_queue_claims.proofs.Traces.{empty_good, largest_accepted, standing_accepted}

trial_n : TrialN
unfolding numbers number after upgrading queue_joined good all all_from distinct stands joined without removed tabulate
trial_n = refl

trial_upgrade : TrialUpgrade
unfolding numbers number after upgrading queue_joined first_place good all all_from distinct stands joined without removed
trial_upgrade = refl

trial_upgraded : TrialUpgraded
unfolding number after answer answered holds holds_at no_exclusive looked upgrading queue_joined first_place good all all_from distinct stands joined without removed
trial_upgraded = (refl, refl)

trial_trace : TrialTrace
unfolding numbers granted largest_asked lasting number after upgrading queue_joined first_place good all all_from distinct stands joined without removed
trial_trace = (refl, refl, refl)

pub queue_trials : QueueTrials
queue_trials = record { full = trial_n; upgrades = trial_upgrade; upgraded = trial_upgraded; trace = trial_trace }

-- ---- each hypothesis of a claim is met by a case

-- Desk 1 of `two_shared` asks for exclusive, with every place taken.
abbrev raise : Waiting
raise = waiting exclusive (stamp 2 2 0) (stamp 1 1 0)

raised : number 2 two_shared (asks raise) ≡ 0
unfolding upgrading first_place good all all_from distinct stands
raised = upgrade_by_pair 2 two_shared raise (to_T refl) (to_T refl) (to_T refl)

-- With too small an x it is denied, and not told that the queue is full.
abbrev low : Waiting
low = waiting exclusive (stamp 1 1 0) (stamp 1 1 0)

lowered : number 2 two_shared (asks low) ≡ 11
unfolding upgrading first_place good all all_from distinct stands
lowered = upgrade_by_pair 2 two_shared low (to_T refl) (to_T refl) (to_T refl)

not_full : number 2 two_shared (asks raise) ≡ 13 → ⊥
unfolding upgrading first_place stands
not_full = upgrade_never_full 2 two_shared raise (to_T refl)

left_first : number 2 two_shared (leaves (desk raise)) ≡ 0
unfolding upgrading first_place stands
left_first = (upgrade_is_both 2 two_shared raise (omega arith) (to_T refl) raised).0

-- Desk 2, which stands shared, asks shared; desk 1, once it stands exclusive, asks for exclusive.
again_shared : number 2 two_shared (asks (guest 2)) ≡ 12
unfolding good all all_from distinct stands
again_shared = (twelve_means 2 two_shared (guest 2)).1 (to_T refl, to_T refl, to_T refl, inl refl)

again_exclusive : number 2 (after 2 two_shared (asks raise)) (asks raise) ≡ 12
unfolding number after upgrading queue_joined first_place good all all_from distinct stands joined without removed
again_exclusive = (twelve_means 2 (after 2 two_shared (asks raise)) raise).1 (to_T refl, to_T refl, to_T refl, inr refl)

-- Desk 1 asks shared where nobody stands, and is no upgrade.
new_accepted : number 2 unused (asks (guest 1)) ≡ 0
unfolding number upgrading queue_joined first_place good all all_from distinct stands
new_accepted = refl

new_last : standing (after 2 unused (asks (guest 1))) ≡ guest 1 ∷ []
unfolding upgrading first_place stands
new_last = newcomer_joins_end 2 unused (guest 1) (omega arith) (λ t. t) new_accepted

new_holds : (answer 2 unused (asks (guest 1))).holds ≡ true
unfolding upgrading first_place stands no_exclusive
new_holds = newcomer_holds 2 unused (guest 1) (omega arith) (λ t. t) new_accepted

-- The empty queue over one place and over 32, whatever they hold; and a list of requests over as many places as are lent.
least : T (good 1 unused)
least = empty_good 1 unused.places (omega arith) (omega arith)

most : T (good most_places (empty_queue []))
most = empty_good most_places [] (omega arith) (omega arith)

system_after_largest : (queue_after 2 unused trace_sent).largest ≡ largest_asked (granted 2 unused trace_sent)
system_after_largest = largest_accepted 2 unused.places trace_sent

system_after_standing : standing (queue_after 2 unused trace_sent) ≡ lasting (granted 2 unused trace_sent)
system_after_standing = standing_accepted 2 unused.places trace_sent (omega arith)
