-- Theorems on proposals, used where their hypotheses only just hold: a shared denial and an exclusive ask, exactly the
-- denial's pair, the last desk and start, a refusal. A stricter hypothesis or a sentence left out is noticed here.
-- Assumes nothing.
use Prim.Native.Nat.{ℕ, ◌≤◌, ◌<◌}
use native.Mathlib.Omega.{arith}
use mathlib.Core.Path.{◌≡◌, refl}
use lib.Dec.{T}
use lib.ListN.{length}
use Rattle.lists.specs.Table.{all, all_from, listed}
use Rattle.stamps.specs.Stamp.{stamp, desk_of, shared, exclusive, no_pair}
use Rattle.lock_queue.specs.Queue.{waiting, stands, first_place}
use Rattle.lock_queue.specs.Good.{distinct, good}
use Rattle.lock_queue.specs.Requests.{joined, removed, without, upgrading, queue_joined, answered, number, after, answer}
use Rattle.lock_queue.specs.declared.Waiting.{Waiting}
use Rattle.lock_queue_claims.specs.Traces.{queue_after}
use Rattle.desk_proposals.specs.declared.Known.{Known}
use Rattle.desk_proposals.specs.Propose.{learnt, last_t, next_t, own_above, pair_for, proposed}
use Rattle.desk_proposal_claims.specs.Claims.{OfDesk, SmallestAbove, proposal_numbers, quiet, Retries, retried, retry_numbers}
use Rattle.desk_proposal_claims.specs.Cases.{knowing, held_by_one, calm}
use Rattle.desk_proposal_claims.proofs.Claims.{smallest, spent, proposal_listed, well_proposed, not_denied, retry_listed, unmoved}

-- Desk 2's shared ask, which is denied; and a desk that knows exactly the pair of that denial, and no more.
abbrev low : Waiting
low = waiting shared (stamp 0 2 0) 0

abbrev just : Known
just = knowing 2 0 0 (stamp 5 1 0)

retries : Retries 3 held_by_one low calm just exclusive
unfolding queue_after quiet proposed learnt pair_for next_t answered number after answer upgrading queue_joined first_place good distinct stands joined removed without all all_from
retries = record { denial = refl; still = refl; heard_s = omega arith; heard_x = omega arith; proposes = refl }

-- It asks exclusive, at once and after others left and were denied.
not_again : retried 3 held_by_one low calm just exclusive ≡ 11 → ⊥
not_again = not_denied 3 held_by_one low calm just exclusive retries

places : 3 ≤ length held_by_one.places
unfolding number after good distinct all all_from upgrading queue_joined joined stands first_place
places = omega arith

remains : T (listed retry_numbers (retried 3 held_by_one low calm just exclusive))
remains = retry_listed 3 held_by_one low calm just exclusive retries places (omega arith) (omega arith) refl refl

-- The last desk with the last start, above nothing and above its own first stamp.
last_smallest : SmallestAbove 65535 65535 0 (own_above 65535 65535 0)
last_smallest = smallest 65535 65535 0 (omega arith) (omega arith)

zero_smallest : SmallestAbove 0 0 0 (own_above 0 0 0)
zero_smallest = smallest 0 0 0 (omega arith) (omega arith)

-- A proposal from no stamps at all names its desk and start.
named : desk_of shared (proposed (knowing 65535 65535 0 0) shared).pair ≡ 4294967295
unfolding proposed next_t
named = (well_proposed (knowing 65535 65535 0 0) shared (omega arith) (omega arith) refl refl refl).desk

-- Desk 0 is refused, keeps what it knows and gets no pair.
kept : (proposed (knowing 0 5 7 8) shared).known ≡ knowing 0 5 7 8
unfolding proposed
kept = (unmoved (knowing 0 5 7 8) shared 0 refl).0

none : (proposed (knowing 0 5 7 8) shared).pair ≡ no_pair
unfolding proposed
none = (unmoved (knowing 0 5 7 8) shared 0 refl).1

-- No stamp of 64 bits is above the largest one; above the one before it there is the last desk's, and its stamps are not
-- spent.
all_spent : last_t < next_t 65535 65535 18446744073709551615
all_spent = (spent 65535 65535 18446744073709551615 (omega arith) (omega arith)).1 (λ m fits own. omega (arith, fits))

none_above : (m : ℕ) → m < 18446744073709551616 → OfDesk 65535 65535 m → m ≤ 18446744073709551615
none_above = (spent 65535 65535 18446744073709551615 (omega arith) (omega arith)).0 all_spent

-- A mode that is none, of desk 0.
numbered : T (listed proposal_numbers (proposed (knowing 0 0 0 0) 9).number)
numbered = proposal_listed (knowing 0 0 0 0) 9
