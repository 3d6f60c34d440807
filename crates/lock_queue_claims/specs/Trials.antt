-- Worked cases of the queue: trial n, upgrades, and a list of requests from the empty queue. Proved by computation in proofs/Trials.antt.
-- Assumes nothing.
use Rattle.std.specs.Prelude.{ℕ, ◌+◌, ◌≡◌, List, [], ◌∷◌, false}
use Rattle.lists.specs.Parts.{tabulate}
use Rattle.stamps.specs.Stamp.{stamp, shared, exclusive}
use Rattle.lock_queue.specs.Queue.{State, most_places, waiting, empty_queue}
use Rattle.lock_queue.specs.Requests.{Request, asks, leaves, number, after, answer}
use Rattle.lock_queue.specs.declared.Waiting.{Waiting}
use Rattle.lock_queue_claims.specs.Traces.{granted, largest_asked, lasting}

-- The shared entry of desk n.
abbrev pub guest : ℕ → Waiting
guest n = waiting shared (stamp n n 0) 0

-- Desks 1 to 32 stand, all shared, in 32 places.
abbrev pub crowded : State
crowded =
    record {
      places = tabulate (λ i. guest (i + 1)) most_places;
      count = most_places;
      largest = record { s = stamp most_places most_places 0; x = 0 };
    }

-- The numbers of a list of requests, each on the queue as the one before left it.
unfoldable pub numbers : ℕ → State → List Request → List ℕ
numbers lent q [] = []
numbers lent q (r ∷ rs) = number lent q r ∷ numbers lent (after lent q r) rs

-- Trial n: desk 33 is refused while 32 stand. When desk 7 has left, an exclusive ask with too small an s is denied and no more called full; desk
-- 33 is accepted, and then it is full again.
abbrev pub TrialN : Type 0
TrialN =
    numbers most_places crowded
    (asks (guest 33)
    ∷ leaves (stamp 0 7 0)
    ∷ asks (waiting exclusive (stamp 1 34 0) (stamp 1 34 0))
    ∷ asks (guest 33)
    ∷ asks (guest 34)
    ∷ [])
    ≡ 13 ∷ 0 ∷ 11 ∷ 0 ∷ 13 ∷ []

-- ---- Upgrades.

-- Desks 1 and 2 stand, both shared, in two places.
abbrev pub two_shared : State
two_shared = record { places = guest 1 ∷ guest 2 ∷ []; count = 2; largest = record { s = stamp 2 2 0; x = 0 } }

-- The queue of rule 7.15. Desk 1's upgrade is denied while its s is too small, and accepted though every place is taken. Then desk 1, which stands exclusive, gets 12 for
-- both modes, and desk 2, which stands shared, for shared. Desk 2's upgrade is denied while its x is too small, accepted when it is not. Desk 3
-- finds the queue full.
abbrev pub TrialUpgrade : Type 0
TrialUpgrade =
    numbers 2 two_shared
    (asks (waiting exclusive (stamp 1 1 0) (stamp 1 1 0))
    ∷ asks (waiting exclusive (stamp 2 2 0) (stamp 1 1 0))
    ∷ asks (waiting exclusive (stamp 2 2 0) (stamp 2 1 0))
    ∷ asks (waiting shared (stamp 3 1 0) (stamp 1 1 0))
    ∷ asks (waiting shared (stamp 3 2 0) (stamp 1 1 0))
    ∷ asks (waiting exclusive (stamp 2 2 0) (stamp 0 2 0))
    ∷ asks (waiting exclusive (stamp 2 2 0) (stamp 2 2 0))
    ∷ asks (waiting shared (stamp 3 3 0) (stamp 2 2 0))
    ∷ [])
    ≡ 11 ∷ 0 ∷ 12 ∷ 12 ∷ 12 ∷ 11 ∷ 0 ∷ 13 ∷ []

-- The queue after desk 1's upgrade: desk 2 is first now, and desk 1 stands behind it. Its answer: it does not hold the lock, and it was found at
-- the first place.
abbrev pub TrialUpgraded : Type 0
TrialUpgraded =
    (after 2 two_shared (asks (waiting exclusive (stamp 2 2 0) (stamp 1 1 0)))
    ≡ record {
      places = guest 2 ∷ waiting exclusive (stamp 2 2 0) (stamp 1 1 0) ∷ [];
      count = 2;
      largest = record { s = stamp 2 2 0; x = stamp 1 1 0 };
    })
    × (answer 2 two_shared (asks (waiting exclusive (stamp 2 2 0) (stamp 1 1 0)))
    ≡ record { number = 0; holds = false; largest = record { s = stamp 2 2 0; x = stamp 1 1 0 }; looked = 1 })

-- ---- A list of requests from the empty queue, over two places that hold anything.

abbrev pub unused : State
unused = empty_queue (waiting 7 1 1 ∷ waiting 9 2 2 ∷ [])

-- Desks 1 and 2 join, and desk 3 finds the queue full. Desk 1 upgrades and desk 2 leaves, twice. Then desk 3 joins.
abbrev pub trace_sent : List Request
trace_sent =
    asks (guest 1)
    ∷ asks (guest 2)
    ∷ asks (waiting shared (stamp 9 3 0) (stamp 1 1 0))
    ∷ asks (waiting exclusive (stamp 2 2 0) (stamp 1 1 0))
    ∷ leaves (stamp 0 2 0)
    ∷ leaves (stamp 0 2 0)
    ∷ asks (waiting shared (stamp 1 3 0) (stamp 1 1 0))
    ∷ []

-- The refused ask's s, the largest of all, does not count.
abbrev pub TrialTrace : Type 0
TrialTrace =
    (numbers 2 unused trace_sent ≡ 0 ∷ 0 ∷ 13 ∷ 0 ∷ 0 ∷ 15 ∷ 0 ∷ [])
    × (largest_asked (granted 2 unused trace_sent) ≡ record { s = stamp 2 2 0; x = stamp 1 1 0 })
    × (lasting (granted 2 unused trace_sent) ≡ waiting exclusive (stamp 2 2 0) (stamp 1 1 0) ∷ waiting shared (stamp 1 3 0) (stamp 1 1 0) ∷ [])

-- ---- All of them: a full queue, upgrades, and a list from the empty queue.
pub record QueueTrials : Type 0 where
  pub full : TrialN
  pub upgrades : TrialUpgrade
  pub upgraded : TrialUpgraded
  pub trace : TrialTrace
