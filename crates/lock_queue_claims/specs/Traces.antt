-- What is claimed of every list of requests to one queue, from the empty queue on (rules 7.3 and 7.16). Proved in proofs/Traces.antt.
-- Assumes nothing.
use Rattle.std.specs.Prelude.{ℕ, ◌≤◌, ◌≡◌, List, [], ◌∷◌, map, cond, T, eqb, length}
use Rattle.stamps.specs.Stamp.{no_pair, larger_of_each}
use Rattle.stamps.specs.declared.Pair.{Pair}
use Rattle.lock_queue.specs.Queue.{State, most_places, empty_queue, standing, desk, stands}
use Rattle.lock_queue.specs.Good.{good}
use Rattle.lock_queue.specs.Requests.{Request, asks, leaves, lapses, sender, number, after}
use Rattle.lock_queue.specs.declared.Waiting.{Waiting}

-- The queue after a list of requests, each on the queue as the one before left it.
unfoldable pub queue_after : ℕ → State → List Request → State
queue_after lent q [] = q
queue_after lent q (r ∷ rs) = queue_after lent (after lent q r) rs

-- Those of the requests that are accepted, in the order in which they are sent.
unfoldable pub granted : ℕ → State → List Request → List Request
granted lent q [] = []
granted lent q (r ∷ rs) = cond (eqb (number lent q r) 0) (r ∷ granted lent (after lent q r) rs) (granted lent (after lent q r) rs)

-- The largest s and the largest x of all that was asked for in a list of requests, each by itself; zeros where nothing was.
unfoldable pub largest_asked : List Request → Pair
largest_asked [] = no_pair
largest_asked (asks new ∷ rs) = larger_of_each new.pair (largest_asked rs)
largest_asked (leaves d ∷ rs) = largest_asked rs
largest_asked (lapses r ∷ rs) = largest_asked rs

-- The entries of a list of requests whose desk and start has no later one, in the order of asking.
unfoldable pub lasting : List Request → List Waiting
lasting [] = []
lasting (asks new ∷ rs) = cond (stands (desk new) (map sender rs)) (lasting rs) (new ∷ lasting rs)
lasting (leaves d ∷ rs) = lasting rs
lasting (lapses r ∷ rs) = lasting rs

-- Rule 7.3: the empty queue is good, over any places, where 1 to 32 are lent.
abbrev pub EmptyGood : Type 0
EmptyGood = (lent : ℕ) (places : List Waiting) → 1 ≤ lent → lent ≤ most_places → T (good lent (empty_queue places))

-- Rule 7.16: the largest pair is that of the requests that were accepted.
abbrev pub LargestAccepted : Type 0
LargestAccepted =
    (lent : ℕ) (places : List Waiting) (rs : List Request) →
    (queue_after lent (empty_queue places) rs).largest ≡ largest_asked (granted lent (empty_queue places) rs)

-- Rule 7.16: who stands is told by the requests that were accepted alone.
abbrev pub StandingAccepted : Type 0
StandingAccepted =
    (lent : ℕ) (places : List Waiting) (rs : List Request) → lent ≤ length places →
    standing (queue_after lent (empty_queue places) rs) ≡ lasting (granted lent (empty_queue places) rs)
