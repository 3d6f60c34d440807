-- Asking, leaving and leaving by lease (rules 7.6 to 7.14 and 13.1 to 13.6): what an accepted request makes of the queue, the numbers as tables of rows, and the answer. Minuet:
-- UpgradeLock, and DowngradeLock to no lock.
-- Assumes nothing.
use Rattle.std.specs.Prelude.{ℕ, ◌+◌, ◌-◌, ◌≡◌, List, [], ◌∷◌, ◌++◌, cond, Bool, not, ◌&&◌, ◌||◌, drop, set, get_or, eqb}
use Rattle.stamps.specs.Stamp.{larger_of_each, shared, exclusive, stale, no_pair}
use Rattle.numbers.specs.Numbers.{MALFORMED, BAD_QUEUE, PAIR_DENIED, STANDS_ALREADY, QUEUE_FULL, NOT_STANDING, LEASE_OUT_OF_RANGE, LEASE_RUNS}
use Rattle.lock_queue.specs.Queue.{State, no_waiting, standing, desk, desks, stands, first_place, looked, holds}
use Rattle.lock_queue.specs.declared.Waiting.{Waiting}
use Rattle.lists.specs.Table.{Row, row, first, settled}
use Rattle.stamps.specs.declared.Pair.{Pair}
use Rattle.lock_queue.specs.Good.{waiting_formed, good}
use Rattle.lock_queue.specs.Lease.{expired, in_range}
use Rattle.lock_queue.specs.declared.LeaseExpiry.{LeaseExpiry}
use Rattle.lock_queue.specs.declared.LockAnswer.{LockAnswer}

-- ---- What an accepted request makes of the queue.

-- Rule 7.10: the entry takes the first free place, and each largest stamp is the larger of what it was and the entry's.
unfoldable pub joined : Waiting → State → State
joined new q =
    record {
      places = set q.places q.count new;
      count = q.count + 1;
      largest = larger_of_each q.largest new.pair;
    }

-- The standing entries without the desk's own.
unfoldable pub removed : ℕ → List Waiting → List Waiting
removed d [] = []
removed d (w ∷ ws) = cond (eqb (desk w) d) ws (w ∷ removed d ws)

-- Rule 7.13: those behind the desk's entry go one place forward, the place that this frees holds nothing, and the places past the count are as
-- they were.
unfoldable pub without : ℕ → State → State
without d q =
    record {
      places = removed d (standing q) ++ (no_waiting ∷ drop q.count q.places);
      count = q.count - 1;
      largest = q.largest;
    }

-- ---- Upgrading.

-- The mode of the entry of a desk that stands.
abbrev pub mode_of : ℕ → List Waiting → ℕ
mode_of d ws = (get_or ws (first_place d (desks ws)) no_waiting).mode

-- Rule 7.8: a desk that stands shared asks in mode exclusive. Minuet: UpgradeLock of a client that holds, or waits for, a shared lock.
unfoldable pub upgrading : ℕ → ℕ → List Waiting → Bool
upgrading mode d ws = stands d (desks ws) && (eqb mode exclusive && eqb (mode_of d ws) shared)

-- Rule 7.10: the queue that an accepted entry joins. An upgrade joins the queue that its desk's old entry has left.
unfoldable pub queue_joined : ℕ → ℕ → State → State
queue_joined mode d q = cond (upgrading mode d (standing q)) (without d q) q

-- ---- The numbers, as tables of rows.

-- Rule 7.7: a pair is denied by the largest pair as a command is stale by the stored one.
abbrev pub denied : Pair → Waiting → Bool
denied largest new = stale new.mode largest new.pair

-- Rule 7.9: the desk and start stands, and this is no upgrade.
abbrev pub already : Bool → ℕ → List ℕ → Bool
already upgrade d es = stands d es && not upgrade

-- Rule 7.9: no place is free, and this is no upgrade, which needs none.
abbrev pub full : Bool → ℕ → ℕ → Bool
full upgrade lent count = eqb count lent && not upgrade

-- Rule 7.6.
abbrev pub asking : ℕ → State → Waiting → List Row
asking lent q new =
    row (not (good lent q)) BAD_QUEUE
    ∷ row (not (waiting_formed new)) MALFORMED
    ∷ row (already (upgrading new.mode (desk new) (standing q)) (desk new) (desks (standing q))) STANDS_ALREADY
    ∷ row (denied q.largest new) PAIR_DENIED
    ∷ row (full (upgrading new.mode (desk new) (standing q)) lent q.count) QUEUE_FULL
    ∷ []

-- Rule 7.12.
abbrev pub leaving : ℕ → State → ℕ → List Row
leaving lent q d = row (not (good lent q)) BAD_QUEUE ∷ row (not (stands d (desks (standing q)))) NOT_STANDING ∷ []

-- Rule 13.5.
abbrev pub lapsing : ℕ → State → LeaseExpiry → List Row
lapsing lent q r =
    row (not (good lent q)) BAD_QUEUE
    ∷ row (not (in_range r)) LEASE_OUT_OF_RANGE
    ∷ row (not (stands r.desk (desks (standing q)))) NOT_STANDING
    ∷ row (not (expired r.lease r.begin r.now)) LEASE_RUNS
    ∷ []

-- ---- The answer.

-- A bad queue and a malformed ask tell nothing of the queue.
abbrev pub blank_answer : ℕ → Bool
blank_answer number = eqb number BAD_QUEUE || eqb number MALFORMED

-- Rule 7.14: who holds and the largest pair, of the queue after the request; how many entries were looked at, of the queue before it.
unfoldable pub answered : ℕ → ℕ → State → State → LockAnswer
answered number d entry exit =
    record {
      number = number;
      holds = not (blank_answer number) && holds d (standing exit);
      largest = cond (blank_answer number) no_pair exit.largest;
      looked = cond (blank_answer number) 0 (looked d (desks (standing entry)));
    }

-- ---- A request on a queue of `lent` places.

-- What is sent (rules 7.6, 7.12 and 13.1): a desk asks, with its entry, or leaves, naming its desk and start; or the queue's keeper, who holds a desk failed, sends for it.
pub data Request : Type 0 where
  asks : Waiting → Request
  leaves : ℕ → Request
  lapses : LeaseExpiry → Request

abbrev pub queue_rows : ℕ → State → Request → List Row
queue_rows lent q (asks new) = asking lent q new
queue_rows lent q (leaves d) = leaving lent q d
queue_rows lent q (lapses r) = lapsing lent q r

-- The desk and start that the request is about.
abbrev pub sender : Request → ℕ
sender (asks new) = desk new
sender (leaves d) = d
sender (lapses r) = r.desk

-- The queue after an accepted request.
abbrev pub applied : Request → State → State
applied (asks new) q = joined new (queue_joined new.mode (desk new) q)
applied (leaves d) q = without d q
applied (lapses r) q = without r.desk q

-- The number, the queue as it then is, and the answer.
unfoldable pub number : ℕ → State → Request → ℕ
number lent q r = first (queue_rows lent q r)

-- Rule 7.11: a refusal leaves the queue as it was.
unfoldable pub after : ℕ → State → Request → State
after lent q r = settled (number lent q r) (applied r q) q

unfoldable pub answer : ℕ → State → Request → LockAnswer
answer lent q r = answered (number lent q r) (sender r) q (after lent q r)

-- What asking and leaving hand back, whatever form the queue has: the answer, and the queue as it then is.
abbrev pub Turns : ℕ → State → Request → LockAnswer → State → Type 0
Turns lent q r given exit = (given ≡ answer lent q r) × (exit ≡ after lent q r)
