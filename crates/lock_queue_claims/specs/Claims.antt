-- What is claimed of the queue, for any list of places, any number of lent places, any count and any numbers. Proved in proofs/Claims.antt.
-- Assumes nothing.
use Rattle.std.specs.Prelude.{ℕ, suc, ◌-◌, ◌≤◌, ◌<◌, max, ◌≡◌, ◌↔◌, List, [], ◌∷◌, ◌++◌, false, cond, T, eqb, length, drop, get_or}
use Rattle.stamps.specs.Stamp.{shared, exclusive, no_pair}
use Rattle.lists.specs.Table.{applies, no_row, earlier, listed}
use Rattle.lock_queue.specs.Queue.{State, no_waiting, longer, standing, desk, no_exclusive, holds}
use Rattle.lock_queue.specs.Good.{good}
use Rattle.lock_queue.specs.Requests.{removed, mode_of, Request, asks, leaves, lapses, queue_rows, blank_answer, number, after, answer}
use Rattle.lock_queue.specs.declared.LeaseExpiry.{LeaseExpiry}
use Rattle.lock_queue.specs.declared.Waiting.{Waiting}
use Rattle.numbers.specs.Numbers.{MALFORMED, BAD_QUEUE, PAIR_DENIED, STANDS_ALREADY, QUEUE_FULL, NOT_STANDING, LEASE_OUT_OF_RANGE, LEASE_RUNS}

-- Each number exactly when its row applies and none above it does.
abbrev pub EachNumber : Type 0
EachNumber =
    (lent : ℕ) (q : State) (r : Request) (n : ℕ) →
    (number lent q r ≡ suc n) ↔ (T (applies (suc n) (queue_rows lent q r)) × T (no_row (earlier (suc n) (queue_rows lent q r))))

-- Accepted, 0, exactly when no row applies.
abbrev pub Acceptance : Type 0
Acceptance = (lent : ℕ) (q : State) (r : Request) → (number lent q r ≡ 0) ↔ T (no_row (queue_rows lent q r))

-- Rule 7.11: a refusal changes nothing, neither the places nor the count nor the largest pair.
abbrev pub RefusalLeaves : Type 0
RefusalLeaves = (lent : ℕ) (q : State) (r : Request) (n : ℕ) → number lent q r ≡ suc n → after lent q r ≡ q

-- The answers 10 and 1: not holding, zeros, nothing looked at.
abbrev pub BlankAnswers : Type 0
BlankAnswers =
    (lent : ℕ) (q : State) (r : Request) → T (blank_answer (number lent q r)) →
    answer lent q r ≡ record { number = number lent q r; holds = false; largest = no_pair; looked = 0 }

-- Rule 7.14: no more are looked at than stood.
abbrev pub LookedWithin : Type 0
LookedWithin = (lent : ℕ) (q : State) (r : Request) → (answer lent q r).looked ≤ q.count

-- A good queue stays good, whatever is sent to it. The places are at least as many as were lent.
abbrev pub StaysGood : Type 0
StaysGood =
    (lent : ℕ) (q : State) (r : Request) → lent ≤ length q.places → T (good lent q) → T (good lent (after lent q r))

-- Rule 7.10: an accepted entry stands last, behind all others in their order. Its desk's old entry, if it had one, is gone.
abbrev pub JoinsEnd : Type 0
JoinsEnd =
    (lent : ℕ) (q : State) (new : Waiting) → lent ≤ length q.places → number lent q (asks new) ≡ 0 →
    standing (after lent q (asks new)) ≡ removed (desk new) (standing q) ++ (new ∷ [])

-- Rule 7.13: who leaves is gone, and the others stand in their order.
abbrev pub GapClosed : Type 0
GapClosed =
    (lent : ℕ) (q : State) (d : ℕ) → lent ≤ length q.places → number lent q (leaves d) ≡ 0 →
    standing (after lent q (leaves d)) ≡ removed d (standing q)

-- Rule 7.13: the place that leaving frees, the last one that was taken, holds nothing.
abbrev pub FreedZeroed : Type 0
FreedZeroed =
    (lent : ℕ) (q : State) (d : ℕ) (w : Waiting) → lent ≤ length q.places → number lent q (leaves d) ≡ 0 →
    get_or (after lent q (leaves d)).places (q.count - 1) w ≡ no_waiting

-- Rule 7.13: places past the count stay as they are, and there are as many places as before. A place is past the count if it is so before
-- and after.
abbrev pub past : ℕ → State → Request → ℕ
past lent q r = max q.count (after lent q r).count

abbrev pub OthersKept : Type 0
OthersKept =
    (lent : ℕ) (q : State) (r : Request) → lent ≤ length q.places →
    (drop (past lent q r) (after lent q r).places ≡ drop (past lent q r) q.places)
    × (length (after lent q r).places ≡ length q.places)

-- The largest pair never falls.
abbrev pub LargestGrows : Type 0
LargestGrows =
    (lent : ℕ) (q : State) (r : Request) →
    (q.largest.s ≤ (after lent q r).largest.s) × (q.largest.x ≤ (after lent q r).largest.x)

-- An accepted asker holds the lock: shared if no exclusive stood, exclusive if none stood but, in an upgrade, its own desk.
abbrev pub AskerHolds : Type 0
AskerHolds =
    (lent : ℕ) (q : State) (new : Waiting) → lent ≤ length q.places → number lent q (asks new) ≡ 0 →
    (answer lent q (asks new)).holds
    ≡ cond (eqb new.mode exclusive) (eqb (length (removed (desk new) (standing q))) 0) (no_exclusive (removed (desk new) (standing q)))

-- Who leaves, or has nothing to leave, does not hold the lock.
abbrev pub LeaverHoldsNothing : Type 0
LeaverHoldsNothing = (lent : ℕ) (q : State) (d : ℕ) → lent ≤ length q.places → (answer lent q (leaves d)).holds ≡ false

-- Two desks that both hold the lock are both shared.
abbrev pub HoldersShared : Type 0
HoldersShared =
    (lent : ℕ) (q : State) (d e : ℕ) → T (good lent q) → (d ≡ e → ⊥) → T (holds d (standing q)) → T (holds e (standing q)) →
    (mode_of d (standing q) ≡ shared) × (mode_of e (standing q) ≡ shared)

-- After an accepted leave the next ask, anyone's, cannot get 13.
abbrev pub RoomAfterLeaving : Type 0
RoomAfterLeaving =
    (lent : ℕ) (q : State) (d : ℕ) (new : Waiting) → number lent q (leaves d) ≡ 0 →
    number lent (after lent q (leaves d)) (asks new) ≡ QUEUE_FULL → ⊥

-- Desk 0, with any start, never stands in a good queue, so that its leaving gets 15.
abbrev pub NoDeskZero : Type 0
NoDeskZero = (lent : ℕ) (q : State) (start : ℕ) → T (good lent q) → start < 65536 → number lent q (leaves start) ≡ NOT_STANDING

-- Places beyond the lent ones make no difference, and keep what they hold.
abbrev pub BeyondLent : Type 0
BeyondLent =
    (lent : ℕ) (q : State) (r : Request) (more : List Waiting) → lent ≤ length q.places →
    (answer lent (longer more q) r ≡ answer lent q r) × (after lent (longer more q) r ≡ longer more (after lent q r))

-- Rule 5.1: what asking, leaving and leaving by lease may answer, besides 0.
abbrev pub ask_numbers : List ℕ
ask_numbers = MALFORMED ∷ BAD_QUEUE ∷ PAIR_DENIED ∷ STANDS_ALREADY ∷ QUEUE_FULL ∷ []

abbrev pub leave_numbers : List ℕ
leave_numbers = BAD_QUEUE ∷ NOT_STANDING ∷ []

abbrev pub lapse_numbers : List ℕ
lapse_numbers = BAD_QUEUE ∷ NOT_STANDING ∷ LEASE_OUT_OF_RANGE ∷ LEASE_RUNS ∷ []

-- Rule 5.1: every number of the queue is from its list.
pub record QueueListed : Type 0 where
  pub asked : (lent : ℕ) (q : State) (new : Waiting) → T (listed ask_numbers (number lent q (asks new)))
  pub left : (lent : ℕ) (q : State) (d : ℕ) → T (listed leave_numbers (number lent q (leaves d)))
  pub lapsed : (lent : ℕ) (q : State) (r : LeaseExpiry) → T (listed lapse_numbers (number lent q (lapses r)))
