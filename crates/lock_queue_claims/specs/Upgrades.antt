-- What is claimed of upgrading in the queue (rules 7.8 to 7.10), for any queue and any entry. Proved in proofs/Upgrades.antt.
-- Assumes nothing.
use Rattle.std.specs.Prelude.{ℕ, ◌≤◌, ◌≡◌, ◌↔◌, ◌⊎◌, [], ◌∷◌, ◌++◌, cond, T, eqb, length}
use Rattle.stamps.specs.Stamp.{shared, exclusive}
use Rattle.lock_queue.specs.Queue.{State, standing, desk, desks, stands, no_exclusive}
use Rattle.lock_queue.specs.Good.{waiting_formed, good}
use Rattle.lock_queue.specs.Requests.{mode_of, upgrading, denied, asks, leaves, number, after, answer}
use Rattle.lock_queue.specs.declared.Waiting.{Waiting}
use Rattle.numbers.specs.Numbers.{STANDS_ALREADY, QUEUE_FULL}

-- The entry asks for an upgrade of the one that its desk has in the queue.
abbrev pub AsksUpgrade : Waiting → State → Type 0
AsksUpgrade new q = T (upgrading new.mode (desk new) (standing q))

-- Rule 7.9: 12 goes exactly to a desk that stands and asks shared, or that stands exclusive and asks anything (in a good queue, by a well-formed
-- ask).
abbrev pub TwelveMeans : Type 0
TwelveMeans =
    (lent : ℕ) (q : State) (new : Waiting) →
    (number lent q (asks new) ≡ STANDS_ALREADY)
    ↔ (T (good lent q) × T (waiting_formed new) × T (stands (desk new) (desks (standing q))) × ((new.mode ≡ shared) ⊎ (mode_of (desk new) (standing q) ≡ exclusive)))

-- Rule 7.8: only the pair decides on a well-formed upgrade in a good queue.
abbrev pub UpgradeByPair : Type 0
UpgradeByPair =
    (lent : ℕ) (q : State) (new : Waiting) → AsksUpgrade new q → T (good lent q) → T (waiting_formed new) →
    number lent q (asks new) ≡ cond (denied q.largest new) 11 0

-- Rule 7.9: an upgrade is never told that the queue is full.
abbrev pub UpgradeNeverFull : Type 0
UpgradeNeverFull = (lent : ℕ) (q : State) (new : Waiting) → AsksUpgrade new q → number lent q (asks new) ≡ QUEUE_FULL → ⊥

-- Rule 7.10: an accepted upgrade is an accepted leave, and then an accepted ask on the queue as it then is.
abbrev pub UpgradeIsBoth : Type 0
UpgradeIsBoth =
    (lent : ℕ) (q : State) (new : Waiting) → lent ≤ length q.places → AsksUpgrade new q → number lent q (asks new) ≡ 0 →
    (number lent q (leaves (desk new)) ≡ 0)
    × (number lent (after lent q (leaves (desk new))) (asks new) ≡ 0)
    × (after lent q (asks new) ≡ after lent (after lent q (leaves (desk new))) (asks new))

-- An accepted ask that is no upgrade joins behind all that stood: `JoinsEnd` of such an ask says no more and no less than it did before there were
-- upgrades.
abbrev pub NewcomerJoinsEnd : Type 0
NewcomerJoinsEnd =
    (lent : ℕ) (q : State) (new : Waiting) → lent ≤ length q.places → (AsksUpgrade new q → ⊥) → number lent q (asks new) ≡ 0 →
    standing (after lent q (asks new)) ≡ standing q ++ (new ∷ [])

-- It holds the lock: shared if no exclusive stood, exclusive if nobody stood (`AskerHolds` in the same way).
abbrev pub NewcomerHolds : Type 0
NewcomerHolds =
    (lent : ℕ) (q : State) (new : Waiting) → lent ≤ length q.places → (AsksUpgrade new q → ⊥) → number lent q (asks new) ≡ 0 →
    (answer lent q (asks new)).holds ≡ cond (eqb new.mode exclusive) (eqb q.count 0) (no_exclusive (standing q))
