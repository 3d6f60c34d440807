-- The queue over a lent list of places (rule 7.1).
-- Assumes nothing.
use Rattle.std.specs.Prelude.{ℕ, zero, suc, List, [], ◌∷◌, replicate}
use Rattle.lock_queue.specs.Queue.{State, most_places, no_waiting}
use Rattle.lock_queue.specs.declared.LockOutcome.{LockOutcome}
use Rattle.lock_queue.specs.declared.Waiting.{Waiting}
use Rattle.lock_queue_lent.specs.declared.Kept.{Kept}
use Rattle.lock_queue_lent.specs.declared.LentOutcome.{LentOutcome}

-- The state of a queue whose places are lent.
abbrev pub lent_state : List Waiting → Kept → State
lent_state places kept = record { places = places; count = kept.count; largest = kept.largest }

-- The first n entries of one list, written over those of another, as far as both go.
unfoldable pub written : ℕ → List Waiting → List Waiting → List Waiting
written zero from onto = onto
written (suc n) [] onto = onto
written (suc n) (a ∷ from) [] = []
written (suc n) (a ∷ from) (b ∷ onto) = a ∷ written n from onto

-- The lent places by value: as many as there is room for, and nothing behind them.
abbrev pub loaded : List Waiting → List Waiting
loaded places = written most_places places (replicate most_places no_waiting)

-- What is said of an outcome beside its places.
abbrev pub reply_of : LockOutcome → LentOutcome
reply_of o = record { answer = o.answer; kept = record { count = o.queue.count; largest = o.queue.largest } }
