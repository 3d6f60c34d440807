-- The places of a queue as three arrays of numbers.
-- Assumes nothing.
use Rattle.std.specs.Prelude.{ℕ, List, map, [], ◌∷◌, get_or, cond}
use Rattle.lists.specs.Parts.{tabulate}
use Rattle.lock_queue.specs.Queue.{most_places, State, waiting}
use Rattle.lock_queue.specs.declared.Waiting.{Waiting}
use Rattle.lock_queue.specs.declared.LockAnswer.{LockAnswer}
use Rattle.lock_queue.specs.Requests.{Request, answer, after}

-- The places that three arrays hold: one with the modes, one with each s, one with each x.
unfoldable pub places_of : List ℕ → List ℕ → List ℕ → List Waiting
places_of modes s x = tabulate (λ (i : ℕ). waiting (get_or modes i 0) (get_or s i 0) (get_or x i 0)) most_places

-- The other way round: the three arrays of some places.
abbrev pub modes_of : List Waiting → List ℕ
modes_of places = map (λ w. w.mode) places

abbrev pub shared_of : List Waiting → List ℕ
shared_of places = map (λ w. w.pair.s) places

abbrev pub exclusive_of : List Waiting → List ℕ
exclusive_of places = map (λ w. w.pair.x) places

-- ---- A queue, and its answers, as numbers in the order of rule 7.14.

-- The queue that three arrays hold, for the places, together with its count and the largest s and x.
abbrev pub queue_of : List ℕ → List ℕ → List ℕ → List ℕ → State
queue_of modes s x kept =
    record {
      places = places_of modes s x;
      count = get_or kept 0 0;
      largest = record { s = get_or kept 1 0; x = get_or kept 2 0 };
    }

-- The other way round: the count with the largest s and x.
abbrev pub kept_of : State → List ℕ
kept_of q = q.count ∷ q.largest.s ∷ q.largest.x ∷ []

-- The queue's answer as numbers (rule 7.14): 1 if the desk holds the lock, else 0; the largest s and x; how many entries were looked at.
abbrev pub answer_of : LockAnswer → List ℕ
answer_of a = cond a.holds 1 0 ∷ a.largest.s ∷ a.largest.x ∷ a.looked ∷ []

-- What a request to a queue in arrays gives and leaves: the number, the answer's four fields, and the arrays.
pub record ArrayTurn : Type 0 where
  pub number : ℕ
  pub fields : List ℕ
  pub modes : List ℕ
  pub s : List ℕ
  pub x : List ℕ
  pub kept : List ℕ

-- The numbers of an answer and the arrays of the queue that it leaves.
abbrev pub arrays_of : LockAnswer → State → ArrayTurn
arrays_of a q =
    record {
      number = a.number;
      fields = answer_of a;
      modes = modes_of q.places;
      s = shared_of q.places;
      x = exclusive_of q.places;
      kept = kept_of q;
    }

-- What a request to a queue of `lent` places comes to.
abbrev pub array_turn : ℕ → State → Request → ArrayTurn
array_turn lent q r = arrays_of (answer lent q r) (after lent q r)
