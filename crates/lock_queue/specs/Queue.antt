-- The lock queue of one card, as lists (rules 7.1 to 7.5): who stands in it, who holds the lock, and how many entries are looked at. Minuet: the
-- lock manager's queue for one shared resource.
-- Assumes nothing.
use Rattle.std.specs.Prelude.{ℕ, suc, ◌+◌, List, [], ◌∷◌, ◌++◌, map, Bool, true, false, cond, not, ◌&&◌, ◌||◌, length, take, get_or, eqb, Option, Some, None}
use Rattle.stamps.specs.Stamp.{desk_of, exclusive, no_pair}
use Rattle.stamps.specs.declared.Pair.{Pair}
use Rattle.lock_queue.specs.declared.Queue.{Queue}
use Rattle.lock_queue.specs.declared.Waiting.{Waiting}

-- Rule 7.1: a queue has 1 to so many places.
abbrev pub most_places : ℕ
most_places = 32

-- Rule 7.1: the places, how many of them are taken, and the largest stamps that were accepted. How many places were lent is a number of its own
-- below: the list may be shorter or longer than that.
pub record State : Type 0 where
  pub places : List Waiting
  pub count : ℕ
  pub largest : Pair

-- The state that a queue by value keeps.
abbrev pub state : Queue → State
state q = record { places = q.places.at; count = q.count; largest = q.largest }

-- A place that holds nothing.
abbrev pub no_waiting : Waiting
no_waiting = record { mode = 0; pair = no_pair }

-- A place by its three numbers: the mode, s and x.
abbrev pub waiting : ℕ → ℕ → ℕ → Waiting
waiting mode s x = record { mode = mode; pair = record { s = s; x = x } }

-- Rule 7.3: an empty queue, over any places. None of them is taken, and nothing was accepted yet.
abbrev pub empty_queue : List Waiting → State
empty_queue places = record { places = places; count = 0; largest = no_pair }

-- The queue with more places behind those it has.
abbrev pub longer : List Waiting → State → State
longer more q = record { places = q.places ++ more; count = q.count; largest = q.largest }

-- Rule 7.2: the entries that stand, from the front.
abbrev pub standing : State → List Waiting
standing q = take q.count q.places

-- The desk and start of an entry, and the list of them for a list of entries.
abbrev pub desk : Waiting → ℕ
desk w = desk_of w.mode w.pair

abbrev pub desks : List Waiting → List ℕ
desks ws = map desk ws

-- This desk and start stands in the list.
unfoldable pub stands : ℕ → List ℕ → Bool
stands d [] = false
stands d (e ∷ es) = eqb e d || stands d es

-- The place where this desk and start first stands, counted from 0; the length of the list where it does not.
unfoldable pub first_place : ℕ → List ℕ → ℕ
first_place d [] = 0
first_place d (e ∷ es) = cond (eqb e d) 0 (suc (first_place d es))

-- The same place, or none where it does not stand.
abbrev pub place : ℕ → List ℕ → Option ℕ
place d es = cond (stands d es) (Some (first_place d es)) None

-- Rule 7.14: a desk that stands is found at its first place, after those before it; one that does not stand is found missing after all.
unfoldable pub looked : ℕ → List ℕ → ℕ
looked d es = cond (stands d es) (first_place d es + 1) (length es)

-- No entry of the list is exclusive.
unfoldable pub no_exclusive : List Waiting → Bool
no_exclusive [] = true
no_exclusive (w ∷ ws) = not (eqb w.mode exclusive) && no_exclusive ws

-- Rule 7.5, of the entry at a place.
unfoldable pub holds_at : ℕ → List Waiting → Bool
holds_at place ws = cond (eqb (get_or ws place no_waiting).mode exclusive) (eqb place 0) (no_exclusive (take place ws))

-- Whether a desk holds the lock.
unfoldable pub holds : ℕ → List Waiting → Bool
holds d ws = stands d (desks ws) && holds_at (first_place d (desks ws)) ws
