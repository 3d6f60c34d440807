-- When the lock queue of one card is good (rule 7.4): a queue that is not is answered with 10, whatever is sent to it.
-- Assumes nothing.
use Rattle.std.specs.Prelude.{ℕ, List, [], ◌∷◌, map, Bool, true, not, ◌&&◌, leb}
use Rattle.lists.specs.Table.{all}
use Rattle.stamps.specs.Stamp.{stamp_valid, session_checks}
use Rattle.stamps.specs.declared.Pair.{Pair}
use Rattle.lock_queue.specs.Queue.{State, most_places, standing, desks, stands}
use Rattle.lock_queue.specs.declared.Waiting.{Waiting}

-- No desk and start stands twice.
unfoldable pub distinct : List ℕ → Bool
distinct [] = true
distinct (e ∷ es) = not (stands e es) && distinct es

-- An entry's mode and stamps, by a command's rules.
abbrev pub waiting_formed : Waiting → Bool
waiting_formed w = all (session_checks w.mode w.pair)

-- Neither of an entry's stamps is above the largest.
abbrev pub within : Pair → Waiting → Bool
within largest w = leb w.pair.s largest.s && leb w.pair.x largest.x

-- Rule 7.4, test by test.
abbrev pub queue_checks : ℕ → State → List Bool
queue_checks lent q =
    -- 1 to 32 lent places
    (leb 1 lent && leb lent most_places)
    -- no more taken than lent
    ∷ leb q.count lent
    -- the largest stamps are stamps, or none
    ∷ stamp_valid q.largest.s
    ∷ stamp_valid q.largest.x
    -- each entry could be asked for
    ∷ all (map waiting_formed (standing q))
    -- no desk and start stands twice
    ∷ distinct (desks (standing q))
    -- no entry has a stamp above the largest
    ∷ all (map (within q.largest) (standing q))
    ∷ []

unfoldable pub good : ℕ → State → Bool
good lent q = all (queue_checks lent q)
