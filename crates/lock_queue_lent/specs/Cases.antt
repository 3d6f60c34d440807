-- Worked cases of a queue as arrays and over lent places: which number stands where (rule 7.14). Proved by computation
-- in proofs/Cases.antt.
-- Assumes nothing.
use Rattle.std.specs.Prelude.{◌≡◌, [], ◌∷◌, true, false, replicate}
use Rattle.lock_queue.specs.Queue.{State, no_waiting, waiting, empty_queue}
use Rattle.lock_queue.specs.Requests.{asks}
use Rattle.lock_queue_lent.specs.Arrays.{places_of, queue_of, modes_of, shared_of, exclusive_of, kept_of, answer_of, array_turn}
use Rattle.lock_queue_lent.specs.Slice.{loaded}

-- Two entries whose numbers all differ, and the state that they stand in with a count of 2 and the largest pair (7, 8).
abbrev pub two_apart : State
two_apart = record { places = waiting 1 3 5 ∷ waiting 2 4 6 ∷ []; count = 2; largest = record { s = 7; x = 8 } }

pub record ArrayCases : Type 0 where
  -- out of a queue: modes, each s, each x; count, largest s, largest x
  pub modes : modes_of two_apart.places ≡ 1 ∷ 2 ∷ []
  pub each_s : shared_of two_apart.places ≡ 3 ∷ 4 ∷ []
  pub each_x : exclusive_of two_apart.places ≡ 5 ∷ 6 ∷ []
  pub kept : kept_of two_apart ≡ 2 ∷ 7 ∷ 8 ∷ []
  -- and into one: 32 places, those behind the arrays empty
  pub places : places_of (1 ∷ 2 ∷ []) (3 ∷ 4 ∷ []) (5 ∷ 6 ∷ []) ≡ waiting 1 3 5 ∷ waiting 2 4 6 ∷ replicate 30 no_waiting
  pub count : (queue_of [] [] [] (2 ∷ 7 ∷ 8 ∷ [])).count ≡ 2
  pub largest : (queue_of [] [] [] (2 ∷ 7 ∷ 8 ∷ [])).largest ≡ record { s = 7; x = 8 }
  -- an answer: whether the desk holds, largest s, largest x, looked at
  pub holding : answer_of (record { number = 0; holds = true; largest = record { s = 7; x = 8 }; looked = 9 }) ≡ 1 ∷ 7 ∷ 8 ∷ 9 ∷ []
  pub waits : answer_of (record { number = 12; holds = false; largest = record { s = 7; x = 8 }; looked = 9 }) ≡ 0 ∷ 7 ∷ 8 ∷ 9 ∷ []
  -- a whole turn: an exclusive ask with 9.1.0 and 8.2.0 in an empty queue of two places
  pub turn :
      array_turn 2 (empty_queue (replicate 2 no_waiting)) (asks (waiting 2 38654771200 34359869440))
      ≡ record {
        number = 0;
        fields = 1 ∷ 38654771200 ∷ 34359869440 ∷ 0 ∷ [];
        modes = 2 ∷ 0 ∷ [];
        s = 38654771200 ∷ 0 ∷ [];
        x = 34359869440 ∷ 0 ∷ [];
        kept = 1 ∷ 38654771200 ∷ 34359869440 ∷ [];
      }
  -- lent places by value: those that are lent, then nothing, 32 in all, and no more of more
  pub short : loaded two_apart.places ≡ waiting 1 3 5 ∷ waiting 2 4 6 ∷ replicate 30 no_waiting
  pub long : loaded (replicate 33 (waiting 1 3 5)) ≡ replicate 32 (waiting 1 3 5)
