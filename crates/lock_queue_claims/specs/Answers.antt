-- Worked cases of the queue's whole answers, and of every way in which a queue is bad or an ask malformed (rules 7.4
-- to 7.15 and 13.5). Proved by computation in proofs/Answers.antt.
-- Assumes nothing.
use Rattle.std.specs.Prelude.{ℕ, ◌≡◌, List, [], ◌∷◌, map, Bool, true, false, replicate}
use Rattle.stamps.specs.Stamp.{stamp, shared, exclusive}
use Rattle.lock_queue.specs.Queue.{State, no_waiting, waiting, standing, desks, holds}
use Rattle.lock_queue.specs.Requests.{Request, asks, leaves, lapses, number, after, answer}
use Rattle.lock_queue.specs.declared.LockAnswer.{LockAnswer}
use Rattle.lock_queue.specs.declared.Waiting.{Waiting}
use Rattle.lock_queue_claims.specs.Trials.{guest, two_shared}
use Rattle.lock_queue_claims.specs.LeaseCases.{one_stands, silent, absent}

-- An answer by its numbers: number, whether the desk holds the lock, the largest s and x, how many entries were looked
-- at.
abbrev pub given : ℕ → Bool → ℕ → ℕ → ℕ → LockAnswer
given n held s x seen = record { number = n; holds = held; largest = record { s = s; x = x }; looked = seen }

-- An answer, and the desks that stand then.
pub record Stage : Type 0 where
  pub answered : LockAnswer
  pub standing : List ℕ

abbrev pub stage : LockAnswer → List ℕ → Stage
stage a ds = record { answered = a; standing = ds }

-- What a list of requests gives, each on the queue as the one before left it.
unfoldable pub stages : ℕ → State → List Request → List Stage
stages lent q [] = []
stages lent q (r ∷ rs) = stage (answer lent q r) (desks (standing (after lent q r))) ∷ stages lent (after lent q r) rs

-- Desk n, with start 0.
abbrev pub seat : ℕ → ℕ
seat n = stamp 0 n 0

-- The table of rule 7.15, row by row; then desk 3, which does not stand, leaves nothing.
abbrev pub TableUpgrade : Type 0
TableUpgrade =
    stages 2 two_shared
    (asks (waiting exclusive (stamp 1 1 0) (stamp 1 1 0))
    ∷ asks (waiting exclusive (stamp 2 2 0) (stamp 1 1 0))
    ∷ asks (waiting exclusive (stamp 2 2 0) (stamp 2 1 0))
    ∷ asks (waiting shared (stamp 3 2 0) (stamp 1 1 0))
    ∷ asks (waiting shared (stamp 3 3 0) (stamp 1 1 0))
    ∷ leaves (seat 3)
    ∷ leaves (seat 2)
    ∷ [])
    ≡ stage (given 11 true (stamp 2 2 0) 0 1) (seat 1 ∷ seat 2 ∷ [])
    ∷ stage (given 0 false (stamp 2 2 0) (stamp 1 1 0) 1) (seat 2 ∷ seat 1 ∷ [])
    ∷ stage (given 12 false (stamp 2 2 0) (stamp 1 1 0) 2) (seat 2 ∷ seat 1 ∷ [])
    ∷ stage (given 12 true (stamp 2 2 0) (stamp 1 1 0) 1) (seat 2 ∷ seat 1 ∷ [])
    ∷ stage (given 13 false (stamp 2 2 0) (stamp 1 1 0) 2) (seat 2 ∷ seat 1 ∷ [])
    ∷ stage (given 15 false (stamp 2 2 0) (stamp 1 1 0) 2) (seat 2 ∷ seat 1 ∷ [])
    ∷ stage (given 0 false (stamp 2 2 0) (stamp 1 1 0) 1) (seat 1 ∷ [])
    ∷ []

-- The order of rule 7.6 on the same queue: 1 before 12, 12 before 11, 11 before 13.
abbrev pub TableOrder : Type 0
TableOrder =
    map (answer 2 (after 2 two_shared (asks (waiting exclusive (stamp 2 2 0) (stamp 1 1 0)))))
    (asks (waiting shared (stamp 3 2 0) 1)
    ∷ asks (waiting shared (stamp 3 2 0) 0)
    ∷ asks (waiting exclusive (stamp 1 3 0) (stamp 1 3 0))
    ∷ asks (waiting shared (stamp 3 3 0) 0)
    ∷ asks (waiting shared (stamp 3 3 0) (stamp 1 1 0))
    ∷ [])
    ≡ given 1 false 0 0 0
    ∷ given 12 true (stamp 2 2 0) (stamp 1 1 0) 1
    ∷ given 11 false (stamp 2 2 0) (stamp 1 1 0) 2
    ∷ given 11 false (stamp 2 2 0) (stamp 1 1 0) 2
    ∷ given 13 false (stamp 2 2 0) (stamp 1 1 0) 2
    ∷ []

-- ---- Denied or not (rule 7.7), and what an accepted entry raises (rule 7.10).

-- Desk 1 stands shared in three places; the largest pair is (5.1.0, 4.1.0).
abbrev pub one_of_three : State
one_of_three =
    record {
      places = waiting shared (stamp 5 1 0) (stamp 4 1 0) ∷ no_waiting ∷ waiting 7 1 1 ∷ [];
      count = 1;
      largest = record { s = stamp 5 1 0; x = stamp 4 1 0 };
    }

-- Shared: a smaller s is no matter, an equal x passes, one below is denied. Exclusive: an equal s passes, one below is
-- denied, and so is an x below. Each largest stamp is raised by itself, and a smaller one raises nothing.
abbrev pub TablePairs : Type 0
TablePairs =
    map (answer 3 one_of_three)
    (asks (waiting shared (stamp 1 2 0) (stamp 4 1 0))
    ∷ asks (waiting shared (stamp 6 2 0) (stamp 3 65535 65535))
    ∷ asks (waiting exclusive (stamp 5 1 0) (stamp 4 2 0))
    ∷ asks (waiting exclusive (stamp 4 9 0) (stamp 6 2 0))
    ∷ asks (waiting exclusive (stamp 6 1 0) (stamp 3 2 0))
    ∷ [])
    ≡ given 0 true (stamp 5 1 0) (stamp 4 1 0) 1
    ∷ given 11 false (stamp 5 1 0) (stamp 4 1 0) 1
    ∷ given 0 false (stamp 5 1 0) (stamp 4 2 0) 1
    ∷ given 11 false (stamp 5 1 0) (stamp 4 1 0) 1
    ∷ given 11 false (stamp 5 1 0) (stamp 4 1 0) 1
    ∷ []

-- An accepted ask takes the first free place, and what stands past it stays.
abbrev pub TakesPlace : Type 0
TakesPlace =
    (after 3 one_of_three (asks (waiting shared (stamp 6 2 0) (stamp 4 1 0)))).places
    ≡ waiting shared (stamp 5 1 0) (stamp 4 1 0) ∷ waiting shared (stamp 6 2 0) (stamp 4 1 0) ∷ waiting 7 1 1 ∷ []

-- ---- Leaving from the middle (rule 7.13), and who holds (rule 7.5).

-- Desks 1 and 2 stand shared, desk 3 exclusive, desk 4 shared; a fifth place holds anything.
abbrev pub four_stand : State
four_stand =
    record {
      places = guest 1 ∷ guest 2 ∷ waiting exclusive (stamp 2 2 0) (stamp 3 3 0) ∷ waiting shared (stamp 4 4 0) (stamp 3 3 0) ∷ waiting 9 2 2 ∷ [];
      count = 4;
      largest = record { s = stamp 4 4 0; x = stamp 3 3 0 };
    }

abbrev pub LeavesMiddle : Type 0
LeavesMiddle =
    after 5 four_stand (leaves (seat 2))
    ≡ record {
      places = guest 1 ∷ waiting exclusive (stamp 2 2 0) (stamp 3 3 0) ∷ waiting shared (stamp 4 4 0) (stamp 3 3 0) ∷ no_waiting ∷ waiting 9 2 2 ∷ [];
      count = 3;
      largest = record { s = stamp 4 4 0; x = stamp 3 3 0 };
    }

-- The two in front hold, the exclusive one and who stands behind it do not, nor does a stranger; when both in front
-- have left, the exclusive one holds alone.
abbrev pub WhoHolds : Type 0
WhoHolds =
    map (λ (q : State). map (λ (n : ℕ). holds (seat n) (standing q)) (1 ∷ 2 ∷ 3 ∷ 4 ∷ 9 ∷ []))
    (four_stand ∷ after 5 (after 5 four_stand (leaves (seat 2))) (leaves (seat 1)) ∷ [])
    ≡ (true ∷ true ∷ false ∷ false ∷ false ∷ []) ∷ (false ∷ false ∷ true ∷ false ∷ false ∷ []) ∷ []

-- ---- Bad queues (rule 7.4).

-- A queue with one lent place more than it may have, and one whose count is above the lent places, by the number of
-- lent places.
pub record LentQueue : Type 0 where
  pub lent : ℕ
  pub queue : State

abbrev pub lent_queue : ℕ → List Waiting → ℕ → ℕ → ℕ → LentQueue
lent_queue lent places count s x = record { lent = lent; queue = record { places = places; count = count; largest = record { s = s; x = x } } }

abbrev pub bad_queues : List LentQueue
bad_queues =
    -- no place, 33 places, more standing than places
    lent_queue 0 [] 0 0 0
    ∷ lent_queue 33 (replicate 33 no_waiting) 0 0 0
    ∷ lent_queue 1 (guest 1 ∷ guest 2 ∷ []) 2 (stamp 2 2 0) 0
    -- a largest s, a largest x without a desk
    ∷ lent_queue 2 (replicate 2 no_waiting) 0 1 0
    ∷ lent_queue 2 (replicate 2 no_waiting) 0 0 1
    -- entries that could not be asked for: no mode, mode 3, shared without s, exclusive without x, an x without a desk
    ∷ lent_queue 1 (no_waiting ∷ []) 1 (stamp 2 2 0) (stamp 2 2 0)
    ∷ lent_queue 1 (waiting 3 (stamp 1 1 0) (stamp 1 1 0) ∷ []) 1 (stamp 2 2 0) (stamp 2 2 0)
    ∷ lent_queue 1 (waiting shared 0 (stamp 1 1 0) ∷ []) 1 (stamp 2 2 0) (stamp 2 2 0)
    ∷ lent_queue 1 (waiting exclusive (stamp 1 1 0) 0 ∷ []) 1 (stamp 2 2 0) (stamp 2 2 0)
    ∷ lent_queue 1 (waiting shared (stamp 1 1 0) 5 ∷ []) 1 (stamp 2 2 0) (stamp 2 2 0)
    -- one desk twice, in one mode and in both
    ∷ lent_queue 2 (guest 1 ∷ waiting shared (stamp 2 1 0) 0 ∷ []) 2 (stamp 2 2 0) (stamp 2 2 0)
    ∷ lent_queue 2 (guest 1 ∷ waiting exclusive 0 (stamp 2 1 0) ∷ []) 2 (stamp 2 2 0) (stamp 2 2 0)
    -- an s, an x above the largest
    ∷ lent_queue 1 (guest 2 ∷ []) 1 (stamp 1 9 0) (stamp 2 2 0)
    ∷ lent_queue 1 (waiting exclusive 0 (stamp 2 2 0) ∷ []) 1 (stamp 2 2 0) (stamp 2 1 0)
    ∷ []

-- Queues at the edge that are good: nothing in 1 and in 32 places, a full one, one place that is not looked at, a desk
-- with two starts, a largest stamp that nobody has any more.
abbrev pub good_queues : List LentQueue
good_queues =
    lent_queue 1 (no_waiting ∷ []) 0 0 0
    ∷ lent_queue 32 (replicate 32 no_waiting) 0 0 0
    ∷ lent_queue 1 (guest 1 ∷ []) 1 (stamp 1 1 0) 0
    ∷ lent_queue 2 (guest 1 ∷ waiting 9 1 1 ∷ []) 1 (stamp 1 1 0) 0
    ∷ lent_queue 2 (guest 1 ∷ waiting shared (stamp 1 1 1) 0 ∷ []) 2 (stamp 1 1 1) 0
    ∷ lent_queue 1 (no_waiting ∷ []) 0 (stamp 9 9 0) (stamp 9 9 9)
    ∷ []

-- Of a bad queue every request gets 10 and nothing else: a well-formed ask, a malformed one, a leave, a lapse, in
-- range and out of range. A good one answers 15 to the leave of a desk that does not stand.
pub record QueuesJudged : Type 0 where
  pub asks_10 : map (λ (b : LentQueue). answer b.lent b.queue (asks (waiting exclusive (stamp 9 9 0) (stamp 9 9 0)))) bad_queues ≡ replicate 14 (given 10 false 0 0 0)
  pub malformed_10 : map (λ (b : LentQueue). answer b.lent b.queue (asks no_waiting)) bad_queues ≡ replicate 14 (given 10 false 0 0 0)
  pub leaves_10 : map (λ (b : LentQueue). answer b.lent b.queue (leaves (seat 1))) bad_queues ≡ replicate 14 (given 10 false 0 0 0)
  pub lapses_10 : map (λ (b : LentQueue). answer b.lent b.queue (lapses (silent 0x3ff0_0000_0000_0000 0x0 0x0 0x3ff0_0000_0000_0000))) bad_queues ≡ replicate 14 (given 10 false 0 0 0)
  pub range_10 : map (λ (b : LentQueue). answer b.lent b.queue (lapses (absent (silent 0x0 0x0 0x0 0x0)))) bad_queues ≡ replicate 14 (given 10 false 0 0 0)
  pub leaves_15 : map (λ (b : LentQueue). number b.lent b.queue (leaves (seat 7))) good_queues ≡ replicate 6 15

-- ---- Malformed asks (rule 7.6): what a bad entry is in a queue, and each of its neighbours that is not.
abbrev pub TableMalformed : Type 0
TableMalformed =
    map (λ (w : Waiting). number 1 (record { places = no_waiting ∷ []; count = 0; largest = record { s = 0; x = 0 } }) (asks w))
    (waiting 0 (stamp 1 1 0) (stamp 1 1 0)
    ∷ waiting 3 (stamp 1 1 0) (stamp 1 1 0)
    ∷ waiting shared 0 (stamp 1 1 0)
    ∷ waiting exclusive (stamp 1 1 0) 0
    ∷ waiting shared (stamp 1 0 9) 0
    ∷ waiting shared (stamp 1 1 0) 65535
    ∷ waiting exclusive 65535 (stamp 1 1 0)
    ∷ waiting shared (stamp 1 1 0) 0
    ∷ waiting shared (stamp 1 1 0) 65536
    ∷ waiting exclusive 0 (stamp 1 1 0)
    ∷ waiting exclusive 65536 65536
    ∷ [])
    ≡ 1 ∷ 1 ∷ 1 ∷ 1 ∷ 1 ∷ 1 ∷ 1 ∷ 0 ∷ 0 ∷ 0 ∷ 0 ∷ []

-- ---- Leaving by lease, whole answers (rules 13.5 and 13.6): over; still running; out of range, of a desk that stands and of one that does not; not standing.
abbrev pub TableLapses : Type 0
TableLapses =
    map (λ r. answer 1 one_stands (lapses r))
    (silent 0x3ff0_0000_0000_0000 0x0 0x0 0x3ff0_0000_0000_0000
    ∷ silent 0x3ff0_0000_0000_0000 0x0 0x0 0x0
    ∷ silent 0x0 0x0 0x0 0x0
    ∷ absent (silent 0x0 0x0 0x0 0x0)
    ∷ absent (silent 0x3ff0_0000_0000_0000 0x0 0x0 0x0)
    ∷ [])
    ≡ given 0 false (stamp 1 1 0) 0 1
    ∷ given 25 true (stamp 1 1 0) 0 1
    ∷ given 21 true (stamp 1 1 0) 0 1
    ∷ given 21 false (stamp 1 1 0) 0 1
    ∷ given 15 false (stamp 1 1 0) 0 1
    ∷ []

-- Who lapses leaves as one who leaves.
abbrev pub LapsedLeaves : Type 0
LapsedLeaves =
    after 1 one_stands (lapses (silent 0x3ff0_0000_0000_0000 0x0 0x0 0x3ff0_0000_0000_0000))
    ≡ record { places = no_waiting ∷ []; count = 0; largest = record { s = stamp 1 1 0; x = 0 } }

-- ---- All of it.
pub record QueueAnswers : Type 0 where
  pub upgrade : TableUpgrade
  pub order : TableOrder
  pub pairs : TablePairs
  pub place : TakesPlace
  pub middle : LeavesMiddle
  pub holders : WhoHolds
  pub queues : QueuesJudged
  pub malformed : TableMalformed
  pub lapses : TableLapses
  pub lapsed : LapsedLeaves
