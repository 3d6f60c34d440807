-- Desks by the rules in a computed story, and for each rule one run in which it alone is broken, and with it demand
-- 3's premise. Proved by computation in proofs/Runs.antt.
-- Assumes nothing.
use Rattle.std.specs.Prelude.{ℕ, ◌≡◌, List, [], ◌∷◌, ◌++◌, map, reverse, true, false, take, replicate}
use Rattle.std.specs.Float.{binary64}
use Rattle.std.specs.Float.Ieee.{of_bits}
use Rattle.formats.specs.Format.{Format, V1, V2}
use Rattle.stamps.specs.Stamp.{stamp, shared, exclusive, no_pair}
use Rattle.stamps.specs.declared.Pair.{Pair}
use Rattle.lock_queue.specs.Queue.{no_waiting, waiting, standing, holds}
use Rattle.lock_queue.specs.Requests.{asks, leaves, lapses}
use Rattle.lock_queue.specs.declared.LeaseExpiry.{LeaseExpiry}
use Rattle.lock_queue.specs.declared.Waiting.{Waiting}
use Rattle.commands.specs.Bytes.{fields_of}
use Rattle.store_model.specs.Serve.{serve}
use Rattle.store_model.specs.Words.{Sent, Event, carries, under, premise, commands_in}
use Rattle.store_model.specs.Cases.{pair, request, request_of2, write_original, request_opening, text205, text401, long}
use Rattle.redo_log.specs.Log.{LogRecord}
use Rattle.redo_log_claims.specs.Claims.{appended_all}
use Rattle.redo_log_claims.specs.Cases.{begin_of, update_of, commit_of, empty_log}
use Rattle.redo_recovery_model.specs.Recovery.{Pairs}
use Rattle.desk_system.specs.System.{
  System,
  Move,
  Told,
  begin,
  propose,
  at_queue,
  lose,
  send,
  recover_with,
  convert,
  learn,
  opening,
  allowed,
  with_store,
  with_queue,
  with_known,
  with_made,
  step_to,
  system_after,
  by_rules,
}

-- Desks 1, 2 and 3, each with start 0, and desk 2 with start 1; a store with one card of room 16, and queues of two
-- places; but for one story every card has one manager, 0.
abbrev pub desk_one : ℕ
desk_one = stamp 0 1 0

abbrev pub desk_two : ℕ
desk_two = stamp 0 2 0

abbrev pub desk_two_again : ℕ
desk_two_again = stamp 0 2 1

abbrev pub desk_three : ℕ
desk_three = stamp 0 3 0

abbrev pub two_places : ℕ → ℕ → List Waiting
two_places k m = no_waiting ∷ no_waiting ∷ []

-- Each desk's redo log is empty, with 64 bytes for bodies.
abbrev pub blank_logs : ℕ → List ℕ
blank_logs d = empty_log 64

-- An ask and a leave at a queue of two places.
abbrev pub ask : ℕ → Waiting → Move
ask card new = at_queue card 0 2 (asks new)

abbrev pub leave : ℕ → ℕ → Move
leave card desk = at_queue card 0 2 (leaves desk)

abbrev pub single_card : System
single_card = opening V1 1 16 two_places blank_logs

-- What a run leaves: the store's version, the records of desk 1's log, and in order the answers and what the commands
-- show.
pub record RunEnd : Type 0 where
  pub version : Format
  pub whole : List LogRecord
  pub answers : List Told
  pub shows : List (List ℕ)

abbrev pub run_end : System → RunEnd
run_end y =
    record {
      version = y.store.version;
      whole = (y.logs 1).whole;
      answers = reverse y.desks.told;
      shows = map (λ (e : Event). take e.answer.length e.reply) (reverse y.store.trace);
    }

-- A read of card 0's original under a pair; a write of it is `write_original`.
abbrev pub read_under : ℕ → ℕ → Sent
read_under s x = request 1 shared (pair s x) 0 [] (long 3)

-- A write that relies on one pair and opens another.
abbrev pub write_opening : Pair → Pair → List ℕ → Sent
write_opening p opened text = request_opening 3 exclusive p opened 0 text []

-- ---- a story by the rules

abbrev pub story : List Move
story =
    begin desk_one
    ∷ begin desk_two
    -- desk 1 reads under (0.1.0, 0)
    ∷ propose desk_one 0 shared
    ∷ ask 0 (waiting shared (stamp 0 1 0) 0)
    ∷ send (read_under (stamp 0 1 0) 0)
    -- desk 2 knows nothing, asks exclusive under (0, 0.2.0) and is denied; with the denial's pair it proposes (0.1.0,
    -- 1.2.0), and writes
    ∷ propose desk_two 0 exclusive
    ∷ ask 0 (waiting exclusive 0 (stamp 0 2 0))
    ∷ learn desk_two 0 (pair (stamp 0 1 0) 0)
    ∷ propose desk_two 0 exclusive
    ∷ ask 0 (waiting exclusive (stamp 0 1 0) (stamp 1 2 0))
    ∷ leave 0 desk_one
    ∷ send (write_original (stamp 0 1 0) (stamp 1 2 0) text205)
    -- desk 1's session is stale now; it learns, and reads under desk 2's exclusive stamp with a larger s
    ∷ send (read_under (stamp 0 1 0) 0)
    ∷ learn desk_one 0 (pair (stamp 0 1 0) (stamp 1 2 0))
    ∷ leave 0 desk_two
    ∷ propose desk_one 0 shared
    ∷ ask 0 (waiting shared (stamp 1 1 0) (stamp 1 2 0))
    ∷ send (read_under (stamp 1 1 0) (stamp 1 2 0))
    -- a malformed ask may carry anything; an old answer to desk 1 is learnt late, by desk 2
    ∷ ask 0 (waiting 3 0 0)
    ∷ learn desk_two 0 (pair (stamp 0 1 0) 0)
    -- desk 1 upgrades, and writes: the command relies on its shared session and opens the exclusive one
    ∷ propose desk_one 0 exclusive
    ∷ ask 0 (waiting exclusive (stamp 1 1 0) (stamp 2 1 0))
    ∷ send (write_opening (pair (stamp 1 1 0) (stamp 1 2 0)) (pair (stamp 1 1 0) (stamp 2 1 0)) text401)
    -- malformed bytes are free too; desk 2's write comes again, late
    ∷ send (record { command = 1 ∷ 2 ∷ 0 ∷ []; lent = [] })
    ∷ send (write_original (stamp 0 1 0) (stamp 1 2 0) text205)
    -- the queue is lost; desk 2 starts again, knows nothing and is let in, but the guard is not taken in
    ∷ lose 0 0 (no_waiting ∷ no_waiting ∷ [])
    ∷ begin desk_two_again
    ∷ propose desk_two_again 0 exclusive
    ∷ ask 0 (waiting exclusive 0 (stamp 0 2 1))
    ∷ send (write_original 0 (stamp 0 2 1) text205)
    -- it learns from the guard's reply, leaves, and reads what desk 1 wrote
    ∷ learn desk_two_again 0 (pair (stamp 1 1 0) (stamp 2 1 0))
    ∷ propose desk_two_again 0 shared
    ∷ leave 0 desk_two_again
    ∷ ask 0 (waiting shared (stamp 1 2 1) (stamp 2 1 0))
    ∷ send (read_under (stamp 1 2 1) (stamp 2 1 0))
    ∷ []

-- An answer for card 0.
abbrev pub heard : ℕ → ℕ → ℕ → Told
heard number s x = record { card = 0; number = number; pair = pair s x }

pub record Story : Type 0 where
  pub rules : by_rules single_card story ≡ true
  -- the answers of queues and store, and what its commands show
  pub ends :
      run_end (system_after single_card story)
      ≡ record {
        version = V1;
        whole = [];
        answers =
            heard 0 (stamp 0 1 0) 0
            ∷ heard 0 (stamp 0 1 0) 0
            ∷ heard 11 (stamp 0 1 0) 0
            ∷ heard 0 (stamp 0 1 0) (stamp 1 2 0)
            ∷ heard 0 (stamp 0 1 0) (stamp 1 2 0)
            ∷ heard 0 (stamp 0 1 0) (stamp 1 2 0)
            ∷ heard 3 (stamp 0 1 0) (stamp 1 2 0)
            ∷ heard 0 (stamp 0 1 0) (stamp 1 2 0)
            ∷ heard 0 (stamp 1 1 0) (stamp 1 2 0)
            ∷ heard 0 (stamp 1 1 0) (stamp 1 2 0)
            ∷ heard 1 0 0
            ∷ heard 0 (stamp 1 1 0) (stamp 2 1 0)
            ∷ heard 0 (stamp 1 1 0) (stamp 2 1 0)
            ∷ heard 1 0 0
            ∷ heard 3 (stamp 1 1 0) (stamp 2 1 0)
            ∷ heard 0 0 (stamp 0 2 1)
            ∷ heard 3 (stamp 1 1 0) (stamp 2 1 0)
            ∷ heard 0 0 (stamp 0 2 1)
            ∷ heard 0 (stamp 1 2 1) (stamp 2 1 0)
            ∷ heard 0 (stamp 1 2 1) (stamp 2 1 0)
            ∷ [];
        shows = [] ∷ [] ∷ [] ∷ text205 ∷ [] ∷ [] ∷ [] ∷ [] ∷ text401 ∷ [];
      }
  -- the premise has something to say of it: a shared command carries the stamp of an exclusive one
  pub carried : carries (fields_of V1 (read_under (stamp 1 1 0) (stamp 1 2 0)).command) ≡ true
  pub below : under (stamp 1 2 0) (fields_of V1 (write_original (stamp 0 1 0) (stamp 1 2 0) text205).command) ≡ true

-- ---- a story with every other step: lapses, queues with other places, a recovery, a conversion

-- Desk n, with start 0, fell silent: a lease of 1, no drift, since 0, and the time now by its bits.
abbrev pub expiry : ℕ → ℕ → ℕ → LeaseExpiry
expiry n period now =
    record {
      desk = stamp 0 n 0;
      lease = record { period = of_bits binary64 period; drift = of_bits binary64 0 };
      begin = of_bits binary64 0;
      now = of_bits binary64 now;
    }

-- A redo log in which `205` is committed for card 0, and the pair for it.
abbrev pub committed : List ℕ
committed = appended_all (empty_log 16) (begin_of 1 ∷ update_of 0 1 text205 ∷ commit_of 1 ∷ [])

abbrev pub pairs_for : ℕ → ℕ → Pairs
pairs_for s x = record { s = s ∷ []; x = x ∷ [] }

-- A command of version 2 for card 0 under a pair: a read of the original, and a write of a translation in a language.
abbrev pub send2 : ℕ → ℕ → ℕ → ℕ → ℕ → List ℕ → List ℕ → Sent
send2 act language s x edition text lent = request_of2 act language (pair s x) no_pair edition text lent

abbrev pub long_story : List Move
long_story =
    begin desk_one
    ∷ begin desk_two
    -- desk 1 asks exclusive under (0, 0.1.0) and recovers under it, twice
    ∷ propose desk_one 0 exclusive
    ∷ at_queue 0 0 2 (asks (waiting exclusive 0 (stamp 0 1 0)))
    ∷ recover_with (pairs_for 0 (stamp 0 1 0)) committed 0
    ∷ recover_with (pairs_for 0 (stamp 0 1 0)) committed 0
    -- no log at all, and no pair: nothing is sent, or what is malformed
    ∷ recover_with (pairs_for 0 0) [] 0
    ∷ recover_with (pairs_for 0 0) committed 0
    -- a desk that never started leaves; desk 1 lapses: out of range, not yet, over
    ∷ at_queue 0 0 2 (leaves desk_three)
    ∷ at_queue 0 0 2 (lapses (expiry 1 0 0))
    ∷ at_queue 0 0 2 (lapses (expiry 1 0x3ff0_0000_0000_0000 0))
    ∷ at_queue 0 0 2 (lapses (expiry 1 0x3ff0_0000_0000_0000 0x3ff0_0000_0000_0000))
    -- the queue is lost and begins again with three places, then with 33, which are too many
    ∷ lose 0 0 (replicate 3 no_waiting)
    ∷ at_queue 0 0 3 (asks (waiting exclusive 0 (stamp 0 1 0)))
    ∷ lose 0 0 (replicate 33 no_waiting)
    ∷ at_queue 0 0 33 (asks (waiting exclusive 0 (stamp 0 1 0)))
    -- desk 2 learns from the guard's reply, the store is converted, into too few bytes and into enough, and once more
    ∷ learn desk_two 0 (pair 0 (stamp 0 1 0))
    ∷ convert 143
    ∷ convert 144
    ∷ convert 144
    -- a recovery leaves version 2 alone; desk 1's command comes late; desk 2 reads and writes in language 3
    ∷ recover_with (pairs_for 0 (stamp 0 1 0)) committed 0
    ∷ propose desk_two 0 exclusive
    ∷ send (send2 1 0 0 (stamp 0 2 0) 0 [] (long 3))
    ∷ send (send2 3 0 0 (stamp 0 1 0) 0 text205 [])
    ∷ send (send2 4 3 0 (stamp 0 2 0) 2 text401 [])
    ∷ []

pub record LongStory : Type 0 where
  pub rules : by_rules single_card long_story ≡ true
  -- the answers, in order: an ask; three writes of recovery, the last malformed; a leave and three lapses; two asks;
  -- three commands of version 2. The read after the conversion shows what the recovery wrote before it
  pub ends :
      run_end (system_after single_card long_story)
      ≡ record {
        version = V2;
        whole = [];
        answers =
            heard 0 0 (stamp 0 1 0)
            ∷ heard 0 0 (stamp 0 1 0)
            ∷ heard 0 0 (stamp 0 1 0)
            ∷ heard 1 0 0
            ∷ heard 15 0 (stamp 0 1 0)
            ∷ heard 21 0 (stamp 0 1 0)
            ∷ heard 25 0 (stamp 0 1 0)
            ∷ heard 0 0 (stamp 0 1 0)
            ∷ heard 0 0 (stamp 0 1 0)
            ∷ heard 10 0 0
            ∷ heard 0 0 (stamp 0 2 0)
            ∷ heard 3 0 (stamp 0 2 0)
            ∷ heard 0 0 (stamp 0 2 0)
            ∷ [];
        shows = [] ∷ [] ∷ [] ∷ text205 ∷ [] ∷ [] ∷ [];
      }
  -- a recovery under a pair that nobody proposed is not by the rules, nor under one that was proposed shared
  pub not_proposed : allowed (system_after single_card (begin desk_one ∷ [])) (recover_with (pairs_for 0 (stamp 0 1 0)) committed 0) ≡ false
  pub not_exclusive :
      allowed (system_after single_card (begin desk_one ∷ propose desk_one 0 shared ∷ [])) (recover_with (pairs_for (stamp 0 1 0) (stamp 0 1 0)) committed 0) ≡ false

-- ---- managers that do not agree

-- A request at a manager's queue of card 0.
abbrev pub ask_of : ℕ → Waiting → Move
ask_of manager new = at_queue 0 manager 2 (asks new)

-- Desks 1 and 2 know nothing, and each is granted the lock, exclusive, by a manager of its own; desk 3 asks nobody. All
-- three write card 0. Then manager 1 loses its queue, and desk 1 asks it too, under its old pair.
abbrev pub many_managers : List Move
many_managers =
    begin desk_one
    ∷ begin desk_two
    ∷ begin desk_three
    ∷ propose desk_one 0 exclusive
    ∷ propose desk_two 0 exclusive
    ∷ propose desk_three 0 exclusive
    ∷ ask_of 0 (waiting exclusive 0 (stamp 0 1 0))
    ∷ ask_of 1 (waiting exclusive 0 (stamp 0 2 0))
    ∷ send (write_original 0 (stamp 0 1 0) text205)
    ∷ send (write_original 0 (stamp 0 2 0) text401)
    -- desk 1 still holds at its manager, but its session is over
    ∷ send (write_original 0 (stamp 0 1 0) text205)
    ∷ send (write_original 0 (stamp 0 3 0) text205)
    ∷ send (write_original 0 (stamp 0 2 0) text401)
    ∷ lose 0 1 (no_waiting ∷ no_waiting ∷ [])
    ∷ ask_of 1 (waiting exclusive 0 (stamp 0 1 0))
    -- what one manager tells is learnt as what another does
    ∷ learn desk_one 0 (pair 0 (stamp 0 2 0))
    ∷ []

-- Rule 10.23: both desks hold, each by its manager; the guard keeps their sessions apart.
pub record ManyManagers : Type 0 where
  pub rules : by_rules single_card many_managers ≡ true
  pub answers :
      reverse (system_after single_card many_managers).desks.told
      ≡ heard 0 0 (stamp 0 1 0)
      ∷ heard 0 0 (stamp 0 2 0)
      ∷ heard 0 0 (stamp 0 1 0)
      ∷ heard 0 0 (stamp 0 2 0)
      ∷ heard 3 0 (stamp 0 2 0)
      ∷ heard 0 0 (stamp 0 3 0)
      ∷ heard 3 0 (stamp 0 3 0)
      ∷ heard 0 0 (stamp 0 1 0)
      ∷ []
  pub held_0 : holds desk_one (standing ((system_after single_card many_managers).queues 0 0)) ≡ true
  pub held_1 : holds desk_two (standing ((system_after single_card (take 13 many_managers)).queues 0 1)) ≡ true

-- ---- one rule broken

-- Steps by the rules, one that is not, and steps by the rules: what was sent breaks the premise of card 0.
pub record BrokenBy (lead : List Move) (wrong : Move) (rest : List Move) : Type 0 where
  pub before : by_rules single_card lead ≡ true
  pub refused : allowed (system_after single_card lead) wrong ≡ false
  pub after : by_rules (step_to (system_after single_card lead) wrong) rest ≡ true
  pub broken : premise 0 (commands_in (system_after single_card (lead ++ wrong ∷ rest)).store.trace) ≡ false

-- The same with a change of the system that is no step.
pub record BrokenWith (lead : List Move) (wrong : System → System) (rest : List Move) : Type 0 where
  pub before : by_rules single_card lead ≡ true
  pub after : by_rules (wrong (system_after single_card lead)) rest ≡ true
  pub broken : premise 0 (commands_in (system_after (wrong (system_after single_card lead)) rest).store.trace) ≡ false

-- Desk 3 asks under (0.3.0, 0), so that a pair with an s and no x is told.
abbrev pub three_asks : List Move
three_asks = begin desk_three ∷ propose desk_three 0 shared ∷ ask 0 (waiting shared (stamp 0 3 0) 0) ∷ []

-- Desk 1 writes under (0, 0.1.0).
abbrev pub one_writes : List Move
one_writes = begin desk_one ∷ propose desk_one 0 exclusive ∷ send (write_original 0 (stamp 0 1 0) text205) ∷ []

-- Desk 2 learns that, and reads under (0.2.0, 0.1.0).
abbrev pub two_reads : List Move
two_reads =
    begin desk_two
    ∷ learn desk_two 0 (pair 0 (stamp 0 1 0))
    ∷ propose desk_two 0 shared
    ∷ send (read_under (stamp 0 2 0) (stamp 0 1 0))
    ∷ []

-- Desk 1, which knows no x, learns desk 3's s, proposes (0.3.0, 0.1.0) and writes: with what it wrote and desk 2 read
-- before, that breaks the premise.
abbrev pub one_above : List Move
one_above =
    learn desk_one 0 (pair (stamp 0 3 0) 0)
    ∷ propose desk_one 0 exclusive
    ∷ send (write_original (stamp 0 3 0) (stamp 0 1 0) text401)
    ∷ []

-- Desk 2, which knows (0, 0.1.0), proposes (0.2.0, 0.1.0) and reads.
abbrev pub two_below : List Move
two_below = propose desk_two 0 shared ∷ send (read_under (stamp 0 2 0) (stamp 0 1 0)) ∷ []

-- Desk 1 proposes exclusive for card 1, which no command names, and asks there.
abbrev pub one_elsewhere : List Move
one_elsewhere = begin desk_one ∷ propose desk_one 1 exclusive ∷ ask 1 (waiting exclusive 0 (stamp 0 1 0)) ∷ []

-- Desk 3 asks for card 1, and desk 1 proposes (0.3.0, 0.1.0) for card 1.
abbrev pub above_elsewhere : List Move
above_elsewhere =
    begin desk_three
    ∷ propose desk_three 1 shared
    ∷ ask 1 (waiting shared (stamp 0 3 0) 0)
    ∷ learn desk_one 1 (pair (stamp 0 3 0) 0)
    ∷ propose desk_one 1 exclusive
    ∷ []

-- A proposal for card 0 that is not what the desk's knowledge gives.
abbrev pub forges : ℕ → ℕ → ℕ → System → System
forges mode s x y = with_made (record { card = 0; mode = mode; pair = pair s x }) y

-- Desk 2, which knows nothing, learns the x 0.1.0 at the store or at the queue, and reads under (1.2.0, 0.1.0).
abbrev pub two_learns_at : Move → List Move
two_learns_at first =
    begin desk_two
    ∷ propose desk_two 0 shared
    ∷ first
    ∷ learn desk_two 0 (pair 0 (stamp 0 1 0))
    ∷ propose desk_two 0 shared
    ∷ send (read_under (stamp 1 2 0) (stamp 0 1 0))
    ∷ []

-- Desk 3 asks under its second shared proposal, and desk 1 writes under (1.3.0, 0.1.0).
abbrev pub one_far_above : List Move
one_far_above =
    begin desk_three
    ∷ propose desk_three 0 shared
    ∷ propose desk_three 0 shared
    ∷ ask 0 (waiting shared (stamp 1 3 0) 0)
    ∷ begin desk_one
    ∷ learn desk_one 0 (pair (stamp 1 3 0) 0)
    ∷ propose desk_one 0 exclusive
    ∷ send (write_original (stamp 1 3 0) (stamp 0 1 0) text401)
    ∷ []

-- Rule 10.15.
pub record RulesNeeded : Type 0 where
  -- rule 10.9: desk 1 starts again under the same start, and proposes its old exclusive stamp with a larger s
  pub start_again : BrokenBy (three_asks ++ (one_writes ++ two_reads)) (begin desk_one) one_above
  -- rule 10.8: a command under a pair that nobody proposed; one that relies on a pair that was proposed and opens one
  -- that was not; under one that was proposed in the other mode; for another card
  pub never_proposed : BrokenBy (one_writes ++ two_reads) (send (write_original (stamp 0 3 0) (stamp 0 1 0) text401)) []
  pub never_proposed_update :
      BrokenBy (one_writes ++ two_reads) (send (write_opening (pair 0 (stamp 0 1 0)) (pair (stamp 0 3 0) (stamp 0 1 0)) text401)) []
  pub other_mode : BrokenBy (one_writes ++ two_reads) (send (write_original (stamp 0 2 0) (stamp 0 1 0) text401)) []
  pub other_card :
      BrokenBy (one_writes ++ (two_reads ++ above_elsewhere)) (send (write_original (stamp 0 3 0) (stamp 0 1 0) text401)) []
  -- rule 10.8: an ask under a pair that nobody proposed, at a queue that was just lost: it is told, and learnt
  pub never_proposed_ask :
      BrokenBy (three_asks ++ (begin desk_one ∷ begin desk_two ∷ lose 0 0 (no_waiting ∷ no_waiting ∷ []) ∷ []))
      (ask 0 (waiting exclusive 0 (stamp 0 1 0)))
      (learn desk_two 0 (pair 0 (stamp 0 1 0)) ∷ two_below ++ one_above)
  -- rule 10.1: desk 2 learns an x without the s beside it; a pair that was told for another card
  pub half_learnt :
      BrokenBy (three_asks ++ (begin desk_one ∷ one_above ++ (begin desk_two ∷ []))) (learn desk_two 0 (pair 0 (stamp 0 1 0))) two_below
  pub learnt_elsewhere :
      BrokenBy (one_elsewhere ++ (three_asks ++ (one_above ++ (begin desk_two ∷ [])))) (learn desk_two 0 (pair 0 (stamp 0 1 0))) two_below
  -- rule 10.7: desk 1 forgets its own proposal
  pub own_forgotten : BrokenWith (three_asks ++ (one_writes ++ two_reads)) (with_known desk_one (λ k. no_pair)) one_above
  -- rule 10.4: a shared proposal with an s that is not above the known one; with an x that is not the known one
  pub not_above :
      BrokenWith (three_asks ++ (begin desk_one ∷ one_above ++ (begin desk_two ∷ learn desk_two 0 (pair (stamp 0 3 0) (stamp 0 1 0)) ∷ [])))
      (forges shared (stamp 0 2 0) (stamp 0 1 0))
      (send (read_under (stamp 0 2 0) (stamp 0 1 0)) ∷ [])
  pub guessed :
      BrokenWith (three_asks ++ (begin desk_one ∷ begin desk_two ∷ [])) (forges shared (stamp 0 2 0) (stamp 0 1 0))
      (send (read_under (stamp 0 2 0) (stamp 0 1 0)) ∷ one_above)
  -- rule 10.5: an exclusive proposal with an x that is not above the known one
  pub kept_x :
      BrokenWith (one_writes ++ two_reads) (forges exclusive (stamp 0 2 0) (stamp 0 1 0))
      (send (write_original (stamp 0 2 0) (stamp 0 1 0) text401) ∷ [])
  -- rule 10.11: something known, stored or queued at the opening
  pub knew :
      BrokenWith (three_asks ++ (begin desk_one ∷ begin desk_two ∷ [])) (with_known desk_two (λ k. pair 0 (stamp 0 1 0)))
      (two_below ++ one_above)
  pub stored :
      BrokenWith [] (λ y. with_store V1 (serve V1 y.store.image (write_original 0 (stamp 0 1 0) text205).command []).image y.store.trace y)
      (two_learns_at (send (read_under (stamp 0 2 0) 0)) ++ one_far_above)
  pub queued :
      BrokenWith []
      (with_queue 0 0 (record { places = no_waiting ∷ no_waiting ∷ []; count = 0; largest = pair 0 (stamp 0 1 0) }))
      (two_learns_at (ask 0 (waiting shared (stamp 0 2 0) 0)) ++ (lose 0 0 (no_waiting ∷ no_waiting ∷ []) ∷ one_far_above))
