-- One theorem over the whole system (docs/RULES.md, rule 17.1). Whatever happens, in any order and any number of times:
-- requests, whole runs of them, and recoveries, late, lost, repeated, refused, and cut before any write; appends to redo
-- logs, cut after any store, and logs that begin again; asks, upgrades, leaves and lapses at any number of queues for a
-- card, and queues that are lost; proposals, pairs that are learnt, desks that start again; and a conversion, after
-- which version 2 goes on. If desks keep rules 10.1 to 10.9, then at every moment all of this holds.
-- Assumes nothing.
use Rattle.std.specs.Prelude.{ℕ, ◌≡◌, List, true}
use Rattle.formats.specs.Format.{Format, V1}
use Rattle.lists.specs.Parts.{Bytes}
use Rattle.commands.specs.Command.{Language}
use Rattle.store_model.specs.Words.{Sent}
use Rattle.store_model.specs.Claims.{Claim}
use Rattle.redo_log.specs.Log.{good_log, records}
use Rattle.redo_recovery_model.specs.Recovery.{Pairs, FitsPairs, recovered}
use Rattle.redo_recovery_model.specs.Claims.{text_in, text_of}
use Rattle.lock_queue.specs.declared.Waiting.{Waiting}
use Rattle.desk_system.specs.System.{System, Move, AllFit}
use Rattle.desk_system.specs.Claims.{ByRules, finally, StoreOf, Isolated}

pub record SystemHolds (v : Format) (n c : ℕ) (y : System) : Type 0 where
  -- the store is the one that the requests leave, of a fresh one, over a conversion if there was one
  pub store : StoreOf v n c y.store
  -- of these requests and their log every sentence of demand 3 holds (rules 9.2 to 9.4, 9.6 and 9.7)
  pub requests : List Sent
  pub demand3 : Claim n requests y.store.trace
  -- and sessions are isolated with no premise (rules 9.6 and 10.12)
  pub isolated : Isolated y.store.trace
  -- each redo log is good, and reads back as the records that were wholly appended since it began (rule 11.14)
  pub good_logs : (d : ℕ) → good_log (y.logs d).bytes ≡ true
  pub read_back : (d : ℕ) → records (y.logs d).bytes ≡ (y.logs d).whole
  -- so a recovery from it, now, that answers 0 leaves the texts of the updates among them that are due (rule 11.21)
  pub recovers :
      y.store.version ≡ V1 → (d : ℕ) (pairs : Pairs) → FitsPairs pairs → (recovered pairs (y.logs d).bytes y.store.image).number ≡ 0
      → (l : Language) (k : ℕ)
      → text_in (recovered pairs (y.logs d).bytes y.store.image).image l k ≡ text_of (y.logs d).whole l k (text_in y.store.image l k)

-- A desk's log at the opening.
pub record GoodLog (log : List ℕ) : Type 0 where
  pub good : good_log log ≡ true
  pub bytes : Bytes log

-- Rule 17.1.
abbrev pub OneHistory : Type 0
OneHistory =
    (v : Format) (n c : ℕ) (places : ℕ → ℕ → List Waiting) (logs : ℕ → List ℕ) (steps : List Move) →
    ByRules v n c places logs steps → ((d : ℕ) → GoodLog (logs d)) →
    SystemHolds v n c (finally v n c places logs steps)

-- Rule 17.2: of the logs that holds whatever the moves are, as `StoreFollows` does of the store.
abbrev pub LogsFollow : Type 0
LogsFollow =
    (v : Format) (n c : ℕ) (places : ℕ → ℕ → List Waiting) (logs : ℕ → List ℕ) (steps : List Move) →
    AllFit steps → ((d : ℕ) → GoodLog (logs d)) → (d : ℕ) →
    (good_log ((finally v n c places logs steps).logs d).bytes ≡ true) × (records ((finally v n c places logs steps).logs d).bytes ≡ ((finally v n c places logs steps).logs d).whole)
