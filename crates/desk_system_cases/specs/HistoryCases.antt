-- Worked runs of the whole system, by computation on bytes, and what the one theorem needs. Proved in
-- proofs/Runs.antt.
-- Assumes nothing.
use Rattle.std.specs.Prelude.{ℕ, ◌≡◌, List, [], ◌∷◌, map, true, false, take}
use Rattle.formats.specs.Format.{V1, V2}
use Rattle.stamps.specs.Stamp.{stamp, shared, exclusive}
use Rattle.lock_queue.specs.Queue.{waiting}
use Rattle.lock_queue.specs.Requests.{asks}
use Rattle.store_model.specs.Claims.{Intruded}
use Rattle.store_model.specs.Cases.{sent_d, text205, text401, long}
use Rattle.redo_log.specs.Log.{LogRecord, good_log}
use Rattle.redo_log_claims.specs.Claims.{appended_all}
use Rattle.redo_log_claims.specs.Cases.{begin_of, update_of, commit_of, empty_log}
use Rattle.desk_system.specs.System.{Move, begin, propose, at_queue, send, recover_with, convert, append_to, renew_log, opening, system_after, by_rules}
use Rattle.desk_system_cases.specs.Trials.{desk_one, two_places, single_card, run_end, read_under, pairs_for, send2, heard}

-- A transaction of both texts of card 0, and a log that holds it.
abbrev pub both_updates : List LogRecord
both_updates = begin_of 1 ∷ update_of 0 1 text205 ∷ update_of 0 2 text401 ∷ commit_of 1 ∷ []

abbrev pub both_logged : List ℕ
both_logged = appended_all (empty_log 64) both_updates

abbrev pub lived : List Move
lived =
    -- desk 1 asks two managers, under (0, 0.1.0)
    begin desk_one
    ∷ propose desk_one 0 exclusive
    ∷ at_queue 0 0 2 (asks (waiting exclusive 0 (stamp 0 1 0)))
    ∷ at_queue 0 1 2 (asks (waiting exclusive 0 (stamp 0 1 0)))
    -- it logs a transaction: an append is cut and made again, and the commit is cut before its last store
    ∷ append_to 1 99 (begin_of 1)
    ∷ append_to 1 10 (update_of 0 1 text205)
    ∷ append_to 1 99 (update_of 0 1 text205)
    ∷ append_to 1 99 (update_of 0 2 text401)
    ∷ append_to 1 15 (commit_of 1)
    ∷ append_to 1 16 (commit_of 1)
    -- a recovery is cut before its last write; the original stands then, and the next one writes both
    ∷ recover_with (pairs_for 0 (stamp 0 1 0)) both_logged 1
    ∷ recover_with (pairs_for 0 (stamp 0 1 0)) both_logged 0
    ∷ propose desk_one 0 shared
    ∷ send (read_under (stamp 0 1 0) (stamp 0 1 0))
    -- the log begins again, the store is converted, and both go on
    ∷ renew_log 1
    ∷ convert 144
    ∷ append_to 1 99 (begin_of 2)
    ∷ propose desk_one 0 exclusive
    ∷ send (send2 1 0 (stamp 0 1 0) (stamp 1 1 0) 0 [] (long 3))
    ∷ []

pub record Lived : Type 0 where
  pub rules : by_rules single_card lived ≡ true
  -- a cut append is no record; cut and made again it is one, and the log is the bytes of one that was never cut
  pub cut : ((system_after single_card (take 9 lived)).logs 1).whole ≡ begin_of 1 ∷ update_of 0 1 text205 ∷ update_of 0 2 text401 ∷ []
  pub logged : (system_after single_card (take 10 lived)).logs 1 ≡ record { bytes = both_logged; whole = both_updates }
  -- the answers of queues and store: one write of the recovery that is cut, two of the other; what the commands show: the
  -- writes nothing, both reads what the recovery wrote
  pub ends :
      run_end (system_after single_card lived)
      ≡ record {
        version = V2;
        whole = begin_of 2 ∷ [];
        answers =
            heard 0 0 (stamp 0 1 0)
            ∷ heard 0 0 (stamp 0 1 0)
            ∷ heard 0 0 (stamp 0 1 0)
            ∷ heard 0 0 (stamp 0 1 0)
            ∷ heard 0 0 (stamp 0 1 0)
            ∷ heard 0 (stamp 0 1 0) (stamp 0 1 0)
            ∷ heard 0 (stamp 0 1 0) (stamp 1 1 0)
            ∷ [];
        shows = [] ∷ [] ∷ [] ∷ text205 ∷ text205 ∷ [];
      }

-- Rule 17.2: what the theorem needs. Commands that nobody proposed: a desk stands between two commands of a session. A log
-- that is bad at the beginning: it stays so, and takes no record.
pub record HistoryNeeds : Type 0 where
  pub unruled : by_rules single_card (map send sent_d) ≡ false
  pub intruded : Intruded (system_after single_card (map send sent_d)).store.trace
  pub bad_log : good_log ((system_after (opening V1 1 16 two_places (λ d. [])) (append_to 1 99 (begin_of 1) ∷ [])).logs 1).bytes ≡ false
  pub no_record : ((system_after (opening V1 1 16 two_places (λ d. [])) (append_to 1 99 (begin_of 1) ∷ [])).logs 1).whole ≡ []
