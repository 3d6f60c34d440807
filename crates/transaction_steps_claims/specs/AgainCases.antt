-- A log that begins again, in bytes (docs/RULES.md, rules 11.27, 16.18 and 16.27). Proved in proofs/Cases.antt.
-- Assumes nothing.
use Rattle.std.specs.Prelude.{ℕ, ◌≡◌, List, [], ◌∷◌, map, true, false, take, drop}
use Rattle.store_model.specs.Cases.{text205}
use Rattle.redo_log.specs.Log.{LogRecord}
use Rattle.redo_log_claims.specs.Claims.{appended_all}
use Rattle.redo_log_claims.specs.Cases.{begin_of, update_of, commit_of, synced_of, empty_log}
use Rattle.transaction_steps.specs.Again.{begins_again, begun_again}

-- A log with these records.
abbrev pub logged_in : List LogRecord → List ℕ
logged_in rs = appended_all (empty_log 32) rs

-- A transaction that is open; the same committed, so that its update is due; and noted as synced.
abbrev pub open_update : List LogRecord
open_update = begin_of 1 ∷ update_of 0 1 text205 ∷ []

abbrev pub due_update : List LogRecord
due_update = begin_of 1 ∷ update_of 0 1 text205 ∷ commit_of 1 ∷ []

abbrev pub done_update : List LogRecord
done_update = begin_of 1 ∷ update_of 0 1 text205 ∷ commit_of 1 ∷ synced_of 0 1 ∷ []

pub record AgainCases : Type 0 where
  -- an empty log, an open transaction, an update due, the same noted as synced; a log that counts a record that is not there, and no bytes
  pub begins :
      map begins_again (empty_log 32 ∷ logged_in open_update ∷ logged_in due_update ∷ logged_in done_update ∷ (1 ∷ drop 1 (empty_log 32)) ∷ [] ∷ [])
      ≡ true ∷ true ∷ false ∷ true ∷ false ∷ false ∷ []
  -- one store: the count is 0, and the first line, at its place 2,201, and all behind it stand as they did
  pub front : take 6 (begun_again (logged_in open_update)) ≡ 0 ∷ 1 ∷ 153 ∷ 8 ∷ 0 ∷ 0 ∷ []
  pub behind : drop 1 (begun_again (logged_in open_update)) ≡ drop 1 (logged_in open_update)
  -- what is due is not lost
  pub kept : begun_again (logged_in due_update) ≡ logged_in due_update
