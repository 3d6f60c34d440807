-- What can be written and what cannot, at the edges, with what a recovery answers; and a log that is taken over. By
-- computation on bytes, proved in proofs/Cases.antt.
-- Assumes nothing.
use Rattle.std.specs.Prelude.{ℕ, ◌≡◌, List, [], ◌∷◌, ◌++◌, map, Bool, true, false, cond}
use Rattle.formats.specs.Format.{V1}
use Rattle.stamps.specs.Stamp.{no_pair, no_mark}
use Rattle.image.specs.Image.{encode, fresh}
use Rattle.store_model.specs.Cases.{long, text205, text401}
use Rattle.redo_log.specs.Log.{LogRecord, records}
use Rattle.redo_log_claims.specs.Claims.{appended_all}
use Rattle.redo_log_claims.specs.Cases.{begin_of, update_of, commit_of, empty_log}
use Rattle.redo_recovery_model.specs.Recovery.{Pairs, recovered}
use Rattle.transactions.specs.System.{Step, lawful}
use Rattle.transactions_cases.specs.Cases.{five, logs, ready, single}
use Rattle.transactions_progress.specs.Progress.{can_finish, good_pairs}
use Rattle.transactions_progress.specs.Holders.{Holders, seen_as, Acting, takes, acts, comes, is_act, lawful_acting, after_actings, lawful_actings, holders_opening}

-- A log with one committed transaction of these updates.
abbrev pub logged_once : List LogRecord → List ℕ
logged_once us = appended_all (empty_log 64) (begin_of 1 ∷ us ++ (commit_of 1 ∷ []))

-- This x for each of three cards.
abbrev pub each_under : ℕ → Pairs
each_under x = record { s = []; x = x ∷ x ∷ x ∷ [] }

-- One card with room 16 at an edition.
abbrev pub card_at_edition : ℕ → List ℕ
card_at_edition n = encode V1 (record { room = 16; cards = record { pair = no_pair; mark = no_mark; edition = n; original = []; translated = record { from = 0; text = [] } ∷ [] } ∷ [] })

-- An image and updates; whether they can be written; and what a recovery under a good pair answers.
pub record Attempt : Type 0 where
  pub image : List ℕ
  pub updates : List LogRecord

pub record Attempted : Type 0 where
  pub can : Bool
  pub number : ℕ

abbrev pub attempted : Attempt → Attempted
attempted a =
    record {
      can = can_finish a.image (records (logged_once a.updates));
      number = (recovered (each_under (five 1)) (logged_once a.updates) a.image).number;
    }

abbrev pub attempt : List ℕ → List LogRecord → Attempt
attempt image updates = record { image = image; updates = updates }

abbrev pub it_tells : Bool → ℕ → Attempted
it_tells can number = record { can = can; number = number }

pub record FinishCases : Type 0 where
  -- a text of 16 bytes, and of 17, in a room of 16
  pub room : map attempted (attempt (fresh V1 2 16) (update_of 1 1 (long 16) ∷ []) ∷ attempt (fresh V1 2 16) (update_of 1 1 (long 17) ∷ []) ∷ []) ≡ it_tells true 0 ∷ it_tells false 5 ∷ []
  -- card 2 of two
  pub cards : map attempted (attempt (fresh V1 2 16) (update_of 2 1 text205 ∷ []) ∷ []) ≡ it_tells false 2 ∷ []
  -- a translation without an original, behind one of the same transaction, and in front of it
  pub sides :
      map attempted
      (attempt (fresh V1 2 16) (update_of 0 2 text401 ∷ [])
      ∷ attempt (fresh V1 2 16) (update_of 0 1 text205 ∷ update_of 0 2 text401 ∷ [])
      ∷ attempt (fresh V1 2 16) (update_of 0 2 text401 ∷ update_of 0 1 text205 ∷ [])
      ∷ [])
      ≡ it_tells false 1 ∷ it_tells true 0 ∷ it_tells false 1 ∷ []
  -- one edition left, for one write of the original and for two
  pub editions :
      map attempted (attempt (card_at_edition 65534) (update_of 0 1 text205 ∷ []) ∷ attempt (card_at_edition 65534) (update_of 0 1 text205 ∷ update_of 0 1 text401 ∷ []) ∷ [])
      ≡ it_tells true 0 ∷ it_tells false 7 ∷ []
  -- a pair, none, and one from too far ahead
  pub pairs :
      map (λ x. good_pairs (fresh V1 2 16) (records (logged_once (update_of 0 1 text205 ∷ []))) (each_under x)) (five 1 ∷ 0 ∷ five 1000001 ∷ [])
      ≡ true ∷ false ∷ false ∷ []

-- ---- a log that is taken over

-- Holder 1 has made card 0 ready for a commit; then holder 2 takes the log over.
abbrev pub done_by : ℕ → Step → Acting
done_by who m = cond (is_act m) (acts who m) (comes m)

abbrev pub handed_over : List Acting
handed_over = map (done_by 1) (ready single) ++ (takes 2 ∷ [])

abbrev pub after_handover : Holders
after_handover = after_actings 5 (holders_opening 1 (fresh V1 2 16) (empty_log 64)) handed_over

pub record HandoverCases : Type 0 where
  pub rules : lawful_actings 5 (holders_opening 1 (fresh V1 2 16) (empty_log 64)) handed_over ≡ true
  -- holder 1 still has the card in mind as held, and may not commit; nor may holder 2, who knows nothing of it yet
  pub minded : lawful 5 (seen_as 1 after_handover) (logs (commit_of 1)) ≡ true
  pub former : lawful_acting 5 after_handover (acts 1 (logs (commit_of 1))) ≡ false
  pub new : lawful_acting 5 after_handover (acts 2 (logs (commit_of 1))) ≡ false

-- ---- all of them

-- One table: what can be written, and a log that is taken over.
abbrev pub ProgressRuns : Type 0
ProgressRuns = FinishCases × HandoverCases
