-- Worked cases of recovery that notice a rule misread in definition and code alike: whose pair a write is under, what
-- it leaves in the entry, the bytes that are sent, and the numbers that only some stores give. Proved in
-- proofs/Cases.antt.
-- Assumes nothing.
use Rattle.std.specs.Prelude.{ℕ, ◌≡◌, List, [], ◌∷◌, map, length}
use Rattle.stamps.specs.Stamp.{stamp, no_pair, exclusive}
use Rattle.stamps.specs.declared.Pair.{Pair}
use Rattle.store_model.specs.Words.{Sent}
use Rattle.store_model.specs.Cases.{stamp1, stamp2, pair, text205, text401, mark_of, sends, with_numbers, nearly_last}
use Rattle.redo_log.specs.Log.{LogRecord}
use Rattle.redo_log_claims.specs.Cases.{begin_of, update_of, commit_of, synced_of}
use Rattle.redo_recovery_model.specs.Recovery.{Pairs, Recovery, entry_for, recovering}
use Rattle.redo_recovery_model.specs.Cases.{blank_image, marked_image, RecoveryCases}

-- No pair for card 0; for card 1 the s of desk 1 and the x of desk 2.
abbrev pub pairs_of1 : Pairs
pairs_of1 = record { s = 0 ∷ stamp1 ∷ []; x = 0 ∷ stamp2 ∷ [] }

-- The pair of desk 2 for card 0 alone, and one from too far ahead.
abbrev pub pairs_of0 : Pairs
pairs_of0 = record { s = stamp2 ∷ []; x = stamp2 ∷ [] }

abbrev pub pairs_ahead : Pairs
pairs_ahead = record { s = stamp1 ∷ []; x = stamp 1000001 1 0 ∷ [] }

-- For card 1 an x and no s, and an s and no x.
abbrev pub pairs_short_s : Pairs
pairs_short_s = record { s = stamp1 ∷ []; x = stamp1 ∷ stamp2 ∷ [] }

abbrev pub pairs_short_x : Pairs
pairs_short_x = record { s = stamp1 ∷ stamp2 ∷ []; x = stamp1 ∷ [] }

-- Both texts of card 1 in one transaction.
abbrev pub both_of1 : List LogRecord
both_of1 = begin_of 1 ∷ update_of 1 1 text205 ∷ update_of 1 2 text401 ∷ commit_of 1 ∷ []

-- What is asked of a run: the number and the line, the pair and the edition that cards 0 and 1 then have, and all that
-- was sent, latest first.
pub record Left : Type 0 where
  pub number : ℕ
  pub line : ℕ
  pub pairs : List Pair
  pub editions : List ℕ
  pub sent : List Sent

abbrev pub left_by : Recovery → Left
left_by r =
    record {
      number = r.number;
      line = r.line;
      pairs = map (λ (k : ℕ). (entry_for r.image k).pair) (0 ∷ 1 ∷ []);
      editions = map (λ (k : ℕ). (entry_for r.image k).edition) (0 ∷ 1 ∷ []);
      sent = r.sent;
    }

abbrev pub run_left : Pairs → List LogRecord → List ℕ → Left
run_left pairs rs image = left_by (recovering pairs rs image (length rs))

-- A write of recovery by what it carries: act, card, pair, the mark that it expects and leaves, the edition that it
-- names, the text.
abbrev pub write : ℕ → ℕ → Pair → ℕ → ℕ → ℕ → List ℕ → Sent
write act card p desk transaction edition text = sends (with_numbers act exclusive card p (mark_of desk transaction) (mark_of desk transaction) edition (length text)) text []

abbrev pub left : ℕ → ℕ → List Pair → List ℕ → List Sent → Left
left number line pairs editions sent = record { number = number; line = line; pairs = pairs; editions = editions; sent = sent }

pub record RecoveryEdges : Type 0 where
  -- rules 11.16 and 11.17: card 1's writes are under card 1's pair, s as s and x as x; the translation names the
  -- edition that its original has just made
  pub own_pair :
      run_left pairs_of1 both_of1 blank_image
      ≡ left 0 0 (no_pair ∷ pair stamp1 stamp2 ∷ []) (0 ∷ 1 ∷ []) (write 4 1 (pair stamp1 stamp2) 0 0 1 text401 ∷ write 3 1 (pair stamp1 stamp2) 0 0 0 text205 ∷ [])
  -- a card beyond the lists has no pair: its write is sent all the same, and is malformed
  pub no_pair_lem :
      run_left pairs_of0 both_of1 blank_image ≡ left 1 1 (no_pair ∷ no_pair ∷ []) (0 ∷ 0 ∷ []) (write 3 1 no_pair 0 0 0 text205 ∷ [])
  -- rule 11.16: each list has its own end; the s may be none, and without an x the write is malformed
  pub short_s :
      run_left pairs_short_s (begin_of 1 ∷ update_of 1 1 text205 ∷ commit_of 1 ∷ []) blank_image
      ≡ left 0 0 (no_pair ∷ pair 0 stamp2 ∷ []) (0 ∷ 1 ∷ []) (write 3 1 (pair 0 stamp2) 0 0 0 text205 ∷ [])
  pub short_x :
      run_left pairs_short_x (begin_of 1 ∷ update_of 1 1 text205 ∷ commit_of 1 ∷ []) blank_image
      ≡ left 1 1 (no_pair ∷ no_pair ∷ []) (0 ∷ 0 ∷ []) (write 3 1 (pair stamp2 0) 0 0 0 text205 ∷ [])
  -- rule 11.17: the stored mark, expected and left, in each of three writes; the translation names the second edition
  pub marks :
      run_left pairs_of0 (begin_of 1 ∷ update_of 0 1 text401 ∷ update_of 0 1 text205 ∷ update_of 0 2 text401 ∷ commit_of 1 ∷ []) marked_image
      ≡ left 0 0 (pair stamp2 stamp2 ∷ no_pair ∷ []) (2 ∷ 0 ∷ [])
      (write 4 0 (pair stamp2 stamp2) 5 7 2 text401 ∷ write 3 0 (pair stamp2 stamp2) 5 7 0 text205 ∷ write 3 0 (pair stamp2 stamp2) 5 7 0 text401 ∷ [])
  -- rule 11.15: an update is of the transaction begun last before it, not of the one that commits next to it; nothing due is nothing sent
  pub given_up : run_left pairs_of0 (begin_of 1 ∷ update_of 0 1 text205 ∷ begin_of 2 ∷ commit_of 2 ∷ []) blank_image ≡ left 0 0 (no_pair ∷ no_pair ∷ []) (0 ∷ 0 ∷ []) []
  -- rule 11.15: synced as of transaction 2 leaves out transactions 1 and 2 of that card, and 3 is due
  pub synced :
      run_left pairs_of0
      (begin_of 1 ∷ update_of 0 1 text205 ∷ commit_of 1 ∷ begin_of 2 ∷ update_of 0 1 text205 ∷ commit_of 2 ∷ begin_of 3 ∷ update_of 0 1 text401 ∷ commit_of 3 ∷ synced_of 0 2 ∷ [])
      blank_image
      ≡ left 0 0 (pair stamp2 stamp2 ∷ no_pair ∷ []) (1 ∷ 0 ∷ []) (write 3 0 (pair stamp2 stamp2) 0 0 0 text401 ∷ [])
  -- and it leaves out both texts of the card
  pub synced_both :
      run_left pairs_of0 (begin_of 2 ∷ update_of 0 1 text205 ∷ update_of 0 2 text401 ∷ commit_of 2 ∷ synced_of 0 2 ∷ []) blank_image
      ≡ left 0 0 (no_pair ∷ no_pair ∷ []) (0 ∷ 0 ∷ []) []
  -- rule 11.22: a pair from too far ahead; the last edition, and none behind it
  pub ahead :
      run_left pairs_ahead (begin_of 1 ∷ update_of 0 1 text205 ∷ commit_of 1 ∷ []) blank_image
      ≡ left 17 1 (no_pair ∷ no_pair ∷ []) (0 ∷ 0 ∷ []) (write 3 0 (pair stamp1 (stamp 1000001 1 0)) 0 0 0 text205 ∷ [])
  pub last_edition_lem :
      run_left pairs_of0 (begin_of 1 ∷ update_of 0 1 text205 ∷ update_of 0 1 text401 ∷ commit_of 1 ∷ []) nearly_last
      ≡ left 7 2 (pair stamp2 stamp2 ∷ no_pair ∷ []) (65535 ∷ 0 ∷ []) (write 3 0 (pair stamp2 stamp2) 0 0 0 text401 ∷ write 3 0 (pair stamp2 stamp2) 0 0 0 text205 ∷ [])

-- The worked cases of recovery, as one table.
abbrev pub RecoveryWorked : Type 0
RecoveryWorked = RecoveryCases × RecoveryEdges
