-- Worked cases of recovery, by computation on bytes. Proved in proofs/Cases.antt.
-- Assumes nothing.
use Rattle.std.specs.Prelude.{ℕ, ◌≡◌, List, [], ◌∷◌, length, take, drop, replicate}
use Rattle.formats.specs.Format.{V1, V2}
use Rattle.commands.specs.Command.{original, translation}
use Rattle.commands.specs.Bytes.{command_bytes}
use Rattle.stamps.specs.Stamp.{no_pair}
use Rattle.image.specs.Image.{fresh}
use Rattle.store_model.specs.Serve.{serve}
use Rattle.store_model.specs.Cases.{stamp1, text205, text401, write_original}
use Rattle.store_model.specs.Words.{image_after}
use Rattle.redo_log.specs.Log.{LogRecord}
use Rattle.redo_log_claims.specs.Claims.{cut_after}
use Rattle.redo_log_claims.specs.Cases.{begin_of, update_of, commit_of, synced_of, empty_log}
use Rattle.redo_recovery_model.specs.Recovery.{Pairs, Recovery, entry_for, recovering, recovered}
use Rattle.redo_recovery_model.specs.Claims.{text_in}

-- A text of 17 bytes.
abbrev pub text17 : List ℕ
text17 = replicate 17 97

-- Stamps 1.1.0 and 2.2.0, given for two cards.
abbrev pub pairs1 : Pairs
pairs1 = record { s = 4295032832 ∷ 4295032832 ∷ []; x = 4295032832 ∷ 4295032832 ∷ [] }

abbrev pub pairs2 : Pairs
pairs2 = record { s = 8590065664 ∷ 8590065664 ∷ []; x = 8590065664 ∷ 8590065664 ∷ [] }

abbrev pub no_pairs : Pairs
no_pairs = record { s = []; x = [] }

-- A fresh image, and one whose card 0 was verified by (2.2.0, 2.2.0), which left the mark (5, 7).
abbrev pub blank_image : List ℕ
blank_image = fresh V1 2 16

abbrev pub marked_image : List ℕ
marked_image =
    (serve V1 blank_image
    (command_bytes V1
    (record {
      act = 5;
      mode = 2;
      language = 0;
      card = 0;
      verifier = record { s = 8590065664; x = 8590065664 };
      opened = no_pair;
      expected = record { desk = 0; transaction = 0 };
      next = record { desk = 5; transaction = 7 };
      edition = 0;
      length = 0;
    })
    [])
    []).image

-- Records, pairs and an image; the number, the line and both texts of card 0 afterwards.
pub record RecoveryCase : Type 0 where
  pub logged : List LogRecord
  pub pairs : Pairs
  pub start : List ℕ
  pub gives : ℕ
  pub line : ℕ
  pub first : List ℕ
  pub second : List ℕ

abbrev pub ran_case : RecoveryCase → Recovery
ran_case c = recovering c.pairs c.logged c.start (length c.logged)

abbrev pub RecoveryHolds : RecoveryCase → Type 0
RecoveryHolds c =
    ((ran_case c).number ≡ c.gives)
    × ((ran_case c).line ≡ c.line)
    × (text_in (ran_case c).image original 0 ≡ c.first)
    × (text_in (ran_case c).image (translation 0) 0 ≡ c.second)

abbrev pub AllRecover : List RecoveryCase → Type 0
AllRecover [] = Unit {0}
AllRecover (c ∷ cs) = RecoveryHolds c × AllRecover cs

abbrev pub recovery_case : List LogRecord → Pairs → List ℕ → ℕ → ℕ → List ℕ → List ℕ → RecoveryCase
recovery_case rs pairs start gives line first second =
    record { logged = rs; pairs = pairs; start = start; gives = gives; line = line; first = first; second = second }

abbrev pub recovery_cases : List RecoveryCase
recovery_cases =
    -- both texts of a committed transaction; none of an uncommitted one; the last of two
    recovery_case (begin_of 1 ∷ update_of 0 1 text205 ∷ update_of 0 2 text401 ∷ commit_of 1 ∷ []) pairs1 blank_image 0 0 text205 text401
    ∷ recovery_case (begin_of 1 ∷ update_of 0 1 text205 ∷ begin_of 2 ∷ update_of 0 1 text401 ∷ commit_of 2 ∷ []) pairs1 blank_image 0 0 text401 []
    ∷ recovery_case (begin_of 1 ∷ update_of 0 1 text205 ∷ update_of 0 1 text401 ∷ commit_of 1 ∷ []) pairs1 blank_image 0 0 text401 []
    -- synced as of an earlier transaction, of that one, of a higher one, wherever it stands; and another card
    ∷ recovery_case (synced_of 0 1 ∷ begin_of 2 ∷ update_of 0 1 text205 ∷ commit_of 2 ∷ []) pairs1 blank_image 0 0 text205 []
    ∷ recovery_case (synced_of 0 2 ∷ begin_of 2 ∷ update_of 0 1 text205 ∷ commit_of 2 ∷ []) pairs1 blank_image 0 0 [] []
    ∷ recovery_case (begin_of 2 ∷ update_of 0 1 text205 ∷ commit_of 2 ∷ synced_of 0 3 ∷ []) pairs1 blank_image 0 0 [] []
    ∷ recovery_case (synced_of 1 2 ∷ begin_of 2 ∷ update_of 0 1 text205 ∷ commit_of 2 ∷ []) pairs1 blank_image 0 0 text205 []
    -- what was written before a refusal stays, and nothing is written after it
    ∷ recovery_case (begin_of 1 ∷ update_of 0 1 text205 ∷ update_of 0 1 text17 ∷ update_of 0 1 text401 ∷ commit_of 1 ∷ []) pairs1 blank_image 5 2 text205 []
    -- no pair, no original for a translation, no such card, an older pair, no sound image
    ∷ recovery_case (begin_of 1 ∷ update_of 0 1 text205 ∷ commit_of 1 ∷ []) no_pairs blank_image 1 1 [] []
    ∷ recovery_case (begin_of 1 ∷ update_of 0 2 text205 ∷ commit_of 1 ∷ []) pairs1 blank_image 1 1 [] []
    ∷ recovery_case (begin_of 1 ∷ update_of 9 1 text205 ∷ commit_of 1 ∷ []) (record { s = replicate 10 65536; x = replicate 10 65536 }) blank_image 2 1 [] []
    ∷ recovery_case (begin_of 1 ∷ update_of 0 1 text205 ∷ commit_of 1 ∷ []) pairs1 marked_image 3 1 [] []
    ∷ recovery_case (begin_of 1 ∷ update_of 0 1 text205 ∷ commit_of 1 ∷ []) pairs1 (take 143 blank_image) 9 1 [] []
    -- an image of version 2: the first update that is due, here at line 3; and none
    ∷ recovery_case (begin_of 1 ∷ update_of 0 1 text205 ∷ begin_of 2 ∷ update_of 0 1 text401 ∷ commit_of 2 ∷ []) pairs1 (fresh V2 2 16) 9 3 [] []
    ∷ recovery_case (begin_of 1 ∷ update_of 0 1 text205 ∷ []) pairs1 (fresh V2 2 16) 0 0 [] []
    -- a stored mark is expected and stays
    ∷ recovery_case (begin_of 1 ∷ update_of 0 1 text205 ∷ commit_of 1 ∷ []) pairs2 marked_image 0 0 text205 []
    ∷ []

-- Both texts are due. Of the two writes only the first was made, under pairs1; then recovery runs again, under pairs2.
abbrev pub both_texts : List LogRecord
both_texts = begin_of 1 ∷ update_of 0 1 text205 ∷ update_of 0 2 text401 ∷ commit_of 1 ∷ []

abbrev pub after_first : List ℕ
after_first = image_after V1 blank_image (drop 1 (recovering pairs1 both_texts blank_image 4).sent)

-- Two transactions appended one after the other. The first takes 16, 18 and 16 stores, the second 16, 18 and 16.
abbrev pub two_transactions : List LogRecord
two_transactions = begin_of 1 ∷ update_of 0 1 text205 ∷ commit_of 1 ∷ begin_of 2 ∷ update_of 0 1 text401 ∷ commit_of 2 ∷ []

abbrev pub recovered_cut : ℕ → Recovery
recovered_cut k = recovered pairs1 (cut_after k (empty_log 64) two_transactions) blank_image

pub record RecoveryCases : Type 0 where
  pub cases : AllRecover recovery_cases
  pub mark : (entry_for (recovering pairs2 (begin_of 1 ∷ update_of 0 1 text205 ∷ commit_of 1 ∷ []) marked_image 3).image 0).mark ≡ record { desk = 5; transaction = 7 }
  -- what is sent is the plain write under the given pair, with no update pair of its own
  pub plain : (recovering pairs1 (begin_of 1 ∷ update_of 0 1 text205 ∷ commit_of 1 ∷ []) blank_image 3).sent ≡ write_original stamp1 stamp1 text205 ∷ []
  -- cut one store before the end of the first commit, at its end, one store before the end of the second, at its end
  pub cut49 : ((recovered_cut 49).number ≡ 0) × (text_in (recovered_cut 49).image original 0 ≡ [])
  pub cut50 : ((recovered_cut 50).number ≡ 0) × (text_in (recovered_cut 50).image original 0 ≡ text205)
  pub cut99 : ((recovered_cut 99).number ≡ 0) × (text_in (recovered_cut 99).image original 0 ≡ text205)
  pub cut100 : ((recovered_cut 100).number ≡ 0) × (text_in (recovered_cut 100).image original 0 ≡ text401)
  -- a second run under the same pairs: no write is refused, and the original is one edition on
  pub again : (recovered pairs1 (cut_after 100 (empty_log 64) two_transactions) (recovered_cut 100).image).number ≡ 0
  -- cut after its first write and run again
  pub cut_first : (text_in after_first original 0 ≡ text205) × (text_in after_first (translation 0) 0 ≡ [])
  pub run_again : RecoveryHolds (recovery_case both_texts pairs2 after_first 0 0 text205 text401)
  -- a bad log
  pub bad : recovered pairs1 (201 ∷ replicate 2200 0) blank_image ≡ record { number = 23; line = 0; image = blank_image; sent = [] }
