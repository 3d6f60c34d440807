-- Worked cases of the history engine and of commands for different cards.
-- Assumes nothing.
use Rattle.std.specs.Prelude.{ℕ, ◌+◌, ◌≡◌, List, [], ◌∷◌, ◌++◌, map, reverse, true, false, length, replicate}
use Rattle.formats.specs.Format.{V1, V2, fixed}
use Rattle.lists.specs.Parts.{splice}
use Rattle.lists.specs.Le.{to_le}
use Rattle.lists.specs.Search.{none}
use Rattle.stamps.specs.Stamp.{shared, exclusive}
use Rattle.image.specs.Image.{fresh}
use Rattle.store_model.specs.Words.{Sent}
use Rattle.store_model.specs.Cases.{
  pair,
  request,
  got,
  stamp1,
  stamp2,
  verify,
  verify_opening,
  write_original,
  write_translation,
  read_original,
  text205,
  text401,
  long,
  names,
  got_in,
  letters,
  writes_in,
  reads_in,
  run,
  Got,
}
use Rattle.history.specs.Engine.{over_limits, deduced}
use Rattle.history.specs.Lent.{history_size, kept_in, history_serve}
use Rattle.history_claims.specs.Claims.{kept_after, engine_event, engine_trace, gave22, EqualSoFar, FirstRefusal}
use Rattle.history_claims.specs.Lent.{LentEqual}
use Rattle.history_claims.specs.Swaps.{swap, Undisturbed, sent_for, SameByCard}

-- ---- the limits (rule 14.2)

-- A kept command with so many payload bytes.
abbrev pub paying : ℕ → List ℕ
paying n = replicate (fixed V1 + n) 0

-- 200 commands are kept and 201 are not; 32,768 payload bytes in all are kept and one more is not.
pub record KeptLimits : Type 0 where
  pub many : over_limits (replicate 200 (paying 0)) ≡ false
  pub too_many : over_limits (replicate 201 (paying 0)) ≡ true
  pub heavy : over_limits (paying 32000 ∷ paying 768 ∷ []) ≡ false
  pub too_heavy : over_limits (paying 32000 ∷ paying 769 ∷ []) ≡ true

-- ---- one command again and again

-- A shared verify of card 0 by the first desk, which is accepted however often it was.
abbrev pub again : Sent
again = verify shared stamp1 0

-- From a fresh store with N 1 and C 16, 200 of them are answered as by the store, from nothing kept or from lent zeros. The next is the first to get 22.
pub record TwoHundred : Type 0 where
  pub until : none gave22 (engine_trace 1 16 (replicate 200 again)) ≡ true
  pub equal : EqualSoFar 1 16 (replicate 200 again)
  pub lent_equal : LentEqual 1 16 (replicate history_size 0) (replicate 200 again)
  pub next : gave22 (engine_event again (deduced 1 16 (kept_after 1 16 (reverse (replicate 200 again))) again.command again.lent)) ≡ true
  pub first_refused_lem : FirstRefusal 1 16 (replicate 200 again) again

-- ---- answers over lent bytes (rules 14.4 to 14.9)

abbrev pub wrote205 : Sent
wrote205 = write_original stamp1 stamp1 text205

abbrev pub wrote401 : Sent
wrote401 = write_translation stamp2 stamp2 1 text401

-- Three commands end to end: the original 205, a read of it, and the translation 401 by the next desk, 162 bytes in all; behind them four bytes that
-- are no whole command.
abbrev pub kept_bytes : List ℕ
kept_bytes = wrote205.command ++ (read_original []).command ++ wrote401.command ++ replicate 4 7

-- A shared read of the translation under the pair of the desk that wrote it.
abbrev pub read_after : Sent
read_after = request 2 shared (pair stamp2 stamp2) 0 [] (long 5)

-- The same in front of 60 further bytes: 226 in all.
abbrev pub roomy_bytes : List ℕ
roomy_bytes = kept_bytes ++ replicate 60 9

-- With 1,000 bytes said to be used, the three commands are kept. The read is accepted, shows 401 and is kept from byte 162 on; a command of the first desk
-- comes late and leaves the number of used bytes as it was.
pub record WorkedBytes : Type 0 where
  pub three : kept_in kept_bytes 1000 ≡ wrote401.command ∷ (read_original []).command ∷ wrote205.command ∷ []
  pub read : (history_serve 1 16 kept_bytes 1000 read_after.command read_after.lent).answer ≡ (got 0 stamp2 stamp2 0 0 1 1 3 []).answer
  pub text : (history_serve 1 16 kept_bytes 1000 read_after.command read_after.lent).reply ≡ text401 ++ long 2
  pub used : (history_serve 1 16 kept_bytes 1000 read_after.command read_after.lent).used ≡ 214
  pub late : (history_serve 1 16 kept_bytes 1000 again.command again.lent).answer ≡ (got 3 stamp2 stamp2 0 0 1 1 0 []).answer
  pub late_used : (history_serve 1 16 kept_bytes 1000 again.command again.lent).used ≡ 1000
  -- a kept command with two pairs counts by its update pair (rule 14.5)
  pub opened :
      (history_serve 1 16 (verify_opening exclusive (pair stamp1 stamp1) (pair stamp2 stamp2)).command 52 again.command again.lent).answer
      ≡ (got 3 stamp2 stamp2 0 0 0 0 0 []).answer
  -- how many are kept by the number used: the first ends at 55, the second at 107, the third at 162 (rule 14.4)
  pub counted : map (λ (used : ℕ). length (kept_in kept_bytes used)) (0 ∷ 54 ∷ 55 ∷ 106 ∷ 107 ∷ 161 ∷ 162 ∷ 166 ∷ []) ≡ 0 ∷ 0 ∷ 1 ∷ 1 ∷ 2 ∷ 2 ∷ 3 ∷ 3 ∷ []
  -- an accepted command stands behind the last whole one of the used bytes, over what stood there, and every other byte stays (rule 14.8): from 162 to 213
  pub behind_third :
      (history_serve 1 16 roomy_bytes 200 read_after.command read_after.lent).bytes
      ≡ wrote205.command ++ (read_original []).command ++ wrote401.command ++ read_after.command ++ replicate 12 9
  -- with 110 bytes used it is the third, from 107 to 158, and no translation is known; 67 bytes stay behind it
  pub behind_second :
      (history_serve 1 16 roomy_bytes 110 (read_original (long 5)).command (long 5)).bytes
      ≡ wrote205.command ++ (read_original []).command ++ (read_original []).command ++ (52 ∷ 48 ∷ 49 ∷ []) ++ replicate 4 7 ++ replicate 60 9
  pub used_second : (history_serve 1 16 roomy_bytes 110 (read_original (long 5)).command (long 5)).used ≡ 159
  pub told_second : (history_serve 1 16 roomy_bytes 110 (read_original (long 5)).command (long 5)).answer ≡ (got 0 stamp2 stamp1 0 0 1 0 3 []).answer
  -- a refusal leaves every byte (rule 14.9)
  pub late_bytes : (history_serve 1 16 roomy_bytes 200 again.command (long 2)).bytes ≡ roomy_bytes
  pub late_reply : (history_serve 1 16 roomy_bytes 200 again.command (long 2)).reply ≡ long 2

-- ---- different cards (rules 14.12 and 14.13)

-- The same request for another card: bytes 2 and 3 of a command name it.
abbrev pub on_card : ℕ → Sent → Sent
on_card k s = record { command = splice 2 (to_le 2 k) s.command; lent = s.lent }

-- Bytes that are no command.
abbrev pub malformed : Sent
malformed = record { command = 5 ∷ []; lent = long 2 }

-- In version 2: both originals and language 3 of card 1 are written; then language 3 of card 0 is written, and that of card 1 is read. Latest first.
abbrev pub in_language3 : List Sent
in_language3 =
    on_card 1 (reads_in 3)
    ∷ writes_in 1 3
    ∷ on_card 1 (writes_in 1 3)
    ∷ on_card 1 (names 3 0 0 text205 [])
    ∷ names 3 0 0 text205 []
    ∷ []

-- What they get, in the order in which they are sent.
abbrev pub got_language3 : List Got
got_language3 = got_in 0 1 0 0 [] ∷ got_in 0 1 0 0 [] ∷ got_in 0 1 1 0 [] ∷ got_in 0 1 1 0 [] ∷ got_in 0 1 1 4 (letters 3) ∷ []

-- A write of card 0 and a read of card 1 are swapped; so are a malformed request and a write; and two requests to bytes that are no image. Malformed
-- requests aside, two writes may come in either order.
pub record ApartCases : Type 0 where
  -- what it is to change places: the elements at i and i + 1, and nothing where there are no two
  pub swapped :
      map (λ (i : ℕ). swap {A = ℕ} i (11 ∷ 12 ∷ 13 ∷ [])) (0 ∷ 1 ∷ 2 ∷ 3 ∷ [])
      ≡ (12 ∷ 11 ∷ 13 ∷ []) ∷ (11 ∷ 13 ∷ 12 ∷ []) ∷ (11 ∷ 12 ∷ 13 ∷ []) ∷ (11 ∷ 12 ∷ 13 ∷ []) ∷ []
  -- which requests are for a card, as their version reads them: a malformed one is for none
  pub for_card :
      map (λ (k : ℕ). map (sent_for V1 k) (wrote205 ∷ on_card 1 wrote205 ∷ on_card 256 again ∷ malformed ∷ [])) (0 ∷ 1 ∷ 256 ∷ [])
      ≡ (true ∷ false ∷ false ∷ false ∷ []) ∷ (false ∷ true ∷ false ∷ false ∷ []) ∷ (false ∷ false ∷ true ∷ false ∷ []) ∷ []
  pub cards_apart : Undisturbed V1 (fresh V1 2 16) (on_card 1 (read_original (long 3)) ∷ wrote205 ∷ []) 0
  pub malformed_apart : Undisturbed V1 (fresh V1 2 16) (again ∷ wrote205 ∷ malformed ∷ []) 1
  pub unsound_apart : Undisturbed V1 (1 ∷ []) (on_card 1 again ∷ wrote205 ∷ []) 0
  pub either_order : SameByCard V1 (fresh V1 2 16) (on_card 1 wrote205 ∷ malformed ∷ wrote205 ∷ []) (wrote205 ∷ on_card 1 wrote205 ∷ [])
  -- the last two of version 2 are swapped, and all five are accepted; the read shows what was written for its card
  pub languages_apart : Undisturbed V2 (fresh V2 2 16) in_language3 0
  pub languages_accepted : run V2 (fresh V2 2 16) (reverse in_language3) ≡ got_language3
