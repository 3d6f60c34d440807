-- Worked cases of what the history engine works out of the kept commands, field by field, and of 22 behind every other
-- row (rules 14.5 to 14.9). Proved by computation in proofs/Cases.antt.
-- Assumes nothing.
use Rattle.std.specs.Prelude.{ℕ, ◌+◌, ◌≡◌, List, [], ◌∷◌, ◌++◌, map, length, replicate}
use Rattle.stamps.specs.Stamp.{shared, exclusive, no_pair, no_mark}
use Rattle.guard.specs.declared.Entry.{Entry}
use Rattle.commands.specs.Command.{original, translation}
use Rattle.store_model.specs.Words.{Sent}
use Rattle.store_model.specs.Cases.{pair, stamp1, stamp2, stamp3, mark_of, with_pairs, sends, verify, text205, text401, request, long, got, Got}
use Rattle.history.specs.WorkedOut.{entry_from, text_from}
use Rattle.history.specs.Engine.{deduced}
use Rattle.history_claims.specs.Cases.{KeptLimits, TwoHundred, WorkedBytes, ApartCases}

-- A kept command by act, card, update pair, next mark, edition and text; its verifier and its expected mark are not
-- looked at.
abbrev pub keeps : ℕ → ℕ → ℕ → ℕ → ℕ → ℕ → ℕ → List ℕ → List ℕ
keeps act card s x desk transaction edition text =
    (sends (with_pairs act exclusive card (pair 9 9) (pair s x) (mark_of 8 8) (mark_of desk transaction) edition (length text)) text []).command

-- Of card 0, from the oldest: the original 401 under s 3.3.0; the original 205 under x 2.2.0; the translation 401,
-- which names edition 7; a verify under smaller stamps, which leaves the mark (5, 6). Of card 1 the original 205
-- alone, in the midst of them. (The latest stands first.)
abbrev pub kept_five : List (List ℕ)
kept_five =
    keeps 5 0 stamp1 stamp1 5 6 0 []
    ∷ keeps 4 0 0 stamp1 3 4 7 text401
    ∷ keeps 3 1 stamp2 stamp3 1 9 0 text205
    ∷ keeps 3 0 stamp1 stamp2 1 2 0 text205
    ∷ keeps 3 0 stamp3 stamp1 1 1 0 (text401 ++ text401)
    ∷ []

abbrev pub entry_by : ℕ → ℕ → ℕ → ℕ → ℕ → ℕ → ℕ → ℕ → Entry
entry_by s x desk transaction edition made first second =
    record { pair = pair s x; mark = mark_of desk transaction; edition = edition; from = made; original = first; translation = second }

-- Requests to a history that is full, N 1, C 16: malformed; no such card; stale; too long; behind; a reply buffer too
-- short; and one that would be accepted.
abbrev pub full_history : List (List ℕ)
full_history = keeps 3 0 stamp2 stamp2 0 0 0 text205 ∷ replicate 199 (verify shared stamp1 0).command

abbrev pub to_full : List Sent
to_full =
    record { command = 5 ∷ []; lent = [] }
    ∷ sends (with_pairs 5 shared 1 (pair stamp2 stamp2) no_pair no_mark no_mark 0 0) [] []
    ∷ verify shared stamp3 stamp1
    ∷ sends (with_pairs 5 shared 0 (pair stamp2 stamp2) no_pair (mark_of 1 1) no_mark 0 0) [] []
    ∷ request 3 exclusive (pair stamp2 stamp2) 0 (long 17) []
    ∷ request 2 shared (pair stamp2 stamp2) 0 [] []
    ∷ request 1 shared (pair stamp2 stamp2) 0 [] (long 2)
    ∷ request 1 shared (pair stamp2 stamp2) 0 [] (long 3)
    ∷ []

-- Two cards, each with an original and a translation of its own, of 3, 2, 4 and 5 bytes; the last write of card 1 is not the last of all.
abbrev pub kept_of_two : List (List ℕ)
kept_of_two =
    keeps 4 0 stamp1 stamp1 3 4 1 (65 ∷ 66 ∷ [])
    ∷ keeps 4 1 stamp1 stamp1 5 6 2 (69 ∷ 70 ∷ 71 ∷ 72 ∷ 73 ∷ [])
    ∷ keeps 3 1 stamp1 stamp1 1 9 0 (49 ∷ 57 ∷ 48 ∷ 52 ∷ [])
    ∷ keeps 3 1 stamp1 stamp1 1 8 0 text401
    ∷ keeps 3 0 stamp1 stamp1 1 7 0 text205
    ∷ []

-- A shared read, by act and card, that expects the mark (desk, transaction), with 6 bytes for the reply.
abbrev pub reads_of : ℕ → ℕ → ℕ → ℕ → Sent
reads_of act card desk transaction =
    sends (with_pairs act shared card (pair stamp2 stamp1) no_pair (mark_of desk transaction) (mark_of 7 (20 + card)) 0 0) [] (long 6)

-- Its answer and its reply buffer, of two cards with room 16.
abbrev pub got_of_two : Sent → Got
got_of_two s =
    record {
      answer = (deduced 2 16 kept_of_two s.command s.lent).answer;
      reply = (deduced 2 16 kept_of_two s.command s.lent).reply;
    }

-- A kept command with so many payload bytes, and a write of so many bytes by the first desk.
abbrev pub weighing : ℕ → List ℕ
weighing n = replicate (52 + n) 0

abbrev pub writes_long : ℕ → Sent
writes_long n = request 3 exclusive (pair stamp1 stamp1) 0 (long n) []

pub record HistoryEdges : Type 0 where
  -- rule 14.5: each largest stamp by itself; the last mark; two editions; the edition that the translation names; the
  -- last lengths
  pub entry0 : entry_from kept_five 0 ≡ entry_by stamp3 stamp2 5 6 2 7 3 3
  pub entry1 : entry_from kept_five 1 ≡ entry_by stamp2 stamp3 1 9 1 0 3 0
  pub entry2 : entry_from kept_five 2 ≡ entry_by 0 0 0 0 0 0 0 0
  -- rule 14.6
  pub texts : map (text_from original kept_five) (0 ∷ 1 ∷ 2 ∷ []) ≡ text205 ∷ text205 ∷ [] ∷ []
  pub translations : map (text_from (translation 0) kept_five) (0 ∷ 1 ∷ 2 ∷ []) ≡ text401 ∷ [] ∷ [] ∷ []
  -- rule 14.7: 22 comes behind every other row
  pub full : map (λ (s : Sent). (deduced 1 16 full_history s.command s.lent).answer.number) to_full ≡ 1 ∷ 2 ∷ 3 ∷ 4 ∷ 5 ∷ 6 ∷ 8 ∷ 22 ∷ []
  -- rule 14.9: it replies the entry as it stands, with no length, and leaves the reply buffer
  pub reply : (deduced 1 16 full_history (request 1 shared (pair stamp2 stamp2) 0 [] (long 3)).command (long 3)).answer ≡ (got 22 stamp2 stamp2 0 0 1 0 0 []).answer
  pub untouched : (deduced 1 16 full_history (request 1 shared (pair stamp2 stamp2) 0 [] (long 3)).command (long 3)).reply ≡ long 3
  -- rules 14.6 to 14.8: of two cards the original and the translation are read by their own card, which judges the request and replies; card 2 there is not
  pub two_cards_lem :
      map got_of_two (reads_of 1 0 3 4 ∷ reads_of 2 0 3 4 ∷ reads_of 1 1 5 6 ∷ reads_of 2 1 5 6 ∷ reads_of 1 1 3 4 ∷ reads_of 1 2 0 0 ∷ [])
      ≡ got 0 stamp2 stamp1 7 20 1 1 3 (50 ∷ 48 ∷ 53 ∷ 97 ∷ 97 ∷ 97 ∷ [])
      ∷ got 0 stamp2 stamp1 7 20 1 1 2 (65 ∷ 66 ∷ 97 ∷ 97 ∷ 97 ∷ 97 ∷ [])
      ∷ got 0 stamp2 stamp1 7 21 2 2 4 (49 ∷ 57 ∷ 48 ∷ 52 ∷ 97 ∷ 97 ∷ [])
      ∷ got 0 stamp2 stamp1 7 21 2 2 5 (69 ∷ 70 ∷ 71 ∷ 72 ∷ 73 ∷ 97 ∷ [])
      ∷ got 4 stamp1 stamp1 5 6 2 2 0 (long 6)
      ∷ got 2 0 0 0 0 0 0 0 (long 6)
      ∷ []
  -- rules 14.2 and 14.7: beside 32,766 kept payload bytes a write of two is accepted, and one of three is not
  pub weights : map (λ (s : Sent). (deduced 1 16 (weighing 32766 ∷ []) s.command []).answer.number) (writes_long 2 ∷ writes_long 3 ∷ []) ≡ 0 ∷ 22 ∷ []

-- The worked cases of the history engine, as one table.
abbrev pub HistoryWorked : Type 0
HistoryWorked = KeptLimits × (TwoHundred × (WorkedBytes × (HistoryEdges × ApartCases)))
