-- Worked cases of a redo log that notice a rule misread in definition and code alike: a log written out in bytes, what
-- damages it, the order of records and the limits. Proved in proofs/Cases.antt.
-- Assumes nothing.
use Rattle.std.specs.Prelude.{ℕ, ◌+◌, ◌*◌, ◌≡◌, List, [], ◌∷◌, ◌++◌, map, true, false, set, take, replicate}
use Rattle.lists.specs.Le.{to_le}
use Rattle.lists.specs.Parts.{part, tabulate, concat_map}
use Rattle.redo_log.specs.Log.{LogRecord, no_record, record_card, record_side, record_text, record_transaction, shaped, checksum, log_number, read_back, read_at}
use Rattle.redo_log.specs.Append.{lacks, append_number, appended}
use Rattle.redo_log_claims.specs.Claims.{appended_all}
use Rattle.redo_log_claims.specs.Cases.{begin_of, update_of, commit_of, synced_of, empty_log, AppendCase, AllHold, append_case, LogCases, LastLine}

-- ---- A log in bytes (rules 11.1 to 11.4): begin 7, an update of card 258 on side 2 with one byte, commit 7, card 258 synced as of 7.

abbrev pub four_bytes : List ℕ
four_bytes =
    -- four records; each line: kind, place, length, sum
    4
    ∷ 1 ∷ 153 ∷ 8 ∷ 0 ∷ 0 ∷ 4 ∷ 0 ∷ 7 ∷ 0 ∷ 0 ∷ 0
    ∷ 2 ∷ 157 ∷ 8 ∷ 0 ∷ 0 ∷ 4 ∷ 0 ∷ 102 ∷ 0 ∷ 0 ∷ 0
    ∷ 3 ∷ 161 ∷ 8 ∷ 0 ∷ 0 ∷ 4 ∷ 0 ∷ 7 ∷ 0 ∷ 0 ∷ 0
    ∷ 4 ∷ 165 ∷ 8 ∷ 0 ∷ 0 ∷ 6 ∷ 0 ∷ 10 ∷ 0 ∷ 0 ∷ 0
    -- 196 lines that are not counted, then the bodies
    ∷ (replicate 2156 0 ++ (7 ∷ 0 ∷ 0 ∷ 0 ∷ 2 ∷ 1 ∷ 2 ∷ 97 ∷ 7 ∷ 0 ∷ 0 ∷ 0 ∷ 2 ∷ 1 ∷ 7 ∷ 0 ∷ 0 ∷ 0 ∷ []))

-- A record by its kind, as a number, and its body.
abbrev pub log_record : ℕ → List ℕ → LogRecord
log_record kind body = record { kind = kind; body = body }

-- The four, by bytes and by what they say.
abbrev pub four_records : List LogRecord
four_records = log_record 1 (7 ∷ 0 ∷ 0 ∷ 0 ∷ []) ∷ log_record 2 (2 ∷ 1 ∷ 2 ∷ 97 ∷ []) ∷ log_record 3 (7 ∷ 0 ∷ 0 ∷ 0 ∷ []) ∷ log_record 4 (2 ∷ 1 ∷ 7 ∷ 0 ∷ 0 ∷ 0 ∷ []) ∷ []

-- Each of these logs is bad by one rule of 11.6.
abbrev pub damaged : List (List ℕ)
damaged =
    -- no such kind; another place; a length that ends behind the log, and the log one byte short
    set four_bytes 12 5
    ∷ set four_bytes 24 162
    ∷ set four_bytes 39 7
    ∷ take 2218 four_bytes
    -- another sum; another body under the same sum's line
    ∷ set four_bytes 8 8
    ∷ set four_bytes 2205 3
    -- a commit of 8, with its sum; a begin of 0, with its sum
    ∷ set (set four_bytes 2209 8) 30 8
    ∷ set (set four_bytes 2201 0) 8 0
    -- side 3 and side 0, with their sums
    ∷ set (set four_bytes 2207 3) 19 103
    ∷ set (set four_bytes 2207 0) 19 100
    -- line 0 again: the third and the fourth byte of its place, the second of its length, the third and the fourth of its sum
    ∷ set four_bytes 4 1
    ∷ set four_bytes 5 1
    ∷ set four_bytes 7 1
    ∷ set four_bytes 10 1
    ∷ set four_bytes 11 1
    -- a fifth record is counted, whose line is zeros
    ∷ set four_bytes 0 5
    ∷ []

-- 201 synced records, all of them as rule 11.6 asks, but for their count: line 200 is the first 11 bytes of the bodies.
abbrev pub overfull : List ℕ
overfull =
    201
    ∷ 4 ∷ 153 ∷ 8 ∷ 0 ∷ 0 ∷ 6 ∷ 0 ∷ 96 ∷ 0 ∷ 0 ∷ 0
    ∷ (concat_map (λ (i : ℕ). (4 ∷ []) ++ to_le 4 (2207 + 6 * i) ++ (6 ∷ 0 ∷ 0 ∷ 0 ∷ 0 ∷ 0 ∷ [])) (tabulate (λ (i : ℕ). i) 199)
    ++ (4 ∷ 73 ∷ 13 ∷ 0 ∷ 0 ∷ 6 ∷ replicate 1200 0))

-- A body whose length needs two bytes and whose sum needs three.
abbrev pub wide : List LogRecord
wide = begin_of 7 ∷ update_of 258 2 (replicate 300 255) ∷ []

-- ---- The order of records (rule 11.5).

abbrev pub order_cases : List AppendCase
order_cases =
    -- a synced record does not close the transaction, and an update may lack a text
    append_case 24 (begin_of 7 ∷ synced_of 3 9 ∷ []) (update_of 0 1 []) 99 0 (begin_of 7 ∷ synced_of 3 9 ∷ update_of 0 1 [] ∷ [])
    ∷ append_case 24 (begin_of 7 ∷ synced_of 3 9 ∷ []) (commit_of 7) 99 0 (begin_of 7 ∷ synced_of 3 9 ∷ commit_of 7 ∷ [])
    -- the next begin gives up the one that was open, which cannot commit any more
    ∷ append_case 12 (begin_of 7 ∷ begin_of 8 ∷ []) (commit_of 7) 99 23 (begin_of 7 ∷ begin_of 8 ∷ [])
    ∷ append_case 12 (begin_of 7 ∷ begin_of 8 ∷ []) (commit_of 8) 99 0 (begin_of 7 ∷ begin_of 8 ∷ commit_of 8 ∷ [])
    -- a commit does not free its number, and the number of a synced record is no bound
    ∷ append_case 12 (begin_of 7 ∷ commit_of 7 ∷ []) (begin_of 7) 99 23 (begin_of 7 ∷ commit_of 7 ∷ [])
    ∷ append_case 12 (begin_of 7 ∷ commit_of 7 ∷ []) (begin_of 8) 99 0 (begin_of 7 ∷ commit_of 7 ∷ begin_of 8 ∷ [])
    ∷ append_case 12 (synced_of 3 9 ∷ []) (begin_of 7) 99 0 (synced_of 3 9 ∷ begin_of 7 ∷ [])
    -- no budget, and no record of kind 0 or 5
    ∷ append_case 8 [] (begin_of 7) 0 26 []
    ∷ append_case 8 [] (log_record 0 []) 99 23 []
    ∷ append_case 8 (begin_of 7 ∷ []) (log_record 5 (7 ∷ 0 ∷ 0 ∷ 0 ∷ [])) 99 23 (begin_of 7 ∷ [])
    ∷ []

-- ---- All of it.

pub record EdgeCases : Type 0 where
  pub read : read_back four_bytes ≡ four_records
  pub named : four_records ≡ begin_of 7 ∷ update_of 258 2 (97 ∷ []) ∷ commit_of 7 ∷ synced_of 258 7 ∷ []
  -- what stands in a body: a transaction; card, side and text; card and transaction
  pub transactions : map record_transaction (log_record 1 (1 ∷ 2 ∷ 3 ∷ 4 ∷ []) ∷ log_record 4 (9 ∷ 9 ∷ 1 ∷ 2 ∷ 3 ∷ 4 ∷ []) ∷ []) ≡ 67305985 ∷ 67305985 ∷ []
  pub cards : map record_card (log_record 2 (2 ∷ 1 ∷ 2 ∷ 97 ∷ []) ∷ log_record 4 (2 ∷ 1 ∷ 7 ∷ 0 ∷ 0 ∷ 0 ∷ []) ∷ []) ≡ 258 ∷ 258 ∷ []
  pub side : record_side (log_record 2 (2 ∷ 1 ∷ 2 ∷ 97 ∷ [])) ≡ 2
  pub text : record_text (log_record 2 (2 ∷ 1 ∷ 2 ∷ 97 ∷ [])) ≡ 97 ∷ []
  -- what is not counted means nothing, and of a bad log nothing is read back
  pub uncounted : read_back (set (set four_bytes 0 3) 34 9) ≡ take 3 four_records
  pub bad : map log_number damaged ≡ replicate 16 23
  pub counted201 : log_number overfull ≡ 23
  -- line 1: kind 2, place 2,205, length 303, sum 76,505
  pub wide_line : part 12 11 (appended_all (empty_log 307) wide) ≡ 2 ∷ 157 ∷ 8 ∷ 0 ∷ 0 ∷ 47 ∷ 1 ∷ 217 ∷ 42 ∷ 1 ∷ 0 ∷ []
  pub wide_back : read_back (appended_all (empty_log 307) wide) ≡ wide
  -- rule 11.12: a log without room gets 24 and is as it was, whatever the budget; so it is after 23
  pub full : map (λ (n : ℕ). append_number n four_bytes (begin_of 8)) (0 ∷ 3 ∷ 99 ∷ []) ≡ replicate 3 24
  pub full_kept : map (λ (n : ℕ). appended n four_bytes (begin_of 8)) (0 ∷ 3 ∷ 99 ∷ []) ≡ replicate 3 four_bytes
  pub bad_kept : map (λ (n : ℕ). appended n four_bytes (commit_of 7)) (0 ∷ 3 ∷ 99 ∷ []) ≡ replicate 3 four_bytes
  pub none : read_at (set four_bytes 0 5) 0 ≡ no_record
  pub orders : AllHold order_cases
  -- the longest log, and one byte more; the last line of the table is used, and there is no other
  pub longest : log_number (empty_log 63335) ≡ 0
  pub longer : log_number (empty_log 63336) ≡ 23
  pub line199 : lacks (199 ∷ replicate 2200 0) no_record ≡ false
  pub line200 : lacks (200 ∷ replicate 2200 0) no_record ≡ true
  -- a sum beyond 16 bits, and the longest body and one byte more
  pub sum : checksum (replicate 258 255) ≡ 65790
  pub long : shaped (log_record 2 (0 ∷ 0 ∷ 1 ∷ replicate 65532 0)) ≡ true
  pub over : shaped (log_record 2 (0 ∷ 0 ∷ 1 ∷ replicate 65533 0)) ≡ false

-- The worked cases of a redo log, as one table.
abbrev pub LogWorked : Type 0
LogWorked = LogCases × (EdgeCases × LastLine)
