-- Worked cases of a redo log, on bytes (rule 11.13 has the first written out). Proved in proofs/Cases.antt.
-- Assumes nothing.
use Rattle.std.specs.Prelude.{ℕ, ◌+◌, ◌≡◌, List, [], ◌∷◌, ◌++◌, replicate}
use Rattle.lists.specs.Le.{to_le}
use Rattle.lists.specs.Parts.{part}
use Rattle.redo_log.specs.Log.{LogRecord, no_record, begin_kind, update_kind, commit_kind, synced_kind, bodies_from, log_number, read_back, read_at}
use Rattle.redo_log.specs.Append.{append_number, appended}
use Rattle.redo_log_claims.specs.Claims.{appended_all}

-- The four records by their numbers.
abbrev pub begin_of : ℕ → LogRecord
begin_of t = record { kind = begin_kind; body = to_le 4 t }

abbrev pub update_of : ℕ → ℕ → List ℕ → LogRecord
update_of card side text = record { kind = update_kind; body = to_le 2 card ++ (side ∷ text) }

abbrev pub commit_of : ℕ → LogRecord
commit_of t = record { kind = commit_kind; body = to_le 4 t }

abbrev pub synced_of : ℕ → ℕ → LogRecord
synced_of card t = record { kind = synced_kind; body = to_le 2 card ++ to_le 4 t }

-- An empty log with room for so many bytes of bodies.
abbrev pub empty_log : ℕ → List ℕ
empty_log room = replicate (bodies_from + room) 0

-- Records appended to an empty log, then one append more, with a budget: its number, and what is read back afterwards.
pub record AppendCase : Type 0 where
  pub room : ℕ
  pub before : List LogRecord
  pub appending : LogRecord
  pub budget : ℕ
  pub gives : ℕ
  pub back : List LogRecord

abbrev pub log_before : AppendCase → List ℕ
log_before c = appended_all (empty_log c.room) c.before

abbrev pub CaseHolds : AppendCase → Type 0
CaseHolds c =
    (append_number c.budget (log_before c) c.appending ≡ c.gives) × (read_back (appended c.budget (log_before c) c.appending) ≡ c.back)

abbrev pub AllHold : List AppendCase → Type 0
AllHold [] = Unit {0}
AllHold (c ∷ cs) = CaseHolds c × AllHold cs

abbrev pub append_case : ℕ → List LogRecord → LogRecord → ℕ → ℕ → List LogRecord → AppendCase
append_case room before r budget gives back = record { room = room; before = before; appending = r; budget = budget; gives = gives; back = back }

abbrev pub append_cases : List AppendCase
append_cases =
    -- a begin: all 16 stores, more than all, one fewer
    append_case 8 [] (begin_of 7) 16 0 (begin_of 7 ∷ [])
    ∷ append_case 8 [] (begin_of 7) 99 0 (begin_of 7 ∷ [])
    ∷ append_case 8 [] (begin_of 7) 15 26 []
    -- transactions rise from 1
    ∷ append_case 8 [] (begin_of 0) 99 23 []
    ∷ append_case 8 (begin_of 7 ∷ []) (begin_of 7) 99 23 (begin_of 7 ∷ [])
    ∷ append_case 8 (begin_of 7 ∷ []) (begin_of 8) 99 0 (begin_of 7 ∷ begin_of 8 ∷ [])
    -- a begin and a commit have 4 bytes, a synced record has 6, an update has 3 at least
    ∷ append_case 8 [] (record { kind = begin_kind; body = 7 ∷ 0 ∷ 0 ∷ [] }) 99 23 []
    ∷ append_case 8 [] (record { kind = begin_kind; body = 7 ∷ 0 ∷ 0 ∷ 0 ∷ 0 ∷ [] }) 99 23 []
    ∷ append_case 12 (begin_of 7 ∷ []) (record { kind = commit_kind; body = 7 ∷ 0 ∷ 0 ∷ [] }) 99 23 (begin_of 7 ∷ [])
    ∷ append_case 12 (begin_of 7 ∷ []) (record { kind = commit_kind; body = 7 ∷ 0 ∷ 0 ∷ 0 ∷ 0 ∷ [] }) 99 23 (begin_of 7 ∷ [])
    ∷ append_case 8 [] (record { kind = synced_kind; body = 3 ∷ 0 ∷ 9 ∷ 0 ∷ 0 ∷ [] }) 99 23 []
    ∷ append_case 8 [] (record { kind = synced_kind; body = 3 ∷ 0 ∷ 9 ∷ 0 ∷ 0 ∷ 0 ∷ 0 ∷ [] }) 99 23 []
    ∷ append_case 8 (begin_of 7 ∷ []) (record { kind = update_kind; body = 0 ∷ 0 ∷ [] }) 99 23 (begin_of 7 ∷ [])
    ∷ append_case 8 (begin_of 7 ∷ []) (update_of 0 1 []) 15 0 (begin_of 7 ∷ update_of 0 1 [] ∷ [])
    -- an update needs a transaction open, and side 1 or 2
    ∷ append_case 8 [] (update_of 0 1 (97 ∷ [])) 99 23 []
    ∷ append_case 8 (begin_of 7 ∷ []) (update_of 0 2 (97 ∷ [])) 99 0 (begin_of 7 ∷ update_of 0 2 (97 ∷ []) ∷ [])
    ∷ append_case 8 (begin_of 7 ∷ []) (update_of 0 3 (97 ∷ [])) 99 23 (begin_of 7 ∷ [])
    -- a commit closes the one that is open
    ∷ append_case 8 (begin_of 7 ∷ []) (commit_of 8) 99 23 (begin_of 7 ∷ [])
    ∷ append_case 12 (begin_of 7 ∷ commit_of 7 ∷ []) (commit_of 7) 99 23 (begin_of 7 ∷ commit_of 7 ∷ [])
    ∷ append_case 12 (begin_of 7 ∷ commit_of 7 ∷ []) (update_of 0 1 []) 99 23 (begin_of 7 ∷ commit_of 7 ∷ [])
    -- a synced record may come at any time, of any transaction
    ∷ append_case 8 [] (synced_of 3 9) 99 0 (synced_of 3 9 ∷ [])
    -- a body that just fits, and one byte more; 24 comes before 26, and 23 before 24
    ∷ append_case 8 (begin_of 7 ∷ []) (update_of 0 1 (97 ∷ [])) 16 0 (begin_of 7 ∷ update_of 0 1 (97 ∷ []) ∷ [])
    ∷ append_case 8 (begin_of 7 ∷ []) (update_of 0 1 (97 ∷ 98 ∷ [])) 0 24 (begin_of 7 ∷ [])
    ∷ append_case 8 (begin_of 7 ∷ []) (update_of 0 3 (97 ∷ 98 ∷ [])) 0 23 (begin_of 7 ∷ [])
    ∷ []

-- The bytes of the first case: the count and line 0, then the body.
abbrev pub first_bytes : List ℕ
first_bytes = appended 16 (empty_log 8) (begin_of 7)

pub record LogCases : Type 0 where
  pub appends : AllHold append_cases
  pub line : part 0 12 first_bytes ≡ 1 ∷ 1 ∷ 153 ∷ 8 ∷ 0 ∷ 0 ∷ 4 ∷ 0 ∷ 7 ∷ 0 ∷ 0 ∷ 0 ∷ []
  pub body : part bodies_from 4 first_bytes ≡ 7 ∷ 0 ∷ 0 ∷ 0 ∷ []
  -- record 0 is there, record 1 is not
  pub there : read_at first_bytes 0 ≡ begin_of 7
  pub past : read_at first_bytes 1 ≡ no_record
  -- the shortest log, one byte less, and a count above 200
  pub shortest : log_number (empty_log 0) ≡ 0
  pub short : log_number (replicate 2200 0) ≡ 23
  pub many : log_number (201 ∷ replicate 2200 0) ≡ 23
  -- the longest log, and one byte more
  pub longest : log_number (replicate 65536 0) ≡ 0
  pub long : log_number (replicate 65537 0) ≡ 23
  -- the body is stored before its line: after four stores the line is still empty, after five its kind stands there
  pub stored4 : part 0 2 (appended 4 (empty_log 8) (begin_of 7)) ≡ 0 ∷ 0 ∷ []
  pub stored5 : part 0 2 (appended 5 (empty_log 8) (begin_of 7)) ≡ 0 ∷ 1 ∷ []

-- ---- the last line of the table (rules 11.1 and 11.11)

-- A synced record, and a log with so many of them; there is room for 216 bodies.
abbrev pub one_synced : LogRecord
one_synced = synced_of 0 1

abbrev pub synced_log : ℕ → List ℕ
synced_log n = appended_all (empty_log 1300) (replicate n one_synced)

-- The 200th record is taken and reads back; one more finds the log full, however many stores it has, and changes nothing.
pub record LastLine : Type 0 where
  pub last : append_number 18 (synced_log 199) one_synced ≡ 0
  pub back : read_back (synced_log 200) ≡ replicate 200 one_synced
  pub full : append_number 18 (synced_log 200) one_synced ≡ 24
  pub none_left : append_number 0 (synced_log 200) one_synced ≡ 24
  pub kept : appended 18 (synced_log 200) one_synced ≡ synced_log 200
