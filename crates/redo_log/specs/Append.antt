-- Appending to a redo log, one byte after the other (rules 11.9 to 11.12).
-- Assumes nothing.
use Rattle.std.specs.Prelude.{ℕ, ◌+◌, List, [], ◌∷◌, ◌++◌, Bool, cond, not, ◌&&◌, ◌||◌, length, take, set, ltb, eqb}
use Rattle.lists.specs.Le.{to_le}
use Rattle.lists.specs.Table.{Row, row, first}
use Rattle.redo_log.specs.Log.{LogRecord, most_records, record_count, line_place, start_at, record_at, last_begun, opened, joins, checksum, good_log}
use Rattle.numbers.specs.Numbers.{BAD_LOG, LOG_FULL, APPEND_CUT}

-- ---- stores (rule 11.9): the power may fail between any two of them

-- A store of one byte.
pub record Store : Type 0 where
  pub place : ℕ
  pub byte : ℕ

-- The log after stores, in order (rule 11.9).
unfoldable pub stored : List Store → List ℕ → List ℕ
stored [] log = log
stored (s ∷ more) log = stored more (set log s.place s.byte)

-- Bytes stored from a place on, by rising offset.
unfoldable pub puts : ℕ → List ℕ → List Store
puts at [] = []
puts at (b ∷ l) = record { place = at; byte = b } ∷ puts (at + 1) l

-- The line of a record whose body begins at a place (rule 11.2).
unfoldable pub line_bytes : ℕ → LogRecord → List ℕ
line_bytes place r = (r.kind ∷ []) ++ to_le 4 place ++ to_le 2 (length r.body) ++ to_le 4 (checksum r.body)

-- An append's stores (rule 11.10): the body, then its line, then the count.
unfoldable pub stores : List ℕ → LogRecord → List Store
stores log r =
    puts (start_at log (record_count log)) r.body
    ++ puts (line_place (record_count log)) (line_bytes (start_at log (record_count log)) r)
    ++ puts 0 ((record_count log + 1) ∷ [])

-- ---- the answer (rule 11.11)

-- The tests of an append: the log is good and the record may come next; the table or the room behind the last body is used up.
abbrev pub accepts : List ℕ → LogRecord → Bool
accepts log r = good_log log && joins (last_begun (record_at log) (record_count log)) (opened (record_at log) (record_count log)) r

abbrev pub lacks : List ℕ → LogRecord → Bool
lacks log r = eqb (record_count log) most_records || ltb (length log) (start_at log (record_count log) + length r.body)

-- Rule 11.11, in its order.
abbrev pub append_rows : ℕ → List ℕ → LogRecord → List Row
append_rows budget log r =
    -- a bad log, or a record that breaks its layout or its order
    row (not (accepts log r)) BAD_LOG
    -- no line is left, or the body does not fit
    ∷ row (lacks log r) LOG_FULL
    -- fewer stores than the append needs
    ∷ row (ltb budget (length r.body + 12)) APPEND_CUT
    ∷ []

abbrev pub append_number : ℕ → List ℕ → LogRecord → ℕ
append_number budget log r = first (append_rows budget log r)

-- The log that an append leaves (rule 11.12): as it was after 23 and 24, else as the first stores leave it, as many as the budget has.
unfoldable pub appended : ℕ → List ℕ → LogRecord → List ℕ
appended budget log r =
    cond (eqb (append_number budget log r) BAD_LOG || eqb (append_number budget log r) LOG_FULL) log (stored (take budget (stores log r)) log)
