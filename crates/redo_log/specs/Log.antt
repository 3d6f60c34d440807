-- A desk's redo log (rules 11.1 to 11.8): its layout, when it is good, and what is read back of it. Minuet's client log, with the store's own layout.
-- Assumes nothing.
use Rattle.std.specs.Prelude.{ℕ, zero, suc, ◌+◌, ◌*◌, ◌%◌, List, [], ◌∷◌, Bool, true, false, cond, not, ◌&&◌, ◌||◌, length, drop, get_or, ltb, leb, eqb}
use Rattle.lists.specs.Parts.{part, tabulate, every}
use Rattle.lists.specs.Le.{field}
use Rattle.lists.specs.Table.{all}
use Rattle.numbers.specs.Numbers.{BAD_LOG}

-- ---- the limits (rule 11.1)

-- Lines of the table, and so the most records that a log takes.
abbrev pub most_records : ℕ
most_records = 200

-- Bytes of a line.
abbrev pub line_size : ℕ
line_size = 11

-- Where the first body begins: behind the count and all lines.
abbrev pub bodies_from : ℕ
bodies_from = 2201

-- Bytes of the longest log.
abbrev pub most_log : ℕ
most_log = 65536

-- ---- a record (rules 11.3 and 11.4)

-- The four kinds (rule 11.3).
abbrev pub begin_kind : ℕ
begin_kind = 1

abbrev pub update_kind : ℕ
update_kind = 2

abbrev pub commit_kind : ℕ
commit_kind = 3

abbrev pub synced_kind : ℕ
synced_kind = 4

pub record LogRecord : Type 0 where
  pub kind : ℕ
  pub body : List ℕ

-- What a caller is handed for a record that is not there.
abbrev pub no_record : LogRecord
no_record = record { kind = 0; body = [] }

-- The card of an update and of a synced record.
abbrev pub record_card : LogRecord → ℕ
record_card r = field 0 2 r.body

-- The side of an update: 1 for the original, 2 for the translation.
abbrev pub record_side : LogRecord → ℕ
record_side r = get_or r.body 2 0

-- The text of an update.
abbrev pub record_text : LogRecord → List ℕ
record_text r = drop 3 r.body

-- The transaction of a begin, a commit and a synced record; the last has its card in front of it.
abbrev pub record_transaction : LogRecord → ℕ
record_transaction r = cond (eqb r.kind synced_kind) (field 2 4 r.body) (field 0 4 r.body)

-- Rule 11.4: the body is laid out as the kind asks, and a u16 holds its length.
unfoldable pub shaped : LogRecord → Bool
shaped r =
    ltb (length r.body) 65536
    && ((eqb r.kind begin_kind || eqb r.kind commit_kind) && eqb (length r.body) 4
    || eqb r.kind update_kind && leb 3 (length r.body) && (eqb (record_side r) 1 || eqb (record_side r) 2)
    || eqb r.kind synced_kind && eqb (length r.body) 6)

-- ---- the order of records (rule 11.5), of any numbered records f 0, f 1, ..

-- The last transaction that the first i of them begin; 0 where they begin none.
unfoldable pub last_begun : (ℕ → LogRecord) → ℕ → ℕ
last_begun f zero = 0
last_begun f (suc i) = cond (eqb (f i).kind begin_kind) (record_transaction (f i)) (last_begun f i)

-- It is open after the first i of them: no commit came since.
unfoldable pub opened : (ℕ → LogRecord) → ℕ → Bool
opened f zero = false
opened f (suc i) = eqb (f i).kind begin_kind || opened f i && not (eqb (f i).kind commit_kind)

-- Rule 11.5: the record may come next, where `last` was begun last and is open or not: an update needs it open; a synced record may come at any time; a begin
-- needs a higher transaction; a commit closes the one that is open.
unfoldable pub follows : ℕ → Bool → LogRecord → Bool
follows last running r =
    cond (eqb r.kind update_kind) running
    (cond (eqb r.kind synced_kind) true
    (cond (eqb r.kind begin_kind) (ltb last (record_transaction r)) (running && eqb (record_transaction r) last)))

abbrev pub joins : ℕ → Bool → LogRecord → Bool
joins last running r = shaped r && follows last running r

-- ---- the bytes (rule 11.2)

-- The sum of a body's bytes, as a u32 that wraps (rule 11.2).
unfoldable pub total : List ℕ → ℕ
total [] = 0
total (b ∷ l) = b + total l

abbrev pub checksum : List ℕ → ℕ
checksum body = total body % 4294967296

-- How many records the log counts.
abbrev pub record_count : List ℕ → ℕ
record_count log = get_or log 0 0

-- Where line i begins, and its four fields (rules 11.1 and 11.2).
abbrev pub line_place : ℕ → ℕ
line_place i = 1 + line_size * i

abbrev pub kind_at : List ℕ → ℕ → ℕ
kind_at log i = get_or log (line_place i) 0

abbrev pub place_at : List ℕ → ℕ → ℕ
place_at log i = field (line_place i + 1) 4 log

abbrev pub length_at : List ℕ → ℕ → ℕ
length_at log i = field (line_place i + 5) 2 log

abbrev pub sum_at : List ℕ → ℕ → ℕ
sum_at log i = field (line_place i + 7) 4 log

-- Where body i begins: the bodies stand end to end.
unfoldable pub start_at : List ℕ → ℕ → ℕ
start_at log zero = bodies_from
start_at log (suc i) = start_at log i + length_at log i

-- Record i.
unfoldable pub record_at : List ℕ → ℕ → LogRecord
record_at log i = record { kind = kind_at log i; body = part (start_at log i) (length_at log i) log }

-- ---- a good log (rules 11.5 and 11.6)

-- Record i ends within the log, stands where its line says, adds up to the sum that its line says, is laid out as its kind asks and may stand there.
unfoldable pub record_ok : List ℕ → ℕ → Bool
record_ok log i =
    leb (start_at log (suc i)) (length log)
    && all
    (eqb (place_at log i) (start_at log i)
    ∷ eqb (sum_at log i) (checksum (record_at log i).body)
    ∷ joins (last_begun (record_at log) i) (opened (record_at log) i) (record_at log i)
    ∷ [])

-- Rule 11.6, with the limits of rule 11.1.
unfoldable pub good_log : List ℕ → Bool
good_log log =
    leb bodies_from (length log)
    && leb (length log) most_log
    && leb (record_count log) most_records
    && every (record_ok log) (record_count log)

-- What a check answers (rule 11.8).
abbrev pub log_number : List ℕ → ℕ
log_number log = cond (good_log log) 0 BAD_LOG

-- ---- what is read back (rule 11.7)

-- The counted records, in order (rule 11.7).
unfoldable pub records : List ℕ → List LogRecord
records log = tabulate (record_at log) (record_count log)

-- Nothing is read back of a log that is not good.
abbrev pub read_back : List ℕ → List LogRecord
read_back log = cond (good_log log) (records log) []

-- Record i, for a reader who asks for one (rule 11.7).
unfoldable pub read_at : List ℕ → ℕ → LogRecord
read_at log i = get_or (read_back log) i no_record
