-- A note in the log: that it is appended, what room it leaves, and what is due after it. Assumes nothing.
use Prim.Native.Nat.{ℕ, zero, suc, ◌+◌, ◌≤◌, ◌<◌}
use native.Mathlib.Omega.{arith}
use mathlib.Core.Path.{◌≡◌, refl, sym, ap, ◌∙◌, subst}
use mathlib.Core.Logic.{◌⊎◌, inl, inr}
use mathlib.Core.List.{List, [], ◌∷◌, ◌++◌}
use mathlib.Core.Bool.{Bool, true, false, cond, not}
use borrow.Author.Tests.{ne_eqb, le-ltb, ltb-true, ltb-false}
use lib.ListN.{length}
use lib.Dec.{eqb, ltb, lit<}
use Rattle.lists.specs.Parts.{Bytes, part}
use Rattle.lists.specs.Le.{to_le, field}
use Rattle.lists.proofs.Bytes.{Bytes_nil, Bytes_append}
use Rattle.lists.proofs.Le.{le_to_le, le_part_bound, Bytes_to_le}
use Rattle.lists.proofs.Parts.{length_part}
use Rattle.lists.proofs.Tests.{cases, and_in, or_none}
use Rattle.redo_log.specs.Log.{
  LogRecord,
  bodies_from,
  most_records,
  begin_kind,
  synced_kind,
  record_card,
  record_transaction,
  shaped,
  follows,
  last_begun,
  opened,
  start_at,
  length_at,
  record_at,
  record_count,
  good_log,
  records,
}
use Rattle.redo_log.specs.Append.{accepts, lacks, append_number, appended}
use Rattle.redo_log.proofs.Records.{good_record, ok_inside}
use Rattle.redo_log.proofs.ReadBack.{length_records, record_of}
use Rattle.redo_log_claims.specs.Cases.{synced_of}
use Rattle.redo_log_claims.proofs.Claims.{appends}
use Rattle.redo_recovery_model.specs.Recovery.{record_in, transaction_in}
use Rattle.redo_recovery_model.proofs.Sending.{FitsRecords}
use Rattle.transactions.specs.System.{due_for}
use Rattle.transactions.proofs.Records.{more, length_more, in_old, in_new, past}
use Rattle.transaction_steps.specs.Steps.{last_due}

-- ---- where the bodies end, by the records

sizes : List LogRecord → ℕ → ℕ
sizes rs zero = 0
sizes rs (suc i) = sizes rs i + length (record_in rs i).body

size_at : (log : List ℕ) → good_log log ≡ true → (i : ℕ) → i < record_count log → length (record_in (records log) i).body ≡ length_at log i
unfolding record_at
size_at log g i h = ap (λ (r : LogRecord). length r.body) (record_of log i h) ∙ length_part (start_at log i) (length_at log i) log (ok_inside log i (good_record log g i h))

ends_at : (log : List ℕ) → good_log log ≡ true → (n : ℕ) → n ≤ record_count log → start_at log n ≡ bodies_from + sizes (records log) n
unfolding start_at sizes
ends_at log g zero h = omega arith
ends_at log g (suc i) h = omega (arith, ends_at log g i (omega arith), size_at log g i h)

sizes_old : (rs : List LogRecord) (r : LogRecord) (n : ℕ) → n ≤ length rs → sizes (more rs r) n ≡ sizes rs n
unfolding sizes
sizes_old rs r zero h = refl
sizes_old rs r (suc i) h =
    let body : length (record_in (more rs r) i).body ≡ length (record_in rs i).body = ap (λ (q : LogRecord). length q.body) (in_old rs r i h) in
    omega (arith, sizes_old rs r i (omega arith), body)

sizes_new : (rs : List LogRecord) (r : LogRecord) → sizes (more rs r) (suc (length rs)) ≡ sizes rs (length rs) + length r.body
unfolding sizes
sizes_new rs r =
    let body : length (record_in (more rs r) (length rs)).body ≡ length r.body = ap (λ (q : LogRecord). length q.body) (in_new rs r) in
    omega (arith, sizes_old rs r (length rs) (omega arith), body)

-- ---- transactions fit into their fields

module _ (rs : List LogRecord) (fit : FitsRecords rs) where
  bytes_at : (i : ℕ) → Bytes (record_in rs i).body
  bytes_at i = go (cases (ltb i (length rs)))
    where
      go : (ltb i (length rs) ≡ true) ⊎ (ltb i (length rs) ≡ false) → Bytes (record_in rs i).body
      go (inl e) = (fit i (ltb-true i (length rs) e)).0
      go (inr e) = subst (λ (r : LogRecord). Bytes r.body) (sym (past rs i (ltb-false i (length rs) e))) Bytes_nil

  transaction_fits : (i : ℕ) → record_transaction (record_in rs i) < 4294967296
  transaction_fits i = go (eqb (record_in rs i).kind synced_kind)
    where
      go : (b : Bool) → cond b (field 2 4 (record_in rs i).body) (field 0 4 (record_in rs i).body) < 4294967296
      go true = le_part_bound 2 4 (record_in rs i).body (bytes_at i)
      go false = le_part_bound 0 4 (record_in rs i).body (bytes_at i)

  begun_fits : (i : ℕ) → transaction_in rs i < 4294967296
  unfolding last_begun
  begun_fits zero = lit< tt
  begun_fits (suc i) = go (eqb (record_in rs i).kind begin_kind) (begun_fits i)
    where
      go : (b : Bool) → transaction_in rs i < 4294967296 → cond b (record_transaction (record_in rs i)) (last_begun (record_in rs) i) < 4294967296
      go true h = transaction_fits i
      go false h = h

  pub last_fits : (k n : ℕ) → last_due rs k n < 4294967296
  unfolding last_due
  last_fits k zero = lit< tt
  last_fits k (suc i) = go (due_for rs k i) (last_fits k i)
    where
      go : (b : Bool) → last_due rs k i < 4294967296 → cond b (transaction_in rs i) (last_due rs k i) < 4294967296
      go true h = begun_fits i
      go false h = h

-- ---- the record

-- Stores of its append.
abbrev pub note_stores : ℕ
note_stores = 18

module _ (k t : ℕ) (low : k < 65536) (small : t < 4294967296) where
  pub note_card : record_card (synced_of k t) ≡ k
  unfolding to_le part
  note_card = le_to_le 2 k low

  pub note_transaction : record_transaction (synced_of k t) ≡ t
  unfolding to_le part
  note_transaction = le_to_le 4 t small

  pub note_bytes : Bytes (synced_of k t).body
  note_bytes = Bytes_append (to_le 2 k) (to_le 4 t) (Bytes_to_le 2 k) (Bytes_to_le 4 t)

  note_long : length (synced_of k t).body ≡ 6
  unfolding to_le
  note_long = refl

  note_shaped : shaped (synced_of k t) ≡ true
  unfolding shaped to_le
  note_shaped = refl

  note_follows : (last : ℕ) (running : Bool) → follows last running (synced_of k t) ≡ true
  unfolding follows
  note_follows last running = refl

  module _ (log : List ℕ) (g : good_log log ≡ true) (line : record_count log < most_records) (room : start_at log (record_count log) + 6 ≤ length log) where
    abbrev r : LogRecord
    r = synced_of k t

    abbrev pub noted : List ℕ
    noted = appended note_stores log r

    is_accepted : accepts log r ≡ true
    is_accepted = and_in g (and_in note_shaped (note_follows (last_begun (record_at log) (record_count log)) (opened (record_at log) (record_count log))))

    lacks_nothing : lacks log r ≡ false
    lacks_nothing =
        or_none (ne_eqb (record_count log) most_records (λ e. omega (arith, e, line)))
        (le-ltb (length log) (start_at log (record_count log) + length r.body) (omega (arith, note_long, room)))

    uncut : ltb note_stores (length r.body + 12) ≡ false
    uncut = le-ltb note_stores (length r.body + 12) (omega (arith, note_long))

    pub note_number : append_number note_stores log r ≡ 0
    note_number =
        ap (λ (b : Bool). cond (not b) 23 (cond (lacks log r) 24 (cond (ltb note_stores (length r.body + 12)) 26 0))) is_accepted
        ∙ ap (λ (b : Bool). cond b 24 (cond (ltb note_stores (length r.body + 12)) 26 0)) lacks_nothing
        ∙ ap (λ (b : Bool). cond b 26 0) uncut

    pub note_records : records noted ≡ records log ++ r ∷ []
    note_records = ((appends note_stores log r).whole note_number).1

    pub note_length : length noted ≡ length log
    note_length = (appends note_stores log r).long

    pub note_count : record_count noted ≡ record_count log + 1
    note_count =
        let rs : List LogRecord = records log in
        let one_more : length (records noted) ≡ suc (length rs) = ap length note_records ∙ length_more rs r in
        omega (arith, length_records noted, length_records log, one_more)

    pub note_end : start_at noted (record_count noted) ≡ start_at log (record_count log) + 6
    note_end =
        let rs : List LogRecord = records log in
        let same : record_count noted ≡ suc (length rs) = note_count ∙ omega (arith, length_records log) in
        let after : sizes (records noted) (record_count noted) ≡ sizes rs (length rs) + 6 =
        ap (λ (l : List LogRecord). sizes l (record_count noted)) note_records
        ∙ ap (sizes (more rs r)) same
        ∙ sizes_new rs r
        ∙ ap (λ (n : ℕ). sizes rs (length rs) + n) note_long in
        let before : sizes rs (record_count log) ≡ sizes rs (length rs) = ap (sizes rs) (sym (length_records log)) in
        omega (arith, ends_at noted ((appends note_stores log r).whole note_number).0 (record_count noted) (omega arith), ends_at log g (record_count log) (omega arith), after, before)
