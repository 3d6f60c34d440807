-- One record read back, branch by branch. Assumes nothing.
use Prim.Native.Nat.{ℕ, ◌+◌, ◌-◌, ◌≤◌, ◌<◌}
use mathlib.Core.Path.{◌≡◌, sym, ap, ◌∙◌}
use mathlib.Core.List.{List}
use mathlib.Core.Bool.{true, false}
use lib.ListN.{length, take, drop, get_or, get_or-eq_default}
use Rattle.lists.proofs.ConcatMap.{get_d_tabulate, length_tabulate}
use Rattle.redo_log.proofs.Records.{body_at}
use Rattle.redo_log.specs.Log.{LogRecord, no_record, record_count, kind_at, length_at, start_at, record_at, good_log, records, read_back, read_at}

pub read_bad : (log : List ℕ) (i : ℕ) → good_log log ≡ false → no_record ≡ read_at log i
unfolding read_at
read_bad log i g = rw g

pub length_records : (log : List ℕ) → length (records log) ≡ record_count log
unfolding records
length_records log = length_tabulate (record_at log) (record_count log)

pub length_read : (log : List ℕ) → good_log log ≡ true → length (read_back log) ≡ record_count log
length_read log g = rw g (length_records log)

pub record_of : (log : List ℕ) (i : ℕ) → i < record_count log → get_or (records log) i no_record ≡ record_at log i
unfolding records
record_of log i h = get_d_tabulate (record_at log) (record_count log) i no_record h

pub read_past : (log : List ℕ) (i : ℕ) → good_log log ≡ true → record_count log ≤ i → no_record ≡ read_at log i
unfolding read_at
read_past log i g h = sym (rw g (get_or-eq_default (records log) no_record {n = i} (rw length_records h)))

pub read_is : (log : List ℕ) (i : ℕ) → good_log log ≡ true → i < record_count log → record_at log i ≡ read_at log i
unfolding read_at
read_is log i g h = sym (rw g (record_of log i h))

pub kind_is : (log : List ℕ) (i : ℕ) → good_log log ≡ true → i < record_count log → kind_at log i ≡ (read_at log i).kind
unfolding record_at
kind_is log i g h = ap (λ (r : LogRecord). r.kind) (read_is log i g h)

pub body_is : (log : List ℕ) (i at size : ℕ) → good_log log ≡ true → i < record_count log → at ≡ start_at log i → size ≡ length_at log i
    → take (at + size - at) (drop at log) ≡ (read_at log i).body
body_is log i at size g h ea es = body_at log i at size ea es ∙ ap (λ (r : LogRecord). r.body) (read_is log i g h)
