-- What the code's record shows, and what is left of an iterator over a log.
-- Assumes nothing.
use Rattle.std.specs.Prelude.{List, drop}
use Rattle.redo_log.specs.inner.Placed.{Placed, places}
use Rattle.redo_log.specs.declared.inner.records.Record.{Record}
use Rattle.redo_log.specs.declared.inner.records.Records.{Records}

abbrev pub as_record : Record → Placed
as_record r = record { line = r.line; transaction = r.transaction; entry = record { kind = r.kind; body = r.body.now } }

abbrev pub records_left : Records → List Placed
records_left s = drop s.line (places s.log.bytes.now)
