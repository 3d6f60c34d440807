-- One record of a recovery, in the terms of the code. Recovery as a whole is `recovered`.
-- Assumes nothing.
use Rattle.std.specs.Prelude.{ℕ, List, [], Bool, cond, not, ◌&&◌, eqb}
use Rattle.formats.specs.Format.{V1}
use Rattle.redo_log.specs.Log.{LogRecord, update_kind, record_card, record_text}
use Rattle.redo_log.specs.inner.Placed.{Placed}
use Rattle.lists.specs.Search.{any}
use Rattle.store_model.specs.Serve.{Outcome, serve}
use Rattle.redo_recovery_model.specs.Recovery.{Pairs, record_in, commits_to, syncs_from, due, write_by, entry_for, recovery_sent}
use Rattle.commands.specs.Bytes.{command_bytes}
use Rattle.stamps.specs.declared.Pair.{Pair}

-- A record of these is due (rule 11.15), by the transaction that it belongs to.
abbrev pub due_by : List LogRecord → Placed → Bool
due_by rs p =
    eqb p.entry.kind update_kind
    && any (commits_to p.transaction) rs
    && not (any (syncs_from (record_card p.entry) p.transaction) rs)

-- What the write of an update leaves, under a pair and under that of its card.
abbrev pub update_written : Pair → List ℕ → LogRecord → Outcome
update_written pair image r = serve V1 image (command_bytes V1 (write_by pair (entry_for image (record_card r)) r) (record_text r)) []

abbrev pub write_outcome : Pairs → List ℕ → LogRecord → Outcome
write_outcome pairs image r = serve V1 image (recovery_sent pairs image r).command []

-- The number and the image after record i.
abbrev pub step_number : Pairs → List LogRecord → List ℕ → ℕ → ℕ
step_number pairs rs image i = cond (due rs i) (write_outcome pairs image (record_in rs i)).answer.number 0

abbrev pub step_image : Pairs → List LogRecord → List ℕ → ℕ → List ℕ
step_image pairs rs image i = cond (due rs i) (write_outcome pairs image (record_in rs i)).image image
