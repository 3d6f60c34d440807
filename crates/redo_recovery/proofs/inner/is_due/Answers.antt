-- By the kind of the record, its transaction and its card: two searches through the records. Assumes nothing.
use native.Mathlib.Omega.{arith}
use Rattle.std.proofs.Common.{rules}
use Prim.Native.Nat.{ℕ}
use mathlib.Core.Path.{ap, ◌∙◌}
use Rattle.std.proofs.lemmas.Iterator.Search.{any_from_yields_List}
use Rattle.std.proofs.lemmas.Iterator.Consumers.{YieldsList-from_first}
use Rattle.lists.specs.Search.{any}
use Rattle.redo_log.specs.Log.{records}
use Rattle.redo_log.specs.inner.Placed.{Placed, places}
use Rattle.redo_log.specs.inner.Shown.{as_record, records_left}
use Rattle.redo_log.proofs.Records.{update_long}
use Rattle.redo_log.proofs.Placed.{any_places}
use Rattle.redo_recovery_model.specs.Recovery.{commits_to, syncs_from}
use Rattle.redo_recovery.proofs.Laws.{due_when, due_unless}
use Rattle.redo_recovery.proofs.inner.is_due.Goals as goal

pub read_u16-card-requires : goal.read_u16-card-requires
read_u16-card-requires c = omega (arith, update_long _ _ c.args.record.now.is_shaped c.if-record-ne-UPDATE.false)

pub returns-then-any : goal.returns-then-any
returns-then-any c =
    let log = c.args.log.now.bytes.now in
    let t = c.args.record.now.transaction in
    due_when (records log) (as_record c.args.record.now) c.if-record-ne-UPDATE.false
    (any_from_yields_List (λ (p : Placed). commits_to t p.entry) c.any.new.self _ c.any.result c.any.ensures.ran
    (YieldsList-from_first as_record records_left (places log) c.records.ensures) (λ x b q k. search rules)
    ∙ any_places (commits_to t) log)
    c.if-any.true
    (any_from_yields_List (λ (p : Placed). syncs_from c.read_u16-card.result t p.entry) c.any-then-any.new.self _ c.any-then-any.result c.any-then-any.ensures.ran
    (YieldsList-from_first as_record records_left (places log) c.records-then-any.ensures) (λ x b q k. search rules)
    ∙ any_places (syncs_from c.read_u16-card.result t) log
    ∙ ap (λ (k : ℕ). any (syncs_from k t) (records log)) c.read_u16-card.ensures)

pub returns-else-any : goal.returns-else-any
returns-else-any c =
    let log = c.args.log.now.bytes.now in
    let t = c.args.record.now.transaction in
    due_unless (records log) (as_record c.args.record.now) c.if-record-ne-UPDATE.false
    (any_from_yields_List (λ (p : Placed). commits_to t p.entry) c.any.new.self _ c.any.result c.any.ensures.ran
    (YieldsList-from_first as_record records_left (places log) c.records.ensures) (λ x b q k. search rules)
    ∙ any_places (commits_to t) log)
    c.if-any.false
