-- A log that is not good, and one with no such record, have nothing there; else record i is read. Assumes nothing.
use native.Mathlib.Omega.{arith}
use mathlib.Core.Path.{refl, ap, ◌∙◌, ◌≡◌, subst}
use mathlib.Core.List.{List}
use mathlib.Core.Bool.{true}
use Prim.Native.Nat.{ℕ}
use Rattle.redo_log.specs.Log.{LogRecord, good_log, record_count, record_at}
use Rattle.redo_log.proofs.ReadBack.{read_bad, read_past, read_is, length_read}
use Rattle.redo_log.proofs.kind_of.Goals as goal

pub returns-in_err-log-clause-kind : goal.returns-in_err-log-clause-kind
returns-in_err-log-clause-kind c = rw c.from_residual.ensures (ap (λ (r : LogRecord). r.kind) (read_bad c.args.log.now c.args.i c.in_err-log.ensures))

pub returns-then-count-i-clause-kind : goal.returns-then-count-i-clause-kind
returns-then-count-i-clause-kind c =
    let good : good_log c.args.log.now ≡ true = subst (λ (l : List ℕ). good_log l ≡ true) c.in_ok-log.ensures c.in_ok-log.log.good in
    let count = subst (λ (l : List ℕ). c.count.result ≡ record_count l) c.in_ok-log.ensures c.count.ensures in
    ap (λ (r : LogRecord). r.kind) (read_past c.args.log.now c.args.i good (omega (arith, count)))

pub returns-then-count-i-clause-there : goal.returns-then-count-i-clause-there
returns-then-count-i-clause-there c =
    let good : good_log c.args.log.now ≡ true = subst (λ (l : List ℕ). good_log l ≡ true) c.in_ok-log.ensures c.in_ok-log.log.good in
    let count = subst (λ (l : List ℕ). c.count.result ≡ record_count l) c.in_ok-log.ensures c.count.ensures in
    ((λ e. cc), λ h. absurd (omega (arith, count, length_read c.args.log.now good, h)))

pub returns-clause-kind : goal.returns-clause-kind
returns-clause-kind c =
    let good : good_log c.args.log.now ≡ true = subst (λ (l : List ℕ). good_log l ≡ true) c.in_ok-log.ensures c.in_ok-log.log.good in
    let count = subst (λ (l : List ℕ). c.count.result ≡ record_count l) c.in_ok-log.ensures c.count.ensures in
    subst (λ (l : List ℕ). c.kind_at.result ≡ (record_at l c.args.i).kind) c.in_ok-log.ensures c.kind_at.ensures
    ∙ ap (λ (r : LogRecord). r.kind) (read_is c.args.log.now c.args.i good (omega (arith, count)))

pub returns-clause-there : goal.returns-clause-there
returns-clause-there c =
    let good : good_log c.args.log.now ≡ true = subst (λ (l : List ℕ). good_log l ≡ true) c.in_ok-log.ensures c.in_ok-log.log.good in
    let count = subst (λ (l : List ℕ). c.count.result ≡ record_count l) c.in_ok-log.ensures c.count.ensures in
    ((λ e. omega (arith, count, length_read c.args.log.now good)), λ h. refl)
