-- A log that begins again. Assumes nothing.
use native.Mathlib.Omega.{arith}
use Prim.Native.Nat.{ℕ}
use mathlib.Core.Path.{◌≡◌, sym, subst, ◌∙◌}
use mathlib.Core.List.{List}
use mathlib.Core.Bool.{true}
use Rattle.redo_log.specs.Log.{good_log, records}
use Rattle.redo_log.proofs.Records.{sizes}
use Rattle.transactions.specs.System.{nothing_due}
use Rattle.transaction_steps.proofs.Stepping.{again_done}
use Rattle.transaction_steps.proofs.begin_again.Goals as goal

pub bounds-log-0 : goal.bounds-log-0
bounds-log-0 c = omega (arith, sizes _ (subst (λ (l : List ℕ). good_log l ≡ true) c.in-Some.ensures c.in-Some.good.good))

pub returns-clause-log : goal.returns-clause-log
returns-clause-log c =
    (again_done c.args.log.now (subst (λ (l : List ℕ). good_log l ≡ true) c.in-Some.ensures c.in-Some.good.good)
    (subst (λ (l : List ℕ). nothing_due (records l) ≡ true) c.in-Some.ensures (sym c.none_is_due.ensures ∙ c.if-not-none_is_due.false))).1
