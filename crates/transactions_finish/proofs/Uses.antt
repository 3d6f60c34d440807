-- That what is begun can be finished, used at the hazard with just enough room, of a card that is not in the image too. A
-- stricter hypothesis or a sentence left out is noticed here.
-- Assumes nothing.
use native.Mathlib.Omega.{arith}
use mathlib.Core.Path.{◌≡◌, ap}
use mathlib.Core.Bool.{true, false}
use lib.Dec.{eqb}
use Rattle.commands.specs.Command.{original}
use Rattle.redo_log.specs.Log.{records}
use Rattle.redo_recovery_model.specs.Claims.{text_in}
use Rattle.transactions.specs.System.{OneDesk, mark_in, nothing_due}
use Rattle.transaction_steps_claims.specs.Follower.{AllDoings, after_doings, all_as_told}
use Rattle.transactions_finish.specs.Finish.{own_doings, starts_again, Finishes}
use Rattle.transactions_finish.specs.Cases.{half_done_in, Outlook}
use Rattle.transactions_finish.proofs.Finish.{can_always_finish}
use Rattle.transactions_finish.proofs.Cases.{finish_runs}

ends : Finishes 5 (half_done_in 32)
ends = can_always_finish 5 (half_done_in 32) (omega arith) finish_runs.met (ap (λ (o : Outlook). o.room) finish_runs.enough)

abbrev end : OneDesk
end = (after_doings 5 (starts_again (half_done_in 32)) ends.doings).desk

in_bytes : AllDoings ends.doings
in_bytes = ends.bytes

its_own : own_doings ends.doings ≡ true
its_own = ends.own

as_told_lem : all_as_told 5 (starts_again (half_done_in 32)) ends.doings ≡ true
as_told_lem = ends.told

no_mark_lem : eqb (mark_in end.image 9).desk 5 ≡ false
no_mark_lem = ends.finished.unmarked 9

no_more : nothing_due (records end.log) ≡ true
no_more = ends.finished.done

as_meant : text_in end.image original 1 ≡ (half_done_in 32).meant 1 original
as_meant = ends.finished.texts 1 original
