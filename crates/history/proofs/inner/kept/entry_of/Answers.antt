-- The loop: what is left to take. Assumes nothing.
use mathlib.Core.Path.{refl}
use native.Mathlib.Omega.{arith}
use Rattle.history.proofs.Walk.{long, working_done, takes, entering_none, entering_low, entering_more}
use Rattle.history.proofs.inner.kept.entry_of.Goals as goal

pub loop-command-init : goal.loop-command-init
loop-command-init c = rw (c.into_iter-command-iterator.ensures.into_iter_gives, c.new-command-items.ensures) (entering_none _ _ _ c.requires refl)

pub fields-requires : goal.fields-requires
fields-requires c = let h = long c.loop-command.command-iterator c.in-Some.ensures.steps.first in omega (arith, h)

pub taken-e-requires : goal.taken-e-requires
taken-e-requires c = entering_low c.loop-command.invariant

pub loop-command-preserved : goal.loop-command-preserved
loop-command-preserved c = entering_more c.loop-command.invariant _ c.in-Some.ensures.steps.first (long c.loop-command.command-iterator c.in-Some.ensures.steps.first) (rw
    (c.taken-e.ensures, c.fields.ensures))

pub returns : goal.returns
returns c = working_done (takes c.args.card) c.loop-command.invariant.working c.in-None.ensures.steps.first.0
