-- The loop: what is left to count. Assumes nothing.
use native.Mathlib.Omega.{arith}
use Rattle.history.proofs.Walk.{long, extending_none, extending_within, extending_more, extending_done}
use Rattle.history.proofs.inner.kept.totals_of.Goals as goal

pub loop-command-init : goal.loop-command-init
loop-command-init c = rw (c.into_iter-command-iterator.ensures.into_iter_gives, c.new-command-items.ensures) (extending_none _)

pub overflow_add-count : goal.overflow_add-count
overflow_add-count c = let w = extending_within c.loop-command.invariant c.in-Some.ensures.steps.first in omega (arith, w, c.well_formed)

pub overflow_sub-payloads : goal.overflow_sub-payloads
overflow_sub-payloads c = long c.loop-command.command-iterator c.in-Some.ensures.steps.first

pub overflow_add-payloads : goal.overflow_add-payloads
overflow_add-payloads c = let w = extending_within c.loop-command.invariant c.in-Some.ensures.steps.first in omega (arith, w, c.well_formed)

pub loop-command-preserved : goal.loop-command-preserved
loop-command-preserved c = extending_more c.loop-command.invariant c.in-Some.ensures.steps.first (long c.loop-command.command-iterator c.in-Some.ensures.steps.first)

pub overflow_mul-result : goal.overflow_mul-result
overflow_mul-result c = let w = (extending_done c.loop-command.invariant c.in-None.ensures.steps.first.0).within in omega (arith, w, c.well_formed)

pub overflow_add-result : goal.overflow_add-result
overflow_add-result c = let w = (extending_done c.loop-command.invariant c.in-None.ensures.steps.first.0).within in omega (arith, w, c.well_formed)

pub returns : goal.returns
returns c = extending_done c.loop-command.invariant c.in-None.ensures.steps.first.0
