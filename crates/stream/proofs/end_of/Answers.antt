-- The loop: how far it is to the end from the place that is reached. The measure is what is left of the stream. Assumes nothing.
use mathlib.Core.Path.{sym, ◌∙◌}
use Rattle.stream.proofs.Commands.{walked_none, walked_more, walked_done}
use Rattle.stream.proofs.end_of.Goals as goal

pub loop-end-init : goal.loop-end-init
loop-end-init c = walked_none _ _

pub loop-end-smaller : goal.loop-end-smaller
loop-end-smaller c = (walked_more _ _ _ _ c.loop-end.invariant (sym c.next_at.ensures ∙ c.in-Some.is)).1

pub loop-end-preserved : goal.loop-end-preserved
loop-end-preserved c = (walked_more _ _ _ _ c.loop-end.invariant (sym c.next_at.ensures ∙ c.in-Some.is)).0

pub returns : goal.returns
returns c = walked_done _ _ _ c.loop-end.invariant (sym c.next_at.ensures ∙ c.in_default.is)
