-- The loop: what is left to take. Assumes nothing.
use Rattle.stream.specs.Stream.{unread}
use Rattle.history.proofs.Walk.{Entering}
use Rattle.history.proofs.inner.kept.entry_of.Given as goal

abbrev pub invariant-loop-command : goal.invariant-loop-command
invariant-loop-command l = Entering l.kept l.card (unread l.command-iterator) l.e
