-- The loop: what is left to count. Assumes nothing.
use Rattle.stream.specs.Stream.{unread}
use Rattle.history.proofs.Walk.{Extending}
use Rattle.history.proofs.inner.kept.totals_of.Given as goal

abbrev pub invariant-loop-command : goal.invariant-loop-command
invariant-loop-command l = Extending l.kept (unread l.command-iterator) l.count l.payloads
