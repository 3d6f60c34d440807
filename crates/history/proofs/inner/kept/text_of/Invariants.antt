-- The loop: what is left to look at. Assumes nothing.
use mathlib.Core.Path.{◌≡◌}
use mathlib.Core.List.{reverse}
use Rattle.formats.specs.Format.{V1}
use Rattle.stream.specs.Stream.{commands, unread}
use Rattle.history.specs.inner.Steps.{written_by}
use Rattle.history.proofs.Walk.{over, puts}
use Rattle.history.proofs.inner.kept.text_of.Given as goal

abbrev pub invariant-loop-command : goal.invariant-loop-command
invariant-loop-command l = over (puts l.act l.card) l.text (unread l.command-iterator) ≡ written_by l.act (reverse (commands V1 l.kept)) l.card
