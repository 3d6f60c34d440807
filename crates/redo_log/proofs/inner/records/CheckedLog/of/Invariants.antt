use Rattle.redo_log.proofs.Reading.{Scanning}
use Rattle.redo_log.proofs.inner.records.CheckedLog.of.Given as goal

abbrev pub invariant-loop : goal.invariant-loop
invariant-loop l = Scanning l.bytes l.front.0.now l.front.1.0 l.front.1.1.0 l.front.1.1.1.0 l.front.1.1.1.1.0 l.counter
