-- Assumes nothing.
use Rattle.redo_log.proofs.inner.records.CheckedLog.kind_at.Goals as goal

pub kind_at-requires : goal.kind_at-requires
kind_at-requires c = (c.args.self.now.good, c.requires)
