-- Assumes nothing.
use Rattle.redo_log.proofs.inner.records.CheckedLog.body_at.Goals as goal

pub body_at-requires : goal.body_at-requires
body_at-requires c = (c.args.self.now.good, c.requires)
