-- By the record's kind and body. Assumes nothing.
use mathlib.Core.Path.{◌∙◌}
use Rattle.redo_log.proofs.Reading.{last_next}
use Rattle.redo_log.proofs.Placed.{shaped_here}
use Rattle.redo_log.proofs.inner.records.last_at.Goals as goal

pub last_after-requires : goal.last_after-requires
last_after-requires c = rw (c.kind_at.ensures, c.body_at.ensures) (shaped_here _ _ c.requires.0 c.requires.1)

pub returns : goal.returns
returns c = c.last_after.ensures ∙ last_next _ _ _ _ _ c.kind_at.ensures c.body_at.ensures c.requires.2
