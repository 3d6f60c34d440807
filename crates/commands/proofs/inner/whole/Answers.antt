-- The blanks are looked at last. Assumes nothing.
use mathlib.Core.Path.{◌∙◌}
use Rattle.lists.specs.Parts.{part}
use Rattle.commands.proofs.CommandBytes.{whole_by}
use Rattle.commands.proofs.inner.whole.Goals as goal

pub returns-clause-tests : goal.returns-clause-tests
unfolding part
returns-clause-tests c = c.all_zero.ensures ∙ whole_by _ _ c.read_u16.ensures c.layout-fixed.ensures.fixed c.layout-blank.ensures.blank_at c.if-bytes-fixed-2.false
