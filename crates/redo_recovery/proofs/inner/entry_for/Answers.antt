use native.Mathlib.Omega.{arith}
use mathlib.Core.Path.{◌∙◌}
use Rattle.formats.specs.Format.{V1}
use Rattle.redo_recovery.proofs.Laws.{entry_none, entry_some, entry_inside}
use Rattle.store.proofs.Kept.{header_in}
use lib.Dec.{lit<}
use Rattle.redo_recovery.proofs.inner.entry_for.Goals as goal

pub count-requires : goal.count-requires
count-requires c = header_in V1 _ c.requires

pub returns-then-count-k : goal.returns-then-count-k
returns-then-count-k c = entry_none c.args.image.now c.args.k (omega (arith, c.count.ensures))

pub entry_at-requires : goal.entry_at-requires
entry_at-requires c = (entry_inside c.args.image.now c.args.k c.requires (omega (arith, c.count.ensures)), lit< tt)

pub returns : goal.returns
returns c = c.entry_at.ensures ∙ entry_some c.args.image.now c.args.k c.requires (omega (arith, c.count.ensures))
