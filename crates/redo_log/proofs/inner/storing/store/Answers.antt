-- Body, line and count, each with what is left of the budget: the first stores of an append. Assumes nothing.
use Rattle.redo_log.proofs.Budget.{store_put}
use mathlib.Core.Path.{refl}
use Rattle.redo_log.proofs.inner.storing.store.Goals as goal

pub returns : goal.returns
returns c =
    rw (
      c.put_number.ensures,
      c.saturating_sub-2.ensures,
      c.put_line.ensures,
      c.saturating_sub.ensures,
      c.put_bytes.ensures,
    )
    (store_put c.args.budget c.args.stop _ c.args.kind c.args.body.now c.args.log.now c.requires.0 refl
    c.requires.1)
