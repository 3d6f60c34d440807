-- Stored, and the fields written. Assumes nothing.
use mathlib.Core.Path.{sym}
use Rattle.lock_queue_lent.proofs.inner.arrays.write_outcome.Goals as goal

pub returns : goal.returns
returns c =
    let stored = c.store.ensures in
    sym (rw (c.write_answer.ensures, stored.modes, stored.s, stored.x, stored.kept))
