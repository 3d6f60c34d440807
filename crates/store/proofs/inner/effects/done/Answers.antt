-- The entry is the raised one. Assumes nothing.

use Rattle.store.proofs.inner.effects.done.Goals as goal

pub returns : goal.returns
returns c = rw c.raised-entry.ensures
