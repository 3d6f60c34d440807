-- Its parts one after the other. Assumes nothing.
use Rattle.image.specs.inner.Write.{entry_with}
use Rattle.image.proofs.inner.write.store_entry.Goals as goal

pub returns : goal.returns
unfolding entry_with
returns c = rw (c.store_translation.ensures, c.store_original.ensures, c.store_stamps.ensures)
