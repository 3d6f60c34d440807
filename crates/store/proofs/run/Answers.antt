-- The image is checked, and then the stream is run. Assumes nothing.

use Rattle.store.proofs.run.Goals as goal

pub returns : goal.returns
returns c = c.many.ensures.ran
