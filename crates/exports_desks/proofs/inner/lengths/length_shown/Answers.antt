-- The length of the part. Assumes nothing.
use mathlib.Core.Path.{ap}
use lib.ListN.{length}
use Rattle.exports_desks.proofs.inner.lengths.length_shown.Goals as goal

pub returns : goal.returns
returns c = record { number = c.shown-part.ensures.number; count = ap length c.shown-part.ensures.part }
