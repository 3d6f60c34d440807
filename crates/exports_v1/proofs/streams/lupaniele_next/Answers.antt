-- The step, and whether it went on. Assumes nothing.
use Rattle.formats.specs.Format.{V1}
use Rattle.stream.proofs.Place.{moved}
use Rattle.exports_v1.proofs.streams.lupaniele_next.Goals as goal

pub returns : goal.returns
returns c = record { whole = moved V1 _ _ c.next_from-next.ensures; end = c.next_from-next.ensures }
