-- The step, and whether it went on. Assumes nothing.
use Rattle.formats.specs.Format.{V2}
use Rattle.stream.proofs.Place.{moved}
use Rattle.exports_v2.proofs.streams.lupaniele_next_v2.Goals as goal

pub returns : goal.returns
returns c = record { whole = moved V2 _ _ c.next_from-next.ensures; end = c.next_from-next.ensures }
