-- The part that is read, put at the front. Assumes nothing.
use Prim.Native.Nat.{◌+◌}
use mathlib.Core.Path.{refl}
use Rattle.image.proofs.Parts.{cut}
use Rattle.image.proofs.inner.read.copy_text.Goals as goal

pub returns : goal.returns
returns c = rw (c.put_short.ensures, cut c.args.at c.args.count (c.args.at + c.args.count) c.args.image.now refl)
