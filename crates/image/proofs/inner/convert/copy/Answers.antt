-- The part that is read, put in its place. Assumes nothing.
use Prim.Native.Nat.{◌+◌}
use mathlib.Core.Path.{refl}
use Rattle.image.proofs.Parts.{cut}
use Rattle.image.proofs.inner.convert.copy.Goals as goal

pub returns : goal.returns
returns c = rw (c.put.ensures, cut c.args.from c.args.count (c.args.from + c.args.count) c.args.image.now refl)
