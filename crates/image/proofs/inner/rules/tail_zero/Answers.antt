-- The bytes past the text. Assumes nothing.
use native.Mathlib.Omega.{arith}
use Prim.Native.Nat.{◌+◌, ◌-◌}
use Rattle.image.proofs.Parts.{cut}
use Rattle.image.proofs.inner.rules.tail_zero.Goals as goal

pub returns : goal.returns
returns c = rw (c.all_zero.ensures, cut (c.args.at + c.args.count) (c.args.room - c.args.count) (c.args.at + c.args.room) c.args.image.now (omega arith))
