-- One text behind the other. Assumes nothing.
use native.Mathlib.Omega.{arith}
use Rattle.program.proofs.Puts.{put_put}
use Rattle.program.specs.Text.{quoted}
use Rattle.program.proofs.inner.text.put_spaced.Goals as goal

pub returns : goal.returns
unfolding quoted
returns c = put_put (omega arith) c.put_text-behind.ensures c.put_decimal.ensures
