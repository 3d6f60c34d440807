-- One text behind the other. Assumes nothing.
use native.Mathlib.Omega.{arith}
use Rattle.program.proofs.Puts.{put_put, put_wide}
use Rattle.program.specs.Text.{quoted}
use Rattle.program.proofs.inner.lines.put_line.Goals as goal

pub returns : goal.returns
unfolding quoted
returns c = put_wide (omega arith) (put_put (omega arith) (put_put (omega arith) c.put_decimal-behind.ensures c.put_numbers-end.ensures) c.put_text.ensures)
