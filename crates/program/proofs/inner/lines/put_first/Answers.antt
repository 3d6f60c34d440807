-- One text behind the other. Assumes nothing.
use native.Mathlib.Omega.{arith}
use Rattle.program.proofs.Puts.{put_put, put_wide}
use Rattle.program.specs.Text.{quoted}
use Rattle.program.specs.Program.{first_line}
use Rattle.program.proofs.inner.lines.put_first.Goals as goal

pub returns : goal.returns
unfolding first_line quoted
returns c = put_wide (omega arith) (put_put (omega arith) (put_put (omega arith) c.put_text-number.ensures c.put_spaced-end.ensures) c.put_text.ensures)
