-- One text behind the other. Assumes nothing.
use native.Mathlib.Omega.{arith}
use borrow.Author.Tests.{eq-eqb, ne_eqb}
use Rattle.program.proofs.Puts.{put_put, put_wide}
use Rattle.program.specs.Text.{quoted}
use Rattle.program.specs.Program.{last_line}
use Rattle.program.proofs.inner.lines.put_last.Goals as goal

pub returns-then-left-eq0 : goal.returns-then-left-eq0
unfolding last_line quoted
returns-then-left-eq0 c = rw (eq-eqb _ _ c.if-left-eq0.true) (put_wide (omega arith) c.put_text.ensures)

pub returns : goal.returns
unfolding last_line quoted
returns c =
    rw (ne_eqb _ _ c.if-left-eq0.false)
    (put_wide (omega arith)
    (put_put (omega arith) (put_put (omega arith) c.put_text-number.ensures c.put_spaced-end.ensures) c.put_text-2.ensures))
