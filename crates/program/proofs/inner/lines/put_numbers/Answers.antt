-- The loop: the numbers behind those that were written are left to write. Assumes nothing.
use native.Mathlib.Omega.{arith}
use Rattle.program.proofs.Puts.{putting_more, putting_done}
use Rattle.program.proofs.Lines.{numbers_left, numbers_end}
use Rattle.program.proofs.inner.lines.put_numbers.Goals as goal

pub loop-n-preserved : goal.loop-n-preserved
loop-n-preserved c =
    let p = c.put_spaced-to.ensures in
    (putting_more _ _ c.loop-n.invariant.0 (numbers_left c.args.numbers.now (omega (arith, c.requires.1))) p (omega arith), omega (arith, p.few))

pub returns : goal.returns
returns c = putting_done _ c.loop-n.invariant.0 (numbers_end c.args.numbers.now (omega (arith, c.requires.1))) (omega arith)
