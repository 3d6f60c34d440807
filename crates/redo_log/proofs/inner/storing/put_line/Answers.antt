-- Kind, place, length and sum, each with what is left of the budget: the first stores of a line. Assumes nothing.
use native.Mathlib.Omega.{arith}
use Rattle.redo_log.proofs.Budget.{line_put}
use Rattle.redo_log.proofs.inner.storing.put_line.Goals as goal

pub returns : goal.returns
returns c =
    rw (
      c.put_number-4.ensures,
      c.saturating_sub-3.ensures,
      c.put_number-3.ensures,
      c.saturating_sub-2.ensures,
      c.put_number-2.ensures,
      c.saturating_sub.ensures,
      c.put_number.ensures,
    )
    (line_put c.args.budget c.args.at c.args.kind c.args.place _ c.args.body.now c.args.log.now
    c.requires.0 (omega (arith, c.ranges.kind)) c.sum_of.ensures)
