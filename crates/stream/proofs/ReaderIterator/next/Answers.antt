-- A command stands between the two places, and the others are those from the second one on. Assumes nothing.
use mathlib.Core.Path.{sym, ap, ◌∙◌}
use native.Mathlib.Omega.{arith}
use borrow.Author.Rules.{rules}
use lib.ListN.{length}
use Rattle.lists.specs.Parts.{part}
use Rattle.stream.proofs.Walks.{passes, stops}
use Rattle.stream.proofs.ReaderIterator.next.Goals as goal

pub returns-in_err-self-clause-steps : goal.returns-in_err-self-clause-steps
returns-in_err-self-clause-steps c = let none = stops _ _ _ (sym c.next_at.ensures ∙ c.in_err-self.was) in record { first = rw c.from_residual.ensures (none, none); moved = search rules }

pub slice_bounds-result-count : goal.slice_bounds-result-count
slice_bounds-result-count c = let w = passes _ _ _ _ (sym c.next_at.ensures ∙ c.in_ok-self.was) in omega (arith, w.0)

pub slice_bounds-result-start : goal.slice_bounds-result-start
slice_bounds-result-start c = let w = passes _ _ _ _ (sym c.next_at.ensures ∙ c.in_ok-self.was) in omega (arith, w.0)

pub slice_bounds-result-end : goal.slice_bounds-result-end
slice_bounds-result-end c = let w = passes _ _ _ _ (sym c.next_at.ensures ∙ c.in_ok-self.was) in omega (arith, w.1)

pub returns-clause-steps : goal.returns-clause-steps
unfolding part
returns-clause-steps c = record { first = (passes _ _ _ _ (sym c.next_at.ensures ∙ c.in_ok-self.was)).2; moved = search rules }

pub returns-clause-goes : goal.returns-clause-goes
unfolding part
returns-clause-goes c = let fewer = ap length (passes _ _ _ _ (sym c.next_at.ensures ∙ c.in_ok-self.was)).2 in search rules
