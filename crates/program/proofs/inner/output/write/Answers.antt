-- The three cases by the tests that lead there. Assumes nothing.
use native.Mathlib.Omega.{arith}
use mathlib.Core.Path.{sym, ◌∙◌}
use Rattle.program.specs.Text.{quoted}
use Rattle.program.proofs.Answered.{lent, too_long, bad_store, lines_of}
use Rattle.program.proofs.inner.output.write.Goals as goal

pub returns-then-input-gt-MOST_INPUT : goal.returns-then-input-gt-MOST_INPUT
unfolding quoted
returns-then-input-gt-MOST_INPUT c = too_long _ c.if-input-gt-MOST_INPUT.true c.put_text.ensures

pub returns-in_default : goal.returns-in_default
unfolding quoted
returns-in_default c = bad_store _ c.if-input-gt-MOST_INPUT.false (sym c.in_default.is ∙ c.front.ensures) c.put_text-in_default.ensures

pub answers-requires : goal.answers-requires
answers-requires c = lent _ _ (sym c.in-Some.is ∙ c.front.ensures) _ _ c.if-input-gt-MOST_INPUT.false c.put_first-lines.ensures.few (omega (arith, c.requires))

pub returns : goal.returns
returns c = lines_of _ c.if-input-gt-MOST_INPUT.false _ (sym c.in-Some.is ∙ c.front.ensures) c.put_first-lines.ensures c.answers.ensures
