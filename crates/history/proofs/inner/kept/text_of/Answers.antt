-- The loop: what is left to look at. Assumes nothing.
use native.Mathlib.Omega.{arith}
use Prim.Native.Nat.{ℕ}
use mathlib.Core.Path.{sym, subst}
use mathlib.Core.List.{List}
use Rattle.history.specs.inner.Steps.{LiesIn}
use Rattle.history.proofs.Walk.{long, working_more, working_done, puts, text_none, put_here, put_other, written_lies}
use Rattle.history.proofs.inner.kept.text_of.Goals as goal

pub loop-command-init : goal.loop-command-init
loop-command-init c = rw (c.into_iter-command-iterator.ensures.into_iter_gives, c.new-command-items.ensures) (text_none _ _ _)

pub fields-c-requires : goal.fields-c-requires
fields-c-requires c = let h = long c.loop-command.command-iterator c.in-Some.ensures.steps.first in omega (arith, h)

pub slice_bounds-text-count : goal.slice_bounds-text-count
slice_bounds-text-count c = long c.loop-command.command-iterator c.in-Some.ensures.steps.first

pub slice_bounds-text-start : goal.slice_bounds-text-start
slice_bounds-text-start c = long c.loop-command.command-iterator c.in-Some.ensures.steps.first

pub slice_bounds-text-end-then-c-card : goal.slice_bounds-text-end-then-c-card
slice_bounds-text-end-then-c-card c = let h = long c.loop-command.command-iterator c.in-Some.ensures.steps.first in omega (arith, h)

pub loop-command-preserved-then-c-card : goal.loop-command-preserved-then-c-card
loop-command-preserved-then-c-card c = working_more (puts c.args.act c.args.card) c.loop-command.invariant c.in-Some.ensures.steps.first (put_here _ _ _ _ (rw (← c.fields-c.ensures) c.if-c-card.true))

pub loop-command-preserved : goal.loop-command-preserved
loop-command-preserved c = working_more (puts c.args.act c.args.card) c.loop-command.invariant c.in-Some.ensures.steps.first (put_other _ _ _ _ (rw (← c.fields-c.ensures) c.if-c-card.false))

pub returns-clause-text : goal.returns-clause-text
returns-clause-text c = working_done (puts c.args.act c.args.card) c.loop-command.invariant c.in-None.ensures.steps.first.0

pub returns-clause-place : goal.returns-clause-place
returns-clause-place c =
    subst (λ (text : List ℕ). LiesIn c.args.kept.now text) (sym (working_done (puts c.args.act c.args.card) c.loop-command.invariant
    c.in-None.ensures.steps.first.0)) (written_lies c.args.act c.args.card c.args.kept.now)
