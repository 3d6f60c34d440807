-- Who holds the lock, by the desk's first place and the mode that stands there. Assumes nothing.
use native.Mathlib.Omega.{arith}
use Rattle.std.proofs.Common.{rules}
use mathlib.Core.Path.{sym, ◌∙◌}
use Rattle.std.proofs.lemmas.Grind.{common_steps}
use Rattle.lock_queue.proofs.Standing.{place_inside, holds_none, holds_exclusive, holds_shared}
use Rattle.lock_queue.proofs.inner.state.holds.Goals as goal

pub offset_bounds-standing-i : goal.offset_bounds-standing-i
offset_bounds-standing-i c = let inside = place_inside c.args.desk c.args.standing.now (sym c.in-Some.ensures) in search rules

pub bounds-standing-i : goal.bounds-standing-i
bounds-standing-i c = place_inside c.args.desk c.args.standing.now (sym c.in-Some.ensures)

pub slice_bounds-no_exclusive-end : goal.slice_bounds-no_exclusive-end
slice_bounds-no_exclusive-end c =
    let inside = place_inside c.args.desk c.args.standing.now (sym c.in-Some.ensures) in grind (arith, common_steps)

pub returns-in-None : goal.returns-in-None
returns-in-None c = holds_none c.args.desk c.args.standing.now (sym c.in-None.ensures)

pub returns-in-Some : goal.returns-in-Some
returns-in-Some c = holds_exclusive c.args.desk c.args.standing.now (sym c.in-Some.ensures) c.if-standing-i-eq-EXCLUSIVE.true

pub returns-in-Some-2 : goal.returns-in-Some-2
returns-in-Some-2 c =
    c.no_exclusive.ensures ∙ holds_shared c.args.desk c.args.standing.now (sym c.in-Some.ensures) c.if-standing-i-eq-EXCLUSIVE.false
