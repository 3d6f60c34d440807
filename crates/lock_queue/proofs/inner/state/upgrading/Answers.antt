-- By the place where the desk first stands. Assumes nothing.
use Rattle.std.proofs.Common.{◌∙◌, sym, rules}
use Rattle.lock_queue.proofs.Standing.{place_inside}
use Rattle.lock_queue.proofs.Upgrades.{up_none, up_found}
use Rattle.lock_queue.proofs.inner.state.upgrading.Goals as goal

pub offset_bounds-standing-i : goal.offset_bounds-standing-i
offset_bounds-standing-i c = let inside = place_inside c.desk.result c.args.standing.now (sym c.in-Some.ensures) in search rules

pub bounds-standing-i : goal.bounds-standing-i
bounds-standing-i c = place_inside c.desk.result c.args.standing.now (sym c.in-Some.ensures)

pub returns-in-None : goal.returns-in-None
returns-in-None c = rw (← c.desk.ensures, ← up_none c.args.new.mode c.desk.result c.args.standing.now (sym c.in-None.ensures))

pub returns-in-Some : goal.returns-in-Some
returns-in-Some c = up_found c.args.new.mode c.desk.result c.args.standing.now (sym c.in-Some.ensures) ∙ rw c.desk.ensures
