-- What is looked at, by the desk's first place. Assumes nothing.
use native.Mathlib.Omega.{arith}
use mathlib.Core.Path.{sym}
use Rattle.lock_queue.proofs.Standing.{place_inside, looked_found, looked_none}
use Rattle.lock_queue.proofs.inner.state.looked.Goals as goal

pub overflow_add-result : goal.overflow_add-result
overflow_add-result c = let inside = place_inside c.args.desk c.args.standing.now (sym c.in-Some.ensures) in omega arith

pub returns-in-Some : goal.returns-in-Some
returns-in-Some c = looked_found c.args.desk c.args.standing.now (sym c.in-Some.ensures)

pub returns-in-None : goal.returns-in-None
returns-in-None c = looked_none c.args.desk c.args.standing.now (sym c.in-None.ensures)
