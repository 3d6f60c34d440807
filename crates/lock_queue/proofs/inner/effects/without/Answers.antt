-- The entry at the desk's place taken out. Assumes nothing.
use Prim.Native.Nat.{ℕ, ◌<◌}
use native.Mathlib.Omega.{arith}
use mathlib.Core.Path.{◌≡◌, sym, ap, ◌∙◌}
use Rattle.lock_queue.specs.declared.Waiting.{Waiting}
use Rattle.std.proofs.Common.{Some, Option, List, length-take, rules}
use Rattle.lock_queue.specs.Queue.{State, state, standing, desks, place}
use Rattle.lock_queue.specs.Requests.{without}
use Rattle.lock_queue.proofs.Standing.{place_inside}
use Rattle.lock_queue.proofs.Closing.{closing}
use Rattle.lock_queue.proofs.inner.effects.without.Goals as goal

-- The desk's place, as the calls find it, is one of those taken.
module _ (d : ℕ) (q : State) {ws : List Waiting} {p : Option ℕ} {gap : ℕ} (stood : ws ≡ standing q) (at : p ≡ place d (desks ws)) (is : p ≡ Some gap) where
  found : place d (desks (standing q)) ≡ Some gap
  found = ap (λ ws. place d (desks ws)) (sym stood) ∙ sym at ∙ is

  inside : gap < q.count
  inside = omega (arith, place_inside d (standing q) found, length-take q.count q.places)

pub overflow_add-gap : goal.overflow_add-gap
overflow_add-gap c =
    let below = inside c.args.desk (state c.args.queue) c.standing.ensures c.place.ensures c.unwrap-gap.ensures in
    search rules

pub copy_within-requires-clause-start_le_end : goal.copy_within-requires-clause-start_le_end
copy_within-requires-clause-start_le_end c =
    let below = inside c.args.desk (state c.args.queue) c.standing.ensures c.place.ensures c.unwrap-gap.ensures in
    omega arith

pub copy_within-requires-clause-dest_in_bounds : goal.copy_within-requires-clause-dest_in_bounds
copy_within-requires-clause-dest_in_bounds c =
    let below = inside c.args.desk (state c.args.queue) c.standing.ensures c.place.ensures c.unwrap-gap.ensures in
    search rules

pub overflow_sub-count : goal.overflow_sub-count
overflow_sub-count c =
    let below = inside c.args.desk (state c.args.queue) c.standing.ensures c.place.ensures c.unwrap-gap.ensures in
    omega arith

pub overflow_sub-queue : goal.overflow_sub-queue
overflow_sub-queue c =
    let below = inside c.args.desk (state c.args.queue) c.standing.ensures c.place.ensures c.unwrap-gap.ensures in
    omega arith

pub returns : goal.returns
unfolding without
returns c =
    let q = state c.args.queue in
    let at = found c.args.desk q c.standing.ensures c.place.ensures c.unwrap-gap.ensures in
    rw (closing c.args.desk q.places c.copy_within.new.self q.count at (search rules) c.copy_within.ensures.after c.copy_within.ensures.len)
