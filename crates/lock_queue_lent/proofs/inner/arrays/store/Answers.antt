-- The loop fills the three arrays. Assumes nothing.
use Prim.Native.Nat.{◌≤◌, ◌<◌}
use native.Mathlib.Omega.{arith}
use mathlib.Core.Path.{◌≡◌, refl}
use lib.ListN.{length, length-map}
use Rattle.lock_queue.specs.Queue.{no_waiting}
use borrow.Author.Rules.{rules}
use Rattle.lock_queue.proofs.Array.{unmapped}
use Rattle.lock_queue_lent.proofs.Arrays.{filling_none, filling_more, filling_done, get_d_map}
use Rattle.lock_queue_lent.proofs.inner.arrays.store.Goals as goal

pub loop-i-init : goal.loop-i-init
loop-i-init c =
    let long : length c.args.queue.places.at ≡ 32 = search (unmapped, rules) in
    let m : length c.args.modes.now ≡ 32 = search (unmapped, rules) in
    let s : length c.args.s.now ≡ 32 = search (unmapped, rules) in
    let x : length c.args.x.now ≡ 32 = search (unmapped, rules) in (
      long,
      filling_none _ _ (rw (length-map, long, m) refl),
      filling_none _ _ (rw (length-map, long, s) refl),
      filling_none _ _ (rw (length-map, long, x) refl),
    )

pub loop-i-preserved : goal.loop-i-preserved
loop-i-preserved c =
    let places = c.args.queue.places.at in
    let within : c.loop-i.i < length places = omega (arith, c.loop-i.invariant.0) in (
      c.loop-i.invariant.0,
      filling_more 0 _ c.loop-i.invariant.1 (rw length-map within) (get_d_map _ places _ no_waiting 0 within),
      filling_more 0 _ c.loop-i.invariant.2 (rw length-map within) (get_d_map _ places _ no_waiting 0 within),
      filling_more 0 _ c.loop-i.invariant.3 (rw length-map within) (get_d_map _ places _ no_waiting 0 within),
    )

pub returns : goal.returns
returns c =
    let places = c.args.queue.places.at in
    let all : length places ≤ c.loop-i.i = omega (arith, c.loop-i.invariant.0) in
    record {
      modes = filling_done c.loop-i.invariant.1 (rw length-map all);
      s = filling_done c.loop-i.invariant.2 (rw length-map all);
      x = filling_done c.loop-i.invariant.3 (rw length-map all);
      kept = refl;
    }
