-- Laws of a good queue. Assumes nothing.
use Prim.Native.Nat.{ℕ, ◌≤◌}
use native.Mathlib.Omega.{arith}
use mathlib.Core.Path.{◌≡◌, refl, sym, ◌∙◌}
use mathlib.Core.List.{List, map}
use mathlib.Core.Bool.{Bool, true, false, ◌&&◌}
use borrow.Author.Tests.{leb-true, le-leb}
use lib.Dec.{leb}
use Rattle.lists.proofs.Tests.{all_out, and_in, and_left, and_right}
use Rattle.lists.specs.Table.{all, all_from}
use Rattle.stamps.specs.Stamp.{stamp_valid}
use Rattle.stamps.specs.declared.Pair.{Pair}
use Rattle.lock_queue.specs.Queue.{State, most_places, standing, desks}
use Rattle.lock_queue.specs.Good.{distinct, waiting_formed, within, queue_checks, good}
use Rattle.lock_queue.specs.inner.Entries.{entries_good}
use Rattle.lock_queue.specs.declared.Waiting.{Waiting}

-- The length and the count.
abbrev pub sized : ℕ → ℕ → Bool
sized lent count = leb 1 lent && leb lent most_places && leb count lent

pub good_unsized : (lent : ℕ) (q : State) → sized lent q.count ≡ false → false ≡ good lent q
unfolding good all all_from
good_unsized lent q e = rw e

regrouped : (p a b c : Bool) → (p && (a && b && c)) ≡ (p && a && b && c)
regrouped true a b c = refl
regrouped false a b c = refl

pub good_rest : (lent : ℕ) (q : State) → sized lent q.count ≡ true →
    (stamp_valid q.largest.s && stamp_valid q.largest.x && entries_good q.largest (standing q)) ≡ good lent q
unfolding good all all_from entries_good
good_rest lent q e = rw e (regrouped (stamp_valid q.largest.s && stamp_valid q.largest.x) _ _ _)

-- A good queue, test by test.
pub record Good (lent : ℕ) (q : State) : Type 0 where
  pub some : 1 ≤ lent
  pub short : lent ≤ most_places
  pub counted : q.count ≤ lent
  pub s_valid : stamp_valid q.largest.s ≡ true
  pub x_valid : stamp_valid q.largest.x ≡ true
  pub all_formed : all (map waiting_formed (standing q)) ≡ true
  pub all_distinct : distinct (desks (standing q)) ≡ true
  pub all_within : all (map (within q.largest) (standing q)) ≡ true

pub good_out : (lent : ℕ) (q : State) → good lent q ≡ true → Good lent q
unfolding good
good_out lent q e =
    let test = all_out (queue_checks lent q) e in
    record {
      some = leb-true 1 lent (and_left (leb 1 lent) (leb lent most_places) (test 0));
      short = leb-true lent most_places (and_right (leb 1 lent) (leb lent most_places) (test 0));
      counted = leb-true q.count lent (test 1);
      s_valid = test 2;
      x_valid = test 3;
      all_formed = test 4;
      all_distinct = test 5;
      all_within = test 6;
    }

pub good_in : (lent : ℕ) (q : State) → Good lent q → good lent q ≡ true
unfolding entries_good
good_in lent q g =
    let sizes : sized lent q.count ≡ true =
    and_in (and_in (le-leb 1 lent g.some) (le-leb lent most_places g.short)) (le-leb q.count lent g.counted) in
    sym (good_rest lent q sizes)
    ∙ and_in (and_in g.s_valid g.x_valid) (entries_in q.largest (standing q) g.all_formed g.all_distinct g.all_within)
  where
    entries_in : (largest : Pair) (ws : List Waiting) → all (map waiting_formed ws) ≡ true → distinct (desks ws) ≡ true → all (map (within largest) ws) ≡ true →
        entries_good largest ws ≡ true
    entries_in largest ws a b c = and_in (and_in a b) c

-- The same, of a queue whose standing entries are known as a list.
pub good_by : {lent : ℕ} (q : State) {ws : List Waiting} → standing q ≡ ws → 1 ≤ lent → lent ≤ most_places → q.count ≤ lent →
    stamp_valid q.largest.s ≡ true → stamp_valid q.largest.x ≡ true → all (map waiting_formed ws) ≡ true → distinct (desks ws) ≡ true →
    all (map (within q.largest) ws) ≡ true → good lent q ≡ true
good_by {lent} q e a b c s x f d w =
    good_in lent q
    (record {
      some = a;
      short = b;
      counted = c;
      s_valid = s;
      x_valid = x;
      all_formed = rw e f;
      all_distinct = rw e d;
      all_within = rw e w;
    })

pub good_count : (lent : ℕ) (q : State) → good lent q ≡ true → q.count ≤ most_places
good_count lent q e = let g = good_out lent q e in omega (arith, g.counted, g.short)
