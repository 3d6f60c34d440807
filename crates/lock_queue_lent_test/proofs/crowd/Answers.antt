-- One more guest stands in its place at each turn. Assumes nothing.
use mathlib.Core.Path.{◌≡◌, refl, sym, ap, ◌∙◌}
use Prim.Native.Nat.{ℕ, ◌+◌, ◌≤◌}
use native.Mathlib.Omega.{arith}
use mathlib.Core.List.{List}
use lib.ListN.{length, replicate, set}
use Rattle.lists.specs.Parts.{tabulate}
use Rattle.lists.proofs.ConcatMap.{get_d_tabulate}
use Rattle.lock_queue.specs.Queue.{most_places}
use Rattle.lock_queue_claims.specs.Trials.{guest, crowded}
use Rattle.lock_queue.specs.declared.Waiting.{Waiting}
use Rattle.lock_queue_lent.specs.Slice.{written}
use Rattle.lock_queue_lent.proofs.Written.{written_none, written_next}
use Rattle.lock_queue_lent_test.proofs.crowd.Goals as goal

abbrev guests : List Waiting
guests = crowded.places

abbrev base : List Waiting
base = replicate most_places (guest 1)

guests-long : length guests ≡ most_places
unfolding tabulate
guests-long = refl

whole : written most_places guests base ≡ guests
unfolding written tabulate
whole = refl

-- the turn's list and guest
stepped : (i : ℕ) (all : List Waiting) (w : Waiting) → i ≤ 31 → all ≡ written i guests base → w ≡ guest (i + 1) → set all i w ≡ written (i + 1) guests base
stepped i all w l e f =
    rw (e, f ∙ sym (get_d_tabulate (λ (j : ℕ). guest (j + 1)) most_places i (guest 0) (omega arith)))
    (written_next i guests base (guest 0) (omega (arith, guests-long)) (omega arith))

ended : (i : ℕ) (all : List Waiting) → i ≤ most_places → most_places ≤ i → all ≡ written i guests base → all ≡ guests
ended i all l m e = e ∙ ap (λ (j : ℕ). written j guests base) (full i l m) ∙ whole
  where
    full : (i : ℕ) → i ≤ most_places → most_places ≤ i → i ≡ most_places
    full i l m = omega arith

pub loop-i-init : goal.loop-i-init
loop-i-init c = ap (replicate most_places) c.guest-all.ensures ∙ sym (written_none guests base)

pub loop-i-preserved : goal.loop-i-preserved
loop-i-preserved c = stepped _ _ _ (omega arith) c.loop-i.invariant c.guest.ensures

pub returns : goal.returns
returns c = ended _ _ (omega arith) (omega arith) c.loop-i.invariant
