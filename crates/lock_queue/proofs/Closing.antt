-- Laws of the gap that is closed. Assumes nothing.
use Prim.Native.Nat.{ℕ, suc, ◌+◌, ◌-◌, ◌≤◌, ◌<◌}
use native.Mathlib.Omega.{arith}
use mathlib.Core.Path.{◌≡◌, refl, sym, ap, ◌∙◌}
use mathlib.Core.List.{List, [], ◌∷◌, ◌++◌}
use mathlib.Core.Bool.{Bool, true, false, cond}
use lib.Dec.{eqb}
use lib.ListN.{length, take, drop, set, length-drop, length-take}
use lib.Seq.{paste, set_split, take-take}
use Rattle.std.proofs.Common.{Some}
use Rattle.std.proofs.lemmas.List.{drop-drop, drop-take}
use Rattle.std.proofs.lemmas.List.Edits.{take-paste, drop-paste}
use Rattle.lock_queue.proofs.Standing.{placed, place_inside}
use Rattle.lock_queue.specs.Queue.{no_waiting, desk, desks, first_place, place}
use Rattle.lock_queue.specs.declared.Waiting.{Waiting}
use Rattle.lock_queue.specs.Requests.{removed}

pub removed_place : (d : ℕ) (ws : List Waiting) →
    removed d ws ≡ take (first_place d (desks ws)) ws ++ drop (suc (first_place d (desks ws))) ws
unfolding removed first_place
removed_place d [] = refl
removed_place d (w ∷ ws) = go (eqb (desk w) d) (removed_place d ws)
  where
    go : (b : Bool) → removed d ws ≡ take (first_place d (desks ws)) ws ++ drop (suc (first_place d (desks ws))) ws →
        cond b ws (w ∷ removed d ws) ≡ take (cond b 0 (suc (first_place d (desks ws)))) (w ∷ ws) ++ drop (suc (cond b 0 (suc (first_place d (desks ws))))) (w ∷ ws)
    go true h = refl
    go false h = ap (λ (l : List Waiting). w ∷ l) h

-- What a copy of the entries behind the gap, and a write of the last place taken, leave.
closed_gap : (s new : List Waiting) (gap count : ℕ) (w : Waiting) → gap < count → count ≤ length s →
    new ≡ paste s gap (drop (gap + 1) s) (count - (gap + 1)) → length new ≡ length s →
    set new (count - 1) w ≡ take gap s ++ take (count - (gap + 1)) (drop (gap + 1) s) ++ (w ∷ drop count s)
closed_gap s new gap count w inside fits made long =
    let behind : count - (gap + 1) ≤ length (drop (gap + 1) s) = omega (arith, length-drop (gap + 1) s) in
    let last : count - 1 ≡ gap + (count - (gap + 1)) = omega arith in
    let front : take (gap + (count - (gap + 1))) new ≡ take gap s ++ take (count - (gap + 1)) (drop (gap + 1) s) =
    rw made (take-paste s gap (drop (gap + 1) s) (count - (gap + 1)) (omega arith) behind) in
    let rest : drop (gap + (count - (gap + 1))) new ≡ drop (gap + (count - (gap + 1))) s =
    rw made (drop-paste s gap (drop (gap + 1) s) (count - (gap + 1)) (omega arith) behind) in
    let whole : gap + (count - (gap + 1)) + 1 ≡ count = omega arith in
    let past : drop count new ≡ drop count s =
    ap (λ (n : ℕ). drop n new) (sym whole) ∙ sym (drop-drop 1 (gap + (count - (gap + 1))) new) ∙ ap (drop 1) rest
    ∙ drop-drop 1 (gap + (count - (gap + 1))) s ∙ ap (λ (n : ℕ). drop n s) whole in
    let next : suc (count - 1) ≡ count = omega arith in
    set_split new (count - 1) w (omega arith) ∙ rw (next, past, last, front)

pub closing : (d : ℕ) (s new : List Waiting) {gap : ℕ} (count : ℕ) → place d (desks (take count s)) ≡ Some gap → count ≤ length s →
    new ≡ paste s gap (drop (gap + 1) s) (count - (gap + 1)) → length new ≡ length s →
    set new (count - 1) no_waiting ≡ removed d (take count s) ++ (no_waiting ∷ drop count s)
closing d s new {gap} count at fits made long =
    let inside : gap < count = omega (arith, place_inside d (take count s) at, length-take count s) in
    let first : first_place d (desks (take count s)) ≡ gap = (placed d (desks (take count s)) at).1 in
    let near : gap ≤ count = omega arith in
    let next : suc gap ≡ gap + 1 = omega arith in
    let size : (gap + 1) + (count - (gap + 1)) ≡ count = omega arith in
    let cut : drop (gap + 1) (take count s) ≡ take (count - (gap + 1)) (drop (gap + 1) s) =
    ap (λ (n : ℕ). drop (gap + 1) (take n s)) (sym size) ∙ drop-take (gap + 1) (count - (gap + 1)) s in
    closed_gap s new gap count no_waiting inside fits made long
    ∙ rw (removed_place d (take count s), first, next, cut, take-take)
