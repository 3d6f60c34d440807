-- Laws of one entry behind the others. Assumes nothing.
use Prim.Native.Nat.{ℕ, ◌+◌}
use native.Mathlib.Omega.{arith}
use lib.ListN.{length, take}
use lib.Seq.{take-append_seam}
use Rattle.std.specs.List.{list_all, enumerate_from}
use Rattle.std.proofs.lemmas.List.{length_push}
use Rattle.std.proofs.lemmas.Grind.{common_steps}
use mathlib.Core.Path.{◌≡◌, refl, ap, ◌∙◌}
use mathlib.Core.List.{List, [], ◌∷◌, ◌++◌, map, append_assoc}
use mathlib.Core.Bool.{Bool, true, false, not, ◌&&◌, ◌||◌, and_assoc}
use lib.Dec.{eqb}
use Rattle.lists.proofs.Tests.{eqb_comm, all_append}
use Rattle.lists.specs.Table.{all, all_from}
use Rattle.stamps.specs.declared.Pair.{Pair}
use Rattle.lock_queue.proofs.Standing.{map-append, stands_append}
use Rattle.lock_queue.specs.Queue.{desk, desks, stands}
use Rattle.lock_queue.specs.declared.Waiting.{Waiting}
use Rattle.lock_queue.specs.Good.{distinct, waiting_formed, within}
use Rattle.lock_queue.specs.inner.Entries.{entries_good, fits_behind}

-- No two of a list, and one more that is none of them.
regrouped : (p q r t : Bool) → (not (p || (q || false)) && (r && not t)) ≡ (not p && r && not (q || t))
regrouped true q r t = refl
regrouped false true true t = refl
regrouped false true false t = refl
regrouped false false r t = refl

pub distinct_more : (es : List ℕ) (e : ℕ) → distinct (es ++ (e ∷ [])) ≡ (distinct es && not (stands e es))
unfolding distinct stands
distinct_more [] e = refl
distinct_more (a ∷ es) e =
    rw (stands_append a es (e ∷ []), distinct_more es e, eqb_comm a e)
    (regrouped (stands a es) (eqb e a) (distinct es) (stands e es))

joined_tests : (a b c p q r : Bool) → (a && p && (b && q) && (c && r)) ≡ (a && b && c && (p && q && r))
joined_tests false b c p q r = refl
joined_tests true false c true q r = refl
joined_tests true false c false q r = refl
joined_tests true true c false q r = go c
  where
    go : (c : Bool) → false ≡ (c && false)
    go true = refl
    go false = refl
joined_tests true true true true q r = refl
joined_tests true true false true true r = refl
joined_tests true true false true false r = refl

pub entries_more : (largest : Pair) (ws : List Waiting) (w : Waiting) →
    entries_good largest (ws ++ (w ∷ [])) ≡ (entries_good largest ws && fits_behind largest ws w)
unfolding entries_good all all_from
entries_more largest ws w =
    rw
    (map-append waiting_formed ws (w ∷ []), map-append desk ws (w ∷ []), map-append (within largest) ws (w ∷ []), all_append, all_append, distinct_more)
    (joined_tests
    (all (map waiting_formed ws))
    (distinct (desks ws))
    (all (map (within largest) ws))
    (waiting_formed w)
    (not (stands (desk w) (desks ws)))
    (within largest w))

-- The entries from one on, each behind those before it, after entries that are already judged.
judged_rest : (largest : Pair) (before ws : List Waiting) {n : ℕ} → length before ≡ n →
    (entries_good largest before && list_all (λ (e : ℕ × Waiting). fits_behind largest (take e.0 (before ++ ws)) e.1) (enumerate_from n ws))
    ≡ entries_good largest (before ++ ws)
judged_rest largest before [] e = grind (arith, common_steps)
judged_rest largest before (w ∷ ws) {n} e =
    let one : (before ++ (w ∷ [])) ++ ws ≡ before ++ (w ∷ ws) = append_assoc before (w ∷ []) ws in
    let front : take n (before ++ (w ∷ ws)) ≡ before = rw (← e) (take-append_seam before (w ∷ ws)) in
    rw (front, ← and_assoc, ← entries_more largest before w) (rw one at (judged_rest largest (before ++ (w ∷ [])) ws (length_push before w ∙ ap (λ (k : ℕ). k + 1) e)))

-- Each entry judged behind those before it, as the library's test of all of them says it.
pub entries_all : (largest : Pair) (ws : List Waiting) →
    list_all (λ (e : ℕ × Waiting). fits_behind largest (take e.0 ws) e.1) (enumerate_from 0 ws) ≡ entries_good largest ws
unfolding entries_good all all_from distinct
entries_all largest ws = judged_rest largest [] ws refl
