-- Laws of an entry that joins and of one that is removed. Assumes nothing.
use Prim.Native.Nat.{ℕ, zero, suc, ◌≤◌, ◌<◌}
use native.Mathlib.Omega.{arith}
use mathlib.Core.Path.{◌≡◌, refl, sym, ap, ◌∙◌}
use mathlib.Core.List.{List, [], ◌∷◌, ◌++◌, map}
use mathlib.Core.Bool.{Bool, true, false, cond, not, ◌||◌}
use borrow.Author.Tests.{eq-eqb, eqb-true, eqb-false, ltb-true, leb-true, le-leb, not-true}
use lib.Dec.{leb, eqb}
use lib.ListN.{length, get_or, length-map}
use Rattle.lists.proofs.Tests.{all_cons, all_append, and_in, and_left, and_right, or_fails, or_none, never_both, not_in}
use Rattle.lists.specs.Table.{all, all_from}
use Rattle.stamps.specs.Stamp.{exclusive}
use Rattle.stamps.specs.declared.Pair.{Pair}
use Rattle.lock_queue.specs.Queue.{no_waiting, desk, desks, stands, first_place, no_exclusive}
use Rattle.lock_queue.specs.Good.{distinct, within}
use Rattle.lock_queue.specs.Requests.{removed}
use Rattle.lock_queue.proofs.Standing.{stands_place, map-append}
use Rattle.lock_queue.proofs.Behind.{distinct_more}
use Rattle.lock_queue.specs.declared.Waiting.{Waiting}

-- ---- a test of every entry

pub all_at : (p : Waiting → Bool) (ws : List Waiting) → all (map p ws) ≡ true → (i : ℕ) → i < length ws → p (get_or ws i no_waiting) ≡ true
all_at p [] e i h = absurd (omega arith)
all_at p (w ∷ ws) e zero h = and_left (p w) (all (map p ws)) (sym (all_cons (p w) (map p ws)) ∙ e)
all_at p (w ∷ ws) e (suc i) h = all_at p ws (and_right (p w) (all (map p ws)) (sym (all_cons (p w) (map p ws)) ∙ e)) i (omega arith)

-- A weaker test.
pub all_weaker : (p r : Waiting → Bool) → ((w : Waiting) → p w ≡ true → r w ≡ true) → (ws : List Waiting) → all (map p ws) ≡ true → all (map r ws) ≡ true
unfolding all all_from
all_weaker p r f [] e = refl
all_weaker p r f (w ∷ ws) e =
    let both = sym (all_cons (p w) (map p ws)) ∙ e in
    all_cons (r w) (map r ws)
    ∙ and_in (f w (and_left (p w) (all (map p ws)) both)) (all_weaker p r f ws (and_right (p w) (all (map p ws)) both))

-- One more.
pub all_joined : (p : Waiting → Bool) (ws : List Waiting) (w : Waiting) → all (map p ws) ≡ true → p w ≡ true → all (map p (ws ++ (w ∷ []))) ≡ true
unfolding all all_from
all_joined p ws w e h = rw (map-append p ws (w ∷ []), all_append, e, h)

pub all_removed : (p : Waiting → Bool) (d : ℕ) (ws : List Waiting) → all (map p ws) ≡ true → all (map p (removed d ws)) ≡ true
unfolding removed
all_removed p d [] e = e
all_removed p d (w ∷ ws) e =
    let both = sym (all_cons (p w) (map p ws)) ∙ e in
    go (eqb (desk w) d) (and_left (p w) (all (map p ws)) both) (and_right (p w) (all (map p ws)) both) (all_removed p d ws)
  where
    go : (b : Bool) → p w ≡ true → all (map p ws) ≡ true → (all (map p ws) ≡ true → all (map p (removed d ws)) ≡ true) →
        all (map p (cond b ws (w ∷ removed d ws))) ≡ true
    go true h k rest = k
    go false h k rest = all_cons (p w) (map p (removed d ws)) ∙ and_in h (rest k)

-- Larger largest stamps have the same entries within them.
pub within_more : (old more : Pair) → old.s ≤ more.s → old.x ≤ more.x → (w : Waiting) → within old w ≡ true → within more w ≡ true
within_more old more hs hx w e =
    let s = leb-true w.pair.s old.s (and_left (leb w.pair.s old.s) (leb w.pair.x old.x) e) in
    let x = leb-true w.pair.x old.x (and_right (leb w.pair.s old.s) (leb w.pair.x old.x) e) in
    and_in (le-leb w.pair.s more.s (omega arith)) (le-leb w.pair.x more.x (omega arith))

-- ---- the desks of those that are left

pub distinct_joined : (ws : List Waiting) (w : Waiting) → distinct (desks ws) ≡ true → stands (desk w) (desks ws) ≡ false →
    distinct (desks (ws ++ (w ∷ []))) ≡ true
distinct_joined ws w e h = rw (map-append desk ws (w ∷ []), distinct_more, e, h)

-- Who does not stand does not stand among fewer.
pub absent_removed : (e d : ℕ) (ws : List Waiting) → stands e (desks ws) ≡ false → stands e (desks (removed d ws)) ≡ false
unfolding stands removed
absent_removed e d [] h = h
absent_removed e d (w ∷ ws) h = go (eqb (desk w) d) (or_fails (eqb (desk w) e) (stands e (desks ws)) h) (absent_removed e d ws)
  where
    go : (b : Bool) → (eqb (desk w) e ≡ false) × (stands e (desks ws) ≡ false) →
        (stands e (desks ws) ≡ false → stands e (desks (removed d ws)) ≡ false) → stands e (desks (cond b ws (w ∷ removed d ws))) ≡ false
    go true k rest = k.1
    go false k rest = or_none k.0 (rest k.1)

module _ (w : Waiting) (ws : List Waiting) (h : distinct (desks (w ∷ ws)) ≡ true) where
  pub first_alone : stands (desk w) (desks ws) ≡ false
  unfolding distinct
  first_alone = not-true (stands (desk w) (desks ws)) (and_left (not (stands (desk w) (desks ws))) (distinct (desks ws)) h)

  pub rest_distinct : distinct (desks ws) ≡ true
  unfolding distinct
  rest_distinct = and_right (not (stands (desk w) (desks ws))) (distinct (desks ws)) h

pub distinct_removed : (d : ℕ) (ws : List Waiting) → distinct (desks ws) ≡ true → distinct (desks (removed d ws)) ≡ true
unfolding distinct removed
distinct_removed d [] h = h
distinct_removed d (w ∷ ws) h =
    go (eqb (desk w) d) (rest_distinct w ws h) (absent_removed (desk w) d ws (first_alone w ws h)) (distinct_removed d ws)
  where
    go : (b : Bool) → distinct (desks ws) ≡ true → stands (desk w) (desks (removed d ws)) ≡ false →
        (distinct (desks ws) ≡ true → distinct (desks (removed d ws)) ≡ true) → distinct (desks (cond b ws (w ∷ removed d ws))) ≡ true
    go true k a rest = k
    go false k a rest = and_in (not_in a) (rest k)

-- Who leaves does not stand any more.
pub gone : (d : ℕ) (ws : List Waiting) → distinct (desks ws) ≡ true → stands d (desks (removed d ws)) ≡ false
unfolding stands removed
gone d [] h = refl
gone d (w ∷ ws) h = go (eqb (desk w) d) refl (gone d ws (rest_distinct w ws h))
  where
    go : (b : Bool) → eqb (desk w) d ≡ b → stands d (desks (removed d ws)) ≡ false → stands d (desks (cond b ws (w ∷ removed d ws))) ≡ false
    go true e rest = rw (← eqb-true (desk w) d e) (first_alone w ws h)
    go false e rest = or_none e rest

-- Who does not stand is not taken out.
pub removed_absent : (d : ℕ) (ws : List Waiting) → stands d (desks ws) ≡ false → removed d ws ≡ ws
unfolding stands removed
removed_absent d [] h = refl
removed_absent d (w ∷ ws) h =
    let k = or_fails (eqb (desk w) d) (stands d (desks ws)) h in rw k.0 (ap (λ (l : List Waiting). w ∷ l) (removed_absent d ws k.1))

pub removed_long : (d : ℕ) (ws : List Waiting) → stands d (desks ws) ≡ true → suc (length (removed d ws)) ≡ length ws
unfolding stands removed
removed_long d [] h = absurd (never_both h refl)
removed_long d (w ∷ ws) h = go (eqb (desk w) d) h (removed_long d ws)
  where
    go : (b : Bool) → (b || stands d (desks ws)) ≡ true → (stands d (desks ws) ≡ true → suc (length (removed d ws)) ≡ length ws) →
        suc (length (cond b ws (w ∷ removed d ws))) ≡ suc (length ws)
    go true k rest = refl
    go false k rest = ap suc (rest k)

-- ---- who stands at a desk's first place

pub stands_inside : (d : ℕ) (ws : List Waiting) → stands d (desks ws) ≡ true → first_place d (desks ws) < length ws
stands_inside d ws h =
    omega (arith, ltb-true (first_place d (desks ws)) (length (desks ws)) (stands_place d (desks ws) ∙ h), length-map ws desk)

pub place_desk : (d : ℕ) (ws : List Waiting) → stands d (desks ws) ≡ true → desk (get_or ws (first_place d (desks ws)) no_waiting) ≡ d
unfolding stands first_place
place_desk d [] h = absurd (never_both h refl)
place_desk d (w ∷ ws) h = go (eqb (desk w) d) refl h (place_desk d ws)
  where
    go : (b : Bool) → eqb (desk w) d ≡ b → (b || stands d (desks ws)) ≡ true →
        (stands d (desks ws) ≡ true → desk (get_or ws (first_place d (desks ws)) no_waiting) ≡ d) →
        desk (get_or (w ∷ ws) (cond b 0 (suc (first_place d (desks ws)))) no_waiting) ≡ d
    go true e k rest = eqb-true (desk w) d e
    go false e k rest = rest k

pub place_last : (d : ℕ) (es : List ℕ) → stands d es ≡ false → first_place d (es ++ (d ∷ [])) ≡ length es
unfolding stands first_place
place_last d [] h = rw (eq-eqb d d refl)
place_last d (e ∷ es) h = let k = or_fails (eqb e d) (stands d es) h in rw k.0 (ap suc (place_last d es k.1))

-- ---- modes

pub none_exclusive : (ws : List Waiting) → no_exclusive ws ≡ true → (i : ℕ) → i < length ws → (get_or ws i no_waiting).mode ≡ exclusive → ⊥
unfolding no_exclusive
none_exclusive [] h i k = absurd (omega arith)
none_exclusive (w ∷ ws) h zero k =
    eqb-false w.mode exclusive (not-true (eqb w.mode exclusive) (and_left (not (eqb w.mode exclusive)) (no_exclusive ws) h))
none_exclusive (w ∷ ws) h (suc i) k = none_exclusive ws (and_right (not (eqb w.mode exclusive)) (no_exclusive ws) h) i (omega arith)
