-- The claims on every list of requests, from the empty queue on. Assumes nothing.
use Prim.Native.Nat.{ℕ, zero, suc, ◌≤◌, max}
use native.Mathlib.Omega.{arith}
use mathlib.Core.Path.{◌≡◌, refl, sym, ap, subst, ◌∙◌}
use mathlib.Core.List.{List, [], ◌∷◌, ◌++◌, map, append_assoc, append-nil}
use mathlib.Core.Bool.{Bool, true, false, cond, ◌||◌}
use borrow.Author.Tests.{eq-eqb, ne_eqb, eqb-true, eqb-false}
use lib.Dec.{eqb}
use lib.ListN.{length}
use Rattle.lists.specs.Table.{all, all_from}
use Rattle.lists.proofs.Tests.{to_T, or_fails}
use Rattle.stamps.specs.Stamp.{no_pair, larger_of_each}
use Rattle.stamps.specs.declared.Pair.{Pair}
use Rattle.lock_queue.specs.Queue.{State, empty_queue, standing, desk, desks, stands}
use Rattle.lock_queue.specs.Good.{distinct}
use Rattle.lock_queue.specs.Requests.{joined, removed, without, Request, asks, leaves, lapses, sender, applied, number, after}
use Rattle.lock_queue.specs.declared.Waiting.{Waiting}
use Rattle.lock_queue.proofs.Checks.{good_by}
use Rattle.lock_queue.proofs.Judged.{accepted_good, accepted_after, lapse_leaves, lapse_same}
use Rattle.lock_queue_claims.specs.Traces.{queue_after, granted, largest_asked, lasting, EmptyGood, LargestAccepted, StandingAccepted}
use Rattle.lock_queue.proofs.After.{refusal_leaves, others_kept, queue_joined_largest}
use Rattle.lock_queue_claims.proofs.Claims.{joins_end, gap_closed}
use Rattle.lock_queue.proofs.Removed.{first_alone, rest_distinct}

pub empty_good : EmptyGood
unfolding all all_from distinct
empty_good lent places some short = to_T (good_by {lent = lent} (empty_queue places) {ws = []} refl some short (omega arith) refl refl refl refl refl)

-- ---- a step of the list

granted_zero : (lent : ℕ) (q : State) (r : Request) (rs : List Request) → number lent q r ≡ 0 →
    granted lent q (r ∷ rs) ≡ r ∷ granted lent (after lent q r) rs
unfolding granted
granted_zero lent q r rs e = rw e

granted_suc : (lent : ℕ) (q : State) (r : Request) (rs : List Request) (n : ℕ) → number lent q r ≡ suc n →
    granted lent q (r ∷ rs) ≡ granted lent (after lent q r) rs
unfolding granted
granted_suc lent q r rs n e = rw (e, ne_eqb (suc n) 0 (λ z. absurd (omega arith)))

-- ---- the largest pair

larger_none : (p : Pair) → larger_of_each p no_pair ≡ p
larger_none p =
    let same_s : max p.s 0 ≡ p.s = omega arith in
    let same_x : max p.x 0 ≡ p.x = omega arith in
    rw (same_s, same_x)

larger_first : (p : Pair) → larger_of_each no_pair p ≡ p
larger_first p =
    let same_s : max 0 p.s ≡ p.s = omega arith in
    let same_x : max 0 p.x ≡ p.x = omega arith in
    rw (same_s, same_x)

larger_assoc : (a b c : Pair) → larger_of_each (larger_of_each a b) c ≡ larger_of_each a (larger_of_each b c)
larger_assoc a b c =
    let same_s : max (max a.s b.s) c.s ≡ max a.s (max b.s c.s) = omega arith in
    let same_x : max (max a.x b.x) c.x ≡ max a.x (max b.x c.x) = omega arith in
    rw (same_s, same_x)

-- What an accepted request, and then others, make of the largest pair.
raised : (r : Request) (q : State) (rs : List Request) →
    larger_of_each (applied r q).largest (largest_asked rs) ≡ larger_of_each q.largest (largest_asked (r ∷ rs))
unfolding largest_asked joined without
raised (asks new) q rs =
    ap (λ (p : Pair). larger_of_each (larger_of_each p new.pair) (largest_asked rs)) (queue_joined_largest new.mode (desk new) q)
    ∙ larger_assoc q.largest new.pair (largest_asked rs)
raised (leaves d) q rs = refl
raised (lapses l) q rs = refl

largest_from : (lent : ℕ) (q : State) (rs : List Request) →
    (queue_after lent q rs).largest ≡ larger_of_each q.largest (largest_asked (granted lent q rs))
unfolding queue_after granted largest_asked
largest_from lent q [] = sym (larger_none q.largest)
largest_from lent q (r ∷ rs) = largest_from lent (after lent q r) rs ∙ go (number lent q r) refl
  where
    go : (n : ℕ) → number lent q r ≡ n →
        larger_of_each (after lent q r).largest (largest_asked (granted lent (after lent q r) rs)) ≡ larger_of_each q.largest (largest_asked (granted lent q (r ∷ rs)))
    go zero e =
        ap (λ (s : State). larger_of_each s.largest (largest_asked (granted lent (after lent q r) rs))) (accepted_after lent q r e)
        ∙ raised r q (granted lent (after lent q r) rs)
        ∙ ap (λ (l : List Request). larger_of_each q.largest (largest_asked l)) (sym (granted_zero lent q r rs e))
    go (suc n) e =
        ap (λ (s : State). larger_of_each s.largest (largest_asked (granted lent (after lent q r) rs))) (refusal_leaves lent q r n e)
        ∙ ap (λ (l : List Request). larger_of_each q.largest (largest_asked l)) (sym (granted_suc lent q r rs n e))

pub largest_accepted : LargestAccepted
largest_accepted lent places rs = largest_from lent (empty_queue places) rs ∙ larger_first (largest_asked (granted lent (empty_queue places) rs))

-- ---- who stands

-- The entries whose desk is none of these.
unfoldable spared : List ℕ → List Waiting → List Waiting
spared ds [] = []
spared ds (w ∷ ws) = cond (stands (desk w) ds) (spared ds ws) (w ∷ spared ds ws)

spared_all : (ws : List Waiting) → spared [] ws ≡ ws
unfolding spared stands
spared_all [] = refl
spared_all (w ∷ ws) = ap (λ (l : List Waiting). w ∷ l) (spared_all ws)

spared_append : (ds : List ℕ) (ws vs : List Waiting) → spared ds (ws ++ vs) ≡ spared ds ws ++ spared ds vs
unfolding spared
spared_append ds [] vs = refl
spared_append ds (w ∷ ws) vs = go (stands (desk w) ds) (spared_append ds ws vs)
  where
    go : (b : Bool) → spared ds (ws ++ vs) ≡ spared ds ws ++ spared ds vs →
        cond b (spared ds (ws ++ vs)) (w ∷ spared ds (ws ++ vs)) ≡ cond b (spared ds ws) (w ∷ spared ds ws) ++ spared ds vs
    go true h = h
    go false h = ap (λ (l : List Waiting). w ∷ l) h

-- A desk that does not stand makes no difference.
spared_absent : (d : ℕ) (ds : List ℕ) (ws : List Waiting) → stands d (desks ws) ≡ false → spared ds ws ≡ spared (d ∷ ds) ws
unfolding spared stands
spared_absent d ds [] h = refl
spared_absent d ds (w ∷ ws) h =
    let k = or_fails (eqb (desk w) d) (stands d (desks ws)) h in
    let other : eqb d (desk w) ≡ false = ne_eqb d (desk w) (λ e. eqb-false (desk w) d k.0 (sym e)) in
    rw (other, spared_absent d ds ws k.1)

-- Taking a desk out first makes no difference where that desk is spared neither.
spared_removed : (d : ℕ) (ds : List ℕ) (ws : List Waiting) → distinct (desks ws) ≡ true → spared ds (removed d ws) ≡ spared (d ∷ ds) ws
unfolding spared stands removed
spared_removed d ds [] h = refl
spared_removed d ds (w ∷ ws) h = go (eqb (desk w) d) refl (spared_removed d ds ws (rest_distinct w ws h))
  where
    go : (b : Bool) → eqb (desk w) d ≡ b → spared ds (removed d ws) ≡ spared (d ∷ ds) ws →
        spared ds (cond b ws (w ∷ removed d ws)) ≡ cond (eqb d (desk w) || stands (desk w) ds) (spared (d ∷ ds) ws) (w ∷ spared (d ∷ ds) ws)
    go true e rest =
        let same = eqb-true (desk w) d e in
        let one : eqb d (desk w) ≡ true = eq-eqb d (desk w) (sym same) in
        let alone : stands d (desks ws) ≡ false = subst (λ (i : ℕ). stands i (desks ws) ≡ false) same (first_alone w ws h) in
        rw one (spared_absent d ds ws alone)
    go false e rest =
        let other : eqb d (desk w) ≡ false = ne_eqb d (desk w) (λ i. eqb-false (desk w) d e (sym i)) in
        rw (other, rest)

-- Who leaves is none of those that stand on.
left_out : (lent : ℕ) (q : State) (d : ℕ) (rs : List Request) → lent ≤ length q.places → number lent q (leaves d) ≡ 0 →
    spared (map sender rs) (standing (after lent q (leaves d))) ++ lasting rs ≡ spared (d ∷ map sender rs) (standing q) ++ lasting rs
left_out lent q d rs lie e =
    ap (λ (l : List Waiting). l ++ lasting rs)
    (ap (spared (map sender rs)) (gap_closed lent q d lie e) ∙ spared_removed d (map sender rs) (standing q) (accepted_good lent q (leaves d) e).all_distinct)

-- What an accepted request, and then others, make of those who stand.
stood : (lent : ℕ) (q : State) (r : Request) (rs : List Request) → lent ≤ length q.places → number lent q r ≡ 0 →
    spared (map sender rs) (standing (after lent q r)) ++ lasting rs ≡ spared (map sender (r ∷ rs)) (standing q) ++ lasting (r ∷ rs)
unfolding lasting spared
stood lent q (asks new) rs lie e =
    let ds = map sender rs in
    let kept = spared_removed (desk new) ds (standing q) (accepted_good lent q (asks new) e).all_distinct in
    ap (λ (l : List Waiting). l ++ lasting rs)
    (ap (spared ds) (joins_end lent q new lie e) ∙ spared_append ds (removed (desk new) (standing q)) (new ∷ []))
    ∙ append_assoc (spared ds (removed (desk new) (standing q))) (spared ds (new ∷ [])) (lasting rs)
    ∙ ap (λ (l : List Waiting). l ++ (spared ds (new ∷ []) ++ lasting rs)) kept
    ∙ ap (λ (l : List Waiting). spared (desk new ∷ ds) (standing q) ++ l) (last (stands (desk new) ds))
  where
    last : (b : Bool) → cond b [] (new ∷ []) ++ lasting rs ≡ cond b (lasting rs) (new ∷ lasting rs)
    last true = refl
    last false = refl
stood lent q (leaves d) rs lie e = left_out lent q d rs lie e
stood lent q (lapses l) rs lie e =
    ap (λ (s : State). spared (map sender rs) (standing s) ++ lasting rs) (lapse_same lent q l e).1
    ∙ left_out lent q l.desk rs lie (lapse_leaves lent q l e)

standing_from : (lent : ℕ) (q : State) (rs : List Request) → lent ≤ length q.places →
    standing (queue_after lent q rs) ≡ spared (map sender (granted lent q rs)) (standing q) ++ lasting (granted lent q rs)
unfolding queue_after granted lasting
standing_from lent q [] lie = sym (append-nil (spared [] (standing q)) ∙ spared_all (standing q))
standing_from lent q (r ∷ rs) lie =
    standing_from lent (after lent q r) rs (rw (others_kept lent q r lie).1 lie) ∙ go (number lent q r) refl
  where
    go : (n : ℕ) → number lent q r ≡ n →
        spared (map sender (granted lent (after lent q r) rs)) (standing (after lent q r)) ++ lasting (granted lent (after lent q r) rs)
        ≡ spared (map sender (granted lent q (r ∷ rs))) (standing q) ++ lasting (granted lent q (r ∷ rs))
    go zero e =
        stood lent q r (granted lent (after lent q r) rs) lie e
        ∙ ap (λ (l : List Request). spared (map sender l) (standing q) ++ lasting l) (sym (granted_zero lent q r rs e))
    go (suc n) e =
        ap (λ (s : State). spared (map sender (granted lent (after lent q r) rs)) (standing s) ++ lasting (granted lent (after lent q r) rs)) (refusal_leaves lent q r n e)
        ∙ ap (λ (l : List Request). spared (map sender l) (standing q) ++ lasting l) (sym (granted_suc lent q r rs n e))

pub standing_accepted : StandingAccepted
unfolding spared
standing_accepted lent places rs lie = standing_from lent (empty_queue places) rs lie
