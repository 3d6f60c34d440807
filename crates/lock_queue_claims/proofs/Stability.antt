-- The claims on the lock over time. A queue is read from the front: whether the lock comes to a desk depends on whether
-- anybody stands before it, and on whether an exclusive entry does. Assumes nothing.
use Prim.Native.Nat.{ℕ, zero, suc, ◌≤◌}
use native.Mathlib.Omega.{arith}
use mathlib.Core.Path.{◌≡◌, refl, sym, ap, subst, ◌∙◌}
use mathlib.Core.List.{List, [], ◌∷◌, ◌++◌}
use mathlib.Core.Bool.{Bool, true, false, cond, not, ◌&&◌, ◌||◌, and-false, and-true}
use borrow.Author.Tests.{eqb-true, eqb-false, eq-eqb, ne_eqb, lt-ltb, le-ltb, not-true}
use lib.Dec.{T, ltb, eqb, leb-suc-suc, eqb-suc-zero}
use lib.ListN.{length, take, get_or}
use Rattle.lists.specs.Search.{any, none}
use Rattle.lists.proofs.Tests.{to_T, from_T, and_in, and_left, and_right, or_fails, never_both, not_in}
use Rattle.stamps.specs.Stamp.{exclusive}
use Rattle.lock_queue.specs.Queue.{State, no_waiting, standing, desk, desks, stands, first_place, no_exclusive, holds_at, holds}
use Rattle.lock_queue.specs.Good.{good}
use Rattle.lock_queue.specs.Requests.{Request, asks, leaves, lapses, sender, removed, number, after}
use Rattle.lock_queue.specs.declared.Waiting.{Waiting}
use Rattle.lock_queue.proofs.Checks.{good_out}
use Rattle.lock_queue.proofs.Judged.{lapse_leaves, lapse_same}
use Rattle.lock_queue_claims.specs.Traces.{queue_after, granted}
use Rattle.lock_queue_claims.specs.Stability.{SomebodyHolds, untouched, LockKept, in_front, NoOvertaking}
use Rattle.lock_queue_claims.proofs.Claims.{refusal_leaves, others_kept, joins_end, gap_closed}

-- ---- the lock, read from the front

abbrev is_exclusive : Waiting → Bool
is_exclusive w = eqb w.mode exclusive

-- The lock comes to desk d, where `first` says that nobody stands before these entries, and `free` that no exclusive
-- one does.
unfoldable reached : ℕ → Bool → Bool → List Waiting → Bool
reached d first free [] = false
reached d first free (w ∷ ws) = cond (eqb (desk w) d) (cond (is_exclusive w) first free) (reached d false (free && not (is_exclusive w)) ws)

turned : (a b c : Bool) → ((a && b) && c) ≡ (b && (c && a))
turned true true c = sym (and-true c)
turned true false c = refl
turned false true c = sym (and-false c)
turned false false c = refl

-- What `holds` looks at: the place where the desk stands, and the entries before it.
abbrev looks_at : ℕ → Bool → Bool → List Waiting → Bool
looks_at d first free ws =
    stands d (desks ws)
    && cond (is_exclusive (get_or ws (first_place d (desks ws)) no_waiting)) (eqb (first_place d (desks ws)) 0 && first)
    (no_exclusive (take (first_place d (desks ws)) ws) && free)

looks_reached : (d : ℕ) (first free : Bool) (ws : List Waiting) → looks_at d first free ws ≡ reached d first free ws
unfolding reached stands first_place no_exclusive
looks_reached d first free [] = refl
looks_reached d first free (w ∷ ws) = go (eqb (desk w) d) refl (looks_reached d false (free && not (is_exclusive w)) ws)
  where
    place : ℕ
    place = first_place d (desks ws)

    go : (b : Bool) → eqb (desk w) d ≡ b → looks_at d false (free && not (is_exclusive w)) ws ≡ reached d false (free && not (is_exclusive w)) ws
        → looks_at d first free (w ∷ ws) ≡ cond b (cond (is_exclusive w) first free) (reached d false (free && not (is_exclusive w)) ws)
    go true e ih = rw e
    go false e ih =
        let back : (eqb (suc place) 0 && first) ≡ (eqb place 0 && false) = ap (λ (t : Bool). t && first) (eqb-suc-zero place) ∙ sym (and-false (eqb place 0)) in
        let free-is : ((not (is_exclusive w) && no_exclusive (take place ws)) && free) ≡ (no_exclusive (take place ws) && (free && not (is_exclusive w))) =
        turned (not (is_exclusive w)) (no_exclusive (take place ws)) free in
        rw e
        (ap (λ (t : Bool). stands d (desks ws) && cond (is_exclusive (get_or ws place no_waiting)) t ((not (is_exclusive w) && no_exclusive (take place ws)) && free)) back
        ∙ ap (λ (t : Bool). stands d (desks ws) && cond (is_exclusive (get_or ws place no_waiting)) (eqb place 0 && false) t) free-is
        ∙ ih)

holds_reached : (d : ℕ) (ws : List Waiting) → holds d ws ≡ reached d true true ws
unfolding holds holds_at
holds_reached d ws =
    let place = first_place d (desks ws) in
    ap (λ (t : Bool). stands d (desks ws) && cond (is_exclusive (get_or ws place no_waiting)) t (no_exclusive (take place ws))) (sym (and-true (eqb place 0)))
    ∙ ap (λ (t : Bool). stands d (desks ws) && cond (is_exclusive (get_or ws place no_waiting)) (eqb place 0 && true) t) (sym (and-true (no_exclusive (take place ws))))
    ∙ looks_reached d true true ws

-- Fewer entries before it, and the lock still comes.
reached_more : (d : ℕ) (first first' free free' : Bool) (ws : List Waiting) → (first ≡ true → first' ≡ true) → (free ≡ true → free' ≡ true)
    → reached d first free ws ≡ true
    → reached d first' free' ws ≡ true
unfolding reached
reached_more d first first' free free' [] f g h = h
reached_more d first first' free free' (w ∷ ws) f g h =
    go (eqb (desk w) d) (is_exclusive w) h
    (λ ex. reached_more d false false (free && not ex) (free' && not ex) ws (λ e. e)
    (λ e. and_in (g (and_left free (not ex) e)) (and_right free (not ex) e)))
  where
    go : (b ex : Bool) → cond b (cond ex first free) (reached d false (free && not ex) ws) ≡ true
        → ((ex : Bool) → reached d false (free && not ex) ws ≡ true → reached d false (free' && not ex) ws ≡ true)
        → cond b (cond ex first' free') (reached d false (free' && not ex) ws) ≡ true
    go true true k rest = f k
    go true false k rest = g k
    go false ex k rest = rest ex k

-- Who holds behind somebody holds because no exclusive entry stands before.
reached_free : (d : ℕ) (free : Bool) (ws : List Waiting) → reached d false free ws ≡ true → free ≡ true
unfolding reached
reached_free d free [] h = absurd (never_both h refl)
reached_free d free (w ∷ ws) h = go (eqb (desk w) d) (is_exclusive w) h (λ ex. reached_free d (free && not ex) ws)
  where
    go : (b ex : Bool) → cond b (cond ex false free) (reached d false (free && not ex) ws) ≡ true
        → ((ex : Bool) → reached d false (free && not ex) ws ≡ true → (free && not ex) ≡ true)
        → free ≡ true
    go true true k rest = absurd (never_both k refl)
    go true false k rest = k
    go false ex k rest = and_left free (not ex) (rest ex k)

-- ---- somebody else leaves or joins

past : (t a b : Bool) → t ≡ false → cond t a b ≡ true → b ≡ true
past true a b e h = absurd (never_both refl e)
past false a b e h = h

-- A desk that is not z is not at an entry of z.
other_desk : (w : Waiting) (d z : ℕ) → eqb z d ≡ false → eqb (desk w) z ≡ true → eqb (desk w) d ≡ false
other_desk w d z other e = ne_eqb (desk w) d (λ same. eqb-false z d other (sym (eqb-true (desk w) z e) ∙ same))

reached_removed : (d z : ℕ) (first free : Bool) (ws : List Waiting) → eqb z d ≡ false → reached d first free ws ≡ true
    → reached d first free (removed z ws) ≡ true
unfolding reached removed
reached_removed d z first free [] other h = h
reached_removed d z first free (w ∷ ws) other h = go (eqb (desk w) z) refl h (reached_removed d z false (free && not (is_exclusive w)) ws other)
  where
    go : (b : Bool) → eqb (desk w) z ≡ b → reached d first free (w ∷ ws) ≡ true
        → (reached d false (free && not (is_exclusive w)) ws ≡ true → reached d false (free && not (is_exclusive w)) (removed z ws) ≡ true)
        → reached d first free (cond b ws (w ∷ removed z ws)) ≡ true
    go true e k rest =
        reached_more d false first (free && not (is_exclusive w)) free ws (λ z. absurd (never_both z refl)) (and_left free (not (is_exclusive w)))
        (past (eqb (desk w) d) (cond (is_exclusive w) first free) (reached d false (free && not (is_exclusive w)) ws) (other_desk w d z other e) k)
    go false e k rest = pick (eqb (desk w) d) k
      where
        pick : (t : Bool) → cond t (cond (is_exclusive w) first free) (reached d false (free && not (is_exclusive w)) ws) ≡ true
            → cond t (cond (is_exclusive w) first free) (reached d false (free && not (is_exclusive w)) (removed z ws)) ≡ true
        pick true j = j
        pick false j = rest j

reached_joined : (d : ℕ) (new : Waiting) (first free : Bool) (ws : List Waiting) → reached d first free ws ≡ true
    → reached d first free (ws ++ (new ∷ [])) ≡ true
unfolding reached
reached_joined d new first free [] h = absurd (never_both h refl)
reached_joined d new first free (w ∷ ws) h = go (eqb (desk w) d) h (reached_joined d new false (free && not (is_exclusive w)) ws)
  where
    go : (b : Bool) → cond b (cond (is_exclusive w) first free) (reached d false (free && not (is_exclusive w)) ws) ≡ true
        → (reached d false (free && not (is_exclusive w)) ws ≡ true → reached d false (free && not (is_exclusive w)) (ws ++ (new ∷ [])) ≡ true)
        → cond b (cond (is_exclusive w) first free) (reached d false (free && not (is_exclusive w)) (ws ++ (new ∷ []))) ≡ true
    go true k rest = k
    go false k rest = rest k

-- ---- who stands in front

unfoldable before : ℕ → ℕ → List Waiting → Bool
before d e [] = false
before d e (w ∷ ws) = cond (eqb (desk w) e) false (cond (eqb (desk w) d) true (before d e ws))

front_before : (d e : ℕ) (ws : List Waiting) → in_front d e ws ≡ before d e ws
unfolding before first_place
front_before d e [] = le-ltb 0 0 (omega arith)
front_before d e (w ∷ ws) = go (eqb (desk w) e) (eqb (desk w) d) (front_before d e ws)
  where
    go : (b t : Bool) → in_front d e ws ≡ before d e ws
        → ltb (cond t 0 (suc (first_place d (desks ws)))) (cond b 0 (suc (first_place e (desks ws)))) ≡ cond b false (cond t true (before d e ws))
    go true t ih = le-ltb (cond t 0 (suc (first_place d (desks ws)))) 0 (omega arith)
    go false true ih = lt-ltb 0 (suc (first_place e (desks ws))) (omega arith)
    go false false ih = leb-suc-suc (suc (first_place d (desks ws))) (first_place e (desks ws)) ∙ ih

before_removed : (d e z : ℕ) (ws : List Waiting) → eqb z d ≡ false → before d e ws ≡ true → before d e (removed z ws) ≡ true
unfolding before removed
before_removed d e z [] other h = h
before_removed d e z (w ∷ ws) other h = go (eqb (desk w) z) refl h (before_removed d e z ws other)
  where
    go : (b : Bool) → eqb (desk w) z ≡ b → before d e (w ∷ ws) ≡ true → (before d e ws ≡ true → before d e (removed z ws) ≡ true)
        → before d e (cond b ws (w ∷ removed z ws)) ≡ true
    go true q k rest = pick (eqb (desk w) e) k
      where
        pick : (t : Bool) → cond t false (cond (eqb (desk w) d) true (before d e ws)) ≡ true → before d e ws ≡ true
        pick true j = absurd (never_both j refl)
        pick false j = past (eqb (desk w) d) true (before d e ws) (other_desk w d z other q) j
    go false q k rest = pick (eqb (desk w) e) (eqb (desk w) d) k
      where
        pick : (t u : Bool) → cond t false (cond u true (before d e ws)) ≡ true → cond t false (cond u true (before d e (removed z ws))) ≡ true
        pick true u j = j
        pick false true j = refl
        pick false false j = rest j

before_joined : (d e : ℕ) (new : Waiting) (ws : List Waiting) → before d e ws ≡ true → before d e (ws ++ (new ∷ [])) ≡ true
unfolding before
before_joined d e new [] h = absurd (never_both h refl)
before_joined d e new (w ∷ ws) h = pick (eqb (desk w) e) (eqb (desk w) d) h (before_joined d e new ws)
  where
    pick : (t u : Bool) → cond t false (cond u true (before d e ws)) ≡ true → (before d e ws ≡ true → before d e (ws ++ (new ∷ [])) ≡ true)
        → cond t false (cond u true (before d e (ws ++ (new ∷ [])))) ≡ true
    pick true u j rest = absurd (never_both j refl)
    pick false true j rest = refl
    pick false false j rest = rest j

-- Where the one behind holds, the one in front does.
before_holds : (d e : ℕ) (first free : Bool) (ws : List Waiting) → before d e ws ≡ true → reached e first free ws ≡ true → reached d first free ws ≡ true
unfolding before reached
before_holds d e first free [] b h = absurd (never_both b refl)
before_holds d e first free (w ∷ ws) b h = go (eqb (desk w) e) (eqb (desk w) d) (is_exclusive w) b h (λ ex. before_holds d e false (free && not ex) ws)
  where
    go : (t u ex : Bool) → cond t false (cond u true (before d e ws)) ≡ true → cond t (cond ex first free) (reached e false (free && not ex) ws) ≡ true
        → ((ex : Bool) → before d e ws ≡ true → reached e false (free && not ex) ws ≡ true → reached d false (free && not ex) ws ≡ true)
        → cond u (cond ex first free) (reached d false (free && not ex) ws) ≡ true
    go true u ex j k rest = absurd (never_both j refl)
    go false true true j k rest = absurd (never_both (and_right free false (reached_free e (free && false) ws k)) refl)
    go false true false j k rest = and_left free true (reached_free e (free && true) ws k)
    go false false ex j k rest = rest ex j k

-- ---- requests that are not about a desk

-- What stays when another desk leaves or joins stays over every list of requests none of which is about desk d and
-- accepted.
module _ (d : ℕ) (P : List Waiting → Type 0) (leave : (z : ℕ) (ws : List Waiting) → eqb z d ≡ false → P ws → P (removed z ws))
    (join : (new : Waiting) (ws : List Waiting) → eqb (desk new) d ≡ false → P ws → P (ws ++ (new ∷ []))) where
  accepted_keeps : (lent : ℕ) (q : State) (r : Request) → lent ≤ length q.places → number lent q r ≡ 0 → eqb (sender r) d ≡ false
      → P (standing q)
      → P (standing (after lent q r))
  accepted_keeps lent q (asks new) lie e other p =
      subst P (sym (joins_end lent q new lie e)) (join new (removed (desk new) (standing q)) other (leave (desk new) (standing q) other p))
  accepted_keeps lent q (leaves z) lie e other p = subst P (sym (gap_closed lent q z lie e)) (leave z (standing q) other p)
  accepted_keeps lent q (lapses l) lie e other p =
      subst (λ (s : State). P (standing s)) (sym (lapse_same lent q l e).1)
      (subst P (sym (gap_closed lent q l.desk lie (lapse_leaves lent q l e))) (leave l.desk (standing q) other p))

  pub all_keep : (lent : ℕ) (q : State) (rs : List Request) → lent ≤ length q.places → untouched d lent q rs ≡ true → P (standing q)
      → P (standing (queue_after lent q rs))
  unfolding queue_after granted
  all_keep lent q [] lie u p = p
  all_keep lent q (r ∷ rs) lie u p =
      go (number lent q r) refl u (all_keep lent (after lent q r) rs (omega (arith, lie, (others_kept lent q r lie).1)))
    where
      next : State
      next = after lent q r

      mine : Request → Bool
      mine a = eqb (sender a) d

      go : (n : ℕ) → number lent q r ≡ n → none mine (cond (eqb n 0) (r ∷ granted lent next rs) (granted lent next rs)) ≡ true
          → (untouched d lent next rs ≡ true → P (standing next) → P (standing (queue_after lent next rs)))
          → P (standing (queue_after lent next rs))
      go zero e both rest =
          let parts = or_fails (mine r) (any mine (granted lent next rs)) (not-true (mine r || any mine (granted lent next rs)) both) in
          rest (not_in parts.1) (accepted_keeps lent q r lie e parts.0 p)
      go (suc n) e both rest =
          rest (subst (λ (b : Bool). none mine (cond b (r ∷ granted lent next rs) (granted lent next rs)) ≡ true) (eqb-suc-zero n) both)
          (subst (λ (s : State). P (standing s)) (sym (refusal_leaves lent q r n e)) p)

-- ---- the claims

pub lock_kept : LockKept
lock_kept lent q d rs lie u h =
    let now = standing (queue_after lent q rs) in
    to_T (holds_reached d now
    ∙ all_keep d (λ (ws : List Waiting). reached d true true ws ≡ true) (λ z ws other p. reached_removed d z true true ws other p)
    (λ new ws other p. reached_joined d new true true ws p) lent q rs lie u (sym (holds_reached d (standing q)) ∙ from_T (holds d (standing q)) h))

pub no_overtaking : NoOvertaking
no_overtaking lent q d e rs lie u front =
    record {
      ahead = front_before d e now ∙ still;
      no_later = λ h. to_T (holds_reached d now ∙ before_holds d e true true now still (sym (holds_reached e now) ∙ from_T (holds e now) h));
    }
  where
    now : List Waiting
    now = standing (queue_after lent q rs)

    still : before d e now ≡ true
    still =
        all_keep d (λ (ws : List Waiting). before d e ws ≡ true) (λ z ws other p. before_removed d e z ws other p)
        (λ new ws other p. before_joined d e new ws p) lent q rs lie u (sym (front_before d e (standing q)) ∙ front)

-- The entry in front holds.
front_holds : (w : Waiting) (ws : List Waiting) → holds (desk w) (w ∷ ws) ≡ true
unfolding reached
front_holds w ws = holds_reached (desk w) (w ∷ ws) ∙ go (is_exclusive w) (eqb (desk w) (desk w)) (eq-eqb (desk w) (desk w) refl)
  where
    go : (ex b : Bool) → b ≡ true → cond b (cond ex true true) (reached (desk w) false (true && not ex) ws) ≡ true
    go true true e = refl
    go false true e = refl
    go ex false e = absurd (never_both e refl)

pub somebody_holds : SomebodyHolds
somebody_holds lent q lie t some = go q.places q.count refl refl
  where
    go : (places : List Waiting) (count : ℕ) → q.places ≡ places → q.count ≡ count → T (holds (desk (get_or places 0 no_waiting)) (take count places))
    go [] count e f = let g = good_out lent q (from_T (good lent q) t) in let none : length q.places ≡ 0 = ap length e in absurd (omega (arith, g.some, lie, none))
    go (w ∷ ws) zero e f = absurd (some f)
    go (w ∷ ws) (suc n) e f = to_T (front_holds w (take n ws))
