-- Laws of stamps, pairs and staleness. Assumes nothing.
use Prim.Native.Nat.{ℕ, ◌+◌, ◌*◌, ◌-◌, ◌≤◌, ◌<◌, max}
use native.Mathlib.Omega.{arith}
use mathlib.Core.Path.{◌≡◌, sym, ap, subst, ◌∙◌}
use mathlib.Core.Logic.{◌⊎◌, inl, inr}
use mathlib.Core.Bool.{true, false, not, ◌&&◌}
use borrow.Author.Tests.{ltb-true, ltb-false, lt-ltb, le-ltb, le-leb, lt-leb, ne_eqb, eqb-true, eqb-false, not-true}
use lib.Dec.{T, ltb, leb, eqb, lt→ltb, ltb→lt}
use Rattle.lists.specs.Table.{all}
use Rattle.lists.proofs.Tests.{cases, not_in, or_right, or_cases, or_fails, all_out, T_and, T_and_left, T_and_right, T_or_left, T_or_right, T_or_cases}
use Rattle.stamps.specs.Stamp.{stamp, stamp_t, desk_number, desk_start, stamp_valid, shared, exclusive, own, session_checks, stale, most_ahead, stamp_too_far, too_far, larger_of_each}
use Rattle.stamps.specs.declared.Pair.{Pair}

-- The parts of a stamp T.desk.start, for a desk and a start of 16 bits.
module _ (t : ℕ) {desk start : ℕ} (d : desk < 65536) (i : start < 65536) where
  pub stamp_desk_start : desk_start (stamp t desk start) ≡ desk * 65536 + start
  stamp_desk_start = omega arith

  pub stamp_desk : desk_number (stamp t desk start) ≡ desk
  stamp_desk = omega arith

  pub stamp_valid_lem : (desk ≡ 0 → ⊥) → stamp_valid (stamp t desk start) ≡ true
  stamp_valid_lem h = or_right (eqb (stamp t desk start) 0) (not_in (ne_eqb (desk_number (stamp t desk start)) 0 (λ e. h (sym stamp_desk ∙ e))))

-- The larger of two numbers is one of them.
pub max_one : (P : ℕ → Type 0) (a b : ℕ) → P a → P b → P (max a b)
max_one P a b p q = go (cases (ltb a b))
  where
    go : (ltb a b ≡ true) ⊎ (ltb a b ≡ false) → P (max a b)
    go (inl e) = let larger : b ≡ max a b = omega (arith, ltb-true a b e) in subst P larger q
    go (inr e) = let larger : a ≡ max a b = omega (arith, ltb-false a b e) in subst P larger p

-- Larger stored stamps keep a pair stale.
pub stale_more : (mode : ℕ) {stored more : Pair} (new : Pair) → stored.s ≤ more.s → stored.x ≤ more.x → T (stale mode stored new) → T (stale mode more new)
stale_more mode {stored} {more} new hs hx t = go (T_or_cases (ltb new.x stored.x) (eqb mode exclusive && ltb new.s stored.s) t)
  where
    go : T (ltb new.x stored.x) ⊎ T (eqb mode exclusive && ltb new.s stored.s) → T (stale mode more new)
    go (inl x) =
        T_or_left (ltb new.x more.x) (eqb mode exclusive && ltb new.s more.s)
        (lt→ltb new.x more.x (omega (arith, ltb→lt new.x stored.x x)))
    go (inr s) =
        T_or_right (ltb new.x more.x) (eqb mode exclusive && ltb new.s more.s)
        (T_and (eqb mode exclusive) (ltb new.s more.s) (T_and_left (eqb mode exclusive) (ltb new.s stored.s) s)
        (lt→ltb new.s more.s (omega (arith, ltb→lt new.s stored.s (T_and_right (eqb mode exclusive) (ltb new.s stored.s) s)))))

-- No stamp is never too far ahead: the rule's word "nonzero" needs no test of its own.
pub zero_near : (stored : ℕ) → stamp_too_far stored 0 ≡ false
zero_near stored = le-ltb (stamp_t stored + most_ahead) (stamp_t 0) (omega arith)

-- A stamp with a T beyond the most is in reach of the numbers above one edge, and too far ahead of all others.
module _ (new : ℕ) (h : most_ahead < stamp_t new) where
  abbrev pub edge : ℕ
  edge = (stamp_t new - most_ahead) * 4294967296 - 1

  pub reach_above : (n : ℕ) → leb (stamp_t new) (stamp_t n + most_ahead) ≡ ltb edge n
  reach_above n = go (cases (ltb edge n))
    where
      go : (ltb edge n ≡ true) ⊎ (ltb edge n ≡ false) → leb (stamp_t new) (stamp_t n + most_ahead) ≡ ltb edge n
      go (inl e) = le-leb (stamp_t new) (stamp_t n + most_ahead) (omega (arith, ltb-true edge n e)) ∙ sym e
      go (inr e) = lt-leb (stamp_t new) (stamp_t n + most_ahead) (omega (arith, ltb-false edge n e)) ∙ sym e

  pub far_below : (n : ℕ) → stamp_too_far n new ≡ not (ltb edge n)
  far_below n = go (cases (ltb edge n))
    where
      go : (ltb edge n ≡ true) ⊎ (ltb edge n ≡ false) → stamp_too_far n new ≡ not (ltb edge n)
      go (inl e) = le-ltb (stamp_t n + most_ahead) (stamp_t new) (omega (arith, ltb-true edge n e)) ∙ sym (ap not e)
      go (inr e) = lt-ltb (stamp_t n + most_ahead) (stamp_t new) (omega (arith, ltb-false edge n e)) ∙ sym (ap not e)

-- What is not too far ahead raises no T by more than the most.
pub near_raises : (old new : Pair) → too_far old new ≡ false
    → (stamp_t (larger_of_each old new).s ≤ stamp_t old.s + most_ahead) × (stamp_t (larger_of_each old new).x ≤ stamp_t old.x + most_ahead)
near_raises old new h =
    let both = or_fails (stamp_too_far old.s new.s) (stamp_too_far old.x new.x) h in
    (raised old.s new.s both.0, raised old.x new.x both.1)
  where
    raised : (a b : ℕ) → stamp_too_far a b ≡ false → stamp_t (max a b) ≤ stamp_t a + most_ahead
    raised a b e = omega (arith, ltb-false (stamp_t a + most_ahead) (stamp_t b) e)

-- The larger of each is at least both.
pub larger_old : (old new : Pair) → (old.s ≤ (larger_of_each old new).s) × (old.x ≤ (larger_of_each old new).x)
larger_old old new = omega arith

-- The rules of a mode and a pair, one by one.
pub record SessionRules (m : ℕ) (pair : Pair) : Type 0 where
  pub mode : (m ≡ shared) ⊎ (m ≡ exclusive)
  pub s : stamp_valid pair.s ≡ true
  pub x : stamp_valid pair.x ≡ true
  pub some : own m pair ≡ 0 → ⊥

pub session_rules : (m : ℕ) (pair : Pair) → all (session_checks m pair) ≡ true → SessionRules m pair
session_rules m pair h =
    record {
      mode = go (or_cases (eqb m shared) (eqb m exclusive) (all_out (session_checks m pair) h 0));
      s = all_out (session_checks m pair) h 1;
      x = all_out (session_checks m pair) h 2;
      some = eqb-false (own m pair) 0 (not-true (eqb (own m pair) 0) (all_out (session_checks m pair) h 3));
    }
  where
    go : (eqb m shared ≡ true) ⊎ (eqb m exclusive ≡ true) → (m ≡ shared) ⊎ (m ≡ exclusive)
    go (inl e) = inl (eqb-true m shared e)
    go (inr e) = inr (eqb-true m exclusive e)
