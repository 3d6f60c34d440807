-- The claims on upgrading. Assumes nothing.
use Prim.Native.Nat.{ℕ, ◌≤◌}
use native.Mathlib.Omega.{arith}
use mathlib.Core.Path.{◌≡◌, refl, sym, ap, ◌∙◌}
use mathlib.Core.Logic.{◌⊎◌, inl, inr}
use mathlib.Core.Bool.{Bool, true, false, not, ◌&&◌, and-false}
use borrow.Author.Tests.{eq-eqb, ne_eqb, not-true}
use lib.Dec.{T, eqb}
use lib.ListN.{length, get_or}
use lib.Seq.{length-take-le}
use Rattle.lists.specs.Table.{applies}
use Rattle.lists.proofs.Tests.{never_both, to_T, from_T, to_false, and_in, and_left, and_right}
use Rattle.stamps.proofs.Stamp.{session_rules}
use Rattle.stamps.specs.Stamp.{shared, exclusive}
use Rattle.lock_queue.specs.Queue.{State, no_waiting, standing, desk, desks, stands, first_place}
use Rattle.lock_queue.specs.Good.{waiting_formed, good}
use Rattle.lock_queue.specs.Requests.{mode_of, upgrading, asks, leaves, removed, queue_rows, applied, number, after}
use Rattle.lock_queue.specs.declared.Waiting.{Waiting}
use Rattle.lock_queue.proofs.Checks.{good_out}
use Rattle.lock_queue.proofs.Judged.{accepted_after, accepted_good}
use Rattle.lock_queue_claims.specs.Upgrades.{AsksUpgrade, TwelveMeans, UpgradeByPair, UpgradeNeverFull, UpgradeIsBoth, NewcomerJoinsEnd, NewcomerHolds}
use Rattle.lock_queue.proofs.After.{absent, up_left, up_again, up_same}
use Rattle.lock_queue_claims.proofs.Claims.{each_number, joins_end, asker_holds}
use Rattle.lock_queue.proofs.Removed.{all_at, stands_inside, removed_absent}

-- An upgrade by its test.
up : (new : Waiting) (q : State) → AsksUpgrade new q → upgrading new.mode (desk new) (standing q) ≡ true
up new q t = from_T (upgrading new.mode (desk new) (standing q)) t

pub upgrade_by_pair : UpgradeByPair
unfolding number
upgrade_by_pair lent q new t g f =
    rw (from_T (good lent q) g, from_T (waiting_formed new) f, up new q t, and-false (stands (desk new) (desks (standing q))), and-false (eqb q.count lent))

pub upgrade_never_full : UpgradeNeverFull
upgrade_never_full lent q new t e =
    let row = from_T (applies 13 (queue_rows lent q (asks new))) ((each_number lent q (asks new) 12).0 e).0 in
    never_both (rw (up new q t) at (and_right (eqb q.count lent) (not (upgrading new.mode (desk new) (standing q))) row)) refl

pub upgrade_is_both : UpgradeIsBoth
upgrade_is_both lent q new lie t e =
    let h = up new q t in
    let left = up_left lent q new lie e h in
    let gap = accepted_after lent q (leaves (desk new)) left in
    let again : number lent (after lent q (leaves (desk new))) (asks new) ≡ 0 = rw gap (up_again lent q new lie e h) in (
      left,
      again,
      accepted_after lent q (asks new) e
          ∙ up_same lent q new lie e h
          ∙ ap (applied (asks new)) (sym gap)
          ∙ sym (accepted_after lent (after lent q (leaves (desk new))) (asks new) again),
    )

-- ---- number 12

-- A desk that stands, and whether it upgrades, by the two modes.
module _ (lent : ℕ) (q : State) (new : Waiting) (g : good lent q ≡ true) (f : waiting_formed new ≡ true)
    (s : stands (desk new) (desks (standing q)) ≡ true) where
  asked_mode : (new.mode ≡ shared) ⊎ (new.mode ≡ exclusive)
  asked_mode = (session_rules new.mode new.pair f).mode

  stood_mode : (mode_of (desk new) (standing q) ≡ shared) ⊎ (mode_of (desk new) (standing q) ≡ exclusive)
  stood_mode =
      let place = first_place (desk new) (desks (standing q)) in
      let w = get_or (standing q) place no_waiting in
      (session_rules w.mode w.pair (all_at waiting_formed (standing q) (good_out lent q g).all_formed place (stands_inside (desk new) (standing q) s))).mode

  plain_modes : upgrading new.mode (desk new) (standing q) ≡ false → (new.mode ≡ shared) ⊎ (mode_of (desk new) (standing q) ≡ exclusive)
  unfolding upgrading
  plain_modes plain = go asked_mode stood_mode
    where
      go : (new.mode ≡ shared) ⊎ (new.mode ≡ exclusive) → (mode_of (desk new) (standing q) ≡ shared) ⊎ (mode_of (desk new) (standing q) ≡ exclusive) →
          (new.mode ≡ shared) ⊎ (mode_of (desk new) (standing q) ≡ exclusive)
      go (inl a) b = inl a
      go (inr a) (inr b) = inr b
      go (inr a) (inl b) =
          absurd (never_both (and_in s (and_in (eq-eqb new.mode exclusive a) (eq-eqb (mode_of (desk new) (standing q)) shared b))) plain)

  modes_plain : (new.mode ≡ shared) ⊎ (mode_of (desk new) (standing q) ≡ exclusive) → upgrading new.mode (desk new) (standing q) ≡ false
  unfolding upgrading
  modes_plain m = neither (stands (desk new) (desks (standing q))) (eqb new.mode exclusive) (eqb (mode_of (desk new) (standing q)) shared) (go m)
    where
      neither : (a b c : Bool) → (b ≡ false) ⊎ (c ≡ false) → (a && (b && c)) ≡ false
      neither a b c (inl e) = rw (e, and-false a)
      neither a b c (inr e) = rw (e, and-false b, and-false a)

      go : (new.mode ≡ shared) ⊎ (mode_of (desk new) (standing q) ≡ exclusive) →
          (eqb new.mode exclusive ≡ false) ⊎ (eqb (mode_of (desk new) (standing q)) shared ≡ false)
      go (inl e) = inl (ne_eqb new.mode exclusive (λ z. absurd (omega arith)))
      go (inr e) = inr (ne_eqb (mode_of (desk new) (standing q)) shared (λ z. absurd (omega arith)))

not-not : (b : Bool) → not (not b) ≡ true → b ≡ true
not-not true e = refl
not-not false e = e

pub twelve_means : TwelveMeans
unfolding number
twelve_means lent q new = (out, λ h. into (from_T (good lent q) h.0) (from_T (waiting_formed new) h.1) (from_T (stands (desk new) (desks (standing q))) h.2) h.3)
  where
    upgrade : Bool
    upgrade = upgrading new.mode (desk new) (standing q)

    into : good lent q ≡ true → waiting_formed new ≡ true → stands (desk new) (desks (standing q)) ≡ true →
        (new.mode ≡ shared) ⊎ (mode_of (desk new) (standing q) ≡ exclusive) → number lent q (asks new) ≡ 12
    into g f s m = rw (g, f, s, modes_plain lent q new g f s m)

    out : number lent q (asks new) ≡ 12 →
        T (good lent q) × T (waiting_formed new) × T (stands (desk new) (desks (standing q))) × ((new.mode ≡ shared) ⊎ (mode_of (desk new) (standing q) ≡ exclusive))
    out e =
        let told = (each_number lent q (asks new) 11).0 e in
        let row : (stands (desk new) (desks (standing q)) && not upgrade) ≡ true = from_T (stands (desk new) (desks (standing q)) && not upgrade) told.0 in
        let passed : (not (not (good lent q)) && (not (not (waiting_formed new)) && true)) ≡ true =
        from_T (not (not (good lent q)) && (not (not (waiting_formed new)) && true)) told.1 in
        let g = not-not (good lent q) (and_left (not (not (good lent q))) (not (not (waiting_formed new)) && true) passed) in
        let f = not-not (waiting_formed new) (and_left (not (not (waiting_formed new))) true (and_right (not (not (good lent q))) (not (not (waiting_formed new)) && true) passed)) in
        let s = and_left (stands (desk new) (desks (standing q))) (not upgrade) row in
        (to_T g, to_T f, to_T s, plain_modes lent q new g f s (not-true upgrade (and_right (stands (desk new) (desks (standing q))) (not upgrade) row)))

-- ---- an ask that is no upgrade

module _ (lent : ℕ) (q : State) (new : Waiting) (lie : lent ≤ length q.places) (other : AsksUpgrade new q → ⊥) (e : number lent q (asks new) ≡ 0) where
  plain : upgrading new.mode (desk new) (standing q) ≡ false
  plain = to_false (upgrading new.mode (desk new) (standing q)) other

  same : removed (desk new) (standing q) ≡ standing q
  same = removed_absent (desk new) (standing q) (absent lent q new lie e plain)

  long : length (standing q) ≡ q.count
  long = length-take-le q.count q.places (omega (arith, (accepted_good lent q (asks new) e).counted))

pub newcomer_joins_end : NewcomerJoinsEnd
newcomer_joins_end lent q new lie other e = joins_end lent q new lie e ∙ rw (same lent q new lie other e)

pub newcomer_holds : NewcomerHolds
newcomer_holds lent q new lie other e = asker_holds lent q new lie e ∙ rw (same lent q new lie other e, long lent q new lie other e)
