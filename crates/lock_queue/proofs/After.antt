-- The queue after a request: an entry that joins, one that leaves, an upgrade, and what is past the count and past the lent places. Assumes nothing.
use Prim.Native.Nat.{ℕ, zero, suc, ◌+◌, ◌-◌, ◌≤◌, ◌<◌, max}
use native.Mathlib.Omega.{arith}
use native.Mathlib.Numerals.{add-one}
use mathlib.Core.Path.{◌≡◌, refl, sym, ap, subst, ◌∙◌}
use mathlib.Core.Logic.{◌⊎◌, inl, inr}
use mathlib.Core.List.{List, [], ◌∷◌, ◌++◌, append_assoc}
use mathlib.Core.Bool.{Bool, true, false, ◌&&◌, and-false, and-true}
use borrow.Author.Tests.{ne_eqb, leb-true, le-leb, not-false}
use lib.Dec.{leb, eqb}
use lib.ListN.{length, drop, length-append, length-drop, length-set}
use lib.Seq.{length-take-le, take-suc-set, drop-set-lt, take_at, drop_at, append_snoc, take-append-le, drop-append-le, set-append_left}
use Rattle.lists.proofs.Tests.{cases, and_in}
use Rattle.stamps.proofs.Stamp.{max_one, SessionRules, session_rules}
use Rattle.stamps.specs.Stamp.{stamp_valid, larger_of_each, no_pair}
use Rattle.lock_queue.specs.Queue.{State, no_waiting, most_places, longer, standing, desk, desks, stands}
use Rattle.lock_queue.specs.Good.{waiting_formed, within, good}
use Rattle.lock_queue.specs.Requests.{joined, removed, without, upgrading, queue_joined, denied, Request, asks, leaves, lapses, applied, answered, number, after, answer}
use Rattle.lock_queue.specs.declared.Waiting.{Waiting}
use Rattle.lock_queue.proofs.Checks.{good_unsized, good_by}
use Rattle.lock_queue.proofs.Upgrades.{up_stands, absent_plain, queue_joined_up, queue_joined_plain}
use Rattle.lock_queue.proofs.Judged.{no_row_lem, accepted_good, accepted_after, refused_after, not_bad, ask_room, leave_stands, lapse_leaves}
use Rattle.lock_queue.proofs.Removed.{all_weaker, all_joined, all_removed, within_more, distinct_joined, distinct_removed, gone, removed_long}

-- ---- the queue after a request

pub refusal_leaves : (lent : ℕ) (q : State) (r : Request) (n : ℕ) → number lent q r ≡ suc n → after lent q r ≡ q
refusal_leaves lent q r n e = refused_after lent q r (λ z. absurd (omega arith))

-- What holds of the queue as it was and, where the request is accepted, of the queue that it makes, holds of the queue as it now is.
pub after_keeps : (P : State → Type 0) (lent : ℕ) (q : State) (r : Request) → P q → (number lent q r ≡ 0 → P (applied r q)) → P (after lent q r)
after_keeps P lent q r p f = go (number lent q r) refl
  where
    go : (n : ℕ) → number lent q r ≡ n → P (after lent q r)
    go zero e = subst P (sym (accepted_after lent q r e)) (f e)
    go (suc n) e = subst P (sym (refusal_leaves lent q r n e)) p

-- ---- an entry that joins, and is no upgrade

module _ (lent : ℕ) (q : State) (new : Waiting) (lie : lent ≤ length q.places) (e : number lent q (asks new) ≡ 0)
    (plain : upgrading new.mode (desk new) (standing q) ≡ false) where
  room : q.count < lent
  room = subst (λ (s : State). s.count < lent) (queue_joined_plain new.mode (desk new) q plain) (ask_room lent q new e)

  pub absent : stands (desk new) (desks (standing q)) ≡ false
  absent = sym (and-true (stands (desk new) (desks (standing q)))) ∙ rw plain at (no_row_lem lent q (asks new) e 12)

  pub joined_standing : standing (joined new q) ≡ standing q ++ (new ∷ [])
  unfolding joined
  joined_standing =
      let place : q.count < length q.places = omega (arith, room) in
      rw (add-one, take-suc-set q.places q.count new place)

  joined_formed : waiting_formed new ≡ true
  joined_formed = not-false (waiting_formed new) (no_row_lem lent q (asks new) e 1)

  joined_rules : SessionRules new.mode new.pair
  joined_rules = session_rules new.mode new.pair joined_formed

  pub joined_good : good lent (joined new q) ≡ true
  unfolding joined
  joined_good =
      let g = accepted_good lent q (asks new) e in
      let rules = joined_rules in
      let largest = larger_of_each q.largest new.pair in
      good_by
      (joined new q)
      joined_standing
      g.some
      g.short
      (omega (arith, room))
      (max_one (λ n. stamp_valid n ≡ true) q.largest.s new.pair.s g.s_valid rules.s)
      (max_one (λ n. stamp_valid n ≡ true) q.largest.x new.pair.x g.x_valid rules.x)
      (all_joined waiting_formed (standing q) new g.all_formed joined_formed)
      (distinct_joined (standing q) new g.all_distinct absent)
      (all_joined (within largest) (standing q) new
      (all_weaker (within q.largest) (within largest) (within_more q.largest largest (omega arith) (omega arith)) (standing q) g.all_within)
      (and_in (le-leb new.pair.s largest.s (omega arith)) (le-leb new.pair.x largest.x (omega arith))))

-- ---- an entry that leaves

module _ (lent : ℕ) (q : State) (d : ℕ) (lie : lent ≤ length q.places) (e : number lent q (leaves d) ≡ 0) where
  pub some_left : suc (length (removed d (standing q))) ≡ q.count
  some_left =
      let fits : q.count ≤ length q.places = omega (arith, (accepted_good lent q (leaves d) e).counted) in
      removed_long d (standing q) (leave_stands lent q d e) ∙ length-take-le q.count q.places fits

  pub without_standing : standing (without d q) ≡ removed d (standing q)
  unfolding without
  without_standing = take_at (removed d (standing q)) (no_waiting ∷ drop q.count q.places) (q.count - 1) (omega (arith, some_left))

  pub without_good : good lent (without d q) ≡ true
  unfolding without
  without_good =
      let g = accepted_good lent q (leaves d) e in
      good_by
      (without d q)
      without_standing
      g.some
      g.short
      (omega (arith, g.counted))
      g.s_valid
      g.x_valid
      (all_removed waiting_formed d (standing q) g.all_formed)
      (distinct_removed d (standing q) g.all_distinct)
      (all_removed (within q.largest) d (standing q) g.all_within)

  without_long : length (without d q).places ≡ length q.places
  unfolding without
  without_long =
      let left = some_left in
      let fits : q.count ≤ length q.places = omega (arith, (accepted_good lent q (leaves d) e).counted) in
      simp (length-append, length-drop) (omega arith)

  without_rest : drop q.count (without d q).places ≡ drop q.count q.places
  unfolding without
  without_rest =
      let left = some_left in
      let long : length (removed d (standing q) ++ (no_waiting ∷ [])) ≡ q.count = simp length-append (omega arith) in
      rw (← append_snoc (removed d (standing q)) no_waiting (drop q.count q.places))
      (drop_at (removed d (standing q) ++ (no_waiting ∷ [])) (drop q.count q.places) q.count long)

-- ---- an upgrade: the old entry leaves, and the new one joins

-- The number of an ask, where no row applies.
unrefused : (lent : ℕ) (q : State) (new : Waiting) → good lent q ≡ true → waiting_formed new ≡ true → stands (desk new) (desks (standing q)) ≡ false →
    denied q.largest new ≡ false → eqb q.count lent ≡ false → number lent q (asks new) ≡ 0
unfolding number
unrefused lent q new g f s d c = rw (g, f, s, d, c)

module _ (lent : ℕ) (q : State) (new : Waiting) (lie : lent ≤ length q.places) (e : number lent q (asks new) ≡ 0)
    (up : upgrading new.mode (desk new) (standing q) ≡ true) where
  pub up_left : number lent q (leaves (desk new)) ≡ 0
  unfolding number
  up_left = rw (not_bad lent q (asks new) (λ bad. absurd (omega arith)), up_stands new.mode (desk new) (standing q) up)

  pub up_lie : lent ≤ length (without (desk new) q).places
  up_lie = rw (without_long lent q (desk new) lie up_left) lie

  up_absent : stands (desk new) (desks (standing (without (desk new) q))) ≡ false
  up_absent =
      rw (without_standing lent q (desk new) lie up_left) (gone (desk new) (standing q) (accepted_good lent q (leaves (desk new)) up_left).all_distinct)

  pub up_plain : upgrading new.mode (desk new) (standing (without (desk new) q)) ≡ false
  up_plain = absent_plain new.mode (desk new) (standing (without (desk new) q)) up_absent

  pub up_again : number lent (without (desk new) q) (asks new) ≡ 0
  unfolding without
  up_again =
      unrefused lent (without (desk new) q) new (without_good lent q (desk new) lie up_left)
      (not-false (waiting_formed new) (no_row_lem lent q (asks new) e 1))
      up_absent
      still
      (ne_eqb (without (desk new) q).count lent fewer)
    where
      still : denied (without (desk new) q).largest new ≡ false
      still = no_row_lem lent q (asks new) e 11

      fewer : (without (desk new) q).count ≡ lent → ⊥
      fewer z = let left = some_left lent q (desk new) lie up_left in omega (arith, (accepted_good lent q (leaves (desk new)) up_left).counted)

  pub up_same : applied (asks new) q ≡ applied (asks new) (without (desk new) q)
  up_same =
      ap (joined new) (queue_joined_up new.mode (desk new) q up ∙ sym (queue_joined_plain new.mode (desk new) (without (desk new) q) up_plain))

-- What holds of the queue that an ask which is no upgrade makes, of any queue, holds of the one that an upgrade makes.
pub plainly : (P : State → Type 0) (lent : ℕ) (q : State) (new : Waiting) → lent ≤ length q.places → number lent q (asks new) ≡ 0 →
    (upgrading new.mode (desk new) (standing q) ≡ false → P (joined new q)) →
    (upgrading new.mode (desk new) (standing q) ≡ true → P (joined new (without (desk new) q))) →
    P (applied (asks new) q)
plainly P lent q new lie e f g = go (cases (upgrading new.mode (desk new) (standing q)))
  where
    go : (upgrading new.mode (desk new) (standing q) ≡ true) ⊎ (upgrading new.mode (desk new) (standing q) ≡ false) → P (applied (asks new) q)
    go (inl up) = subst P (ap (joined new) (sym (queue_joined_up new.mode (desk new) q up))) (g up)
    go (inr plain) = subst P (ap (joined new) (sym (queue_joined_plain new.mode (desk new) q plain))) (f plain)

pub queue_joined_largest : (mode d : ℕ) (q : State) → (queue_joined mode d q).largest ≡ q.largest
unfolding without
queue_joined_largest mode d q = go (cases (upgrading mode d (standing q)))
  where
    go : (upgrading mode d (standing q) ≡ true) ⊎ (upgrading mode d (standing q) ≡ false) → (queue_joined mode d q).largest ≡ q.largest
    go (inl up) = ap (λ (s : State). s.largest) (queue_joined_up mode d q up)
    go (inr plain) = ap (λ (s : State). s.largest) (queue_joined_plain mode d q plain)

-- Places past the count, before and after, keep what they hold, and there are as many places as before.
pub others_kept : (lent : ℕ) (q : State) (r : Request) → lent ≤ length q.places →
    (drop (max q.count (after lent q r).count) (after lent q r).places ≡ drop (max q.count (after lent q r).count) q.places)
    × (length (after lent q r).places ≡ length q.places)
unfolding joined without
others_kept lent q r lie =
    after_keeps (λ s. (drop (max q.count s.count) s.places ≡ drop (max q.count s.count) q.places) × (length s.places ≡ length q.places))
    lent q r (refl, refl) (made r)
  where
    gone_kept : (d : ℕ) → number lent q (leaves d) ≡ 0 →
        (drop (max q.count (without d q).count) (without d q).places ≡ drop (max q.count (without d q).count) q.places)
        × (length (without d q).places ≡ length q.places)
    gone_kept d e =
        let at : max q.count (q.count - 1) ≡ q.count = omega arith in
        (rw at (without_rest lent q d lie e), without_long lent q d lie e)

    made : (r : Request) → number lent q r ≡ 0 →
        (drop (max q.count (applied r q).count) (applied r q).places ≡ drop (max q.count (applied r q).count) q.places)
        × (length (applied r q).places ≡ length q.places)
    made (asks new) e =
        plainly
        (λ s. (drop (max q.count s.count) s.places ≡ drop (max q.count s.count) q.places) × (length s.places ≡ length q.places))
        lent q new lie e
        (λ plain. (drop-set-lt (max q.count (q.count + 1)) q.places q.count new (omega arith), length-set q.places q.count new))
        (λ up.
        let left = up_left lent q new lie e up in
        let some = some_left lent q (desk new) lie left in
        let at : max q.count (q.count - 1 + 1) ≡ q.count = omega arith in
        let there = without (desk new) q in (
          rw at (drop-set-lt q.count there.places (q.count - 1) new (omega arith) ∙ without_rest lent q (desk new) lie left),
          length-set there.places (q.count - 1) new ∙ without_long lent q (desk new) lie left,
        ))
    made (leaves d) e = gone_kept d e
    made (lapses l) e = gone_kept l.desk (lapse_leaves lent q l e)

-- ---- places beyond the lent ones

pub bad_number : (lent : ℕ) (q : State) (r : Request) → good lent q ≡ false → number lent q r ≡ 10
unfolding number
bad_number lent q (asks new) e = rw e
bad_number lent q (leaves d) e = rw e
bad_number lent q (lapses l) e = rw e

pub bad_answer : (lent : ℕ) (q : State) (r : Request) → number lent q r ≡ 10 →
    answer lent q r ≡ record { number = 10; holds = false; largest = no_pair; looked = 0 }
unfolding answer answered
bad_answer lent q r e = rw e

over_bad : (lent : ℕ) (q : State) → leb q.count lent ≡ false → good lent q ≡ false
over_bad lent q e = sym (good_unsized lent q (rw e (and-false (leb 1 lent && leb lent most_places))))

same_joined : (more : List Waiting) (new : Waiting) (b : State) → b.count < length b.places → joined new (longer more b) ≡ longer more (joined new b)
unfolding joined
same_joined more new b h = rw (set-append_left b.places more b.count new h)

module _ (lent : ℕ) (q : State) (more : List Waiting) (lie : lent ≤ length q.places) where
  module _ (h : q.count ≤ lent) where
    same_standing : standing (longer more q) ≡ standing q
    same_standing = take-append-le q.count q.places more (omega arith)

    same_good : good lent (longer more q) ≡ good lent q
    unfolding good
    same_good = rw same_standing

    same_number : (r : Request) → number lent (longer more q) r ≡ number lent q r
    unfolding number
    same_number (asks new) = rw (same_good, same_standing)
    same_number (leaves d) = rw (same_good, same_standing)
    same_number (lapses l) = rw (same_good, same_standing)

    same_without : (d : ℕ) → without d (longer more q) ≡ longer more (without d q)
    unfolding without
    same_without d = rw (same_standing, drop-append-le q.count q.places more (omega arith), append_assoc)

    same_accepted : (r : Request) → number lent q r ≡ 0 → applied r (longer more q) ≡ longer more (applied r q)
    same_accepted (leaves d) e = same_without d
    same_accepted (lapses l) e = same_without l.desk
    same_accepted (asks new) e = go (cases (upgrading new.mode (desk new) (standing q)))
      where
        there : (b : Bool) → upgrading new.mode (desk new) (standing q) ≡ b → upgrading new.mode (desk new) (standing (longer more q)) ≡ b
        there b h = ap (upgrading new.mode (desk new)) same_standing ∙ h

        go : (upgrading new.mode (desk new) (standing q) ≡ true) ⊎ (upgrading new.mode (desk new) (standing q) ≡ false) →
            applied (asks new) (longer more q) ≡ longer more (applied (asks new) q)
        go (inl up) =
            let left = up_left lent q new lie e up in
            let short : (without (desk new) q).count < length (without (desk new) q).places =
            rw (without_long lent q (desk new) lie left) (omega (arith, subst (λ (s : State). s.count < lent) (queue_joined_up new.mode (desk new) q up) (ask_room lent q new e))) in
            ap (joined new) (queue_joined_up new.mode (desk new) (longer more q) (there true up) ∙ same_without (desk new))
            ∙ same_joined more new (without (desk new) q) short
            ∙ ap (λ (s : State). longer more (joined new s)) (sym (queue_joined_up new.mode (desk new) q up))
        go (inr plain) =
            let short : q.count < length q.places =
            omega (arith, subst (λ (s : State). s.count < lent) (queue_joined_plain new.mode (desk new) q plain) (ask_room lent q new e)) in
            ap (joined new) (queue_joined_plain new.mode (desk new) (longer more q) (there false plain))
            ∙ same_joined more new q short
            ∙ ap (λ (s : State). longer more (joined new s)) (sym (queue_joined_plain new.mode (desk new) q plain))

    same_after : (r : Request) → after lent (longer more q) r ≡ longer more (after lent q r)
    same_after r = go (number lent q r) refl
      where
        go : (n : ℕ) → number lent q r ≡ n → after lent (longer more q) r ≡ longer more (after lent q r)
        go zero e =
            accepted_after lent (longer more q) r (same_number r ∙ e)
            ∙ same_accepted r e
            ∙ ap (longer more) (sym (accepted_after lent q r e))
        go (suc n) e =
            refusal_leaves lent (longer more q) r n (same_number r ∙ e)
            ∙ ap (longer more) (sym (refusal_leaves lent q r n e))

    after_inside : (r : Request) → (after lent q r).count ≤ lent
    unfolding joined without
    after_inside r = after_keeps (λ s. s.count ≤ lent) lent q r h (made r)
      where
        made : (r : Request) → number lent q r ≡ 0 → (applied r q).count ≤ lent
        made (asks new) e = omega (arith, ask_room lent q new e)
        made (leaves d) e = omega arith
        made (lapses l) e = omega arith

    same_answer : (r : Request) → answer lent (longer more q) r ≡ answer lent q r
    unfolding answer answered
    same_answer r =
        let inside : (after lent q r).count ≤ length (after lent q r).places = omega (arith, after_inside r, (others_kept lent q r lie).1) in
        rw (same_number r, same_after r, take-append-le (after lent q r).count (after lent q r).places more inside, same_standing)

pub beyond_lent : (lent : ℕ) (q : State) (r : Request) (more : List Waiting) → lent ≤ length q.places →
    (answer lent (longer more q) r ≡ answer lent q r) × (after lent (longer more q) r ≡ longer more (after lent q r))
beyond_lent lent q r more lie = go (leb q.count lent) refl
  where
    go : (b : Bool) → leb q.count lent ≡ b →
        (answer lent (longer more q) r ≡ answer lent q r) × (after lent (longer more q) r ≡ longer more (after lent q r))
    go true e =
        let h = leb-true q.count lent e in
        (same_answer lent q more lie h r, same_after lent q more lie h r)
    go false e =
        let here = bad_number lent q r (over_bad lent q e) in
        let there = bad_number lent (longer more q) r (over_bad lent (longer more q) e) in (
          bad_answer lent (longer more q) r there ∙ sym (bad_answer lent q r here),
          refusal_leaves lent (longer more q) r 9 there ∙ ap (longer more) (sym (refusal_leaves lent q r 9 here)),
        )
