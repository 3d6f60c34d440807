-- The claims on the queue. Assumes nothing.
use Prim.Native.Nat.{ℕ, zero, suc, ◌+◌, ◌-◌, ◌≤◌, ◌<◌}
use native.Mathlib.Omega.{arith}
use mathlib.Core.Path.{◌≡◌, refl, sym, ap, ◌∙◌}
use mathlib.Core.Logic.{◌⊎◌, inl, inr}
use mathlib.Core.List.{List, [], ◌∷◌, ◌++◌, map}
use mathlib.Core.Bool.{Bool, true, false, cond, not, ◌&&◌, and-false}
use borrow.Author.Tests.{eq-eqb, eqb-true, eqb-false, ltb-true, ltb-false, not-true}
use lib.Dec.{T, ltb, eqb, eqb→eq}
use lib.ListN.{length, take, drop, get_or, length-take, length-map}
use lib.Seq.{get_or-take, length-take-le, get_or_at, get_or-append_seam, take-append_seam}
use Rattle.lists.specs.Table.{all, no_row, listed}
use Rattle.lists.proofs.Tests.{cases, T_and_left, to_T, from_T, and_left, and_right, or_cases}
use Rattle.stamps.proofs.Stamp.{larger_old, session_rules}
use Rattle.lists.proofs.Table.{given, unapplied, first_all}
use Rattle.stamps.specs.Stamp.{stamp_valid, desk_number, desk_start, own, shared, exclusive}
use Rattle.lock_queue_claims.specs.Claims.{
  EachNumber,
  Acceptance,
  RefusalLeaves,
  BlankAnswers,
  LookedWithin,
  StaysGood,
  JoinsEnd,
  GapClosed,
  FreedZeroed,
  OthersKept,
  LargestGrows,
  AskerHolds,
  LeaverHoldsNothing,
  HoldersShared,
  RoomAfterLeaving,
  NoDeskZero,
  BeyondLent,
  ask_numbers,
  leave_numbers,
  lapse_numbers,
  QueueListed,
}
use Rattle.lock_queue.specs.Queue.{State, no_waiting, standing, desk, desks, stands, first_place, looked, no_exclusive, holds_at, holds}
use Rattle.lock_queue.specs.Good.{waiting_formed, good}
use Rattle.lock_queue.specs.Requests.{joined, removed, without, mode_of, upgrading, Request, asks, leaves, lapses, queue_rows, sender, applied, blank_answer, answered, number, after, answer}
use Rattle.lock_queue.specs.declared.Waiting.{Waiting}
use Rattle.lock_queue.proofs.Checks.{good_out}
use Rattle.lock_queue.proofs.Standing.{stands_place, stands_append, map-append}
use Rattle.lock_queue.proofs.Judged.{each_once, accepted_good, accepted_after, leave_place, lapse_leaves}
use Rattle.lock_queue.proofs.Removed.{all_at, gone, removed_absent, stands_inside, place_desk, place_last, none_exclusive}
use Rattle.lock_queue.proofs.After as queue-after
use Rattle.lock_queue.proofs.After.{after_keeps, absent, joined_standing, joined_good, some_left, without_standing, without_good, up_left, up_lie, up_again, up_plain, plainly, queue_joined_largest}

pub each_number : EachNumber
unfolding number
each_number lent q r n = given (queue_rows lent q r) (each_once lent q r) n

pub acceptance : Acceptance
unfolding number
acceptance lent q r = unapplied (queue_rows lent q r) (each_once lent q r)

pub queue_listed : QueueListed
unfolding number
queue_listed =
    record {
      asked = λ lent q new. first_all (listed ask_numbers) (queue_rows lent q (asks new)) tt tt;
      left = λ lent q d. first_all (listed leave_numbers) (queue_rows lent q (leaves d)) tt tt;
      lapsed = λ lent q r. first_all (listed lapse_numbers) (queue_rows lent q (lapses r)) tt tt;
    }

-- ---- the queue after a request

pub refusal_leaves : RefusalLeaves
refusal_leaves = queue-after.refusal_leaves

pub others_kept : OthersKept
others_kept = queue-after.others_kept

pub beyond_lent : BeyondLent
beyond_lent = queue-after.beyond_lent

-- ---- the answer

pub blank_answers : BlankAnswers
unfolding answer answered
blank_answers lent q r t = rw (from_T (blank_answer (number lent q r)) t)

standing_long : (q : State) → length (desks (standing q)) ≤ q.count
standing_long q = omega (arith, length-map (standing q) desk, length-take q.count q.places)

pub looked_within : LookedWithin
unfolding answer answered looked
looked_within lent q r = go (blank_answer (number lent q r)) (stands (sender r) (desks (standing q))) (stands_place (sender r) (desks (standing q)))
  where
    go : (b s : Bool) → ltb (first_place (sender r) (desks (standing q))) (length (desks (standing q))) ≡ s →
        cond b 0 (cond s (first_place (sender r) (desks (standing q)) + 1) (length (desks (standing q)))) ≤ q.count
    go true s h = omega arith
    go false true h = omega (arith, ltb-true (first_place (sender r) (desks (standing q))) (length (desks (standing q))) h, standing_long q)
    go false false h = standing_long q

-- ---- the claims on the queue after a request

pub stays_good : StaysGood
stays_good lent q r lie t =
    to_T (after_keeps (λ s. good lent s ≡ true) lent q r (from_T (good lent q) t) (made r))
  where
    made : (r : Request) → number lent q r ≡ 0 → good lent (applied r q) ≡ true
    made (asks new) e =
        plainly (λ s. good lent s ≡ true) lent q new lie e (λ plain. joined_good lent q new lie e plain)
        (λ up. joined_good lent (without (desk new) q) new (up_lie lent q new lie e up) (up_again lent q new lie e up) (up_plain lent q new lie e up))
    made (leaves d) e = without_good lent q d lie e
    made (lapses l) e = without_good lent q l.desk lie (lapse_leaves lent q l e)

pub joins_end : JoinsEnd
joins_end lent q new lie e =
    rw (accepted_after lent q (asks new) e)
    (plainly (λ s. standing s ≡ removed (desk new) (standing q) ++ (new ∷ [])) lent q new lie e
    (λ plain. rw (removed_absent (desk new) (standing q) (absent lent q new lie e plain)) (joined_standing lent q new lie e plain))
    (λ up.
    joined_standing lent (without (desk new) q) new (up_lie lent q new lie e up) (up_again lent q new lie e up) (up_plain lent q new lie e up)
    ∙ ap (λ (ws : List Waiting). ws ++ (new ∷ [])) (without_standing lent q (desk new) lie (up_left lent q new lie e up))))

pub gap_closed : GapClosed
gap_closed lent q d lie e = rw (accepted_after lent q (leaves d) e) (without_standing lent q d lie e)

pub freed_zeroed : FreedZeroed
unfolding without
freed_zeroed lent q d w lie e =
    rw (accepted_after lent q (leaves d) e)
    (get_or_at (removed d (standing q)) no_waiting (drop q.count q.places) w (q.count - 1) (omega (arith, some_left lent q d lie e)))

pub largest_grows : LargestGrows
unfolding joined without
largest_grows lent q r =
    after_keeps (λ s. (q.largest.s ≤ s.largest.s) × (q.largest.x ≤ s.largest.x)) lent q r (omega arith) (made r)
  where
    made : (r : Request) → number lent q r ≡ 0 → (q.largest.s ≤ (applied r q).largest.s) × (q.largest.x ≤ (applied r q).largest.x)
    made (asks new) e = rw (queue_joined_largest new.mode (desk new) q) (larger_old q.largest new.pair)
    made (leaves d) e = omega arith
    made (lapses l) e = omega arith

pub room_after_leaving : RoomAfterLeaving
unfolding without
room_after_leaving lent q d new e f =
    let full = ((each_number lent (after lent q (leaves d)) (asks new) 12).0 f).0 in
    let g = accepted_good lent q (leaves d) e in
    let stood = (leave_place lent q d e).1 in
    let now : (after lent q (leaves d)).count ≡ q.count - 1 = rw (accepted_after lent q (leaves d) e) in
    let same =
    eqb→eq (after lent q (leaves d)).count lent
    (T_and_left (eqb (after lent q (leaves d)).count lent) (not (upgrading new.mode (desk new) (standing (after lent q (leaves d))))) full) in
    omega (arith, g.counted)

-- ---- who holds the lock

-- An entry at the end of others, whose desk does not stand among them.
last_holds : (ws : List Waiting) (new : Waiting) → stands (desk new) (desks ws) ≡ false →
    holds (desk new) (ws ++ (new ∷ [])) ≡ cond (eqb new.mode exclusive) (eqb (length ws) 0) (no_exclusive ws)
unfolding holds holds_at stands
last_holds ws new h =
    let place : first_place (desk new) (desks ws ++ (desk new ∷ [])) ≡ length ws = place_last (desk new) (desks ws) h ∙ length-map ws desk in
    rw (
      map-append desk ws (new ∷ []),
      place,
      stands_append (desk new) (desks ws) (desk new ∷ []),
      h,
      eq-eqb (desk new) (desk new) refl,
      get_or-append_seam ws new [] no_waiting,
      take-append_seam ws (new ∷ []),
    )

pub asker_holds : AskerHolds
unfolding answer answered
asker_holds lent q new lie e =
    rw (
      e,
      joins_end lent q new lie e,
      last_holds (removed (desk new) (standing q)) new (gone (desk new) (standing q) (accepted_good lent q (asks new) e).all_distinct),
    )

absent_holds_nothing : (d : ℕ) (ws : List Waiting) → stands d (desks ws) ≡ false → holds d ws ≡ false
unfolding holds
absent_holds_nothing d ws h = rw h

-- A desk that stands is refused only where the queue is bad.
refused_blank : (lent : ℕ) (q : State) (d n : ℕ) → number lent q (leaves d) ≡ suc n → stands d (desks (standing q)) ≡ true →
    blank_answer (number lent q (leaves d)) ≡ true
unfolding number
refused_blank lent q d n e s = go (good lent q) refl
  where
    go : (b : Bool) → good lent q ≡ b → blank_answer (number lent q (leaves d)) ≡ true
    go true k = let no_row : number lent q (leaves d) ≡ 0 = rw (k, s) in absurd (omega arith)
    go false k = rw k

pub leaver_holds_nothing : LeaverHoldsNothing
unfolding answer answered
leaver_holds_nothing lent q d lie = go (number lent q (leaves d)) refl
  where
    left : (n : ℕ) → number lent q (leaves d) ≡ suc n → (stands d (desks (standing q)) ≡ true) ⊎ (stands d (desks (standing q)) ≡ false) →
        (not (blank_answer (number lent q (leaves d))) && holds d (standing q)) ≡ false
    left n e (inl s) = rw (refused_blank lent q d n e s)
    left n e (inr s) = rw (absent_holds_nothing d (standing q) s) (and-false (not (blank_answer (number lent q (leaves d)))))

    go : (n : ℕ) → number lent q (leaves d) ≡ n → (not (blank_answer (number lent q (leaves d))) && holds d (standing (after lent q (leaves d)))) ≡ false
    go zero e =
        rw (gap_closed lent q d lie e, absent_holds_nothing d (removed d (standing q)) (gone d (standing q) (accepted_good lent q (leaves d) e).all_distinct))
        (and-false (not (blank_answer (number lent q (leaves d)))))
    go (suc n) e = rw (refusal_leaves lent q (leaves d) n e) (left n e (cases (stands d (desks (standing q)))))

-- Of two places that hold, the one behind is shared, and so is the one before it.
behind_shared : (ws : List Waiting) (i j : ℕ) → i < j → j < length ws → holds_at j ws ≡ true →
    ((get_or ws i no_waiting).mode ≡ exclusive → ⊥) × ((get_or ws j no_waiting).mode ≡ exclusive → ⊥)
unfolding holds_at
behind_shared ws i j h k e = go (eqb (get_or ws j no_waiting).mode exclusive) refl e
  where
    go : (b : Bool) → eqb (get_or ws j no_waiting).mode exclusive ≡ b → cond b (eqb j 0) (no_exclusive (take j ws)) ≡ true →
        ((get_or ws i no_waiting).mode ≡ exclusive → ⊥) × ((get_or ws j no_waiting).mode ≡ exclusive → ⊥)
    go true m first = absurd (omega (arith, eqb-true j 0 first))
    go false m no_row = (
      λ x. none_exclusive (take j ws) no_row i (omega (arith, length-take-le j ws (omega arith))) (rw (get_or-take j ws i no_waiting h) x),
      eqb-false (get_or ws j no_waiting).mode exclusive m,
    )

mode_shared : (w : Waiting) → waiting_formed w ≡ true → (w.mode ≡ exclusive → ⊥) → w.mode ≡ shared
mode_shared w f h = go (session_rules w.mode w.pair f).mode
  where
    go : (w.mode ≡ shared) ⊎ (w.mode ≡ exclusive) → w.mode ≡ shared
    go (inl e) = e
    go (inr e) = absurd (h e)

-- The place of a desk that holds the lock.
module _ (d : ℕ) (ws : List Waiting) (h : T (holds d ws)) where
  holder_stands : stands d (desks ws) ≡ true
  unfolding holds
  holder_stands = and_left (stands d (desks ws)) (holds_at (first_place d (desks ws)) ws) (from_T (holds d ws) h)

  holder_holds : holds_at (first_place d (desks ws)) ws ≡ true
  unfolding holds
  holder_holds = and_right (stands d (desks ws)) (holds_at (first_place d (desks ws)) ws) (from_T (holds d ws) h)

  holder_inside : first_place d (desks ws) < length ws
  holder_inside = stands_inside d ws holder_stands

-- Two that hold, one before the other.
both_shared : (ws : List Waiting) (d e : ℕ) → all (map waiting_formed ws) ≡ true → T (holds d ws) → T (holds e ws) →
    first_place d (desks ws) < first_place e (desks ws) → (mode_of d ws ≡ shared) × (mode_of e ws ≡ shared)
both_shared ws d e f hd he h =
    let i = first_place d (desks ws) in
    let j = first_place e (desks ws) in
    let inside = holder_inside e ws he in
    let both = behind_shared ws i j h inside (holder_holds e ws he) in (
      mode_shared (get_or ws i no_waiting) (all_at waiting_formed ws f i (omega arith)) both.0,
      mode_shared (get_or ws j no_waiting) (all_at waiting_formed ws f j inside) both.1,
    )

pub holders_shared : HoldersShared
holders_shared lent q d e t other hd he =
    go (standing q) (good_out lent q (from_T (good lent q) t)).all_formed hd he (cases (ltb (first_place d (desks (standing q))) (first_place e (desks (standing q)))))
    (cases (ltb (first_place e (desks (standing q))) (first_place d (desks (standing q)))))
  where
    go : (ws : List Waiting) → all (map waiting_formed ws) ≡ true → T (holds d ws) → T (holds e ws) →
        (ltb (first_place d (desks ws)) (first_place e (desks ws)) ≡ true) ⊎ (ltb (first_place d (desks ws)) (first_place e (desks ws)) ≡ false) →
        (ltb (first_place e (desks ws)) (first_place d (desks ws)) ≡ true) ⊎ (ltb (first_place e (desks ws)) (first_place d (desks ws)) ≡ false) →
        (mode_of d ws ≡ shared) × (mode_of e ws ≡ shared)
    go ws f h k (inl a) b = both_shared ws d e f h k (ltb-true (first_place d (desks ws)) (first_place e (desks ws)) a)
    go ws f h k (inr a) (inl b) =
        let both = both_shared ws e d f k h (ltb-true (first_place e (desks ws)) (first_place d (desks ws)) b) in
        (both.1, both.0)
    go ws f h k (inr a) (inr b) =
        let same : first_place d (desks ws) ≡ first_place e (desks ws) =
        omega (arith, ltb-false (first_place d (desks ws)) (first_place e (desks ws)) a, ltb-false (first_place e (desks ws)) (first_place d (desks ws)) b) in
        absurd
        (other
        (sym (place_desk d ws (holder_stands d ws h))
        ∙ ap (λ (i : ℕ). desk (get_or ws i no_waiting)) same
        ∙ place_desk e ws (holder_stands e ws k)))

-- ---- desk 0

-- A valid stamp that is not zero has a desk of at least 1.
some_desk : (n : ℕ) → stamp_valid n ≡ true → (n ≡ 0 → ⊥) → 65536 ≤ desk_start n
some_desk n v h = go (or_cases (eqb n 0) (not (eqb (desk_number n) 0)) v)
  where
    go : (eqb n 0 ≡ true) ⊎ (not (eqb (desk_number n) 0) ≡ true) → 65536 ≤ desk_start n
    go (inl e) = absurd (h (eqb-true n 0 e))
    go (inr e) = let some = eqb-false (desk_number n) 0 (not-true (eqb (desk_number n) 0) e) in omega arith

entry_desk : (w : Waiting) → waiting_formed w ≡ true → 65536 ≤ desk w
entry_desk w f = some_desk (own w.mode w.pair) (valid (eqb w.mode exclusive)) (session_rules w.mode w.pair f).some
  where
    valid : (b : Bool) → stamp_valid (cond b w.pair.x w.pair.s) ≡ true
    valid true = (session_rules w.mode w.pair f).x
    valid false = (session_rules w.mode w.pair f).s

pub no_desk_zero : NoDeskZero
unfolding number
no_desk_zero lent q start t h = rw (from_T (good lent q) t, absent (cases (stands start (desks (standing q)))))
  where
    absent : (stands start (desks (standing q)) ≡ true) ⊎ (stands start (desks (standing q)) ≡ false) → stands start (desks (standing q)) ≡ false
    absent (inr s) = s
    absent (inl s) =
        let place = first_place start (desks (standing q)) in
        let fine = all_at waiting_formed (standing q) (good_out lent q (from_T (good lent q) t)).all_formed place (stands_inside start (standing q) s) in
        absurd (omega (arith, entry_desk (get_or (standing q) place no_waiting) fine, place_desk start (standing q) s))
