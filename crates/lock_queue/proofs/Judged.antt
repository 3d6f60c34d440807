-- Laws of the numbers and of the outcome: what the judging functions cite. Assumes nothing.
use Prim.Native.Nat.{ℕ, ◌≤◌, ◌<◌}
use native.Mathlib.Omega.{arith}
use mathlib.Core.Path.{◌≡◌, refl, sym, ap, ◌∙◌}
use mathlib.Core.List.{List, ◌∷◌}
use mathlib.Core.Bool.{Bool, true, false, not, and-true}
use borrow.Author.Tests.{eqb-false, not-false}
use lib.Dec.{T, eqb}
use lib.ListN.{drop}
use mathlib.Core.Logic.{◌⊎◌, inl, inr}
use Rattle.lists.proofs.Tests.{cases}
use Rattle.lists.proofs.Table.{unapplied, none_applies, settled_old}
use Rattle.lists.specs.Table.{Row, row, first, applies, once}
use Rattle.lock_queue.proofs.Standing.{stands_below}
use Rattle.lock_queue.proofs.Checks.{Good, good_out, good_count}
use Rattle.lock_queue.specs.Queue.{State, state, most_places, standing, desk, desks, first_place, stands}
use Rattle.lock_queue.specs.Good.{good}
use Rattle.lock_queue.specs.declared.Waiting.{Waiting}
use Rattle.lock_queue.specs.Requests.{joined, without, upgrading, queue_joined, asking, leaving, lapsing, Turns, answered}
use Rattle.lock_queue.specs.Requests.{Request, asks, leaves, lapses, queue_rows, sender, applied, number, after, answer}
use Rattle.lock_queue.specs.declared.LockOutcome.{LockOutcome}
use Rattle.lock_queue.specs.declared.Queue.{Queue}
use Rattle.numbers.specs.declared.Refusal.{Refusal}
use Rattle.numbers.specs.Refusals.{number_of}
use Rattle.numbers.proofs.Refusals.{refused}
use Rattle.std.proofs.Common.{Result, Ok, Err, IfOk, MatchResult}
use Rattle.lock_queue.specs.declared.LeaseExpiry.{LeaseExpiry}
use Rattle.lock_queue.proofs.Upgrades.{up_stands, queue_joined_up, queue_joined_plain}

-- A number that is not that of the first row is given only where that row does not apply.
pub first_passed : (a : Bool) (n : ℕ) (rs : List Row) → (first (row a n ∷ rs) ≡ n → ⊥) → a ≡ false
first_passed true n rs h = absurd (h refl)
first_passed false n rs h = refl

module _ (lent : ℕ) (q : State) where
  pub not_bad : (r : Request) → (number lent q r ≡ 10 → ⊥) → good lent q ≡ true
  unfolding number
  not_bad (asks new) h = not-false (good lent q) (first_passed (not (good lent q)) 10 (drop 1 (asking lent q new)) h)
  not_bad (leaves d) h = not-false (good lent q) (first_passed (not (good lent q)) 10 (drop 1 (leaving lent q d)) h)
  not_bad (lapses r) h = not-false (good lent q) (first_passed (not (good lent q)) 10 (drop 1 (lapsing lent q r)) h)

  pub each_once : (r : Request) → T (once (queue_rows lent q r))
  each_once (asks new) = tt
  each_once (leaves d) = tt
  each_once (lapses r) = tt

  -- Accepted: no row applies.
  pub no_row_lem : (r : Request) → number lent q r ≡ 0 → (n : ℕ) → applies n (queue_rows lent q r) ≡ false
  unfolding number
  no_row_lem r e = none_applies (queue_rows lent q r) ((unapplied (queue_rows lent q r) (each_once r)).0 e)

  pub accepted_good : (r : Request) → number lent q r ≡ 0 → Good lent q
  accepted_good r e = good_out lent q (not_bad r (λ bad. absurd (omega arith)))

  pub accepted_count : (r : Request) → number lent q r ≡ 0 → q.count ≤ most_places
  accepted_count r e = let g = accepted_good r e in omega (arith, g.counted, g.short)

  -- An accepted asker has a place, and one that leaves has had one.
  pub ask_room : (new : Waiting) → number lent q (asks new) ≡ 0 → (queue_joined new.mode (desk new) q).count < lent
  unfolding without
  ask_room new e = go (cases (upgrading new.mode (desk new) (standing q)))
    where
      counted : q.count ≤ lent
      counted = (accepted_good (asks new) e).counted

      below : (a b : ℕ) → a ≤ b → (a ≡ b → ⊥) → a < b
      below a b h k = omega arith

      go : (upgrading new.mode (desk new) (standing q) ≡ true) ⊎ (upgrading new.mode (desk new) (standing q) ≡ false)
          → (queue_joined new.mode (desk new) q).count < lent
      go (inl up) =
          let stood = stands_below (desk new) q.count q.places (up_stands new.mode (desk new) (standing q) up) in
          rw (queue_joined_up new.mode (desk new) q up) (omega (arith, counted))
      go (inr plain) =
          let space : eqb q.count lent ≡ false = sym (and-true (eqb q.count lent)) ∙ rw plain at (no_row_lem (asks new) e 13) in
          rw (queue_joined_plain new.mode (desk new) q plain) (below q.count lent counted (eqb-false q.count lent space))

  pub ask_place : (new : Waiting) → number lent q (asks new) ≡ 0 → (queue_joined new.mode (desk new) q).count < most_places
  ask_place new e = omega (arith, ask_room new e, (accepted_good (asks new) e).short)

  pub leave_stands : (d : ℕ) → number lent q (leaves d) ≡ 0 → stands d (desks (standing q)) ≡ true
  leave_stands d e = not-false (stands d (desks (standing q))) (no_row_lem (leaves d) e 15)

  pub leave_place : (d : ℕ) → number lent q (leaves d) ≡ 0 → (q.count ≤ most_places) × (first_place d (desks (standing q)) < q.count)
  leave_place d e = (
    good_count lent q (not_bad (leaves d) (λ bad. absurd (omega arith))),
    stands_below d q.count q.places (leave_stands d e),
  )

  -- Leaving by lease is accepted only where leaving is.
  pub lapse_leaves : (r : LeaseExpiry) → number lent q (lapses r) ≡ 0 → number lent q (leaves r.desk) ≡ 0
  unfolding number
  lapse_leaves r e =
      let fine : not (good lent q) ≡ false = no_row_lem (lapses r) e 10 in
      let there : not (stands r.desk (desks (standing q))) ≡ false = no_row_lem (lapses r) e 15 in
      rw (fine, there)

  pub accepted_fits : (r : Request) → number lent q r ≡ 0 → (applied r q).count ≤ most_places
  unfolding joined without
  accepted_fits (asks new) e = omega (arith, ask_place new e)
  accepted_fits (leaves d) e = omega (arith, (leave_place d e).0)
  accepted_fits (lapses r) e = omega (arith, (leave_place r.desk (lapse_leaves r e)).0)

  -- ---- the queue after a request, and the whole outcome

  pub accepted_after : (r : Request) → number lent q r ≡ 0 → after lent q r ≡ applied r q
  unfolding after
  accepted_after r e = rw e

  pub refused_after : (r : Request) → (number lent q r ≡ 0 → ⊥) → after lent q r ≡ q
  unfolding after
  refused_after r h = settled_old (applied r q) q h

  -- Leaving by lease, where it is accepted, is leaving.
  pub lapse_same : (r : LeaseExpiry) → number lent q (lapses r) ≡ 0 →
      (answer lent q (lapses r) ≡ answer lent q (leaves r.desk)) × (after lent q (lapses r) ≡ after lent q (leaves r.desk))
  unfolding after answer
  lapse_same r e = let f = lapse_leaves r e in (rw (e, f), rw (e, f))

-- The outcome, of a queue by value, by what the request makes of it.
pub turned_outcome : (lent : ℕ) (entry : Queue) (r : Request) (turned : Result Queue Refusal) (out : LockOutcome) {d : ℕ} →
    number_of turned ≡ number lent (state entry) r → IfOk turned (λ (now : Queue). state now ≡ applied r (state entry)) → d ≡ sender r →
    out.answer ≡ answered (number_of turned) d (state entry) (state out.queue) →
    MatchResult turned (λ (now : Queue). out.queue ≡ now) (λ (refusal : Refusal). out.queue ≡ entry) →
    Turns lent (state entry) r out.answer (state out.queue)
unfolding answer
turned_outcome lent entry r (Ok now) out told made sent shown kept =
    let after-is : state out.queue ≡ after lent (state entry) r = ap state kept ∙ made ∙ sym (accepted_after lent (state entry) r (sym told)) in
    (shown ∙ rw (told, sent, after-is), after-is)
turned_outcome lent entry r (Err refusal) out told made sent shown kept =
    let after-is : state out.queue ≡ after lent (state entry) r =
    ap state kept ∙ sym (refused_after lent (state entry) r (λ zero. refused refusal (told ∙ zero))) in
    (shown ∙ rw (told, sent, after-is), after-is)
