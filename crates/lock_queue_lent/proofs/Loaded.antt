-- A queue over lent places is judged as the same places by value are: those past the lent ones change nothing, and what is written back is the queue as it then is.
-- Assumes nothing.
use Prim.Native.Nat.{ℕ, zero, suc, ◌≤◌}
use native.Mathlib.Nat.{not-suc-le-zero, le_of_suc-le-suc}
use native.Mathlib.Omega.{arith}
use mathlib.Core.Path.{◌≡◌, refl, sym, ap, subst, ◌∙◌}
use mathlib.Core.List.{List, [], ◌∷◌, ◌++◌}
use mathlib.Core.Bool.{Bool, true, false, ◌&&◌, and-false}
use borrow.Author.Tests.{leb-true}
use lib.Dec.{leb}
use lib.ListN.{length, drop, replicate, length-replicate}
use Rattle.lock_queue.proofs.After.{refusal_leaves, others_kept, bad_number, bad_answer, beyond_lent}
use Rattle.lock_queue.proofs.Checks.{good_unsized}
use Rattle.lock_queue.specs.Queue.{State, state, most_places, no_waiting, longer}
use Rattle.lock_queue.specs.Requests.{Request, Turns, number, after, answer}
use Rattle.lock_queue.specs.declared.LockOutcome.{LockOutcome}
use Rattle.lock_queue.specs.declared.Waiting.{Waiting}
use Rattle.lock_queue_lent.proofs.Written.{written_nothing, written_nowhere}
use Rattle.lock_queue_lent.specs.Slice.{lent_state, written, loaded, reply_of}
use Rattle.lock_queue_lent.specs.declared.Kept.{Kept}
use Rattle.lock_queue_lent.specs.declared.LentOutcome.{LentOutcome}

-- ---- lists

-- A list that is written wholly stands before the rest.
written_whole : (n : ℕ) (from onto : List Waiting) → length from ≤ n → length from ≤ length onto → written n from onto ≡ from ++ drop (length from) onto
unfolding written
written_whole n [] onto l m = written_nothing n onto
written_whole n (a ∷ from) [] l m = absurd (not-suc-le-zero m)
written_whole zero (a ∷ from) (b ∷ onto) l m = absurd (not-suc-le-zero l)
written_whole (suc n) (a ∷ from) (b ∷ onto) l m = ap (λ (t : List Waiting). a ∷ t) (written_whole n from onto (le_of_suc-le-suc l) (le_of_suc-le-suc m))

-- A list written over one of its length, whatever stands behind it, is what is then there.
written_over : (n : ℕ) (from z onto : List Waiting) → length from ≡ length onto → length onto ≤ n → written n (from ++ z) onto ≡ from
unfolding written
written_over n [] z [] e l = written_nowhere n z
written_over n [] z (b ∷ onto) e l = absurd (omega (arith, e))
written_over n (a ∷ from) z [] e l = absurd (omega (arith, e))
written_over zero (a ∷ from) z (b ∷ onto) e l = absurd (not-suc-le-zero l)
written_over (suc n) (a ∷ from) z (b ∷ onto) e l = ap (λ (t : List Waiting). a ∷ t) (written_over n from z onto (omega (arith, e)) (le_of_suc-le-suc l))

-- What was written and is written back changes nothing.
written_back : (n : ℕ) (ws z : List Waiting) → written n (written n ws z) ws ≡ ws
unfolding written
written_back zero ws z = refl
written_back (suc n) [] z = written_nowhere (suc n) z
written_back (suc n) (w ∷ ws) [] = refl
written_back (suc n) (w ∷ ws) (b ∷ z) = ap (λ (t : List Waiting). w ∷ t) (written_back n ws z)

-- ---- the whole

-- The state with its places written back over the lent ones.
abbrev back : List Waiting → State → State
back ws q = record { places = written most_places q.places ws; count = q.count; largest = q.largest }

-- What is judged by value of the places p, and written back, is what the lent places come to.
abbrev Judged : List Waiting → List Waiting → Kept → Request → Type 0
Judged p ws k r = (answer (length ws) (lent_state p k) r ≡ answer (length ws) (lent_state ws k) r) × (back ws (after (length ws) (lent_state p k) r) ≡ after (length ws) (lent_state ws k) r)

-- Where at most 32 are lent, the loaded places are the lent ones, and others behind them.
judged_short : (ws z : List Waiting) (k : Kept) (r : Request) → length ws ≤ most_places → Judged (ws ++ z) ws k r
judged_short ws z k r short = (
  beyond.0,
  ap (back ws) beyond.1
      ∙ ap (λ (l : List Waiting). record { places = l; count = now.count; largest = now.largest })
      (written_over most_places now.places z ws (others_kept (length ws) (lent_state ws k) r (omega arith)).1 short),
)
  where
    now : State
    now = after (length ws) (lent_state ws k) r

    beyond : (answer (length ws) (lent_state (ws ++ z) k) r ≡ answer (length ws) (lent_state ws k) r) × (after (length ws) (lent_state (ws ++ z) k) r ≡ longer z now)
    beyond = beyond_lent (length ws) (lent_state ws k) r z (omega arith)

-- Else the queue is bad, and nothing is changed.
judged_long : (ws : List Waiting) (k : Kept) (r : Request) → leb (length ws) most_places ≡ false → Judged (loaded ws) ws k r
judged_long ws k r e = (
  bad_answer (length ws) (lent_state (loaded ws) k) r (bad (lent_state (loaded ws) k)) ∙ sym (bad_answer (length ws) (lent_state ws k) r (bad (lent_state ws k))),
  ap (back ws) (refusal_leaves (length ws) (lent_state (loaded ws) k) r 9 (bad (lent_state (loaded ws) k)))
      ∙ ap (λ (l : List Waiting). lent_state l k) (written_back most_places ws (replicate most_places no_waiting))
      ∙ sym (refusal_leaves (length ws) (lent_state ws k) r 9 (bad (lent_state ws k))),
)
  where
    bad : (q : State) → number (length ws) q r ≡ 10
    bad q = bad_number (length ws) q r (sym (good_unsized (length ws) q (rw e (ap (λ (b : Bool). b && leb q.count (length ws)) (and-false (leb 1 (length ws)))))))

judged : (ws : List Waiting) (k : Kept) (r : Request) → Judged (loaded ws) ws k r
judged ws k r = go (leb (length ws) most_places) refl
  where
    go : (b : Bool) → leb (length ws) most_places ≡ b → Judged (loaded ws) ws k r
    go true e =
        let short = leb-true (length ws) most_places e in
        let whole = written_whole most_places ws (replicate most_places no_waiting) short (subst (λ (m : ℕ). length ws ≤ m) (sym (length-replicate most_places no_waiting)) short) in
        subst (λ (p : List Waiting). Judged p ws k r) (sym whole) (judged_short ws (drop (length ws) (replicate most_places no_waiting)) k r short)
    go false e = judged_long ws k r e

-- The same of the queue by value, of its outcome, of the lent list at exit, and of the reply.
pub settled_lent : (ws zs : List Waiting) (k : Kept) (r : Request) (o : LockOutcome) (y : LentOutcome) {q : State} → q ≡ lent_state (loaded ws) k →
    Turns (length ws) q r o.answer (state o.queue) → (zs ≡ written most_places o.queue.places.at ws) × (y ≡ reply_of o) →
    Turns (length ws) (lent_state ws k) r y.answer (lent_state zs y.kept)
settled_lent ws zs k r o y load core store =
    let same : Judged (loaded ws) ws k r = judged ws k r in (
      ap (λ (x : LentOutcome). x.answer) store.1 ∙ core.0 ∙ ap (λ (q : State). answer (length ws) q r) load ∙ same.0,
      (λ i. lent_state (store.0 i) (store.1 i).kept) ∙ ap (back ws) (core.1 ∙ ap (λ (q : State). after (length ws) q r) load) ∙ same.1,
    )
