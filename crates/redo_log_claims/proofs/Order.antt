-- In a good log transactions rise: the one begun last is the largest so far. Assumes nothing.
use Prim.Native.Nat.{ℕ, zero, suc, ◌≤◌, ◌<◌}
use native.Mathlib.Omega.{arith}
use native.Mathlib.Nat.{eq-or-lt_of_le}
use mathlib.Core.Path.{◌≡◌, refl, sym, ap, subst, ◌∙◌}
use mathlib.Core.Logic.{◌⊎◌, inl, inr}
use mathlib.Core.List.{List}
use mathlib.Core.Bool.{Bool, true, false, cond}
use borrow.Author.Tests.{eqb-true, eqb-false, ltb-true}
use lib.Dec.{eqb}
use Rattle.lists.proofs.Tests.{and_right}
use Rattle.redo_log.specs.Log.{LogRecord, begin_kind, record_transaction, shaped, follows, last_begun, opened, record_at}
use Rattle.redo_log.proofs.Records.{good_record, ok_joins}
use Rattle.redo_log_claims.specs.Claims.{AboveEvery}

-- A begin may follow only above the transaction begun last.
above_last : (last : ℕ) (running : Bool) (kind : ℕ) (body : List ℕ) → kind ≡ begin_kind → follows last running (record { kind = kind; body = body }) ≡ true
    → last < record_transaction (record { kind = kind; body = body })
unfolding follows
above_last last running kind body e h = ltb-true last (record_transaction (record { kind = kind; body = body })) (rw e (rw e at h))

module _ (f : ℕ → LogRecord) where
  -- The transaction begun last is that of some begin, if there was one, and no begin has a larger one.
  record Begun (n : ℕ) : Type 0 where
    at : ℕ
    below : at < n
    begins : (f at).kind ≡ begin_kind
    last : record_transaction (f at) ≡ last_begun f n

  record Largest (n : ℕ) : Type 0 where
    bound : (i : ℕ) → i < n → (f i).kind ≡ begin_kind → record_transaction (f i) ≤ last_begun f n
    reached : (last_begun f n ≡ 0) ⊎ Begun n

  largest : (n : ℕ) → ((i : ℕ) → i < n → (f i).kind ≡ begin_kind → last_begun f i < record_transaction (f i)) → Largest n
  unfolding last_begun
  largest zero rising = record { bound = λ i h. absurd (omega arith); reached = inl refl }
  largest (suc n) rising = go (eqb (f n).kind begin_kind) refl (largest n (λ i h. rising i (omega arith)))
    where
      step : {b : Bool} → eqb (f n).kind begin_kind ≡ b → last_begun f (suc n) ≡ cond b (record_transaction (f n)) (last_begun f n)
      step e = ap (λ (b : Bool). cond b (record_transaction (f n)) (last_begun f n)) e

      go : (b : Bool) → eqb (f n).kind begin_kind ≡ b → Largest n → Largest (suc n)
      go true e old =
          let begun = eqb-true (f n).kind begin_kind e in
          let up = rising n (omega arith) begun in
          let now = step e in
          record {
            bound = λ i h k. by i (eq-or-lt_of_le h) k;
            reached = inr (record { at = n; below = omega arith; begins = begun; last = sym now });
          }
        where
          by : (i : ℕ) → (suc i ≡ suc n) ⊎ (suc i < suc n) → (f i).kind ≡ begin_kind → record_transaction (f i) ≤ last_begun f (suc n)
          by i (inl q) k =
              let here : i ≡ n = omega arith in
              let same = ap (λ (j : ℕ). record_transaction (f j)) here in
              omega (arith, same, step e)
          by i (inr q) k =
              let small = old.bound i (omega arith) k in
              let up = rising n (omega arith) (eqb-true (f n).kind begin_kind e) in
              omega (arith, small, up, step e)
      go false e old =
          record {
            bound = λ i h k. by i (eq-or-lt_of_le h) k;
            reached = lift old.reached;
          }
        where
          by : (i : ℕ) → (suc i ≡ suc n) ⊎ (suc i < suc n) → (f i).kind ≡ begin_kind → record_transaction (f i) ≤ last_begun f (suc n)
          by i (inl q) k =
              let here : i ≡ n = omega arith in
              absurd (eqb-false (f n).kind begin_kind e (subst (λ (j : ℕ). (f j).kind ≡ begin_kind) here k))
          by i (inr q) k = let small = old.bound i (omega arith) k in omega (arith, small, step e)

          lift : (last_begun f n ≡ 0) ⊎ Begun n → (last_begun f (suc n) ≡ 0) ⊎ Begun (suc n)
          lift (inl z) = inl (step e ∙ z)
          lift (inr b) = let below = b.below in inr (record { at = b.at; below = omega arith; begins = b.begins; last = b.last ∙ sym (step e) })

pub above_every : AboveEvery
above_every log g n h t = (forward, (λ all. backward all l.reached))
  where
    rising : (i : ℕ) → i < n → (record_at log i).kind ≡ begin_kind → last_begun (record_at log) i < record_transaction (record_at log i)
    rising i k e =
        above_last (last_begun (record_at log) i) (opened (record_at log) i) (record_at log i).kind (record_at log i).body e
        (and_right (shaped (record_at log i)) _ (ok_joins log i (good_record log g i (omega arith))))

    l : Largest (record_at log) n
    l = largest (record_at log) n rising

    forward : last_begun (record_at log) n < t → (0 < t) × ((i : ℕ) → i < n → (record_at log i).kind ≡ begin_kind → record_transaction (record_at log i) < t)
    forward a = (omega arith, λ i k e. let small = l.bound i k e in omega arith)

    backward : (0 < t) × ((i : ℕ) → i < n → (record_at log i).kind ≡ begin_kind → record_transaction (record_at log i) < t)
        → (last_begun (record_at log) n ≡ 0) ⊎ Begun (record_at log) n → last_begun (record_at log) n < t
    backward all (inl z) = omega (arith, all.0, z)
    backward all (inr b) = subst (λ (m : ℕ). m < t) b.last (all.1 b.at b.below b.begins)
