-- Stores within a budget. Assumes nothing.
use Prim.Native.Nat.{ℕ, zero, suc, ◌+◌, ◌-◌, ◌/◌, ◌≤◌, ◌<◌, min}
use native.Mathlib.Omega.{arith}
use mathlib.Core.Path.{◌≡◌, sym, ap, ◌∙◌}
use mathlib.Core.Logic.{◌⊎◌, inl, inr}
use mathlib.Core.List.{List, [], ◌∷◌, ◌++◌, append-nil}
use mathlib.Core.Bool.{true, false}
use native.Mathlib.Nat.{mod-eq_of_lt}
use borrow.Author.Tests.{ltb-true, ltb-false}
use lib.ListN.{length, take}
use lib.Seq.{take_all}
use lib.Dec.{ltb}
use Rattle.lists.specs.Parts.{splice}
use Rattle.lists.specs.Le.{to_le}
use Rattle.lists.proofs.Parts.{splice_nil, splice_adjacent}
use Rattle.lists.proofs.Tests.{cases}
use Rattle.redo_log.specs.Log.{checksum, record_count, start_at, line_place}
use Rattle.redo_log.specs.Append.{line_bytes, stored, stores}
use Rattle.redo_log.specs.inner.Admitted.{Admitted}
use Rattle.redo_log.proofs.Stores.{take_append, stores_written}

pub lt_or_ge : (a b : ℕ) → (a < b) ⊎ (b ≤ a)
lt_or_ge a b = go (cases (ltb a b))
  where
    go : (ltb a b ≡ true) ⊎ (ltb a b ≡ false) → (a < b) ⊎ (b ≤ a)
    go (inl e) = inl (ltb-true a b e)
    go (inr e) = inr (ltb-false a b e)

pub take_min : {A : Type 0} (k : ℕ) (v : List A) → take (min k (length v)) v ≡ take k v
take_min k v = go (lt_or_ge k (length v))
  where
    go : (k < length v) ⊎ (length v ≤ k) → take (min k (length v)) v ≡ take k v
    go (inl h) = let same : min k (length v) ≡ k = omega arith in rw same
    go (inr h) = let same : min k (length v) ≡ length v = omega arith in rw same (take_all (length v) v (omega arith) ∙ sym (take_all k v h))

pub to_le_min : (k count n : ℕ) → to_le (min k count) n ≡ take k (to_le count n)
unfolding to_le
to_le_min zero count n = let none : min 0 count ≡ 0 = omega arith in rw none
to_le_min (suc k) zero n = let none : min (suc k) 0 ≡ 0 = omega arith in rw none
to_le_min (suc k) (suc count) n = let more : min (suc k) (suc count) ≡ suc (min k count) = omega arith in rw (more, to_le_min k count (n / 256))

-- Two pieces end to end within one budget.
pub splice_taken : (k at : ℕ) (a b l : List ℕ) → at + length a ≤ length l →
    splice (at + length a) (take (k - length a) b) (splice at (take k a) l) ≡ splice at (take k (a ++ b)) l
splice_taken k at a b l h = go (lt_or_ge k (length a))
  where
    go : (k < length a) ⊎ (length a ≤ k) → splice (at + length a) (take (k - length a) b) (splice at (take k a) l) ≡ splice at (take k (a ++ b)) l
    go (inl g) =
        let none : k - length a ≡ 0 = omega arith in
        let same : take k (a ++ b) ≡ take k a = take_append k a b ∙ rw none (append-nil (take k a)) in
        rw (same, none) (splice_nil (at + length a) (splice at (take k a) l))
    go (inr g) =
        rw (take_append k a b, take_all k a g) (splice_adjacent at a (take (k - length a) b) l (omega arith))

to_le_byte : (n : ℕ) → n < 256 → to_le 1 n ≡ n ∷ []
unfolding to_le
to_le_byte n h = rw (mod-eq_of_lt h)

-- The four pieces of a line.
pub line_put : (k at kind place sum : ℕ) (body l : List ℕ) → at + 11 ≤ length l → kind < 256 → sum ≡ checksum body →
    splice (at + 7) (take (k - 7) (to_le 4 sum)) (splice (at + 5) (take (k - 5) (to_le 2 (length body))) (splice (at + 1) (take (k - 1) (to_le 4 place)) (splice at (take k (to_le 1 kind)) l)))
    ≡ splice at (take k (line_bytes place (record { kind = kind; body = body }))) l
unfolding line_bytes to_le
line_put k at kind place sum body l h small e =
    let first : List ℕ = kind ∷ [] in
    let second : List ℕ = first ++ to_le 4 place in
    let third : List ℕ = second ++ to_le 2 (length body) in
    ap (λ (m : ℕ). splice (at + 7) (take (k - 7) (to_le 4 m))
    (splice (at + 5) (take (k - 5) (to_le 2 (length body))) (splice (at + 1) (take (k - 1) (to_le 4 place)) (splice at (take k (to_le 1 kind)) l)))) e
    ∙ ap (λ (b : List ℕ). splice (at + 7) (take (k - 7) (to_le 4 (checksum body)))
    (splice (at + 5) (take (k - 5) (to_le 2 (length body))) (splice (at + 1) (take (k - 1) (to_le 4 place)) (splice at (take k b) l)))) (to_le_byte kind small)
    ∙ ap (λ (m : List ℕ). splice (at + 7) (take (k - 7) (to_le 4 (checksum body))) (splice (at + 5) (take (k - 5) (to_le 2 (length body))) m)) (splice_taken k at first (to_le 4 place) l (omega arith))
    ∙ ap (splice (at + 7) (take (k - 7) (to_le 4 (checksum body)))) (splice_taken k at second (to_le 2 (length body)) l (omega arith))
    ∙ splice_taken k at third (to_le 4 (checksum body)) l (omega arith)

-- The three parts of an append.
pub store_put : (k stop count kind : ℕ) (body log : List ℕ) → stop ≡ start_at log (record_count log) → count ≡ record_count log → Admitted log (record { kind = kind; body = body }) →
    splice 0 (take (k - (length body + 11)) (to_le 1 (count + 1)))
    (splice (line_place count) (take (k - length body) (line_bytes stop (record { kind = kind; body = body }))) (splice stop (take k body) log))
    ≡ stored (take k (stores log (record { kind = kind; body = body }))) log
store_put k stop count kind body log e f room =
    rw (e, f, to_le_byte (record_count log + 1) (omega (arith, room.below)))
    (sym (stores_written log (record { kind = kind; body = body }) room k))
