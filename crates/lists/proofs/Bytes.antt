-- Laws of `Bytes` and `zeros`. Assumes nothing.
use Prim.Native.Nat.{ℕ, zero, suc, ◌+◌, ◌<◌, zero-le, suc-le-suc}
use mathlib.Core.Path.{◌≡◌, refl, sym, ap}
use mathlib.Core.List.{List, [], ◌∷◌, ◌++◌}
use mathlib.Core.Bool.{true, ◌&&◌, and_assoc}
use borrow.Author.Tests.{eqb-true, eq-eqb}
use lib.Dec.{eqb, lit<}
use lib.ListN.{length, take, drop, get_or, replicate}
use lib.Seq.{get_or-drop}
use Rattle.lists.specs.Parts.{part, splice, zeros, Bytes}
use Rattle.lists.proofs.Tests.{and_left, and_right, and_in}

-- ---- lists of bytes

pub Bytes_nil : Bytes []
Bytes_nil i = lit< tt

pub Bytes_cons : {b : ℕ} (l : List ℕ) → b < 256 → Bytes l → Bytes (b ∷ l)
Bytes_cons l h k zero = h
Bytes_cons l h k (suc i) = k i

pub Bytes_append : (a b : List ℕ) → Bytes a → Bytes b → Bytes (a ++ b)
Bytes_append [] b h k i = k i
Bytes_append (x ∷ a) b h k zero = h zero
Bytes_append (x ∷ a) b h k (suc i) = Bytes_append a b (λ j. h (suc j)) k i

pub Bytes_replicate : (n : ℕ) {a : ℕ} → a < 256 → Bytes (replicate n a)
Bytes_replicate zero h i = lit< tt
Bytes_replicate (suc n) h zero = h
Bytes_replicate (suc n) h (suc i) = Bytes_replicate n h i

pub Bytes_take : (n : ℕ) (l : List ℕ) → Bytes l → Bytes (take n l)
Bytes_take zero l h i = lit< tt
Bytes_take (suc n) [] h i = lit< tt
Bytes_take (suc n) (a ∷ l) h zero = h zero
Bytes_take (suc n) (a ∷ l) h (suc i) = Bytes_take n l (λ j. h (suc j)) i

pub Bytes_drop : (n : ℕ) (l : List ℕ) → Bytes l → Bytes (drop n l)
Bytes_drop n l h i = rw get_or-drop (h (n + i))

pub Bytes_left : (a b : List ℕ) → Bytes (a ++ b) → Bytes a
Bytes_left [] b h i = lit< tt
Bytes_left (x ∷ a) b h zero = h zero
Bytes_left (x ∷ a) b h (suc i) = Bytes_left a b (λ j. h (suc j)) i

pub Bytes_right : (a b : List ℕ) → Bytes (a ++ b) → Bytes b
Bytes_right [] b h i = h i
Bytes_right (x ∷ a) b h i = Bytes_right a b (λ j. h (suc j)) i

pub Bytes_part : (at n : ℕ) (l : List ℕ) → Bytes l → Bytes (part at n l)
unfolding part
Bytes_part at n l h = Bytes_take n (drop at l) (Bytes_drop at l h)

pub Bytes_splice : (at : ℕ) (v l : List ℕ) → Bytes v → Bytes l → Bytes (splice at v l)
unfolding splice
Bytes_splice at v l h k =
    Bytes_append (take at l) (v ++ drop (at + length v) l) (Bytes_take at l k)
    (Bytes_append v (drop (at + length v) l) h (Bytes_drop (at + length v) l k))

-- ---- zeros

pub zeros_replicate : (n : ℕ) → zeros (replicate n 0) ≡ true
unfolding zeros
zeros_replicate zero = refl
zeros_replicate (suc n) = zeros_replicate n

pub zeros_means : (l : List ℕ) → zeros l ≡ true → l ≡ replicate (length l) 0
unfolding zeros
zeros_means [] e = refl
zeros_means (b ∷ l) e =
    let first : b ≡ 0 = eqb-true b 0 (and_left (eqb b 0) (zeros l) e) in
    rw first (ap (λ (m : List ℕ). 0 ∷ m) (zeros_means l (and_right (eqb b 0) (zeros l) e)))

pub zeros_append : (a b : List ℕ) → zeros (a ++ b) ≡ (zeros a && zeros b)
unfolding zeros
zeros_append [] b = refl
zeros_append (x ∷ a) b = rw (zeros_append a b) (sym (and_assoc (eqb x 0) (zeros a) (zeros b)))

pub zeros_at : (l : List ℕ) → zeros l ≡ true → (i : ℕ) → get_or l i 0 ≡ 0
unfolding zeros
zeros_at [] e i = refl
zeros_at (b ∷ l) e zero = eqb-true b 0 (and_left (eqb b 0) (zeros l) e)
zeros_at (b ∷ l) e (suc i) = zeros_at l (and_right (eqb b 0) (zeros l) e) i

pub zeros_in : (l : List ℕ) → ((i : ℕ) → i < length l → get_or l i 0 ≡ 0) → zeros l ≡ true
unfolding zeros
zeros_in [] h = refl
zeros_in (b ∷ l) h = and_in (eq-eqb b 0 (h 0 (suc-le-suc zero-le))) (zeros_in l (λ i k. h (suc i) (suc-le-suc k)))
