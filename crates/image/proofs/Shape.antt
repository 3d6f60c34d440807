-- Laws of the limits and of sizes and places. Assumes nothing.
use Prim.Native.Nat.{ℕ, ◌+◌, ◌*◌, ◌%◌, ◌≤◌, ◌<◌}
use native.Mathlib.Omega.{arith}
use native.Mathlib.Nat.{mul-le-mul, mul-le-mul_right}
use mathlib.Core.Path.{◌≡◌, refl}
use mathlib.Core.List.{[], ◌∷◌}
use mathlib.Core.Bool.{Bool, true, false, ◌&&◌}
use borrow.Author.Tests.{le-leb, lt-leb, leb-true, eqb-true}
use lib.Dec.{leb, eqb}
use Rattle.lists.specs.Table.{all, all_from}
use Rattle.lists.proofs.Tests.{all_out, all_fails_at}
use Rattle.formats.specs.Format.{Format, translations, entry_size}
use Rattle.formats.proofs.Numbers.{numbers}
use Rattle.image.specs.Layout.{sides, size_of, shape_ok, entry_place, body_place, most_cards, most_room, least_room, room_step, most_bytes}

-- ---- the limits

pub many_cards : (f : Format) (n c : ℕ) → most_cards < n → shape_ok f n c ≡ false
unfolding shape_ok
many_cards f n c h = all_fails_at _ 1 (lt-leb n most_cards h)

pub much_room : (f : Format) (n c : ℕ) → most_room < c → shape_ok f n c ≡ false
unfolding shape_ok
much_room f n c h = all_fails_at _ 3 (lt-leb c most_room h)

-- With two tests known to hold, the other four decide.
four : (a b d e : Bool) → (a && b && d && e) ≡ all (a ∷ true ∷ b ∷ true ∷ d ∷ e ∷ [])
unfolding all all_from
four true true d e = refl
four true false d e = refl
four false b d e = refl

pub within_limits : (f : Format) (n c : ℕ) → n ≤ most_cards → c ≤ most_room →
    (leb 1 n && leb least_room c && eqb (c % room_step) 0 && leb (size_of f n c) most_bytes) ≡ shape_ok f n c
unfolding shape_ok
within_limits f n c h g =
    rw (le-leb n most_cards h, le-leb c most_room g) (four (leb 1 n) (leb least_room c) (eqb (c % room_step) 0) (leb (size_of f n c) most_bytes))

-- What the limits say.
pub record Shape (f : Format) (n c : ℕ) : Type 0 where
  pub some : 1 ≤ n
  pub cards : n ≤ most_cards
  pub least : least_room ≤ c
  pub most : c ≤ most_room
  pub steps : c % room_step ≡ 0
  pub size : size_of f n c ≤ most_bytes

pub shape : (f : Format) (n c : ℕ) → shape_ok f n c ≡ true → Shape f n c
unfolding shape_ok
shape f n c e =
    record {
      some = leb-true 1 n (all_out _ e 0);
      cards = leb-true n most_cards (all_out _ e 1);
      least = leb-true least_room c (all_out _ e 2);
      most = leb-true c most_room (all_out _ e 3);
      steps = eqb-true (c % room_step) 0 (all_out _ e 4);
      size = leb-true (size_of f n c) most_bytes (all_out _ e 5);
    }

-- ---- places

-- A product of a number up to m with one of two bytes.
pub product : {a b : ℕ} (m : ℕ) → a ≤ m → b < 65536 → a * b ≤ m * 65535
product m h g = mul-le-mul h (omega arith)

pub entry_small : (f : Format) {e : ℕ} → e ≡ entry_size f → e ≤ 48
entry_small f h = omega (arith, numbers f)

sides_few : (f : Format) {s : ℕ} → s ≡ sides f → s ≤ 5
sides_few f h = omega (arith, numbers f)

-- The products of a size and of a place fit, by the numbers that were found.
pub record Small (e s n c : ℕ) : Type 0 where
  pub entries : e * n ≤ 3145680
  pub row : s * c ≤ 327675
  pub bodies : s * c * n ≤ 21474181125

pub small : (f : Format) {e s n c : ℕ} → e ≡ entry_size f → s ≡ sides f → n < 65536 → c < 65536 → Small e s n c
small f p q h g =
    let row = product 5 (sides_few f q) g in
    record { entries = product 48 (entry_small f p) h; row = row; bodies = product 327675 row h }

pub record Placed (e s n c k side : ℕ) : Type 0 where
  pub entries : e * n ≤ 3145680
  pub cards : s * k ≤ 327675
  pub bodies : (s * k + side) * c ≤ 21490892550

pub placed : (f : Format) {e s n c k side : ℕ} → e ≡ entry_size f → s ≡ sides f → n < 65536 → c < 65536 → k < 65536 → side < 256 → Placed e s n c k side
placed f {s = s} {k = k} {side = side} p q h g l m =
    let cards = product 5 (sides_few f q) l in
    let most : s * k + side ≤ 327930 = omega arith in
    record { entries = product 48 (entry_small f p) h; cards = cards; bodies = product 327930 most g }

-- Every version has a first translation.
pub some_translation : (f : Format) → 0 < translations f
some_translation f = (numbers f).some

-- An entry and a body lie within the whole.
pub entry_within : (f : Format) (n c : ℕ) {k : ℕ} → k < n → entry_place f k + entry_size f ≤ size_of f n c
entry_within f n c {k} h = let fits : (k + 1) * entry_size f ≤ n * entry_size f = mul-le-mul_right (entry_size f) (omega arith) in omega arith

pub body_within : (f : Format) (n c k side : ℕ) → k < n → side < sides f → body_place f n c k side + c ≤ size_of f n c
body_within f n c k side h g =
    let cards : (k + 1) * sides f ≤ n * sides f = mul-le-mul_right (sides f) (omega arith) in
    let fits : (sides f * k + side + 1) * c ≤ n * sides f * c = mul-le-mul_right c (omega arith) in
    omega arith
