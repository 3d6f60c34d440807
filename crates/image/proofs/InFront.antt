-- The image in front of some bytes: how it goes by the tests, and what is known of a good one. Assumes nothing.
use Prim.Native.Nat.{ℕ, ◌≤◌, ◌<◌}
use mathlib.Core.Path.{◌≡◌, refl, ap}
use mathlib.Core.List.{List}
use mathlib.Core.Bool.{Bool, true, false, ◌&&◌}
use Rattle.std.specs.Prelude.{Some, None}
use lib.ListN.{length, take}
use lib.Dec.{leb, leb→le}
use borrow.Author.Tests.{le-leb, lt-leb}
use native.Mathlib.Omega.{arith}
use Rattle.lists.specs.Le.{le}
use Rattle.lists.proofs.Parts.{part_take}
use Rattle.lists.proofs.Tests.{to_T, and_left, and_right}
use Rattle.formats.specs.Format.{V1}
use Rattle.image.specs.Layout.{header_size, most_bytes, most_room}
use Rattle.image.specs.Bytes.{count_of, room_of}
use Rattle.image.specs.Image.{sound, claimed, good_front, front_size, front_of}
use Rattle.image.proofs.Decode.{shape_holds}
use Rattle.image.proofs.Shape.{shape}

module _ (bytes : List ℕ) where
  pub front_short : length bytes < header_size → good_front bytes ≡ false
  unfolding good_front
  front_short h = rw (lt-leb header_size (length bytes) h)

  module _ (size : ℕ) (is : size ≡ claimed bytes) (header : header_size ≤ length bytes) where
    pub front_cut : length bytes < size → good_front bytes ≡ false
    unfolding good_front
    front_cut h = rw (le-leb header_size (length bytes) header, lt-leb (claimed bytes) (length bytes) (rw is at h))

    -- As sound as the bytes that the header claims.
    pub front_sound_lem : size ≤ length bytes → good_front bytes ≡ sound V1 (take size bytes)
    unfolding good_front
    front_sound_lem h = rw (le-leb header_size (length bytes) header, le-leb (claimed bytes) (length bytes) (rw is at h), is)

  -- None where there is no image, else its numbers.
  pub front_none : good_front bytes ≡ false → None ≡ front_of bytes
  front_none e = rw e

  pub front_there :
      (size cards room : ℕ) → good_front bytes ≡ true → size ≡ claimed bytes → cards ≡ count_of bytes → room ≡ room_of bytes
      → Some (record { size = size; cards = cards; room = room }) ≡ front_of bytes
  front_there size cards room e is n c = rw (e, is, n, c)

-- What is known of a good front: its header and its image are within the bytes and within the limits.
pub record Fronting (bytes : List ℕ) : Type 0 where
  pub size : front_size bytes ≡ claimed bytes
  pub said : front_of bytes ≡ Some (record { size = claimed bytes; cards = count_of bytes; room = room_of bytes })
  pub header : header_size ≤ length bytes
  pub within : claimed bytes ≤ length bytes
  pub small : claimed bytes ≤ most_bytes
  pub room : room_of bytes ≤ most_room
  pub sounds : sound V1 (take (claimed bytes) bytes) ≡ true
  pub same : room_of (take (claimed bytes) bytes) ≡ room_of bytes

pub good_front_lem : (bytes : List ℕ) → good_front bytes ≡ true → Fronting bytes
unfolding good_front
good_front_lem bytes e =
    let ab = and_left (leb header_size (length bytes) && leb (claimed bytes) (length bytes)) (sound V1 (take (claimed bytes) bytes)) e in
    let a = leb→le header_size (length bytes) (to_T (and_left (leb header_size (length bytes)) (leb (claimed bytes) (length bytes)) ab)) in
    let b = leb→le (claimed bytes) (length bytes) (to_T (and_right (leb header_size (length bytes)) (leb (claimed bytes) (length bytes)) ab)) in
    let s = and_right (leb header_size (length bytes) && leb (claimed bytes) (length bytes)) (sound V1 (take (claimed bytes) bytes)) e in
    let n : count_of (take (claimed bytes) bytes) ≡ count_of bytes = ap le (part_take 6 2 (claimed bytes) bytes (omega arith)) in
    let r : room_of (take (claimed bytes) bytes) ≡ room_of bytes = ap le (part_take 8 2 (claimed bytes) bytes (omega arith)) in
    let w = shape V1 (count_of (take (claimed bytes) bytes)) (room_of (take (claimed bytes) bytes)) (shape_holds V1 (take (claimed bytes) bytes) (to_T s)) in
    record {
      size = rw e;
      said = rw e;
      header = a;
      within = b;
      small = rw (n, r) at w.size;
      room = rw r at w.most;
      sounds = s;
      same = r;
    }

pub front : (bytes : List ℕ) → (front_size bytes ≡ 0 → ⊥) → Fronting bytes
front bytes some = go (good_front bytes) refl
  where
    go : (b : Bool) → good_front bytes ≡ b → Fronting bytes
    go true e = good_front_lem bytes e
    go false e = absurd (some (rw e))
