-- The bytes of cards: how long they are, and what stands where. Assumes nothing.
use Prim.Native.Nat.{ℕ, ◌+◌, ◌*◌, ◌≤◌, ◌<◌}
use native.Mathlib.Omega.{arith}
use native.Mathlib.Nat.{mul-le-mul_right}
use lib.Dec.{lit≤}
use mathlib.Core.Path.{◌≡◌, refl, sym, ap, ◌∙◌}
use mathlib.Core.List.{List, ◌++◌}
use lib.ListN.{length, get_or, length-append, length-take, length-replicate}
use Rattle.lists.specs.Parts.{part, concat_map, tabulate}
use Rattle.lists.specs.Le.{le, to_le}
use Rattle.lists.proofs.Le.{le_to_le}
use Rattle.lists.proofs.Parts.{part_part, part_append_left, part_append_right, part_all}
use Rattle.lists.proofs.ConcatMap.{length_concat_map, part_concat_map, length_tabulate, part_concat_map_tabulate}
use Rattle.guard.specs.declared.Entry.{Entry}
use Rattle.formats.specs.Format.{Format, V1, V2, entry_size}
use Rattle.image.specs.Layout.{size_of, header_size, sides, entry_place, body_place}
use Rattle.image.specs.Bytes.{header, entry_bytes, pad, count_of, room_of}
use Rattle.image.specs.Image.{Card, Cards, view, side_text, no_card, bodies, encode, card_entry}

-- ---- lists of equal pieces

module _ {A : Type 0} where
  pub part_whole : (n : ℕ) (l : List A) → length l ≡ n → part 0 n l ≡ l
  part_whole n l e = ap (λ (m : ℕ). part 0 m l) (sym e) ∙ part_all l

module _ {A B : Type 0} (f : A → List B) (w : ℕ) (wide : (a : A) → length (f a) ≡ w) (l : List A) (k : ℕ) (h : k < length l) where
  -- A part of piece k.
  pub part_piece : (i n : ℕ) (d : A) → i + n ≤ w → part (k * w + i) n (concat_map f l) ≡ part i n (f (get_or l k d))
  part_piece i n d g = sym (part_part (k * w) w i n (concat_map f l) g) ∙ ap (part i n) (part_concat_map f w wide l k d h)

-- ---- lengths

pub length_entry_bytes : (f : Format) (see : ℕ → Entry) → length (entry_bytes f see) ≡ entry_size f
unfolding entry_bytes to_le concat_map tabulate
length_entry_bytes V1 see = refl
length_entry_bytes V2 see = refl

pub length_header : (f : Format) (n c : ℕ) → length (header f n c) ≡ header_size
unfolding header to_le
length_header f n c = refl

pub length_pad : (room : ℕ) (t : List ℕ) → length (pad room t) ≡ room
unfolding pad
length_pad room t = simp (length-take, length-append, length-replicate) (omega arith)

pub length_bodies : (f : Format) (room : ℕ) (card : Card) → length (bodies f room card) ≡ sides f * room
unfolding bodies
length_bodies f room card =
    length_concat_map (pad room) room (length_pad room) (tabulate (λ (side : ℕ). side_text side card) (sides f))
    ∙ ap (λ (n : ℕ). n * room) (length_tabulate (λ (side : ℕ). side_text side card) (sides f))

module _ (f : Format) where
  abbrev entries : List Card → List ℕ
  entries cards = concat_map (card_entry f) cards

  pub entries_wide : (card : Card) → length (card_entry f card) ≡ entry_size f
  entries_wide card = length_entry_bytes f (λ (t : ℕ). view t card)

  length_entries : (cards : List Card) → length (entries cards) ≡ length cards * entry_size f
  length_entries cards = length_concat_map (card_entry f) (entry_size f) entries_wide cards

  -- What stands before the bodies.
  pub length_front : (n c : ℕ) (cards : List Card) → length (header f n c ++ entries cards) ≡ header_size + entry_size f * length cards
  length_front n c cards = rw (length-append, length_header, length_entries) (omega arith)

  pub length_encode : (cs : Cards) → length (encode f cs) ≡ size_of f (length cs.cards) cs.room
  unfolding encode
  length_encode cs =
      length-append (header f (length cs.cards) cs.room ++ entries cs.cards) (concat_map (bodies f cs.room) cs.cards)
      ∙ rw
      (length_front (length cs.cards) cs.room cs.cards, length_concat_map (bodies f cs.room) (sides f * cs.room) (length_bodies f cs.room) cs.cards)
      (omega arith)

  -- ---- what stands where

  pub part_header : (cs : Cards) (i n : ℕ) → i + n ≤ header_size → part i n (encode f cs) ≡ part i n (header f (length cs.cards) cs.room)
  unfolding encode
  part_header cs i n h =
      let first = header f (length cs.cards) cs.room in
      let long : length first ≡ header_size = length_header f (length cs.cards) cs.room in
      part_append_left i n (first ++ entries cs.cards) (concat_map (bodies f cs.room) cs.cards) (simp length-append (omega arith))
      ∙ part_append_left i n first (entries cs.cards) (omega arith)

  pub count_of_encode : (cs : Cards) → length cs.cards < 65536 → count_of (encode f cs) ≡ length cs.cards
  unfolding header to_le part
  count_of_encode cs h = ap le (part_header cs 6 2 (lit≤ tt)) ∙ le_to_le 2 (length cs.cards) h

  pub room_of_encode : (cs : Cards) → cs.room < 65536 → room_of (encode f cs) ≡ cs.room
  unfolding header to_le part
  room_of_encode cs h = ap le (part_header cs 8 2 (lit≤ tt)) ∙ le_to_le 2 cs.room h

  -- A part of the entry of card k, and a part of its bodies.
  pub part_entry : (cs : Cards) (k i n : ℕ) → k < length cs.cards → i + n ≤ entry_size f →
      part (entry_place f k + i) n (encode f cs) ≡ part i n (card_entry f (get_or cs.cards k (no_card f)))
  unfolding encode
  part_entry cs k i n h g =
      let first = header f (length cs.cards) cs.room in
      let long : length first ≡ header_size = length_header f (length cs.cards) cs.room in
      let place : entry_place f k + i ≡ header_size + (k * entry_size f + i) = omega arith in
      let inside : (k + 1) * entry_size f ≤ length cs.cards * entry_size f = mul-le-mul_right (entry_size f) (omega arith) in
      part_append_left (entry_place f k + i) n (first ++ entries cs.cards) (concat_map (bodies f cs.room) cs.cards)
      (rw (length_front (length cs.cards) cs.room cs.cards) (omega arith))
      ∙ ap (λ (at : ℕ). part at n (first ++ entries cs.cards)) place
      ∙ part_append_right header_size (k * entry_size f + i) n first (entries cs.cards) long
      ∙ part_piece (card_entry f) (entry_size f) entries_wide cs.cards k h i n (no_card f) g

  part_side : (room side : ℕ) (card : Card) → side < sides f → part (side * room) room (bodies f room card) ≡ pad room (side_text side card)
  unfolding bodies
  part_side room side card h = part_concat_map_tabulate (pad room) room (length_pad room) (λ (s : ℕ). side_text s card) (sides f) side h

  pub part_body : (cs : Cards) (k side i n : ℕ) → k < length cs.cards → side < sides f → i + n ≤ cs.room →
      part (body_place f (length cs.cards) cs.room k side + i) n (encode f cs) ≡ part i n (pad cs.room (side_text side (get_or cs.cards k (no_card f))))
  unfolding encode
  part_body cs k side i n h g m =
      let room = cs.room in
      let cards = cs.cards in
      let card = get_or cards k (no_card f) in
      let front = header f (length cards) room ++ entries cards in
      let place : body_place f (length cards) room k side + i ≡ header_size + entry_size f * length cards + (k * (sides f * room) + (side * room + i)) = omega arith in
      let fits : side * room + i + n ≤ sides f * room = omega (arith, mul-le-mul_right room g) in
      ap (λ (at : ℕ). part at n (front ++ concat_map (bodies f room) cards)) place
      ∙ part_append_right (header_size + entry_size f * length cards) (k * (sides f * room) + (side * room + i)) n front (concat_map (bodies f room) cards)
      (length_front (length cards) room cards)
      ∙ part_piece (bodies f room) (sides f * room) (length_bodies f room) cards k h (side * room + i) n (no_card f) fits
      ∙ sym (part_part (side * room) room i n (bodies f room card) m)
      ∙ ap (part i n) (part_side room side card g)
