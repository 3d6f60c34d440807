-- What a sound image says: where its parts lie, and that its cards encode to the same bytes. Assumes nothing.
use Prim.Native.Nat.{ℕ, zero, suc, ◌+◌, ◌*◌, ◌-◌, ◌≤◌, ◌<◌}
use native.Mathlib.Omega.{arith}
use native.Mathlib.Nat.{zero-add}
use mathlib.Core.Path.{◌≡◌, refl, sym, ap, subst, ◌∙◌}
use mathlib.Core.List.{List, ◌++◌}
use mathlib.Core.Bool.{true, false}
use mathlib.Core.Logic.{◌⊎◌, inl, inr}
use borrow.Author.Tests.{eqb-true, ltb-true, ltb-false}
use lib.Dec.{T, ltb}
use lib.ListN.{length, get_or, replicate, get_or-eq_default}
use Rattle.lists.specs.Parts.{part, concat_map, tabulate, every, zeros, Bytes}
use Rattle.lists.specs.Le.{le, to_le, field}
use Rattle.lists.proofs.Bytes.{Bytes_nil, Bytes_part, zeros_means}
use Rattle.lists.proofs.Every.{every_out}
use Rattle.lists.proofs.Le.{le_injective, le_part_bound, Bytes_to_le}
use Rattle.lists.proofs.Parts.{length_part, part_part, part_join}
use Rattle.lists.proofs.ConcatMap.{concat_map_parts, length_tabulate, get_d_tabulate}
use Rattle.lists.proofs.Tests.{and_left, and_right, all_out, cases, from_T, to_T}
use Rattle.guard.specs.Entry.{entry_sound, FitsEntry}
use Rattle.guard.specs.declared.Entry.{Entry}
use Rattle.formats.specs.Format.{Format, version, translations, entry_size, froms_at, original_at, lengths_at}
use Rattle.image.specs.Layout.{sides, shape_ok, size_of, most_bytes, header_size, entry_place, entry_end, body_place}
use Rattle.image.specs.Bytes.{magic, header, pad, count_of, room_of, read_entry, entry_at}
use Rattle.image.specs.Image.{
  Translation,
  view,
  translation_of,
  no_translation,
  no_card,
  side_text,
  card_entry,
  bodies,
  encode,
  body_at,
  translation_at,
  card_at,
  decode,
  tail_zero,
  translation_sound,
  card_sound,
  header_sound,
  sound,
  GoodCard,
  GoodCards,
}
use Rattle.image.proofs.Shape.{Shape, shape, some_translation, entry_within, body_within}
use Rattle.image.proofs.Encode.{part_whole}
use Rattle.image.proofs.Entry.{again, entry_bytes_read, entry_bytes_ext, pad_read}
use Rattle.image.proofs.Bytes.{Lengths, lengths}
use Rattle.image.proofs.Cards.{room_for, wide_enough}

pub count_of_fits : (image : List ℕ) → Bytes image → count_of image < 65536
count_of_fits image b = le_part_bound 6 2 image b

pub room_of_fits : (image : List ℕ) → Bytes image → room_of image < 65536
room_of_fits image b = le_part_bound 8 2 image b

Bytes_magic : Bytes magic
unfolding to_le le
Bytes_magic = Bytes_to_le 4 (le magic)

joined : {a b c d e a' b' c' d' e' : List ℕ} → a ≡ a' → b ≡ b' → c ≡ c' → d ≡ d' → e ≡ e' → a ++ b ++ c ++ d ++ e ≡ a' ++ b' ++ c' ++ d' ++ e'
joined p q r s t = cc

module _ (f : Format) (image : List ℕ) where
  -- The cards that an image holds, by their number, their room and their places.
  pub count_decode : length (decode f image).cards ≡ count_of image
  unfolding decode
  count_decode = length_tabulate (card_at f image) (count_of image)

  pub room_decode : (decode f image).room ≡ room_of image
  unfolding decode
  room_decode = refl

  pub card_decode : (k : ℕ) → k < count_of image → get_or (decode f image).cards k (no_card f) ≡ card_at f image k
  unfolding decode
  card_decode k below = get_d_tabulate (card_at f image) (count_of image) k (no_card f) below

  -- The entry has one pair, one mark, one edition and one original, in whatever language it is seen.
  pub pair_same : (k t : ℕ) → (entry_at f image k t).pair ≡ (entry_at f image k 0).pair
  unfolding entry_at read_entry
  pair_same k t = refl

  pub translation_at_lem : (k t : ℕ) → t < translations f → translation_of t (card_at f image k) ≡ translation_at f image k t
  unfolding card_at
  translation_at_lem k t h = get_d_tabulate (translation_at f image k) (translations f) t no_translation h

  module _ (holds : T (sound f image)) where
    pub header_holds : header_sound f image ≡ true
    unfolding sound
    header_holds = and_left (header_sound f image) (every (card_sound f image) (count_of image)) (from_T (sound f image) holds)

    pub card_holds : (k : ℕ) → k < count_of image → card_sound f image k ≡ true
    unfolding sound
    card_holds =
        every_out (card_sound f image) (count_of image)
        (and_right (header_sound f image) (every (card_sound f image) (count_of image)) (from_T (sound f image) holds))

    pub shape_holds : shape_ok f (count_of image) (room_of image) ≡ true
    unfolding header_sound
    shape_holds = all_out _ header_holds 2

    pub long : length image ≡ size_of f (count_of image) (room_of image)
    unfolding header_sound
    long = eqb-true (length image) (size_of f (count_of image) (room_of image)) (all_out _ header_holds 4)

    module _ (k : ℕ) (below : k < count_of image) where
      language_holds : (t : ℕ) → t < translations f → translation_sound f image k t ≡ true
      unfolding card_sound
      language_holds = every_out (translation_sound f image k) (translations f) (all_out _ (card_holds k below) 2)

      pub entry_holds : (t : ℕ) → t < translations f → entry_sound (room_of image) (entry_at f image k t) ≡ true
      unfolding translation_sound
      entry_holds t h =
          and_left (entry_sound (room_of image) (entry_at f image k t)) (tail_zero f image k (suc t) (entry_at f image k t).translation) (language_holds t h)

      -- The length of a side's text, by the entry.
      abbrev pub side_length : ℕ → ℕ
      side_length zero = (entry_at f image k 0).original
      side_length (suc t) = (entry_at f image k t).translation

      pub side_tail : (side : ℕ) → side < sides f → tail_zero f image k side (side_length side) ≡ true
      unfolding card_sound translation_sound
      side_tail zero h = all_out _ (card_holds k below) 3
      side_tail (suc t) h =
          and_right (entry_sound (room_of image) (entry_at f image k t)) (tail_zero f image k (suc t) (entry_at f image k t).translation) (language_holds t (omega arith))

      pub side_fits : (side : ℕ) → side < sides f → side_length side ≤ room_of image
      side_fits zero h = (lengths (room_of image) (entry_at f image k 0) (entry_holds 0 (some_translation f))).original
      side_fits (suc t) h = (lengths (room_of image) (entry_at f image k t) (entry_holds t (omega arith))).translation

      pub entry_lies : entry_place f k + entry_size f ≤ length image
      entry_lies = rw long (entry_within f (count_of image) (room_of image) below)

      pub body_lies : (side : ℕ) → side < sides f → body_place f (count_of image) (room_of image) k side + room_of image ≤ length image
      body_lies side h = rw long (body_within f (count_of image) (room_of image) k side below h)

      pub side_text_lem : (side : ℕ) → side < sides f → side_text side (card_at f image k) ≡ body_at f image k side (side_length side)
      unfolding card_at
      side_text_lem zero h = refl
      side_text_lem (suc t) h = ap (λ (u : Translation). u.text) (translation_at_lem k t (omega arith))

      side_long : (side : ℕ) → side < sides f → length (side_text side (card_at f image k)) ≡ side_length side
      side_long side h =
          ap length (side_text_lem side h)
          ∙ length_part (body_place f (count_of image) (room_of image) k side) (side_length side) image (omega (arith, body_lies side h, side_fits side h))

      -- The card's entry as seen in language t is what its bytes say.
      pub view_at : (t : ℕ) → t < translations f → view t (card_at f image k) ≡ entry_at f image k t
      unfolding card_at entry_at read_entry
      view_at t h =
          let from : (translation_of t (card_at f image k)).from ≡ (entry_at f image k t).from = ap (λ (u : Translation). u.from) (translation_at_lem k t h) in
          let original : length (card_at f image k).original ≡ (entry_at f image k t).original = side_long 0 (omega arith) in
          let translation : length (translation_of t (card_at f image k)).text ≡ (entry_at f image k t).translation = side_long (suc t) (omega arith) in
          λ i. record {
            pair = (entry_at f image k t).pair;
            mark = (entry_at f image k t).mark;
            edition = (entry_at f image k t).edition;
            from = from i;
            original = original i;
            translation = translation i;
          }

-- Where the parts of card k of a sound image lie, and that its texts fit their room.
pub record Places (f : Format) (image : List ℕ) (k : ℕ) : Type 0 where
  pub shape : Shape f (count_of image) (room_of image)
  pub header : header_size ≤ length image
  pub small : length image ≤ most_bytes
  pub entry : entry_place f k + entry_size f ≤ length image
  pub bodies : (side : ℕ) → side < sides f → body_place f (count_of image) (room_of image) k side + room_of image ≤ length image
  pub lengths : (t : ℕ) → t < translations f → Lengths (room_of image) (entry_at f image k t)

pub places : (f : Format) (image : List ℕ) (k : ℕ) → T (sound f image) → k < count_of image → Places f image k
places f image k holds below =
    let n = count_of image in
    let c = room_of image in
    let s = shape f n c (shape_holds f image holds) in
    let size = long f image holds in
    record {
      shape = s;
      header = omega arith;
      small = rw size s.size;
      entry = entry_lies f image holds k below;
      bodies = body_lies f image holds k below;
      lengths = λ t h. lengths c (entry_at f image k t) (entry_holds f image holds k below t h);
    }

pub entry_fits : (f : Format) (image : List ℕ) (k t : ℕ) → Bytes image → FitsEntry (entry_at f image k t)
unfolding entry_at read_entry
entry_fits f image k t b =
    let own = Bytes_part (entry_place f k) (entry_size f) image b in
    let bytes = part (entry_place f k) (entry_size f) image in
    record {
      pair = record { s = le_part_bound 0 8 bytes own; x = le_part_bound 8 8 bytes own };
      mark = record { desk = le_part_bound 16 2 bytes own; transaction = le_part_bound 20 4 bytes own };
      edition = le_part_bound 24 2 bytes own;
      from = le_part_bound (froms_at f + 2 * t) 2 bytes own;
      original = le_part_bound (original_at f) 2 bytes own;
      translation = le_part_bound (lengths_at f + 2 * t) 2 bytes own;
    }

-- The translations of a card are bytes, and there are none beyond the version's.
Bytes_translations : (f : Format) (image : List ℕ) (k t : ℕ) → Bytes image → Bytes (translation_of t (card_at f image k)).text
unfolding card_at
Bytes_translations f image k t b = go (cases (ltb t (translations f)))
  where
    go : (ltb t (translations f) ≡ true) ⊎ (ltb t (translations f) ≡ false) → Bytes (translation_of t (card_at f image k)).text
    go (inl h) =
        subst (λ (u : Translation). Bytes u.text) (sym (translation_at_lem f image k t (ltb-true t (translations f) h)))
        (Bytes_part (body_place f (count_of image) (room_of image) k (suc t)) (entry_at f image k t).translation image b)
    go (inr h) =
        subst (λ (u : Translation). Bytes u.text)
        (sym (get_or-eq_default (tabulate (translation_at f image k) (translations f)) no_translation
        (omega (arith, length_tabulate (translation_at f image k) (translations f), ltb-false t (translations f) h))))
        Bytes_nil

module _ (f : Format) (image : List ℕ) (b : Bytes image) (holds : T (sound f image)) where
  module _ (k : ℕ) (below : k < count_of image) where
    pub entry_back : card_entry f (card_at f image k) ≡ part (entry_place f k) (entry_size f) image
    unfolding card_sound entry_at
    entry_back =
        let at = entry_place f k in
        let size = entry_size f in
        let own : length (part at size image) ≡ size = length_part at size image (entry_lies f image holds k below) in
        let none : field 18 2 (part at size image) ≡ 0 =
        ap le (part_part at size 18 2 image (wide_enough f)) ∙ eqb-true (field (at + 18) 2 image) 0 (all_out _ (card_holds f image holds k below) 0) in
        let blank : zeros (part (entry_end f) (size - entry_end f) (part at size image)) ≡ true =
        ap zeros (part_part at size (entry_end f) (size - entry_end f) image (room_for f)) ∙ all_out _ (card_holds f image holds k below) 1 in
        entry_bytes_ext f (λ (t : ℕ). view t (card_at f image k)) (λ (t : ℕ). entry_at f image k t) (view_at f image holds k below)
        ∙ entry_bytes_read (part at size image) (Bytes_part at size image b) f own none blank

    -- A body of card k, at its place.
    body_back : (side : ℕ) → side < sides f →
        pad (room_of image) (side_text side (card_at f image k)) ≡ part (body_place f (count_of image) (room_of image) k side) (room_of image) image
    unfolding tail_zero
    body_back side h =
        ap (pad (room_of image)) (side_text_lem f image holds k below side h)
        ∙ pad_read (body_place f (count_of image) (room_of image) k side) (side_length f image holds k below side) (room_of image) image
        (body_lies f image holds k below side h) (side_fits f image holds k below side h) (side_tail f image holds k below side h)

    pub bodies_back : bodies f (room_of image) (card_at f image k)
        ≡ part (header_size + entry_size f * count_of image + k * (sides f * room_of image)) (sides f * room_of image) image
    unfolding bodies
    bodies_back =
        concat_map_parts (pad (room_of image)) (λ (side : ℕ). side_text side (card_at f image k))
        (header_size + entry_size f * count_of image + k * (sides f * room_of image)) (room_of image) image (sides f)
        (λ side h. body_back side h ∙ ap (λ (at : ℕ). part at (room_of image) image) (place side))
      where
        place : (side : ℕ) → body_place f (count_of image) (room_of image) k side
            ≡ header_size + entry_size f * count_of image + k * (sides f * room_of image) + side * room_of image
        place side = omega arith

    card_back : GoodCard f (room_of image) (card_at f image k)
    unfolding card_at
    card_back =
        record {
          count = many;
          fits = λ t h. subst FitsEntry (sym (view_at f image holds k below t h)) (entry_fits f image k t b);
          rules = λ t h. subst (λ (e : Entry). T (entry_sound (room_of image) e)) (sym (view_at f image holds k below t h)) (to_T (entry_holds f image holds k below t h));
          bytes = own;
        }
      where
        many : length (card_at f image k).translated ≡ translations f
        many = length_tabulate (translation_at f image k) (translations f)

        own : (side : ℕ) → Bytes (side_text side (card_at f image k))
        own zero = Bytes_part (body_place f (count_of image) (room_of image) k 0) (entry_at f image k 0).original image b
        own (suc t) = Bytes_translations f image k t b

  -- ---- the whole

  header_back : header f (count_of image) (room_of image) ≡ part 0 header_size image
  unfolding header header_sound
  header_back =
      let s = shape f (count_of image) (room_of image) (shape_holds f image holds) in
      let size = long f image holds in
      let tested = all_out _ (header_holds f image holds) in
      let one : magic ≡ part 0 4 image =
      le_injective magic (part 0 4 image) Bytes_magic (Bytes_part 0 4 image b) (sym (length_part 0 4 image (omega arith)))
      (sym (eqb-true (field 0 4 image) (le magic) (tested 0))) in
      let two : to_le 2 (version f) ≡ part 4 2 image =
      ap (to_le 2) (sym (eqb-true (field 4 2 image) (version f) (tested 1))) ∙ again 4 2 image b (omega arith) in
      let five : replicate 6 0 ≡ part 10 6 image =
      ap (λ (n : ℕ). replicate n 0) (sym (length_part 10 6 image (omega arith))) ∙ sym (zeros_means (part 10 6 image) (tested 3)) in
      joined one two (again 6 2 image b (omega arith)) (again 8 2 image b (omega arith)) five
      ∙ rw (← part_join 0 4 2 image, ← part_join 0 6 2 image, ← part_join 0 8 2 image, ← part_join 0 10 6 image)

  entries_back : concat_map (card_entry f) (tabulate (card_at f image) (count_of image)) ≡ part header_size (count_of image * entry_size f) image
  entries_back =
      concat_map_parts (card_entry f) (card_at f image) header_size (entry_size f) image (count_of image)
      (λ k below. entry_back k below ∙ ap (λ (at : ℕ). part at (entry_size f) image) (place k))
    where
      place : (k : ℕ) → entry_place f k ≡ header_size + k * entry_size f
      place k = omega arith

  pub encode_decode : encode f (decode f image) ≡ image
  unfolding encode decode
  encode_decode =
      let n = count_of image in
      let c = room_of image in
      let cards = tabulate (card_at f image) n in
      let size : header_size + n * entry_size f + n * (sides f * c) ≡ length image = rw (long f image holds) (omega arith) in
      let place : header_size + entry_size f * n ≡ header_size + n * entry_size f = omega arith in
      let front = header_size + n * entry_size f in
      let whole : part 0 front image ++ part front (n * (sides f * c)) image ≡ part 0 (front + n * (sides f * c)) image =
      sym (part_join 0 front (n * (sides f * c)) image ∙ rw zero-add) in
      rw (
        length_tabulate (card_at f image) n,
        header_back,
        entries_back,
        concat_map_parts (bodies f c) (card_at f image) (header_size + entry_size f * n) (sides f * c) image n (λ k below. bodies_back k below),
        place,
        ← part_join 0 header_size (n * entry_size f) image,
        whole,
      )
      (part_whole (header_size + n * entry_size f + n * (sides f * c)) image (sym size))

  pub decode_good : GoodCards f (decode f image)
  decode_good =
      record {
        shape = rw (count_decode f image, room_decode f image) (to_T (shape_holds f image holds));
        each = λ k below. each k (rw (count_decode f image) at below);
      }
    where
      each : (k : ℕ) → k < count_of image → GoodCard f (decode f image).room (get_or (decode f image).cards k (no_card f))
      each k below = rw (room_decode f image, card_decode f image k below) (card_back k below)
