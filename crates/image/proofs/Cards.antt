-- Cards by the rules: they encode to a sound image of bytes that reads back to them. Assumes nothing.
use Prim.Native.Nat.{ℕ, zero, suc, ◌+◌, ◌-◌, ◌≤◌, ◌<◌}
use native.Mathlib.Omega.{arith}
use native.Mathlib.Nat.{add-zero}
use mathlib.Core.Path.{◌≡◌, refl, sym, ap, subst, ◌∙◌}
use mathlib.Core.Logic.{◌⊎◌, inl, inr}
use mathlib.Core.List.{List, [], ◌++◌}
use mathlib.Core.Bool.{true, false}
use borrow.Author.Tests.{eq-eqb, eqb-true, eqb-false}
use lib.Dec.{eqb, lit≤, lit<}
use lib.ListN.{length, take, get_or, set, replicate, length-set}
use lib.Seq.{get_or-set_same, get_or-set_other}
use Rattle.lists.specs.Parts.{part, concat_map, tabulate, every, zeros, Bytes}
use Rattle.lists.specs.Le.{le, to_le, field}
use Rattle.lists.specs.Table.{all, all_from}
use Rattle.lists.proofs.Bytes.{Bytes_append, Bytes_replicate, Bytes_take, zeros_replicate}
use Rattle.lists.proofs.Every.{every_in}
use Rattle.lists.proofs.Le.{Bytes_to_le}
use Rattle.lists.proofs.ConcatMap.{Bytes_concat_map, tabulate_is, length_tabulate, get_d_tabulate}
use Rattle.lists.proofs.Tests.{cases, from_T, and_in}
use Rattle.guard.specs.Entry.{entry_sound}
use Rattle.guard.specs.declared.Entry.{Entry}
use Rattle.formats.specs.Format.{Format, V1, V2, version, translations, entry_size}
use Rattle.commands.specs.Bytes.{pair_bytes}
use Rattle.image.specs.Layout.{sides, shape_ok, size_of, entry_place, entry_end, body_place}
use Rattle.image.specs.Bytes.{magic, header_numbers, header, entry_mark, entry_counts, entry_bytes, pad, count_of, room_of, read_entry, entry_at}
use Rattle.image.specs.Image.{
  Card,
  Cards,
  translation_of,
  view,
  side_text,
  with_card,
  no_card,
  no_translation,
  card_entry,
  bodies,
  encode,
  body_at,
  translation_at,
  card_at,
  decode,
  tail_zero,
  translation_sound,
  card_sound,
  header_sound,
  sound,
  GoodCard,
  GoodCards,
}
use Rattle.image.proofs.Bytes.{lengths}
use Rattle.image.proofs.Shape.{shape, some_translation}
use Rattle.image.proofs.Encode.{part_whole, length_entry_bytes, length_encode, part_header, count_of_encode, room_of_encode, part_entry, part_body}
use Rattle.image.proofs.Entry.{read_entry_bytes, take_pad, drop_pad}
use Rattle.image.proofs.Written.{take_replicate}

-- ---- the pieces of an image are bytes

then : (a : List ℕ) (count n : ℕ) → Bytes a → Bytes (a ++ to_le count n)
then a count n b = Bytes_append a (to_le count n) b (Bytes_to_le count n)

Bytes_header : (f : Format) (n c : ℕ) → Bytes (header f n c)
unfolding header to_le le
Bytes_header f n c =
    Bytes_append (header_numbers f n c) (replicate 6 0)
    (then (magic ++ to_le 2 (version f) ++ to_le 2 n) 2 c
    (then (magic ++ to_le 2 (version f)) 2 n (then magic 2 (version f) (Bytes_to_le 4 (le magic)))))
    (Bytes_replicate 6 (lit< tt))

Bytes_entry : (f : Format) (see : ℕ → Entry) → Bytes (entry_bytes f see)
unfolding entry_bytes
Bytes_entry f see =
    let e = see 0 in
    let mark = to_le 2 e.mark.desk ++ to_le 2 0 in
    Bytes_append (pair_bytes e.pair ++ entry_mark e.mark) (concat_map (to_le 2) (entry_counts f see))
    (Bytes_append (pair_bytes e.pair) (entry_mark e.mark) (then (to_le 8 e.pair.s) 8 e.pair.x (Bytes_to_le 8 e.pair.s))
    (then mark 4 e.mark.transaction (then (to_le 2 e.mark.desk) 2 0 (Bytes_to_le 2 e.mark.desk))))
    (Bytes_concat_map (to_le 2) (entry_counts f see) 0 (λ i below. Bytes_to_le 2 (get_or (entry_counts f see) i 0)))

Bytes_pad : (room : ℕ) (t : List ℕ) → Bytes t → Bytes (pad room t)
unfolding pad
Bytes_pad room t b = Bytes_take room (t ++ replicate room 0) (Bytes_append t (replicate room 0) b (Bytes_replicate room (lit< tt)))

Bytes_bodies : (f : Format) (room : ℕ) (card : Card) → ((side : ℕ) → Bytes (side_text side card)) → Bytes (bodies f room card)
unfolding bodies
Bytes_bodies f room card b =
    let texts : ℕ → List ℕ = λ (side : ℕ). side_text side card in
    Bytes_concat_map (pad room) (tabulate texts (sides f)) []
    (λ i below. rw (get_d_tabulate texts (sides f) i [] (rw (length_tabulate texts (sides f)) at below)) (Bytes_pad room (texts i) (b i)))

-- ---- cards

-- Another card by the rules, in its place.
pub good_with : (f : Format) (cs : Cards) (k : ℕ) (card : Card) → GoodCards f cs → GoodCard f cs.room card → GoodCards f (with_card k card cs)
good_with f cs k card g h =
    record {
      shape = rw (length-set cs.cards k card) g.shape;
      each = λ j below. go j (rw (length-set cs.cards k card) at below) (cases (eqb j k));
    }
  where
    go : (j : ℕ) → j < length cs.cards → (eqb j k ≡ true) ⊎ (eqb j k ≡ false) → GoodCard f cs.room (get_or (set cs.cards k card) j (no_card f))
    go j below (inl e) =
        let here : j ≡ k = eqb-true j k e in
        rw here (rw (get_or-set_same cs.cards k card (no_card f) (rw here at below)) h)
    go j below (inr e) = rw (get_or-set_other cs.cards k j card (no_card f) (eqb-false j k e)) (g.each j below)

-- What stands behind an entry's numbers.
entry_blank : (f : Format) (see : ℕ → Entry) → zeros (part (entry_end f) (entry_size f - entry_end f) (entry_bytes f see)) ≡ true
unfolding entry_bytes to_le part concat_map tabulate zeros
entry_blank V1 see = refl
entry_blank V2 see = refl

entry_zero : (f : Format) (see : ℕ → Entry) → field 18 2 (entry_bytes f see) ≡ 0
unfolding entry_bytes to_le part le
entry_zero f see = refl

pub room_for : (f : Format) → entry_end f + (entry_size f - entry_end f) ≤ entry_size f
room_for V1 = lit≤ tt
room_for V2 = lit≤ tt

pub wide_enough : (f : Format) → 18 + 2 ≤ entry_size f
wide_enough V1 = lit≤ tt
wide_enough V2 = lit≤ tt

-- What the cards' rules say of one card k.
module _ (f : Format) (cs : Cards) (good : GoodCards f cs) where
  pub few_cards : length cs.cards < 65536
  few_cards = let s = shape f (length cs.cards) cs.room (from_T (shape_ok f (length cs.cards) cs.room) good.shape) in omega arith

  pub small_room : cs.room < 65536
  small_room = let s = shape f (length cs.cards) cs.room (from_T (shape_ok f (length cs.cards) cs.room) good.shape) in omega arith

  pub count_back : count_of (encode f cs) ≡ length cs.cards
  count_back = count_of_encode f cs few_cards

  pub room_back : room_of (encode f cs) ≡ cs.room
  room_back = room_of_encode f cs small_room

  version_back : field 4 2 (encode f cs) ≡ version f
  unfolding header to_le part le
  version_back = ap le (part_header f cs 4 2 (lit≤ tt)) ∙ go f
    where
      go : (f : Format) → field 4 2 (header f (length cs.cards) cs.room) ≡ version f
      go V1 = refl
      go V2 = refl

  pub header_good : header_sound f (encode f cs) ≡ true
  unfolding header_sound all all_from header to_le part le zeros
  header_good =
      let image = encode f cs in
      let one : eqb (field 0 4 image) (le magic) ≡ true = eq-eqb (field 0 4 image) (le magic) (ap le (part_header f cs 0 4 (lit≤ tt))) in
      let two : eqb (field 4 2 image) (version f) ≡ true = eq-eqb (field 4 2 image) (version f) version_back in
      let three : shape_ok f (count_of image) (room_of image) ≡ true =
      rw (count_back, room_back) (from_T (shape_ok f (length cs.cards) cs.room) good.shape) in
      let four : zeros (part 10 6 image) ≡ true = ap zeros (part_header f cs 10 6 (lit≤ tt)) in
      let five : eqb (length image) (size_of f (count_of image) (room_of image)) ≡ true =
      eq-eqb (length image) (size_of f (count_of image) (room_of image)) (rw (count_back, room_back) (length_encode f cs)) in
      rw (one, two, three, four, five)

  -- ---- one card

  module _ (k : ℕ) (below : k < length cs.cards) where
    abbrev card : Card
    card = get_or cs.cards k (no_card f)

    within : (side : ℕ) → side < sides f → length (side_text side card) ≤ cs.room
    within zero h = (lengths cs.room (view 0 card) (from_T (entry_sound cs.room (view 0 card)) ((good.each k below).rules 0 (some_translation f)))).original
    within (suc t) h =
        (lengths cs.room (view t card) (from_T (entry_sound cs.room (view t card)) ((good.each k below).rules t (omega arith)))).translation

    pub entry_at_encode : (t : ℕ) → t < translations f → entry_at f (encode f cs) k t ≡ view t card
    unfolding entry_at
    entry_at_encode t h =
        ap (λ (at : ℕ). read_entry f t (part at (entry_size f) (encode f cs))) (sym (add-zero (entry_place f k)))
        ∙ ap (read_entry f t) (part_entry f cs k 0 (entry_size f) below (omega arith) ∙ part_whole (entry_size f) (card_entry f card) (length_entry_bytes f (λ (t : ℕ). view t card)))
        ∙ read_entry_bytes card f t h ((good.each k below).fits t h)

    -- The text of a side, and the zeros behind it.
    pub text_encode : (side : ℕ) → side < sides f → body_at f (encode f cs) k side (length (side_text side card)) ≡ side_text side card
    unfolding part
    text_encode side h =
        let t = side_text side card in
        let place : body_place f (length cs.cards) cs.room k side + 0 ≡ body_place f (length cs.cards) cs.room k side = omega arith in
        rw (count_back, room_back, ← place)
        (part_body f cs k side 0 (length t) below h (omega (arith, within side h)) ∙ take_pad cs.room t (within side h))

    pub tail_encode : (side : ℕ) → side < sides f → tail_zero f (encode f cs) k side (length (side_text side card)) ≡ true
    unfolding tail_zero part
    tail_encode side h =
        let t = side_text side card in
        let room = cs.room in
        rw (count_back, room_back)
        (ap zeros
        (part_body f cs k side (length t) (room - length t) below h (omega (arith, within side h))
        ∙ ap (take (room - length t)) (drop_pad room t (within side h))
        ∙ take_replicate (room - length t) (room - length t) 0 (omega arith))
        ∙ zeros_replicate (room - length t))

    pub zero_encode : field (entry_place f k + 18) 2 (encode f cs) ≡ 0
    zero_encode = ap le (part_entry f cs k 18 2 below (wide_enough f)) ∙ entry_zero f (λ (t : ℕ). view t card)

    pub blank_encode : zeros (part (entry_place f k + entry_end f) (entry_size f - entry_end f) (encode f cs)) ≡ true
    blank_encode = ap zeros (part_entry f cs k (entry_end f) (entry_size f - entry_end f) below (room_for f)) ∙ entry_blank f (λ (t : ℕ). view t card)

    translation_encode : (t : ℕ) → t < translations f → translation_at f (encode f cs) k t ≡ translation_of t card
    translation_encode t h = rw (entry_at_encode t h, text_encode (suc t) (omega arith))

    translated_encode : tabulate (translation_at f (encode f cs) k) (translations f) ≡ card.translated
    translated_encode =
        ap (tabulate (translation_at f (encode f cs) k)) (sym (good.each k below).count)
        ∙ tabulate_is (translation_at f (encode f cs) k) card.translated no_translation
        (λ t h. translation_encode t (subst (λ (n : ℕ). t < n) (good.each k below).count h))

    pub card_at_encode : card_at f (encode f cs) k ≡ card
    unfolding card_at
    card_at_encode = rw (entry_at_encode 0 (some_translation f), text_encode 0 (omega arith), translated_encode)

    translation_good : (t : ℕ) → t < translations f → translation_sound f (encode f cs) k t ≡ true
    unfolding translation_sound
    translation_good t h =
        let kept : entry_sound (room_of (encode f cs)) (view t card) ≡ true =
        rw room_back (from_T (entry_sound cs.room (view t card)) ((good.each k below).rules t h)) in
        rw (entry_at_encode t h, kept) (tail_encode (suc t) (omega arith))

    pub card_good : card_sound f (encode f cs) k ≡ true
    unfolding card_sound all all_from
    card_good =
        let image = encode f cs in
        let one : eqb (field (entry_place f k + 18) 2 image) 0 ≡ true = eq-eqb (field (entry_place f k + 18) 2 image) 0 zero_encode in
        let three : every (translation_sound f image k) (translations f) ≡ true = every_in (translation_sound f image k) (translations f) translation_good in
        let four : tail_zero f image k 0 (entry_at f image k 0).original ≡ true = rw (entry_at_encode 0 (some_translation f)) (tail_encode 0 (omega arith)) in
        rw (one, blank_encode, three, four)

  pub sound_encode : sound f (encode f cs) ≡ true
  unfolding sound
  sound_encode =
      and_in header_good (rw count_back (every_in (card_sound f (encode f cs)) (length cs.cards) (λ k below. card_good k below)))

  pub decode_encode : decode f (encode f cs) ≡ cs
  unfolding decode
  decode_encode = rw (count_back, room_back, tabulate_is (card_at f (encode f cs)) cs.cards (no_card f) (λ k below. card_at_encode k below))

  -- ---- bytes

  pub Bytes_encode : Bytes (encode f cs)
  unfolding encode
  Bytes_encode =
      let room = cs.room in
      let cards = cs.cards in
      let entries = concat_map (card_entry f) cards in
      Bytes_append (header f (length cards) room ++ entries) (concat_map (bodies f room) cards)
      (Bytes_append (header f (length cards) room) entries (Bytes_header f (length cards) room)
      (Bytes_concat_map (card_entry f) cards (no_card f) (λ k below. Bytes_entry f (λ (t : ℕ). view t (get_or cards k (no_card f))))))
      (Bytes_concat_map (bodies f room) cards (no_card f)
      (λ k below. Bytes_bodies f room (get_or cards k (no_card f)) (good.each k below).bytes))
