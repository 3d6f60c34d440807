-- Another card in the bytes of cards: its entry and a text of it written. Assumes nothing.
use Prim.Native.Nat.{ℕ, ◌+◌, ◌*◌, ◌≤◌, ◌<◌}
use native.Mathlib.Omega.{arith}
use native.Mathlib.Nat.{mul-le-mul_right}
use mathlib.Core.Path.{◌≡◌, sym, ap, subst, ◌∙◌}
use mathlib.Core.Logic.{◌⊎◌, inl, inr}
use mathlib.Core.Bool.{true, false}
use mathlib.Core.List.{List, [], ◌++◌}
use borrow.Author.Tests.{eqb-true, eqb-false}
use lib.Dec.{eqb}
use lib.ListN.{length, get_or, set, length-set}
use lib.Seq.{get_or-set_same, get_or-set_other, ext_get_or}
use Rattle.lists.specs.Parts.{splice, concat_map, tabulate}
use Rattle.lists.proofs.Parts.{splice_append_left, splice_append_right, splice_within, splice_part}
use Rattle.lists.proofs.ConcatMap.{length_concat_map, part_concat_map, splice_concat_map, length_tabulate, get_d_tabulate}
use Rattle.lists.proofs.Tests.{cases}
use Rattle.formats.specs.Format.{Format, entry_size}
use Rattle.image.specs.Layout.{header_size, sides, entry_place, body_place}
use Rattle.image.specs.Bytes.{header, pad}
use Rattle.image.specs.Image.{Card, Cards, side_text, with_card, no_card, bodies, encode, card_entry}
use Rattle.image.proofs.Encode.{length_header, length_pad, length_bodies, length_front, entries_wide}

module _ {A B : Type 0} (f : A → List B) (w : ℕ) (wide : (a : A) → length (f a) ≡ w) (l : List A) (k : ℕ) (h : k < length l) where
  piece_fits : k * w + w ≤ length (concat_map f l)
  piece_fits = rw (length_concat_map f w wide l) (omega (arith, mul-le-mul_right w h))

  -- Writing within piece k.
  pub splice_piece : (i : ℕ) (v : List B) (a d : A) → i + length v ≤ w → f a ≡ splice i v (f (get_or l k d)) →
      splice (k * w + i) v (concat_map f l) ≡ concat_map f (set l k a)
  splice_piece i v a d g e =
      let same : splice (k * w) (f (get_or l k d)) (concat_map f l) ≡ concat_map f l =
      ap (λ (u : List B). splice (k * w) u (concat_map f l)) (sym (part_concat_map f w wide l k d h)) ∙ splice_part (k * w) w (concat_map f l) piece_fits in
      sym
      (sym (splice_concat_map f w wide l k a h)
      ∙ ap (λ (u : List B). splice (k * w) u (concat_map f l)) e
      ∙ sym (splice_within (k * w) i v (f (get_or l k d)) (concat_map f l) (omega (arith, piece_fits)) (rw wide g))
      ∙ ap (splice (k * w + i) v) same)

  -- Another element that makes the same piece.
  pub same_piece : (a d : A) → f a ≡ f (get_or l k d) → concat_map f (set l k a) ≡ concat_map f l
  same_piece a d e =
      sym (splice_concat_map f w wide l k a h)
      ∙ ap (λ (u : List B). splice (k * w) u (concat_map f l)) (e ∙ sym (part_concat_map f w wide l k d h))
      ∙ splice_part (k * w) w (concat_map f l) piece_fits

-- A table with one element changed.
pub tabulate_set : {A : Type 0} (g h : ℕ → A) (n i : ℕ) (a d : A) → i < n → h i ≡ a → ((j : ℕ) → (j ≡ i → ⊥) → h j ≡ g j) → tabulate h n ≡ set (tabulate g n) i a
tabulate_set g h n i a d below here others =
    ext_get_or d (tabulate h n) (set (tabulate g n) i a) (length_tabulate h n ∙ sym (length-set (tabulate g n) i a ∙ length_tabulate g n))
    (λ j small. each j (subst (λ (m : ℕ). j < m) (length_tabulate h n) small) (cases (eqb j i)))
  where
    inside : i < length (tabulate g n)
    inside = subst (λ (m : ℕ). i < m) (sym (length_tabulate g n)) below

    each : (j : ℕ) → j < n → (eqb j i ≡ true) ⊎ (eqb j i ≡ false) → get_or (tabulate h n) j d ≡ get_or (set (tabulate g n) i a) j d
    each j small (inl e) =
        let same : j ≡ i = eqb-true j i e in
        get_d_tabulate h n j d small ∙ ap h same ∙ here ∙ sym (get_or-set_same (tabulate g n) i a d inside) ∙ ap (λ (m : ℕ). get_or (set (tabulate g n) i a) m d) (sym same)
    each j small (inr e) =
        let apart = eqb-false j i e in
        get_d_tabulate h n j d small ∙ others j apart ∙ sym (get_d_tabulate g n j d small) ∙ sym (get_or-set_other (tabulate g n) i j a d apart)

-- A text written into a card's bodies.
pub side_written : (f : Format) (room side : ℕ) (t : List ℕ) (old card : Card) → side < sides f → side_text side card ≡ t
    → ((j : ℕ) → (j ≡ side → ⊥) → side_text j card ≡ side_text j old)
    → bodies f room card ≡ splice (side * room) (pad room t) (bodies f room old)
unfolding bodies
side_written f room side t old card h here others =
    let texts : ℕ → List ℕ = λ (s : ℕ). side_text s old in
    ap (concat_map (pad room)) (tabulate_set texts (λ (s : ℕ). side_text s card) (sides f) side t [] h here others)
    ∙ sym (splice_concat_map (pad room) room (length_pad room) (tabulate texts (sides f)) side t (subst (λ (m : ℕ). side < m) (sym (length_tabulate texts (sides f))) h))

module _ (f : Format) (cs : Cards) (k : ℕ) (below : k < length cs.cards) (card : Card) where
  abbrev room : ℕ
  room = cs.room

  abbrev first : List ℕ
  first = header f (length cs.cards) room

  abbrev entries : List ℕ
  entries = concat_map (card_entry f) cs.cards

  abbrev old : Card
  old = get_or cs.cards k (no_card f)

  -- The entry, before whatever follows the entries.
  put_front : (rest : List ℕ) → splice (entry_place f k) (card_entry f card) (first ++ entries ++ rest) ≡ first ++ concat_map (card_entry f) (set cs.cards k card) ++ rest
  put_front rest =
      let place : entry_place f k ≡ header_size + k * entry_size f = omega arith in
      let inside : (k + 1) * entry_size f ≤ length cs.cards * entry_size f = mul-le-mul_right (entry_size f) (omega arith) in
      let fits : entry_place f k + length (card_entry f card) ≤ length (first ++ entries) =
      rw (length_front f (length cs.cards) room cs.cards, entries_wide f card) (omega arith) in
      splice_append_left (entry_place f k) (card_entry f card) (first ++ entries) rest fits
      ∙ ap (λ (u : List ℕ). u ++ rest)
      (ap (λ (at : ℕ). splice at (card_entry f card) (first ++ entries)) place
      ∙ splice_append_right header_size (k * entry_size f) (card_entry f card) first entries (length_header f (length cs.cards) room)
      ∙ ap (λ (u : List ℕ). first ++ u) (splice_concat_map (card_entry f) (entry_size f) (entries_wide f) cs.cards k card below))

  whole : first ++ concat_map (card_entry f) (set cs.cards k card) ++ concat_map (bodies f room) (set cs.cards k card) ≡ encode f (with_card k card cs)
  unfolding encode
  whole = rw (length-set cs.cards k card)

  -- Another card with the same texts: its entry written.
  pub put_entry : bodies f room card ≡ bodies f room old → splice (entry_place f k) (card_entry f card) (encode f cs) ≡ encode f (with_card k card cs)
  unfolding encode
  put_entry same =
      put_front (concat_map (bodies f room) cs.cards)
      ∙ ap (λ (u : List ℕ). first ++ concat_map (card_entry f) (set cs.cards k card) ++ u)
      (sym (same_piece (bodies f room) (sides f * room) (length_bodies f room) cs.cards k below card (no_card f) same))
      ∙ whole

  -- Another card with something of its bodies changed: that part of them and the entry written.
  pub put_part_entry : (side : ℕ) (v : List ℕ) → side * room + length v ≤ sides f * room → bodies f room card ≡ splice (side * room) v (bodies f room old)
      → splice (entry_place f k) (card_entry f card) (splice (body_place f (length cs.cards) room k side) v (encode f cs)) ≡ encode f (with_card k card cs)
  unfolding encode
  put_part_entry side v fits changed =
      let place : body_place f (length cs.cards) room k side ≡ header_size + entry_size f * length cs.cards + (k * (sides f * room) + side * room) = omega arith in
      ap (splice (entry_place f k) (card_entry f card))
      (ap (λ (at : ℕ). splice at v (first ++ entries ++ concat_map (bodies f room) cs.cards)) place
      ∙ splice_append_right (header_size + entry_size f * length cs.cards) (k * (sides f * room) + side * room) v (first ++ entries) (concat_map (bodies f room) cs.cards)
      (length_front f (length cs.cards) room cs.cards)
      ∙ ap (λ (u : List ℕ). first ++ entries ++ u)
      (splice_piece (bodies f room) (sides f * room) (length_bodies f room) cs.cards k below (side * room) v card (no_card f) fits changed))
      ∙ put_front (concat_map (bodies f room) (set cs.cards k card))
      ∙ whole

  -- Another card with one text changed: that text and the entry written.
  pub put_text_entry : (side : ℕ) (t : List ℕ) → side < sides f → bodies f room card ≡ splice (side * room) (pad room t) (bodies f room old)
      → splice (entry_place f k) (card_entry f card) (splice (body_place f (length cs.cards) room k side) (pad room t) (encode f cs)) ≡ encode f (with_card k card cs)
  put_text_entry side t h changed = put_part_entry side (pad room t) (rw length_pad (omega (arith, mul-le-mul_right room h))) changed
