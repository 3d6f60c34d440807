-- An entry and its bytes, a text and its body: each reads back to the other. Assumes nothing.
use Prim.Native.Nat.{ℕ, zero, suc, ◌+◌, ◌*◌, ◌-◌, ◌≤◌, ◌<◌}
use native.Mathlib.Omega.{arith}
use mathlib.Core.Path.{◌≡◌, refl, sym, ap, ◌∙◌}
use mathlib.Core.List.{List, [], ◌∷◌, ◌++◌}
use mathlib.Core.Bool.{true}
use lib.Dec.{lit<}
use lib.ListN.{length, take, drop, replicate}
use lib.Seq.{take_at, drop_at}
use Rattle.lists.specs.Parts.{part, zeros, concat_map, tabulate, Bytes}
use Rattle.lists.specs.Le.{le, to_le, field}
use Rattle.lists.proofs.Bytes.{Bytes_part, zeros_means}
use Rattle.lists.proofs.Le.{le_to_le, to_le_le}
use Rattle.lists.proofs.Parts.{length_part, part_join, take_part, drop_part}
use Rattle.lists.proofs.ConcatMap.{concat_map_parts}
use Rattle.guard.specs.Entry.{FitsEntry}
use Rattle.guard.specs.declared.Entry.{Entry}
use Rattle.formats.specs.Format.{Format, V1, V2, entry_size, translations, froms_at, lengths_at}
use Rattle.image.specs.Layout.{entry_end}
use Rattle.image.specs.Bytes.{entry_bytes, read_entry, pad}
use Rattle.image.specs.Image.{Card, view, card_entry}
use Rattle.image.proofs.Encode.{part_whole}
use Rattle.image.proofs.Written.{pad_text}

module _ (card : Card) where
  from_back : (f : Format) (t : ℕ) → t < translations f → (view t card).from < 65536 → field (froms_at f + 2 * t) 2 (card_entry f card) ≡ (view t card).from
  unfolding entry_bytes part to_le concat_map tabulate
  from_back V1 zero h e = le_to_le 2 (view 0 card).from e
  from_back V1 (suc t) h e = absurd (omega arith)
  from_back V2 zero h e = le_to_le 2 (view 0 card).from e
  from_back V2 (suc zero) h e = le_to_le 2 (view 1 card).from e
  from_back V2 (suc (suc zero)) h e = le_to_le 2 (view 2 card).from e
  from_back V2 (suc (suc (suc zero))) h e = le_to_le 2 (view 3 card).from e
  from_back V2 (suc (suc (suc (suc t)))) h e = absurd (omega arith)

  length_back : (f : Format) (t : ℕ) → t < translations f → (view t card).translation < 65536 →
      field (lengths_at f + 2 * t) 2 (card_entry f card) ≡ (view t card).translation
  unfolding entry_bytes part to_le concat_map tabulate
  length_back V1 zero h e = le_to_le 2 (view 0 card).translation e
  length_back V1 (suc t) h e = absurd (omega arith)
  length_back V2 zero h e = le_to_le 2 (view 0 card).translation e
  length_back V2 (suc zero) h e = le_to_le 2 (view 1 card).translation e
  length_back V2 (suc (suc zero)) h e = le_to_le 2 (view 2 card).translation e
  length_back V2 (suc (suc (suc zero))) h e = le_to_le 2 (view 3 card).translation e
  length_back V2 (suc (suc (suc (suc t)))) h e = absurd (omega arith)

  -- The entry that the bytes of an entry stand for.
  pub read_entry_bytes : (f : Format) (t : ℕ) → t < translations f → FitsEntry (view t card) → read_entry f t (card_entry f card) ≡ view t card
  unfolding read_entry entry_bytes part to_le concat_map tabulate
  read_entry_bytes V1 t h e =
      rw (
        from_back V1 t h e.from,
        length_back V1 t h e.translation,
        le_to_le 8 card.pair.s e.pair.s,
        le_to_le 8 card.pair.x e.pair.x,
        le_to_le 2 card.mark.desk e.mark.desk,
        le_to_le 4 card.mark.transaction e.mark.transaction,
        le_to_le 2 card.edition e.edition,
        le_to_le 2 (length card.original) e.original,
      )
  read_entry_bytes V2 t h e =
      rw (
        from_back V2 t h e.from,
        length_back V2 t h e.translation,
        le_to_le 8 card.pair.s e.pair.s,
        le_to_le 8 card.pair.x e.pair.x,
        le_to_le 2 card.mark.desk e.mark.desk,
        le_to_le 4 card.mark.transaction e.mark.transaction,
        le_to_le 2 card.edition e.edition,
        le_to_le 2 (length card.original) e.original,
      )

-- A number's bytes, read and written again.
pub again : (at n : ℕ) (l : List ℕ) → Bytes l → at + n ≤ length l → to_le n (field at n l) ≡ part at n l
again at n l b h =
    ap (λ (m : ℕ). to_le m (field at n l)) (sym (length_part at n l h)) ∙ to_le_le (part at n l) (Bytes_part at n l b)

-- The bytes of the entry that bytes stand for, where what is to be zero is zero.
module _ (l : List ℕ) (b : Bytes l) where
  -- The pair and the mark, and numbers of two bytes from 24 on.
  front : 24 ≤ length l → field 18 2 l ≡ 0 →
      to_le 8 (field 0 8 l) ++ to_le 8 (field 8 8 l) ++ (to_le 2 (field 16 2 l) ++ to_le 2 0 ++ to_le 4 (field 20 4 l)) ≡ part 0 24 l
  front long none =
      let zero_field : to_le 2 0 ≡ part 18 2 l = ap (to_le 2) (sym none) ∙ again 18 2 l b (omega arith) in
      rw (
        zero_field,
        again 0 8 l b (omega arith),
        again 8 8 l b (omega arith),
        again 16 2 l b (omega arith),
        again 20 4 l b (omega arith),
        ← part_join 0 8 8 l,
        ← part_join 16 2 2 l,
        ← part_join 16 4 4 l,
        ← part_join 0 16 8 l,
      )

  numbers : (n : ℕ) → 24 + n * 2 ≤ length l → concat_map (to_le 2) (tabulate (λ i. field (24 + i * 2) 2 l) n) ≡ part 24 (n * 2) l
  numbers n long =
      concat_map_parts (to_le 2) (λ (i : ℕ). field (24 + i * 2) 2 l) 24 2 l n (λ k below. again (24 + k * 2) 2 l b (omega arith))

  -- Two numbers among four zero bytes.
  blanks : (at : ℕ) → zeros (part at 4 l) ≡ true → (length (part at 4 l) ≡ 4) → (field at 2 l ≡ 0) × (field (at + 2) 2 l ≡ 0)
  unfolding le part
  blanks at z long =
      let all : part at 4 l ≡ replicate 4 0 = zeros_means (part at 4 l) z ∙ ap (λ (n : ℕ). replicate n 0) long in
      (ap le (sym (take_part at 4 2 l (omega arith)) ∙ ap (take 2) all), ap le (sym (drop_part at 4 2 l) ∙ ap (drop 2) all))

  pub entry_bytes_read : (f : Format) → length l ≡ entry_size f → field 18 2 l ≡ 0
      → zeros (part (entry_end f) (entry_size f - entry_end f) l) ≡ true
      → entry_bytes f (λ t. read_entry f t l) ≡ l
  unfolding entry_bytes read_entry tabulate
  entry_bytes_read V1 long none blank =
      rw (front (omega arith) none) (ap (λ (u : List ℕ). part 0 24 l ++ u) (numbers 4 (omega arith)) ∙ sym (part_join 0 24 8 l) ∙ part_whole 32 l long)
  entry_bytes_read V2 long none blank =
      let two = blanks 44 blank (length_part 44 4 l (omega arith)) in
      let last : 0 ∷ 0 ∷ [] ≡ field 44 2 l ∷ field 46 2 l ∷ [] = rw (two.0, two.1) in
      rw (front (omega arith) none, last) (ap (λ (u : List ℕ). part 0 24 l ++ u) (numbers 12 (omega arith)) ∙ sym (part_join 0 24 24 l) ∙ part_whole 48 l long)

-- An entry's bytes go by what is seen in the version's own languages.
pub entry_bytes_ext : (f : Format) (see other : ℕ → Entry) → ((t : ℕ) → t < translations f → see t ≡ other t) → entry_bytes f see ≡ entry_bytes f other
unfolding entry_bytes tabulate
entry_bytes_ext V1 see other same = rw (same 0 (lit< tt))
entry_bytes_ext V2 see other same = rw (same 0 (lit< tt), same 1 (lit< tt), same 2 (lit< tt), same 3 (lit< tt))

-- ---- a text and its body

-- The first bytes of a body are its text.
pub take_pad : (room : ℕ) (t : List ℕ) → length t ≤ room → take (length t) (pad room t) ≡ t
take_pad room t h = rw (pad_text room t h) (take_at t (replicate (room - length t) 0) (length t) refl)

-- The bytes past the text are zero.
pub drop_pad : (room : ℕ) (t : List ℕ) → length t ≤ room → drop (length t) (pad room t) ≡ replicate (room - length t) 0
drop_pad room t h = rw (pad_text room t h) (drop_at t (replicate (room - length t) 0) (length t) refl)

-- A body whose bytes past its text are zero is the body of that text.
pub pad_read : (at count room : ℕ) (l : List ℕ) → at + room ≤ length l → count ≤ room → zeros (part (at + count) (room - count) l) ≡ true →
    pad room (part at count l) ≡ part at room l
pad_read at count room l h g z =
    let long : length (part at count l) ≡ count = length_part at count l (omega arith) in
    let whole : count + (room - count) ≡ room = omega arith in
    pad_text room (part at count l) (omega arith)
    ∙ ap (λ (n : ℕ). part at count l ++ replicate (room - n) 0) long
    ∙ ap (λ (n : ℕ). part at count l ++ replicate n 0) (sym (length_part (at + count) (room - count) l (omega arith)))
    ∙ ap (λ (u : List ℕ). part at count l ++ u) (sym (zeros_means (part (at + count) (room - count) l) z))
    ∙ sym (part_join at count (room - count) l)
    ∙ ap (λ (n : ℕ). part at n l) whole
