-- The claims on a conversion, proved. Assumes nothing.
use Prim.Native.Nat.{ℕ, zero, suc, ◌<◌}
use native.Mathlib.Omega.{arith}
use mathlib.Core.Path.{◌≡◌, refl, sym, ap, subst, ◌∙◌}
use mathlib.Core.List.{List, [], ◌∷◌, map}
use mathlib.Core.Bool.{true, false, ◌&&◌}
use borrow.Author.Tests.{eqb-true, not-false}
use lib.Dec.{T, eqb, lit<}
use lib.ListN.{length, get_or, length-map}
use Rattle.lists.specs.Parts.{Bytes}
use Rattle.lists.specs.Table.{applies}
use Rattle.lists.proofs.Bytes.{Bytes_nil}
use Rattle.lists.proofs.Table.{unapplied, none_applies}
use Rattle.lists.proofs.Tests.{to_T, and_left, and_right}
use Rattle.guard.specs.Entry.{entry_sound, no_entry, FitsEntry}
use Rattle.guard.specs.declared.Entry.{Entry}
use Rattle.formats.specs.Format.{V1, V2}
use Rattle.image.specs.Layout.{shape_ok, size_of}
use Rattle.image.specs.Bytes.{count_of, room_of}
use Rattle.image.specs.Image.{
  Card,
  Cards,
  translation_of,
  no_translation,
  no_card,
  view,
  side_text,
  encode,
  decode,
  card_at,
  sound,
  makes,
  GoodCard,
  GoodCards,
}
use Rattle.image.specs.Convert.{widened, widened_cards, converted, convert_rows}
use Rattle.image.proofs.Mixed.{mixed, mixed_fits, mixed_sound}
use Rattle.image.proofs.Cards.{count_back, room_back, card_at_encode}
use Rattle.image.proofs.Decode.{count_decode, room_decode, card_decode}
use Rattle.image.proofs.Encode.{length_encode}
use Rattle.image_claims.specs.Claims.{Encodes}
use Rattle.image_claims.specs.Conversion.{Keeps, Conversion}
use Rattle.image_claims.proofs.Claims.{sound_reads_back, good_encodes, fits_none, sound_none}

pub get_d_map : (cards : List Card) (k : ℕ) → k < length cards → get_or (map widened cards) k (no_card V2) ≡ widened (get_or cards k (no_card V1))
get_d_map [] k h = absurd (omega arith)
get_d_map (a ∷ cards) zero h = refl
get_d_map (a ∷ cards) (suc k) h = get_d_map cards k (omega arith)

-- Every language but 0 is seen with nothing translated.
seen : (card : Card) (P : Entry → Type 0) → P (view 0 card) → P (mixed no_entry (view 0 card)) → (t : ℕ) → t < 4 → P (view t (widened card))
seen card P first other zero h = first
seen card P first other (suc zero) h = other
seen card P first other (suc (suc zero)) h = other
seen card P first other (suc (suc (suc zero))) h = other
seen card P first other (suc (suc (suc (suc t)))) h = absurd (omega arith)

good_widened : (room : ℕ) (card : Card) → GoodCard V1 room card → GoodCard V2 room (widened card)
good_widened room card good =
    let fits = good.fits 0 (lit< tt) in
    let rules = good.rules 0 (lit< tt) in
    record {
      count = refl;
      fits = seen card FitsEntry fits (mixed_fits fits_none fits);
      rules = seen card (λ (e : Entry). T (entry_sound room e)) rules (mixed_sound room no_entry (view 0 card) (sound_none room) rules (omega arith));
      bytes = own;
    }
  where
    own : (side : ℕ) → Bytes (side_text side (widened card))
    own zero = good.bytes 0
    own (suc zero) = good.bytes 1
    own (suc (suc zero)) = Bytes_nil
    own (suc (suc (suc zero))) = Bytes_nil
    own (suc (suc (suc (suc zero)))) = Bytes_nil
    own (suc (suc (suc (suc (suc side))))) = Bytes_nil

pub good_cards : (cs : Cards) → GoodCards V1 cs → T (shape_ok V2 (length cs.cards) cs.room) → GoodCards V2 (widened_cards cs)
good_cards cs good shape =
    record {
      shape = rw (length-map cs.cards widened) shape;
      each = λ k below.
          let there : k < length cs.cards = rw (length-map cs.cards widened) at below in
          rw (get_d_map cs.cards k there) (good_widened cs.room (get_or cs.cards k (no_card V1)) (good.each k there));
    }

-- What widening keeps.
keeps : (card : Card) → Keeps card (widened card)
keeps card = record { pair = refl; mark = refl; edition = refl; original = refl; first = refl; others = others }
  where
    others : (t : ℕ) → 0 < t → translation_of t (widened card) ≡ no_translation
    others zero h = absurd (omega arith)
    others (suc zero) h = refl
    others (suc (suc zero)) h = refl
    others (suc (suc (suc zero))) h = refl
    others (suc (suc (suc (suc t)))) h = refl

pub conversion : Conversion
unfolding converted makes
conversion image lent b e =
    record {
      bytes = back.bytes;
      sounds = back.sounds;
      long = length_encode V2 wide ∙ rw (many, room_decode V1 image) (sym size);
      count = count_back V2 wide good ∙ many;
      room = room_back V2 wide good ∙ room_decode V1 image;
      cards = back.same;
      each = λ k below.
          let there : k < length cs.cards = subst (λ (m : ℕ). k < m) (sym (count_decode V1 image)) below in
          let card : card_at V2 (encode V2 wide) k ≡ widened (card_at V1 image k) =
          card_at_encode V2 wide good k (subst (λ (m : ℕ). k < m) (sym (length-map cs.cards widened)) there)
          ∙ get_d_map cs.cards k there
          ∙ ap widened (card_decode V1 image k below) in
          subst (Keeps (card_at V1 image k)) (sym card) (keeps (card_at V1 image k));
    }
  where
    row_fails : (n : ℕ) → applies n (convert_rows image lent) ≡ false
    row_fails = none_applies (convert_rows image lent) ((unapplied (convert_rows image lent) tt).0 e)

    is_sound : sound V1 image ≡ true
    is_sound = not-false (sound V1 image) (row_fails 9)

    fits : (shape_ok V2 (count_of image) (room_of image) && eqb lent (size_of V2 (count_of image) (room_of image))) ≡ true
    fits = not-false _ (row_fails 14)

    size : lent ≡ size_of V2 (count_of image) (room_of image)
    size = eqb-true lent (size_of V2 (count_of image) (room_of image)) (and_right (shape_ok V2 (count_of image) (room_of image)) (eqb lent (size_of V2 (count_of image) (room_of image))) fits)

    cs : Cards
    cs = decode V1 image

    wide : Cards
    wide = widened_cards cs

    many : length wide.cards ≡ count_of image
    many = length-map cs.cards widened ∙ count_decode V1 image

    good : GoodCards V2 wide
    good =
        good_cards cs (sound_reads_back V1 image b (to_T is_sound)).good
        (rw (count_decode V1 image, room_decode V1 image) (to_T (and_left (shape_ok V2 (count_of image) (room_of image)) (eqb lent (size_of V2 (count_of image) (room_of image))) fits)))

    back : Encodes V2 wide
    back = good_encodes V2 wide good
