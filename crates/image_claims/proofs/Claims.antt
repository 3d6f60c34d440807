-- The claims on images and cards, proved for each version. Assumes nothing.
use Prim.Native.Nat.{ℕ, ◌+◌, ◌*◌, ◌-◌, ◌/◌}
use native.Mathlib.Omega.{arith}
use mathlib.Core.Path.{◌≡◌, refl, sym, ap, ◌∙◌, subst}
use mathlib.Core.Logic.{◌⊎◌, inl, inr}
use mathlib.Core.List.{List}
use mathlib.Core.Bool.{Bool, true, false, ◌&&◌}
use borrow.Author.Tests.{eqb-true, ne_eqb}
use lib.Dec.{T, leb, lit<, leb-zero}
use lib.ListN.{length, take, drop, get_or, replicate, length-replicate, get_or-replicate}
use lib.Seq.{drop_at}
use Rattle.lists.specs.Parts.{Bytes}
use Rattle.lists.specs.Le.{le}
use Rattle.lists.proofs.Parts.{part_take}
use Rattle.lists.proofs.ConcatMap.{tabulate_ext}
use Rattle.lists.proofs.Tests.{to_T, from_T, cases, all_out, all_fails_at}
use Rattle.lists.specs.Table.{all, all_from, listed}
use Rattle.lists.proofs.Bytes.{Bytes_nil, zeros_at, zeros_replicate}
use Rattle.guard.specs.Entry.{entry_sound, no_entry, FitsEntry}
use Rattle.guard.specs.declared.Entry.{Entry}
use Rattle.formats.specs.Format.{Format, V1, V2, version, translations}
use Rattle.image.specs.Layout.{shape_ok, size_of, header_size}
use Rattle.image.specs.Bytes.{header, version_of, count_of}
use Rattle.image.specs.Image.{no_translation, view, no_card, encode, card_at, decode, header_sound, sound, fresh, GoodCard, GoodCards, fresh_cards, makes, make_number, claimed, good_front}
use Rattle.image_claims.specs.Claims.{SoundReadsBack, GoodEncodes, OneImage, NumberTells, OneVersion, NoOldFront, FreshSound, LargestImage, make_numbers, MakeListed}
use Rattle.image.proofs.Shape.{shape}
use Rattle.image.proofs.Cards.{Bytes_encode, sound_encode, decode_encode}
use Rattle.image.proofs.Encode.{length_header, length_encode}
use Rattle.image.proofs.Empty.{no_translation_lem, side_empty, fresh_cards_lem}
use Rattle.image.proofs.Decode.{encode_decode, decode_good, header_holds}

pub sound_reads_back : SoundReadsBack
sound_reads_back f image b holds = record { good = decode_good f image b holds; same = encode_decode f image b holds }

pub good_encodes : GoodEncodes
good_encodes f cs good = record { bytes = Bytes_encode f cs good; sounds = to_T (sound_encode f cs good); same = decode_encode f cs good }

pub one_image : OneImage
unfolding decode
one_image f x y bx by sx sy n c same =
    let cards : decode f x ≡ decode f y = rw (← n, ← c, tabulate_ext (card_at f x) (card_at f y) (count_of x) same) in
    sym (encode_decode f x bx sx) ∙ ap (encode f) cards ∙ encode_decode f y by sy

-- The number of an image's version.
pub version_is : (f : Format) (image : List ℕ) → T (sound f image) → version_of image ≡ version f
unfolding header_sound
version_is f image holds = eqb-true (version_of image) (version f) (all_out _ (header_holds f image holds) 1)

pub number_tells : NumberTells
unfolding header_sound sound
number_tells g image other =
    let fails : header_sound g image ≡ false = all_fails_at _ 1 (ne_eqb (version_of image) (version g) other) in
    rw fails

versions_apart : (f g : Format) → (f ≡ g → ⊥) → version f ≡ version g → ⊥
versions_apart V1 V1 apart e = apart refl
versions_apart V1 V2 apart e = absurd (omega arith)
versions_apart V2 V1 apart e = absurd (omega arith)
versions_apart V2 V2 apart e = apart refl

pub one_version : OneVersion
one_version f g apart image holds = number_tells g image (λ e. versions_apart f g apart (sym (version_is f image holds) ∙ e))

pub no_old_front : NoOldFront
unfolding good_front
no_old_front bytes other = go (cases (leb header_size (length bytes) && leb (claimed bytes) (length bytes)))
  where
    -- The number stands in the header, which an image that is claimed has.
    same : version_of (take (claimed bytes) bytes) ≡ version_of bytes
    same = ap le (part_take 4 2 (claimed bytes) bytes (omega arith))

    go : ((leb header_size (length bytes) && leb (claimed bytes) (length bytes)) ≡ true) ⊎ ((leb header_size (length bytes) && leb (claimed bytes) (length bytes)) ≡ false)
        → (leb header_size (length bytes) && leb (claimed bytes) (length bytes) && sound V1 (take (claimed bytes) bytes)) ≡ false
    go (inl e) = rw e (number_tells V1 (take (claimed bytes) bytes) (λ one. other (sym same ∙ one)))
    go (inr e) = rw e

-- ---- a fresh image

no_view : (f : Format) (t : ℕ) → view t (no_card f) ≡ no_entry
no_view f t = rw (no_translation_lem f t)

pub fits_none : FitsEntry no_entry
fits_none =
    record {
      pair = record { s = lit< tt; x = lit< tt };
      mark = record { desk = lit< tt; transaction = lit< tt };
      edition = lit< tt;
      from = lit< tt;
      original = lit< tt;
      translation = lit< tt;
    }

pub sound_none : (c : ℕ) → T (entry_sound c no_entry)
unfolding entry_sound all all_from
sound_none c = rw (leb-zero c) tt

no_card_lem : (f : Format) (c : ℕ) → GoodCard f c (no_card f)
no_card_lem f c =
    record {
      count = length-replicate (translations f) no_translation;
      fits = λ t h. subst FitsEntry (sym (no_view f t)) fits_none;
      rules = λ t h. subst (λ (e : Entry). T (entry_sound c e)) (sym (no_view f t)) (sound_none c);
      bytes = λ side. subst Bytes (sym (side_empty f side)) Bytes_nil;
    }

fresh_good : (f : Format) (n c : ℕ) → T (shape_ok f n c) → GoodCards f (fresh_cards f n c)
unfolding fresh_cards
fresh_good f n c ok =
    record {
      shape = rw (length-replicate n (no_card f)) ok;
      each = λ k below. rw (get_or-replicate n k (no_card f) (no_card f) (rw (length-replicate n (no_card f)) at below)) (no_card_lem f c);
    }

fresh_zero : (f : Format) (n c i : ℕ) → get_or (drop header_size (fresh f n c)) i 0 ≡ 0
unfolding fresh
fresh_zero f n c i =
    let rest = size_of f n c - header_size in
    rw (drop_at (header f n c) (replicate rest 0) header_size (length_header f n c)) (zeros_at (replicate rest 0) (zeros_replicate rest) i)

fresh_long : (f : Format) (n c : ℕ) → length (encode f (fresh_cards f n c)) ≡ size_of f n c
unfolding fresh_cards
fresh_long f n c = length_encode f (fresh_cards f n c) ∙ rw (length-replicate n (no_card f))

pub fresh_sound : FreshSound
fresh_sound f n c ok =
    let good = fresh_good f n c ok in
    record {
      cards = fresh_cards_lem f n c;
      good = good;
      sounds = subst (λ (image : List ℕ). T (sound f image)) (fresh_cards_lem f n c) (to_T (sound_encode f (fresh_cards f n c) good));
      zero_after = fresh_zero f n c;
      long = ap length (sym (fresh_cards_lem f n c)) ∙ fresh_long f n c;
    }

-- ---- lengths

-- A room of so many sixteens takes as many times 32 bytes of each card.
thirty_twos : (n m : ℕ) → size_of V1 n (16 * m) ≡ 16 + 32 * (n + m * n)
thirty_twos n m = omega arith

pub largest_image : LargestImage
largest_image n c ok =
    let w = shape V1 n c (from_T (shape_ok V1 n c) ok) in
    let sixteens : c ≡ 16 * (c / 16) = let step = w.steps in omega arith in
    let long : size_of V1 n c ≡ 16 + 32 * (n + c / 16 * n) = ap (size_of V1 n) sixteens ∙ thirty_twos n (c / 16) in
    let within = w.size in
    record { past_32 = omega (arith, long); most = omega (arith, long, within) }

-- ---- the numbers

pub make_listed : MakeListed
make_listed f n c lent = go (makes f n c lent) refl
  where
    go : (made : Bool) → makes f n c lent ≡ made → T (listed make_numbers (make_number f n c lent))
    go true e = rw e tt
    go false e = rw e tt
