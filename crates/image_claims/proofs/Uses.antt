-- The claims on images, used where their hypotheses only just hold: the smallest shape and the largest of each version,
-- no bytes at all, an image of the other version. A stricter hypothesis or a sentence left out is noticed here.
-- Assumes nothing.
use Prim.Native.Nat.{ℕ, ◌%◌, ◌≤◌}
use native.Mathlib.Omega.{arith}
use mathlib.Core.Path.{◌≡◌, refl, subst}
use mathlib.Core.List.{[]}
use mathlib.Core.Bool.{false}
use lib.Dec.{T, lit<}
use lib.ListN.{length, drop, get_or}
use Rattle.lists.specs.Parts.{part, tabulate, concat_map, every, zeros, Bytes}
use Rattle.lists.specs.Le.{le, to_le}
use Rattle.lists.specs.Table.{all, all_from, listed}
use Rattle.formats.specs.Format.{Format, V1, V2}
use Rattle.image.specs.Layout.{shape_ok, size_of, header_size}
use Rattle.guard.specs.Entry.{entry_sound}
use Rattle.image.specs.Bytes.{version_of, count_of, room_of, header, entry_bytes, pad, read_entry, entry_at}
use Rattle.image.specs.Image.{
  GoodCards,
  no_translation,
  bodies,
  encode,
  card_at,
  decode,
  tail_zero,
  translation_sound,
  card_sound,
  header_sound,
  sound,
  fresh,
  fresh_cards,
  makes,
  make_number,
  translation_of,
  good_front,
}
use Rattle.image.specs.Convert.{widened_cards, converted, convert_number}
use Rattle.image_claims.specs.Claims.{make_numbers}
use Rattle.image_claims.specs.Conversion.{Converts}
use Rattle.image_claims.proofs.Conversion.{conversion}
use Rattle.image_claims.proofs.Claims.{sound_reads_back, good_encodes, one_image, number_tells, one_version, no_old_front, fresh_sound, largest_image, make_listed}

-- The smallest shape and the largest ones.
pub smallest1 : T (shape_ok V1 1 16)
unfolding shape_ok all all_from
smallest1 = tt

pub smallest2 : T (shape_ok V2 1 16)
unfolding shape_ok all all_from
smallest2 = tt

pub largest1 : T (shape_ok V1 89 352)
unfolding shape_ok all all_from
largest1 = tt

pub largest2 : T (shape_ok V2 15 864)
unfolding shape_ok all all_from
largest2 = tt

-- ---- a fresh image, each sentence (rule 2.7)

fresh_bytes : (f : Format) (n c : ℕ) → T (shape_ok f n c) → Bytes (fresh f n c)
fresh_bytes f n c h =
    subst Bytes (fresh_sound f n c h).cards (good_encodes f (fresh_cards f n c) (fresh_sound f n c h).good).bytes

zeros_behind : get_or (drop header_size (fresh V2 15 864)) 65519 0 ≡ 0
zeros_behind = (fresh_sound V2 15 864 largest2).zero_after 65519

zeros_beyond : get_or (drop header_size (fresh V1 1 16)) 65536 0 ≡ 0
zeros_beyond = (fresh_sound V1 1 16 smallest1).zero_after 65536

whole_length : length (fresh V1 89 352) ≡ size_of V1 89 352
whole_length = (fresh_sound V1 89 352 largest1).long

-- ---- bytes to cards and back (rules 2.1 and 2.8)

smallest_back : encode V1 (decode V1 (fresh V1 1 16)) ≡ fresh V1 1 16
smallest_back =
    (sound_reads_back V1 (fresh V1 1 16) (fresh_bytes V1 1 16 smallest1) (fresh_sound V1 1 16 smallest1).sounds).same

largest_good : GoodCards V2 (decode V2 (fresh V2 15 864))
largest_good =
    (sound_reads_back V2 (fresh V2 15 864) (fresh_bytes V2 15 864 largest2) (fresh_sound V2 15 864 largest2).sounds).good

cards_back : decode V2 (encode V2 (fresh_cards V2 1 16)) ≡ fresh_cards V2 1 16
cards_back = (good_encodes V2 (fresh_cards V2 1 16) (fresh_sound V2 1 16 smallest2).good).same

cards_sound : T (sound V1 (encode V1 (fresh_cards V1 89 352)))
cards_sound = (good_encodes V1 (fresh_cards V1 89 352) (fresh_sound V1 89 352 largest1).good).sounds

one : (f : Format) (n c : ℕ) → T (shape_ok f n c) → fresh f n c ≡ fresh f n c
one f n c h =
    one_image f (fresh f n c) (fresh f n c) (fresh_bytes f n c h) (fresh_bytes f n c h) (fresh_sound f n c h).sounds
    (fresh_sound f n c h).sounds refl refl (λ k below. refl)

-- ---- the number of the version (rule 15.13)

pub nothing_numbered : version_of [] ≡ 0
unfolding le part
nothing_numbered = refl

nothing_sound : sound V2 [] ≡ false
nothing_sound = number_tells V2 [] (λ e. absurd (omega (arith, nothing_numbered)))

other_version : sound V2 (fresh V1 1 16) ≡ false
other_version = one_version V1 V2 apart (fresh V1 1 16) (fresh_sound V1 1 16 smallest1).sounds
  where
    number : Format → ℕ
    number V1 = 0
    number V2 = 1

    apart : V1 ≡ V2 → ⊥
    apart e = let z : number V1 ≡ number V2 = subst (λ (f : Format). number V1 ≡ number f) e refl in absurd (omega arith)

no_front : good_front [] ≡ false
no_front = no_old_front [] (λ e. absurd (omega (arith, nothing_numbered)))

-- ---- lengths and numbers (rules 2.2 and 5.1)

largest_length : size_of V1 89 352 ≤ 65520
largest_length = (largest_image 89 352 largest1).most

smallest_length : size_of V1 1 16 % 32 ≡ 16
smallest_length = (largest_image 1 16 smallest1).past_32

none_made : T (listed make_numbers (make_number V2 0 0 0))
none_made = make_listed V2 0 0 0

-- ---- a conversion into exactly its bytes, each sentence (rule 15.11)

converts_number : convert_number (fresh V1 1 16) 144 ≡ 0
unfolding decode card_at sound header_sound card_sound translation_sound tail_zero entry_at read_entry fresh encode bodies pad entry_bytes header makes
    shape_ok entry_sound all all_from le to_le part concat_map tabulate every zeros
converts_number = refl

converts : Converts (fresh V1 1 16) 144
converts = conversion (fresh V1 1 16) 144 (fresh_bytes V1 1 16 smallest1) converts_number

converts_bytes : Bytes (converted (fresh V1 1 16))
converts_bytes = converts.bytes

converts_sound : T (sound V2 (converted (fresh V1 1 16)))
converts_sound = converts.sounds

converts_long : length (converted (fresh V1 1 16)) ≡ 144
converts_long = converts.long

converts_count : count_of (converted (fresh V1 1 16)) ≡ count_of (fresh V1 1 16)
converts_count = converts.count

converts_room : room_of (converted (fresh V1 1 16)) ≡ room_of (fresh V1 1 16)
converts_room = converts.room

converts_cards : decode V2 (converted (fresh V1 1 16)) ≡ widened_cards (decode V1 (fresh V1 1 16))
converts_cards = converts.cards

-- The last translation of the only card.
converts_others : translation_of 3 (card_at V2 (converted (fresh V1 1 16)) 0) ≡ no_translation
unfolding fresh header le to_le part
converts_others = (converts.each 0 (lit< tt)).others 3 (lit< tt)
