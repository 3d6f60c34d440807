-- What a conversion keeps, as claims and as worked cases; the theorems stand in proofs/.
-- Assumes nothing.
use Rattle.std.specs.Prelude.{ℕ, ◌<◌, ◌≡◌, List, [], ◌∷◌, ◌++◌, map, true, false, T, length, set, replicate}
use Rattle.lists.specs.Parts.{Bytes}
use Rattle.lists.specs.Table.{Row}
use Rattle.formats.specs.Format.{V1, V2}
use Rattle.image.specs.Bytes.{count_of, room_of}
use Rattle.image.specs.Image.{Card, translation_of, no_translation, card_at, encode, decode, sound}
use Rattle.image.specs.Convert.{widened_cards, converted, convert_rows, convert_number}
use Rattle.image_claims.specs.Cases.{one_card}

-- Rule 15.9: a card keeps its stamps, its mark, its edition and its original; its translation is that of language 0, and no other language was ever written.
pub record Keeps (old new : Card) : Type 0 where
  pub pair : new.pair ≡ old.pair
  pub mark : new.mark ≡ old.mark
  pub edition : new.edition ≡ old.edition
  pub original : new.original ≡ old.original
  pub first : translation_of 0 new ≡ translation_of 0 old
  pub others : (t : ℕ) → 0 < t → translation_of t new ≡ no_translation

-- Rule 15.11: a conversion that is answered 0 leaves a sound image of version 2, as long as what was lent, of as many cards with the same room, and keeps each card.
pub record Converts (image : List ℕ) (lent : ℕ) : Type 0 where
  pub bytes : Bytes (converted image)
  pub sounds : T (sound V2 (converted image))
  pub long : length (converted image) ≡ lent
  pub count : count_of (converted image) ≡ count_of image
  pub room : room_of (converted image) ≡ room_of image
  pub cards : decode V2 (converted image) ≡ widened_cards (decode V1 image)
  pub each : (k : ℕ) → k < count_of image → Keeps (card_at V1 image k) (card_at V2 (converted image) k)

abbrev pub Conversion : Type 0
Conversion = (image : List ℕ) (lent : ℕ) → Bytes image → convert_number image lent ≡ 0 → Converts image lent

-- ---- Worked cases: the image of one card, converted, and the numbers for it and for one with its zero field broken (rule 15.10).

-- The header of version 2; the stamps; the mark; edition 2, 3 bytes of original; made from edition 1, and three times none; 2 bytes, and three times none;
-- the zeros behind; the original, the translation, and three empty bodies.
abbrev pub one_converted : List ℕ
one_converted =
    (0x52 ∷ 0x43 ∷ 0x31 ∷ 0 ∷ 2 ∷ 0 ∷ 1 ∷ 0 ∷ 16 ∷ 0 ∷ 0 ∷ 0 ∷ 0 ∷ 0 ∷ 0 ∷ 0 ∷ [])
    ++ (0 ∷ 0 ∷ 1 ∷ 0 ∷ 1 ∷ 0 ∷ 0 ∷ 0 ∷ [])
    ++ (0 ∷ 0 ∷ 1 ∷ 0 ∷ 1 ∷ 0 ∷ 0 ∷ 0 ∷ [])
    ++ (1 ∷ 0 ∷ 0 ∷ 0 ∷ 7 ∷ 0 ∷ 0 ∷ 0 ∷ [])
    ++ (2 ∷ 0 ∷ 3 ∷ 0 ∷ [])
    ++ (1 ∷ 0 ∷ 0 ∷ 0 ∷ 0 ∷ 0 ∷ 0 ∷ 0 ∷ [])
    ++ (2 ∷ 0 ∷ 0 ∷ 0 ∷ 0 ∷ 0 ∷ 0 ∷ 0 ∷ [])
    ++ replicate 4 0
    ++ (50 ∷ 48 ∷ 53 ∷ [])
    ++ replicate 13 0
    ++ (52 ∷ 48 ∷ [])
    ++ replicate 62 0

-- Two cards with room 16, a number of its own in each field, and what a conversion makes of them: sixteen bytes to a line, and three empty bodies behind the
-- two of each card.
abbrev pub text16 : List ℕ → ℕ → List ℕ
text16 text behind = text ++ replicate behind 0

abbrev pub stamps0 : List ℕ
stamps0 = 7 ∷ 0 ∷ 6 ∷ 0 ∷ 5 ∷ 0 ∷ 0 ∷ 0 ∷ 10 ∷ 0 ∷ 9 ∷ 0 ∷ 8 ∷ 0 ∷ 0 ∷ 0 ∷ []

abbrev pub stamps1 : List ℕ
stamps1 = 23 ∷ 0 ∷ 22 ∷ 0 ∷ 21 ∷ 0 ∷ 0 ∷ 0 ∷ 26 ∷ 0 ∷ 25 ∷ 0 ∷ 24 ∷ 0 ∷ 0 ∷ 0 ∷ []

abbrev pub two_cards : List ℕ
two_cards =
    (0x52 ∷ 0x43 ∷ 0x31 ∷ 0 ∷ 1 ∷ 0 ∷ 2 ∷ 0 ∷ 16 ∷ 0 ∷ 0 ∷ 0 ∷ 0 ∷ 0 ∷ 0 ∷ 0 ∷ [])
    ++ stamps0
    ++ (11 ∷ 0 ∷ 0 ∷ 0 ∷ 12 ∷ 0 ∷ 0 ∷ 0 ∷ 20 ∷ 0 ∷ 13 ∷ 0 ∷ 3 ∷ 0 ∷ 2 ∷ 0 ∷ [])
    ++ stamps1
    ++ (27 ∷ 0 ∷ 0 ∷ 0 ∷ 28 ∷ 0 ∷ 0 ∷ 0 ∷ 19 ∷ 0 ∷ 17 ∷ 0 ∷ 1 ∷ 0 ∷ 4 ∷ 0 ∷ [])
    ++ text16 (50 ∷ 48 ∷ 53 ∷ []) 13
    ++ text16 (52 ∷ 48 ∷ []) 14
    ++ text16 (57 ∷ []) 15
    ++ text16 (65 ∷ 66 ∷ 67 ∷ 68 ∷ []) 12

abbrev pub two_converted : List ℕ
two_converted =
    (0x52 ∷ 0x43 ∷ 0x31 ∷ 0 ∷ 2 ∷ 0 ∷ 2 ∷ 0 ∷ 16 ∷ 0 ∷ 0 ∷ 0 ∷ 0 ∷ 0 ∷ 0 ∷ 0 ∷ [])
    ++ stamps0
    ++ (11 ∷ 0 ∷ 0 ∷ 0 ∷ 12 ∷ 0 ∷ 0 ∷ 0 ∷ 20 ∷ 0 ∷ 3 ∷ 0 ∷ 13 ∷ 0 ∷ 0 ∷ 0 ∷ [])
    ++ (0 ∷ 0 ∷ 0 ∷ 0 ∷ 2 ∷ 0 ∷ 0 ∷ 0 ∷ 0 ∷ 0 ∷ 0 ∷ 0 ∷ 0 ∷ 0 ∷ 0 ∷ 0 ∷ [])
    ++ stamps1
    ++ (27 ∷ 0 ∷ 0 ∷ 0 ∷ 28 ∷ 0 ∷ 0 ∷ 0 ∷ 19 ∷ 0 ∷ 1 ∷ 0 ∷ 17 ∷ 0 ∷ 0 ∷ 0 ∷ [])
    ++ (0 ∷ 0 ∷ 0 ∷ 0 ∷ 4 ∷ 0 ∷ 0 ∷ 0 ∷ 0 ∷ 0 ∷ 0 ∷ 0 ∷ 0 ∷ 0 ∷ 0 ∷ 0 ∷ [])
    ++ text16 (50 ∷ 48 ∷ 53 ∷ []) 13
    ++ text16 (52 ∷ 48 ∷ []) 62
    ++ text16 (57 ∷ []) 15
    ++ text16 (65 ∷ 66 ∷ 67 ∷ 68 ∷ []) 60

pub record ConvertCase : Type 0 where
  pub source : List ℕ
  pub lent : ℕ
  pub number : ℕ

abbrev pub lending : List ℕ → ℕ → ℕ → ConvertCase
lending source lent number = record { source = source; lent = lent; number = number }

abbrev pub conversions : List ConvertCase
conversions =
    lending (encode V1 one_card) 144 0
    ∷ lending (encode V1 one_card) 143 14
    ∷ lending (encode V1 one_card) 145 14
    ∷ lending (encode V1 one_card) 80 14
    ∷ lending (encode V1 one_card) 0 14
    -- two cards
    ∷ lending two_cards 272 0
    ∷ lending two_cards 144 14
    -- its zero field broken: whatever is lent
    ∷ lending (set (encode V1 one_card) 34 1) 144 9
    ∷ lending (set (encode V1 one_card) 34 1) 143 9
    -- nothing, and an image of version 2
    ∷ lending [] 0 9
    ∷ lending one_converted 144 9
    ∷ []

-- A header alone of so many cards with room 1,024: no sound image, so row 9 applies to it; whether row 14 does is told by N, C and what is lent.
abbrev pub header_with : ℕ → List ℕ
header_with n = 0x52 ∷ 0x43 ∷ 0x31 ∷ 0 ∷ 1 ∷ 0 ∷ n ∷ 0 ∷ 0 ∷ 4 ∷ replicate 6 0

pub record ConvertCases : Type 0 where
  pub image : converted (encode V1 one_card) ≡ one_converted
  pub two : converted two_cards ≡ two_converted
  pub numbers : map (λ (a : ConvertCase). convert_number a.source a.lent) conversions ≡ map (λ (a : ConvertCase). a.number) conversions
  -- twelve such cards have room for four translations, in exactly as many bytes; thirteen have not, whatever is lent
  pub twelve : map (λ (lent : ℕ). map (λ (r : Row). r.applies) (convert_rows (header_with 12) lent)) (62032 ∷ 62031 ∷ []) ≡ (true ∷ false ∷ []) ∷ (true ∷ true ∷ []) ∷ []
  pub thirteen : map (λ (lent : ℕ). map (λ (r : Row). r.applies) (convert_rows (header_with 13) lent)) (67200 ∷ 65536 ∷ []) ≡ (true ∷ true ∷ []) ∷ (true ∷ true ∷ []) ∷ []
