-- Conversion of an image of version 1 into one of version 2.
-- Assumes nothing.
use Rattle.std.specs.Prelude.{ℕ, List, [], ◌∷◌, map, not, cond, ltb, replicate}
use Rattle.lists.specs.Parts.{tabulate}
use Rattle.lists.specs.Table.{Row, row, first}
use Rattle.numbers.specs.Numbers.{UNSOUND, NOT_MADE}
use Rattle.formats.specs.Format.{V1, V2}
use Rattle.image.specs.Bytes.{count_of, room_of}
use Rattle.image.specs.Image.{Card, Cards, translation_of, no_translation, no_card, encode, decode, card_at, sound, makes}

-- A card of version 1 as one of version 2 (rule 15.9): its translation becomes that of language 0, the other three were never written, all else stays.
abbrev pub widened : Card → Card
widened card =
    record {
      pair = card.pair;
      mark = card.mark;
      edition = card.edition;
      original = card.original;
      translated = translation_of 0 card ∷ replicate 3 no_translation;
    }

abbrev pub widened_cards : Cards → Cards
widened_cards cs = record { room = cs.room; cards = map widened cs.cards }

-- The bytes that a conversion makes of an image.
unfoldable pub converted : List ℕ → List ℕ
converted image = encode V2 (widened_cards (decode V1 image))

-- When there is none (rule 15.10): the image is not sound, or what is lent for the new one is not exactly as long as a fresh one of as many cards with the
-- same room, or that breaks the limits.
abbrev pub convert_rows : List ℕ → ℕ → List Row
convert_rows image lent = row (not (sound V1 image)) UNSOUND ∷ row (not (makes V2 (count_of image) (room_of image) lent)) NOT_MADE ∷ []

abbrev pub convert_number : List ℕ → ℕ → ℕ
convert_number image lent = first (convert_rows image lent)

-- On the way: the first k cards of an image widened, and behind them cards with nothing on them.
unfoldable pub widened_up_to : ℕ → List ℕ → Cards
widened_up_to k image =
    record { room = room_of image; cards = tabulate (λ j. cond (ltb j k) (widened (card_at V1 image j)) (no_card V2)) (count_of image) }
