-- The image: cards, their bytes, and when bytes are a sound image (rules 2.1 to 2.9).
-- Assumes nothing.
use Rattle.std.specs.Prelude.{ℕ, zero, suc, ◌+◌, ◌-◌, ◌<◌, ◌≡◌, List, [], ◌∷◌, ◌++◌, Option, Some, None, Bool, ◌&&◌, cond, if◌then◌else◌, length, take, get_or, set, replicate, T, leb, eqb}
use Rattle.lists.specs.Parts.{part, concat_map, tabulate, every, zeros, Bytes}
use Rattle.lists.specs.Le.{le, field}
use Rattle.lists.specs.Table.{all}
use Rattle.commands.specs.Command.{Language, original, translation}
use Rattle.stamps.specs.Stamp.{no_pair, no_mark}
use Rattle.stamps.specs.declared.Mark.{Mark}
use Rattle.stamps.specs.declared.Pair.{Pair}
use Rattle.guard.specs.Entry.{entry_sound, FitsEntry}
use Rattle.guard.specs.declared.Entry.{Entry}
use Rattle.image.specs.declared.Dimensions.{Dimensions}
use Rattle.formats.specs.Format.{Format, V1, version, translations, entry_size}
use Rattle.image.specs.Layout.{sides, size_of, shape_ok, entry_place, entry_end, body_place, header_size}
use Rattle.image.specs.Bytes.{version_of, count_of, room_of, entry_at, magic, header, entry_bytes, pad}
use Rattle.numbers.specs.Numbers.{NOT_MADE}

-- A translation of a card: the edition that it was made from, and its text.
pub record Translation : Type 0 where
  pub from : ℕ
  pub text : List ℕ

-- One card (rule 2.1): the pair, the mark and the edition of its original that the guard keeps, the original, and its translations by their numbers.
pub record Card : Type 0 where
  pub pair : Pair
  pub mark : Mark
  pub edition : ℕ
  pub original : List ℕ
  pub translated : List Translation

-- The cards of a store, and the room C that each text has.
pub record Cards : Type 0 where
  pub room : ℕ
  pub cards : List Card

-- A translation never written, and translation t of a card; one that it does not have says the same.
abbrev pub no_translation : Translation
no_translation = record { from = 0; text = [] }

abbrev pub translation_of : ℕ → Card → Translation
translation_of t card = get_or card.translated t no_translation

-- The card's entry as seen in translation t: what judges a command, and what the store keeps in bytes. Lengths are those of the texts.
abbrev pub view : ℕ → Card → Entry
view t card =
    record {
      pair = card.pair;
      mark = card.mark;
      edition = card.edition;
      from = (translation_of t card).from;
      original = length card.original;
      translation = length (translation_of t card).text;
    }

-- The text of a side: side 0 is the original, side t + 1 is translation t.
abbrev pub side_text : ℕ → Card → List ℕ
side_text zero card = card.original
side_text (suc t) card = (translation_of t card).text

-- The side of a language, and its text.
abbrev pub side_of : Language → ℕ
side_of original = 0
side_of (translation t) = suc t

abbrev pub text : Language → Card → List ℕ
text l card = side_text (side_of l) card

-- A card with nothing on it.
abbrev pub no_card : Format → Card
no_card f =
    record { pair = no_pair; mark = no_mark; edition = 0; original = []; translated = replicate (translations f) no_translation }

-- The cards with another card at place k: every other card stays.
abbrev pub with_card : ℕ → Card → Cards → Cards
with_card k card cs = record { room = cs.room; cards = set cs.cards k card }

-- A card by the rules: as many translations as its version has, in each of them a sound entry, and texts of bytes.
pub record GoodCard (f : Format) (room : ℕ) (card : Card) : Type 0 where
  pub count : length card.translated ≡ translations f
  pub fits : (t : ℕ) → t < translations f → FitsEntry (view t card)
  pub rules : (t : ℕ) → t < translations f → T (entry_sound room (view t card))
  pub bytes : (side : ℕ) → Bytes (side_text side card)

-- Cards by the rules: N and C within the limits, and each card.
pub record GoodCards (f : Format) (cs : Cards) : Type 0 where
  pub shape : T (shape_ok f (length cs.cards) cs.room)
  pub each : (k : ℕ) → k < length cs.cards → GoodCard f cs.room (get_or cs.cards k (no_card f))

-- The bytes of a card's entry, and its bodies side by side.
abbrev pub card_entry : Format → Card → List ℕ
card_entry f card = entry_bytes f (λ t. view t card)

unfoldable pub bodies : Format → ℕ → Card → List ℕ
bodies f room card = concat_map (pad room) (tabulate (λ side. side_text side card) (sides f))

-- The bytes of cards (rules 2.3 to 2.5): the header, the entries, then the bodies card by card.
unfoldable pub encode : Format → Cards → List ℕ
encode f cs =
    header f (length cs.cards) cs.room
    ++ concat_map (card_entry f) cs.cards
    ++ concat_map (bodies f cs.room) cs.cards

-- The length bytes of a side's body.
abbrev pub body_at : Format → List ℕ → ℕ → ℕ → ℕ → List ℕ
body_at f image k side count = part (body_place f (count_of image) (room_of image) k side) count image

-- Card k: what its entry says, its original, and each translation with its text.
abbrev pub translation_at : Format → List ℕ → ℕ → ℕ → Translation
translation_at f image k t =
    record { from = (entry_at f image k t).from; text = body_at f image k (suc t) (entry_at f image k t).translation }

unfoldable pub card_at : Format → List ℕ → ℕ → Card
card_at f image k =
    record {
      pair = (entry_at f image k 0).pair;
      mark = (entry_at f image k 0).mark;
      edition = (entry_at f image k 0).edition;
      original = body_at f image k 0 (entry_at f image k 0).original;
      translated = tabulate (translation_at f image k) (translations f);
    }

-- The cards that an image holds.
unfoldable pub decode : Format → List ℕ → Cards
decode f image = record { room = room_of image; cards = tabulate (card_at f image) (count_of image) }

-- Behind a text its body has zeros (rule 2.6).
unfoldable pub tail_zero : Format → List ℕ → ℕ → ℕ → ℕ → Bool
tail_zero f image k side count =
    zeros (part (body_place f (count_of image) (room_of image) k side + count) (room_of image - count) image)

-- The entry of card k is by the rules as seen in translation t, and behind that text there are zeros.
unfoldable pub translation_sound : Format → List ℕ → ℕ → ℕ → Bool
translation_sound f image k t =
    entry_sound (room_of image) (entry_at f image k t) && tail_zero f image k (suc t) (entry_at f image k t).translation

-- Card k is sound: its zero field, the zeros behind its entry's numbers, each translation, and the original's tail.
unfoldable pub card_sound : Format → List ℕ → ℕ → Bool
card_sound f image k =
    all
    (eqb (field (entry_place f k + 18) 2 image) 0
    ∷ zeros (part (entry_place f k + entry_end f) (entry_size f - entry_end f) image)
    ∷ every (translation_sound f image k) (translations f)
    ∷ tail_zero f image k 0 (entry_at f image k 0).original
    ∷ [])

-- The header by the rules, with N and C within the limits, and as many bytes as they give (rules 2.2, 2.3 and 2.6).
unfoldable pub header_sound : Format → List ℕ → Bool
header_sound f image =
    all
    (eqb (field 0 4 image) (le magic)
    ∷ eqb (version_of image) (version f)
    ∷ shape_ok f (count_of image) (room_of image)
    ∷ zeros (part 10 6 image)
    ∷ eqb (length image) (size_of f (count_of image) (room_of image))
    ∷ [])

-- An image of a version is sound.
unfoldable pub sound : Format → List ℕ → Bool
sound f image = header_sound f image && every (card_sound f image) (count_of image)

-- ---- A fresh image, and when one is made (rule 2.7).

-- Rule 2.7: zeros behind the header.
unfoldable pub fresh : Format → ℕ → ℕ → List ℕ
fresh f n c = header f n c ++ replicate (size_of f n c - header_size) 0

-- The cards of a fresh image.
unfoldable pub fresh_cards : Format → ℕ → ℕ → Cards
fresh_cards f n c = record { room = c; cards = replicate n (no_card f) }

-- Rule 2.7: when an image is made, and the number if it is not.
unfoldable pub makes : Format → ℕ → ℕ → ℕ → Bool
makes f n c lent = shape_ok f n c && eqb lent (size_of f n c)

abbrev pub make_number : Format → ℕ → ℕ → ℕ → ℕ
make_number f n c lent = cond (makes f n c lent) 0 NOT_MADE

-- ---- The image in front of some bytes (rule 2.9), of version 1.

-- How long an image is by its own header.
abbrev pub claimed : List ℕ → ℕ
claimed bytes = size_of V1 (count_of bytes) (room_of bytes)

-- The bytes begin with a sound image: they have a whole header, and as many bytes as it claims, which are sound.
unfoldable pub good_front : List ℕ → Bool
good_front bytes = leb header_size (length bytes) && leb (claimed bytes) (length bytes) && sound V1 (take (claimed bytes) bytes)

-- The size of the image in front, or 0 where the bytes begin with no sound image. (No image has size 0.)
abbrev pub front_size : List ℕ → ℕ
front_size bytes = cond (good_front bytes) (claimed bytes) 0

-- The image in front, if the bytes begin with a sound one: its size, its N and its C.
abbrev pub front_of : List ℕ → Option Dimensions
front_of bytes =
    if good_front bytes then Some (record { size = claimed bytes; cards = count_of bytes; room = room_of bytes }) else None
