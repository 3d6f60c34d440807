-- What holds of images and cards, as claims; the theorems stand in proofs/.
-- Assumes nothing.
use Rattle.std.specs.Prelude.{ℕ, ◌%◌, ◌<◌, ◌≤◌, ◌≡◌, List, [], ◌∷◌, length, drop, get_or, false, T}
use Rattle.lists.specs.Parts.{Bytes}
use Rattle.lists.specs.Table.{listed}
use Rattle.formats.specs.Format.{Format, V1, version}
use Rattle.image.specs.Image.{Cards, GoodCards, encode, decode, sound, card_at, fresh, fresh_cards, make_number, good_front}
use Rattle.image.specs.Layout.{shape_ok, size_of, header_size}
use Rattle.image.specs.Bytes.{version_of, count_of, room_of}
use Rattle.numbers.specs.Numbers.{NOT_MADE}

-- A sound image reads back to cards by the rules, and those encode to the same bytes.
pub record ReadsBack (f : Format) (image : List ℕ) : Type 0 where
  pub good : GoodCards f (decode f image)
  pub same : encode f (decode f image) ≡ image

abbrev pub SoundReadsBack : Type 0
SoundReadsBack = (f : Format) (image : List ℕ) → Bytes image → T (sound f image) → ReadsBack f image

-- Cards by the rules encode to a sound image of bytes that reads back to them.
pub record Encodes (f : Format) (cs : Cards) : Type 0 where
  pub bytes : Bytes (encode f cs)
  pub sounds : T (sound f (encode f cs))
  pub same : decode f (encode f cs) ≡ cs

abbrev pub GoodEncodes : Type 0
GoodEncodes = (f : Format) (cs : Cards) → GoodCards f cs → Encodes f cs

-- Rule 2.8: images of one version that say the same are the same bytes.
abbrev pub OneImage : Type 0
OneImage =
    (f : Format) (a b : List ℕ) → Bytes a → Bytes b → T (sound f a) → T (sound f b)
    → count_of a ≡ count_of b
    → room_of a ≡ room_of b
    → ((k : ℕ) → k < count_of a → card_at f a k ≡ card_at f b k)
    → a ≡ b

-- Rule 15.13: bytes whose header has not the number of a version are no sound image of it, whatever else stands there. So no bytes are a sound image of two versions, and
-- none whose header has not the number 1 begin with an image of version 1.
abbrev pub NumberTells : Type 0
NumberTells = (g : Format) (image : List ℕ) → (version_of image ≡ version g → ⊥) → sound g image ≡ false

abbrev pub OneVersion : Type 0
OneVersion = (f g : Format) → (f ≡ g → ⊥) → (image : List ℕ) → T (sound f image) → sound g image ≡ false

abbrev pub NoOldFront : Type 0
NoOldFront = (bytes : List ℕ) → (version_of bytes ≡ version V1 → ⊥) → good_front bytes ≡ false

-- A fresh image is the bytes of empty cards by the rules, is sound, and is all zero after its header.
pub record Fresh (f : Format) (n c : ℕ) : Type 0 where
  pub cards : encode f (fresh_cards f n c) ≡ fresh f n c
  pub good : GoodCards f (fresh_cards f n c)
  pub sounds : T (sound f (fresh f n c))
  pub zero_after : (i : ℕ) → get_or (drop header_size (fresh f n c)) i 0 ≡ 0
  pub long : length (fresh f n c) ≡ size_of f n c

abbrev pub FreshSound : Type 0
FreshSound = (f : Format) (n c : ℕ) → T (shape_ok f n c) → Fresh f n c

-- Rule 2.2: every image of version 1 has 16 bytes more than some multiple of 32, so that the limit itself is the length of none. The largest has 65,520 bytes
-- (Cases).
pub record ImageLength (n c : ℕ) : Type 0 where
  pub past_32 : size_of V1 n c % 32 ≡ 16
  pub most : size_of V1 n c ≤ 65520

abbrev pub LargestImage : Type 0
LargestImage = (n c : ℕ) → T (shape_ok V1 n c) → ImageLength n c

-- Rule 5.1: what making an image may answer, besides 0.
abbrev pub make_numbers : List ℕ
make_numbers = NOT_MADE ∷ []

abbrev pub MakeListed : Type 0
MakeListed = (f : Format) (n c lent : ℕ) → T (listed make_numbers (make_number f n c lent))
