-- Worked cases: the neighbours of every limit of an image that is made (rules 2.2 and 2.7), and one image with one byte changed
-- (rule 2.6).
-- Assumes nothing.
use Rattle.std.specs.Prelude.{ℕ, ◌≡◌, List, [], ◌∷◌, map, Bool, true, false, set}
use Rattle.formats.specs.Format.{V1, V2}
use Rattle.image.specs.Image.{Cards, encode, sound, make_number}

-- N, C, the lent length, and the number that making a fresh image gives.
pub record MakeCase : Type 0 where
  pub n : ℕ
  pub c : ℕ
  pub lent : ℕ
  pub number : ℕ

abbrev pub asked : ℕ → ℕ → ℕ → ℕ → MakeCase
asked n c lent number = record { n = n; c = c; lent = lent; number = number }

abbrev pub limits : List MakeCase
limits =
    -- trial m: at room 1,024 thirty-one cards fit, thirty-two do not
    asked 31 1024 64496 0
    ∷ asked 32 1024 66576 14
    -- the limits of N
    ∷ asked 0 16 16 14
    ∷ asked 1 16 80 0
    ∷ asked 128 16 8208 0
    ∷ asked 129 16 8272 14
    -- the limits of C
    ∷ asked 1 0 48 14
    ∷ asked 1 15 78 14
    ∷ asked 1 1024 2096 0
    ∷ asked 1 1025 2098 14
    ∷ asked 1 1040 2128 14
    -- C by sixteens
    ∷ asked 1 17 82 14
    ∷ asked 1 24 96 14
    ∷ asked 1 31 110 14
    ∷ asked 1 32 112 0
    -- the largest whole within the limit, and the next: no N and C give 65,536 bytes
    ∷ asked 89 352 65520 0
    ∷ asked 32 1008 65552 14
    ∷ asked 64 496 65552 14
    ∷ asked 128 240 65552 14
    -- the most cards, with the most room that they can have
    ∷ asked 128 224 61456 0
    -- the lent length
    ∷ asked 1 16 79 14
    ∷ asked 1 16 81 14
    ∷ asked 1 16 0 14
    ∷ asked 89 352 65536 14
    ∷ []

abbrev pub Limits : Type 0
Limits = map (λ (a : MakeCase). make_number V1 a.n a.c a.lent) limits ≡ map (λ (a : MakeCase). a.number) limits

-- The same of version 2 (rules 15.2 and 15.5).
abbrev pub second_limits : List MakeCase
second_limits =
    -- at room 1,024 twelve cards fit, thirteen do not
    asked 12 1024 62032 0
    ∷ asked 13 1024 67200 14
    -- the limits of N and C are those of version 1
    ∷ asked 0 16 16 14
    ∷ asked 1 16 144 0
    ∷ asked 128 16 16400 0
    ∷ asked 129 16 16528 14
    ∷ asked 1 0 64 14
    ∷ asked 1 1024 5184 0
    ∷ asked 1 1040 5264 14
    ∷ asked 1 24 184 14
    -- two shapes have exactly as many bytes as an image may have, the next ones 65,552
    ∷ asked 15 864 65536 0
    ∷ asked 65 192 65536 0
    ∷ asked 32 400 65552 14
    -- the most cards, with the most room that they can have
    ∷ asked 128 80 57360 0
    ∷ asked 128 96 67600 14
    -- the lent length, and that of version 1
    ∷ asked 1 16 143 14
    ∷ asked 1 16 145 14
    ∷ asked 1 16 80 14
    ∷ []

abbrev pub SecondLimits : Type 0
SecondLimits = map (λ (a : MakeCase). make_number V2 a.n a.c a.lent) second_limits ≡ map (λ (a : MakeCase). a.number) second_limits

-- One card with both stamps 1.1.0, the mark of desk 1 and transaction 7, edition 2, a translation from edition 1, and texts of 3 and 2 bytes.
abbrev pub one_card : Cards
one_card =
    record {
      room = 16;
      cards =
          record {
            pair = record { s = 4295032832; x = 4295032832 };
            mark = record { desk = 1; transaction = 7 };
            edition = 2;
            original = 50 ∷ 48 ∷ 53 ∷ [];
            translated = record { from = 1; text = 52 ∷ 48 ∷ [] } ∷ [];
          }
          ∷ [];
    }

-- A place of its image, the byte put there, and whether the image is sound then.
pub record Changed : Type 0 where
  pub place : ℕ
  pub byte : ℕ
  pub sounds : Bool

abbrev pub changed : ℕ → ℕ → Bool → Changed
changed place byte sounds = record { place = place; byte = byte; sounds = sounds }

abbrev pub changes : List Changed
changes =
    -- the first bytes and the version
    changed 0 0x52 true
    ∷ changed 0 0x53 false
    ∷ changed 3 1 false
    ∷ changed 4 2 false
    ∷ changed 4 0 false
    ∷ changed 5 1 false
    -- N and C that are not the lent length's
    ∷ changed 6 2 false
    ∷ changed 6 0 false
    ∷ changed 8 32 false
    -- the header's zeros
    ∷ changed 10 1 false
    ∷ changed 15 1 false
    -- stamps
    ∷ changed 18 0 false
    ∷ changed 18 2 true
    ∷ changed 26 0 false
    -- the commit mark
    ∷ changed 32 0 false
    ∷ changed 36 0 false
    ∷ changed 36 1 true
    -- the zero field
    ∷ changed 34 1 false
    ∷ changed 35 1 false
    -- texts and editions
    ∷ changed 40 0 false
    ∷ changed 40 1 true
    ∷ changed 42 2 true
    ∷ changed 42 3 false
    ∷ changed 42 0 false
    -- lengths, and the bytes behind a text
    ∷ changed 44 2 false
    ∷ changed 44 16 true
    ∷ changed 44 17 false
    ∷ changed 46 1 false
    ∷ changed 46 16 true
    ∷ changed 46 17 false
    ∷ changed 50 255 true
    ∷ changed 51 1 false
    ∷ changed 63 1 false
    ∷ changed 65 255 true
    ∷ changed 66 1 false
    ∷ changed 79 1 false
    ∷ []

abbrev pub ByteChanges : Type 0
ByteChanges = map (λ (a : Changed). sound V1 (set (encode V1 one_card) a.place a.byte)) changes ≡ map (λ (a : Changed). a.sounds) changes
