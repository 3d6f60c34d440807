-- Worked cases of every layout, in bytes: commands, entries and whole images of both versions, with a number of its
-- own in each field, so that no two fields can be exchanged unnoticed (rules 1.1, 2.3 to 2.5, 3.1, 3.4 and 15.3 to
-- 15.6); and all worked cases of images as one table. Proved by computation in proofs/Cases.antt.
-- Assumes nothing.
use Rattle.std.specs.Prelude.{ℕ, suc, ◌+◌, ◌≡◌, List, [], ◌∷◌, ◌++◌, map, Bool, true, false, set, replicate}
use Rattle.formats.specs.Format.{V1, V2}
use Rattle.lists.specs.Parts.{tabulate}
use Rattle.stamps.specs.Stamp.{stamp, shared, exclusive, no_pair, no_mark}
use Rattle.commands.specs.declared.Command.{Command}
use Rattle.commands.specs.Bytes.{fields_of, payload, formed, command_bytes}
use Rattle.image.specs.Layout.{entry_place, body_place}
use Rattle.image.specs.Bytes.{read_entry}
use Rattle.image.specs.Image.{Cards, Translation, encode, decode, sound, fresh}
use Rattle.image_claims.specs.Cases.{Limits, SecondLimits, ByteChanges}
use Rattle.image_claims.specs.Conversion.{ConvertCases}

-- 1, 2, 3, .. up to n.
abbrev pub rising : ℕ → List ℕ
rising n = tabulate suc n

-- A card with room 16 whose numbers all differ: s 5.6.7, x 8.9.10, mark (11, 12), edition 20.
abbrev pub card_with : List ℕ → List Translation → Cards
card_with original translated =
    record {
      room = 16;
      cards =
          record {
            pair = record { s = stamp 5 6 7; x = stamp 8 9 10 };
            mark = record { desk = 11; transaction = 12 };
            edition = 20;
            original = original;
            translated = translated;
          }
          ∷ [];
    }

abbrev pub from : ℕ → List ℕ → Translation
from edition text = record { from = edition; text = text }

-- With one translation, of edition 13, and with four, of editions 13 to 16; the bytes of both images, sixteen to a
-- line.
abbrev pub card_in1 : Cards
card_in1 = card_with (50 ∷ 48 ∷ 53 ∷ []) (from 13 (52 ∷ 48 ∷ []) ∷ [])

abbrev pub image_of1 : List ℕ
image_of1 =
    (82 ∷ 67 ∷ 49 ∷ 0 ∷ 1 ∷ 0 ∷ 1 ∷ 0 ∷ 16 ∷ 0 ∷ 0 ∷ 0 ∷ 0 ∷ 0 ∷ 0 ∷ 0 ∷ [])
    ++ (7 ∷ 0 ∷ 6 ∷ 0 ∷ 5 ∷ 0 ∷ 0 ∷ 0 ∷ 10 ∷ 0 ∷ 9 ∷ 0 ∷ 8 ∷ 0 ∷ 0 ∷ 0 ∷ [])
    ++ (11 ∷ 0 ∷ 0 ∷ 0 ∷ 12 ∷ 0 ∷ 0 ∷ 0 ∷ 20 ∷ 0 ∷ 13 ∷ 0 ∷ 3 ∷ 0 ∷ 2 ∷ 0 ∷ [])
    ++ (50 ∷ 48 ∷ 53 ∷ 0 ∷ 0 ∷ 0 ∷ 0 ∷ 0 ∷ 0 ∷ 0 ∷ 0 ∷ 0 ∷ 0 ∷ 0 ∷ 0 ∷ 0 ∷ [])
    ++ (52 ∷ 48 ∷ 0 ∷ 0 ∷ 0 ∷ 0 ∷ 0 ∷ 0 ∷ 0 ∷ 0 ∷ 0 ∷ 0 ∷ 0 ∷ 0 ∷ 0 ∷ 0 ∷ [])

abbrev pub card_in2 : Cards
card_in2 =
    card_with (50 ∷ 48 ∷ 53 ∷ 53 ∷ 53 ∷ [])
    (from 13 (replicate 1 65) ∷ from 14 (replicate 2 66) ∷ from 15 (replicate 3 67) ∷ from 16 (replicate 4 68) ∷ [])

abbrev pub image_of2 : List ℕ
image_of2 =
    (82 ∷ 67 ∷ 49 ∷ 0 ∷ 2 ∷ 0 ∷ 1 ∷ 0 ∷ 16 ∷ 0 ∷ 0 ∷ 0 ∷ 0 ∷ 0 ∷ 0 ∷ 0 ∷ [])
    ++ (7 ∷ 0 ∷ 6 ∷ 0 ∷ 5 ∷ 0 ∷ 0 ∷ 0 ∷ 10 ∷ 0 ∷ 9 ∷ 0 ∷ 8 ∷ 0 ∷ 0 ∷ 0 ∷ [])
    ++ (11 ∷ 0 ∷ 0 ∷ 0 ∷ 12 ∷ 0 ∷ 0 ∷ 0 ∷ 20 ∷ 0 ∷ 5 ∷ 0 ∷ 13 ∷ 0 ∷ 14 ∷ 0 ∷ [])
    ++ (15 ∷ 0 ∷ 16 ∷ 0 ∷ 1 ∷ 0 ∷ 2 ∷ 0 ∷ 3 ∷ 0 ∷ 4 ∷ 0 ∷ 0 ∷ 0 ∷ 0 ∷ 0 ∷ [])
    ++ (50 ∷ 48 ∷ 53 ∷ 53 ∷ 53 ∷ 0 ∷ 0 ∷ 0 ∷ 0 ∷ 0 ∷ 0 ∷ 0 ∷ 0 ∷ 0 ∷ 0 ∷ 0 ∷ [])
    ++ (65 ∷ 0 ∷ 0 ∷ 0 ∷ 0 ∷ 0 ∷ 0 ∷ 0 ∷ 0 ∷ 0 ∷ 0 ∷ 0 ∷ 0 ∷ 0 ∷ 0 ∷ 0 ∷ [])
    ++ (66 ∷ 66 ∷ 0 ∷ 0 ∷ 0 ∷ 0 ∷ 0 ∷ 0 ∷ 0 ∷ 0 ∷ 0 ∷ 0 ∷ 0 ∷ 0 ∷ 0 ∷ 0 ∷ [])
    ++ (67 ∷ 67 ∷ 67 ∷ 0 ∷ 0 ∷ 0 ∷ 0 ∷ 0 ∷ 0 ∷ 0 ∷ 0 ∷ 0 ∷ 0 ∷ 0 ∷ 0 ∷ 0 ∷ [])
    ++ (68 ∷ 68 ∷ 68 ∷ 68 ∷ 0 ∷ 0 ∷ 0 ∷ 0 ∷ 0 ∷ 0 ∷ 0 ∷ 0 ∷ 0 ∷ 0 ∷ 0 ∷ 0 ∷ [])

-- The write of rule 3.4, the shared verify there that opens a session, and the write in language 1 at the end of
-- section 15, in bytes.
abbrev pub write205 : List ℕ
write205 = (3 ∷ 2 ∷ 0 ∷ 0 ∷ 0 ∷ 0 ∷ 1 ∷ 0 ∷ 1 ∷ 0 ∷ 0 ∷ 0 ∷ 0 ∷ 0 ∷ 1 ∷ 0 ∷ 1 ∷ 0 ∷ 0 ∷ 0 ∷ []) ++ (replicate 30 0 ++ (3 ∷ 0 ∷ 50 ∷ 48 ∷ 53 ∷ []))

abbrev pub verify_new : List ℕ
verify_new =
    (5 ∷ 1 ∷ 0 ∷ 0 ∷ 0 ∷ 0 ∷ 0 ∷ 0 ∷ 0 ∷ 0 ∷ 0 ∷ 0 ∷ 0 ∷ 0 ∷ 1 ∷ 0 ∷ 1 ∷ 0 ∷ 0 ∷ 0 ∷ [])
    ++ (0 ∷ 0 ∷ 2 ∷ 0 ∷ 2 ∷ 0 ∷ 0 ∷ 0 ∷ 0 ∷ 0 ∷ 1 ∷ 0 ∷ 1 ∷ 0 ∷ 0 ∷ 0 ∷ [])
    ++ replicate 16 0

abbrev pub write402 : List ℕ
write402 =
    (4 ∷ 2 ∷ 0 ∷ 0 ∷ 0 ∷ 0 ∷ 1 ∷ 0 ∷ 1 ∷ 0 ∷ 0 ∷ 0 ∷ 0 ∷ 0 ∷ 1 ∷ 0 ∷ 1 ∷ 0 ∷ 0 ∷ 0 ∷ [])
    ++ (1 ∷ replicate 15 0)
    ++ (1 ∷ 0 ∷ 7 ∷ 0 ∷ 0 ∷ 0 ∷ 1 ∷ 0 ∷ 7 ∷ 0 ∷ 0 ∷ 0 ∷ 2 ∷ 0 ∷ 3 ∷ 0 ∷ [])
    ++ replicate 16 0
    ++ (52 ∷ 48 ∷ 50 ∷ [])

-- Those three by their numbers.
abbrev pub numbers205 : Command
numbers205 =
    record {
      act = 3;
      mode = exclusive;
      language = 0;
      card = 0;
      verifier = record { s = stamp 1 1 0; x = stamp 1 1 0 };
      opened = no_pair;
      expected = no_mark;
      next = no_mark;
      edition = 0;
      length = 3;
    }

abbrev pub numbers_new : Command
numbers_new =
    record {
      act = 5;
      mode = shared;
      language = 0;
      card = 0;
      verifier = record { s = 0; x = stamp 1 1 0 };
      opened = record { s = stamp 2 2 0; x = stamp 1 1 0 };
      expected = no_mark;
      next = no_mark;
      edition = 0;
      length = 0;
    }

abbrev pub numbers402 : Command
numbers402 =
    record {
      act = 4;
      mode = exclusive;
      language = 1;
      card = 0;
      verifier = record { s = stamp 1 1 0; x = stamp 1 1 0 };
      opened = no_pair;
      expected = record { desk = 1; transaction = 7 };
      next = record { desk = 1; transaction = 7 };
      edition = 2;
      length = 3;
    }

-- Whether the image of version 2 is sound with another byte at a place, or at each of four places two bytes apart.
abbrev pub changed_at : ℕ → Bool
changed_at at = sound V2 (set image_of2 at 255)

abbrev pub sound_with : ℕ → ℕ → List Bool
sound_with at byte = map (λ (t : ℕ). sound V2 (set image_of2 (at + t) byte)) (0 ∷ 2 ∷ 4 ∷ 6 ∷ [])

abbrev pub in_each : Bool → List Bool
in_each b = replicate 4 b

pub record LayoutCases : Type 0 where
  -- rule 1.1: T, desk and start
  pub parts : stamp 1 2 3 ≡ 4295098371
  -- rules 3.1 and 15.6: the numbers of a command whose bytes are 1, 2, 3, .., and where its payload begins
  pub command1 :
      fields_of V1 (rising 52)
      ≡ record {
        act = 1;
        mode = 2;
        language = 0;
        card = 1027;
        verifier = record { s = 867798387104613893; x = 1446519769809227277 };
        opened = record { s = 2025241152513840661; x = 2603962535218454045 };
        expected = record { desk = 9765; transaction = 707340327 };
        next = record { desk = 11307; transaction = 808398381 };
        edition = 12849;
        length = 13363;
      }
  pub command2 :
      fields_of V2 (rising 68)
      ≡ record {
        act = 1;
        mode = 2;
        language = 21;
        card = 1027;
        verifier = record { s = 867798387104613893; x = 1446519769809227277 };
        opened = record { s = 4340126683332294197; x = 4918848066036907581 };
        expected = record { desk = 9765; transaction = 707340327 };
        next = record { desk = 11307; transaction = 808398381 };
        edition = 12849;
        length = 13363;
      }
  pub payload1 : payload V1 (rising 54) ≡ 53 ∷ 54 ∷ []
  pub payload2 : payload V2 (rising 70) ≡ 69 ∷ 70 ∷ []
  -- rules 3.4 and 15.6: three commands from numbers to bytes; they are well formed, and one with a byte of 21 to 35
  -- set, or with language 4, is not
  pub bytes1 : command_bytes V1 numbers205 (50 ∷ 48 ∷ 53 ∷ []) ≡ write205
  pub bytes_new : command_bytes V1 numbers_new [] ≡ verify_new
  pub bytes2 : command_bytes V2 numbers402 (52 ∷ 48 ∷ 50 ∷ []) ≡ write402
  pub formed1 : map (formed V1) (write205 ∷ verify_new ∷ write402 ∷ []) ≡ true ∷ true ∷ false ∷ []
  pub formed2 :
      map (formed V2) (write402 ∷ set write402 20 3 ∷ set write402 20 4 ∷ set write402 21 1 ∷ set write402 35 1 ∷ (write402 ++ (0 ∷ [])) ∷ write205 ∷ [])
      ≡ true ∷ true ∷ false ∷ false ∷ false ∷ false ∷ false ∷ []
  -- rules 2.4 and 15.3: the numbers of an entry whose bytes are 1, 2, 3, .., in each translation
  pub entry1 :
      read_entry V1 0 (rising 32)
      ≡ record {
        pair = record { s = 578437695752307201; x = 1157159078456920585 };
        mark = record { desk = 4625; transaction = 404166165 };
        edition = 6681;
        from = 7195;
        original = 7709;
        translation = 8223;
      }
  pub entry2_0 :
      read_entry V2 0 (rising 48)
      ≡ record {
        pair = record { s = 578437695752307201; x = 1157159078456920585 };
        mark = record { desk = 4625; transaction = 404166165 };
        edition = 6681;
        from = 7709;
        original = 7195;
        translation = 9765;
      }
  pub entry2_1 :
      read_entry V2 1 (rising 48)
      ≡ record {
        pair = record { s = 578437695752307201; x = 1157159078456920585 };
        mark = record { desk = 4625; transaction = 404166165 };
        edition = 6681;
        from = 8223;
        original = 7195;
        translation = 10279;
      }
  pub entry2_2 :
      read_entry V2 2 (rising 48)
      ≡ record {
        pair = record { s = 578437695752307201; x = 1157159078456920585 };
        mark = record { desk = 4625; transaction = 404166165 };
        edition = 6681;
        from = 8737;
        original = 7195;
        translation = 10793;
      }
  pub entry2_3 :
      read_entry V2 3 (rising 48)
      ≡ record {
        pair = record { s = 578437695752307201; x = 1157159078456920585 };
        mark = record { desk = 4625; transaction = 404166165 };
        edition = 6681;
        from = 9251;
        original = 7195;
        translation = 11307;
      }
  -- rules 2.3 to 2.5 and 15.3 to 15.5: whole images, both ways, and sound
  pub image1 : encode V1 card_in1 ≡ image_of1
  pub image2 : encode V2 card_in2 ≡ image_of2
  pub back1 : decode V1 image_of1 ≡ card_in1
  pub back2 : decode V2 image_of2 ≡ card_in2
  pub sounds : (sound V1 image_of1 ≡ true) × (sound V2 image_of2 ≡ true)
  -- each version is unsound in the other, and a byte set at 44 to 47 of an entry of version 2 makes it so
  pub other : (sound V2 image_of1 ≡ false) × (sound V1 image_of2 ≡ false)
  pub behind : map (λ (at : ℕ). sound V2 (set image_of2 (16 + at) 1)) (44 ∷ 45 ∷ 46 ∷ 47 ∷ []) ≡ replicate 4 false
  -- rule 15.5: each language by itself. Translated-from of languages 0 to 3 as new as the edition, newer, and none; their lengths up to the room, past it,
  -- and less than what stands in the body
  pub froms : map (sound_with 44) (20 ∷ 21 ∷ 0 ∷ []) ≡ in_each true ∷ in_each false ∷ in_each false ∷ []
  pub lengths : map (sound_with 52) (16 ∷ 17 ∷ 0 ∷ []) ≡ in_each true ∷ in_each false ∷ in_each false ∷ []
  -- an edition as new as what language 3 was made from, and one older; the original's length up to the room, and past it
  pub editions : map (λ (b : ℕ). sound V2 (set image_of2 40 b)) (16 ∷ 15 ∷ []) ≡ true ∷ false ∷ []
  pub originals : map (λ (b : ℕ). sound V2 (set image_of2 42 b)) (16 ∷ 17 ∷ 4 ∷ []) ≡ true ∷ false ∷ false ∷ []
  -- the last byte of each text, the first behind it and the last of its body, from the original on
  pub texts : map changed_at (68 ∷ 80 ∷ 97 ∷ 114 ∷ 131 ∷ []) ≡ replicate 5 true
  pub first_behind : map changed_at (69 ∷ 81 ∷ 98 ∷ 115 ∷ 132 ∷ []) ≡ replicate 5 false
  pub last_behind : map changed_at (79 ∷ 95 ∷ 111 ∷ 127 ∷ 143 ∷ []) ≡ replicate 5 false
  -- rules 2.6 and 15.5: the second of two cards with room 16, nothing on them, and a byte set to 1. An edition without a text may be; the zero field, a
  -- translated-from that is newer, the zeros behind the numbers, and the first and last byte of its bodies may not
  pub second1 : map (λ (at : ℕ). sound V1 (set (fresh V1 2 16) at 1)) (72 ∷ 66 ∷ 74 ∷ 112 ∷ 143 ∷ []) ≡ true ∷ replicate 4 false
  pub second2 : map (λ (at : ℕ). sound V2 (set (fresh V2 2 16) at 1)) (88 ∷ 82 ∷ 92 ∷ 98 ∷ 108 ∷ 111 ∷ 192 ∷ 271 ∷ []) ≡ true ∷ replicate 7 false
  -- rules 2.4, 2.5, 15.3 and 15.4: where entry 2 and the bodies of card 2 stand, among three cards with room 32
  pub places1 : entry_place V1 2 ∷ body_place V1 3 32 2 0 ∷ body_place V1 3 32 2 1 ∷ [] ≡ 80 ∷ 240 ∷ 272 ∷ []
  pub places2 : entry_place V2 2 ∷ map (body_place V2 3 32 2) (0 ∷ 1 ∷ 2 ∷ 3 ∷ 4 ∷ []) ≡ 112 ∷ 480 ∷ 512 ∷ 544 ∷ 576 ∷ 608 ∷ []

-- One table of the worked cases of images: limits of both versions, changed bytes, layouts and conversions.
abbrev pub ImageCases : Type 0
ImageCases = Limits × (SecondLimits × (ByteChanges × (LayoutCases × ConvertCases)))
