-- The bytes of a header, of an entry and of a body (rules 2.3 to 2.5).
-- Assumes nothing.
use Rattle.std.specs.Prelude.{ℕ, ◌+◌, ◌*◌, List, [], ◌∷◌, ◌++◌, take, replicate}
use Rattle.lists.specs.Le.{to_le, field}
use Rattle.commands.specs.Bytes.{pair_at, pair_bytes}
use Rattle.guard.specs.declared.Entry.{Entry}
use Rattle.stamps.specs.declared.Mark.{Mark}
use Rattle.lists.specs.Parts.{part, concat_map, tabulate}
use Rattle.formats.specs.Format.{Format, V1, V2, version, translations, entry_size, original_at, froms_at, lengths_at}
use Rattle.image.specs.Layout.{entry_place}

-- The header's first numbers, and the whole header (rule 2.3).
abbrev pub magic : List ℕ
magic = 0x52 ∷ 0x43 ∷ 0x31 ∷ 0x00 ∷ []

abbrev pub header_numbers : Format → ℕ → ℕ → List ℕ
header_numbers f n c = magic ++ to_le 2 (version f) ++ to_le 2 n ++ to_le 2 c

unfoldable pub header : Format → ℕ → ℕ → List ℕ
header f n c = header_numbers f n c ++ replicate 6 0

-- An entry's parts in their order (rule 2.4): the pair as in a command, the mark with the zero field in it, the counts and lengths. An entry is what it
-- is seen as in each translation: the edition that it was made from, and its length, of each.
abbrev pub entry_mark : Mark → List ℕ
entry_mark m = to_le 2 m.desk ++ to_le 2 0 ++ to_le 4 m.transaction

abbrev pub entry_froms : Format → (ℕ → Entry) → List ℕ
entry_froms f see = tabulate (λ t. (see t).from) (translations f)

abbrev pub entry_lengths : Format → (ℕ → Entry) → List ℕ
entry_lengths f see = tabulate (λ t. (see t).translation) (translations f)

abbrev pub entry_counts : Format → (ℕ → Entry) → List ℕ
entry_counts V1 see = ((see 0).edition ∷ entry_froms V1 see) ++ ((see 0).original ∷ entry_lengths V1 see)
entry_counts V2 see = ((see 0).edition ∷ (see 0).original ∷ entry_froms V2 see) ++ entry_lengths V2 see ++ (0 ∷ 0 ∷ [])

unfoldable pub entry_bytes : Format → (ℕ → Entry) → List ℕ
entry_bytes f see = pair_bytes (see 0).pair ++ entry_mark (see 0).mark ++ concat_map (to_le 2) (entry_counts f see)

-- A body: the text, and zeros up to the room.
unfoldable pub pad : ℕ → List ℕ → List ℕ
pad room text = take room (text ++ replicate room 0)

-- ---- What the bytes of an image say: its version, N and C, and the entry of a card (rules 2.3 and 2.4).

-- The version, N and C as the header says.
abbrev pub version_of : List ℕ → ℕ
version_of image = field 4 2 image

abbrev pub count_of : List ℕ → ℕ
count_of image = field 6 2 image

abbrev pub room_of : List ℕ → ℕ
room_of image = field 8 2 image

-- The entry that an entry's bytes stand for, as seen in translation t (rule 2.4). What is to be zero is not read.
unfoldable pub read_entry : Format → ℕ → List ℕ → Entry
read_entry f t bytes =
    record {
      pair = pair_at 0 bytes;
      mark = record { desk = field 16 2 bytes; transaction = field 20 4 bytes };
      edition = field 24 2 bytes;
      from = field (froms_at f + 2 * t) 2 bytes;
      original = field (original_at f) 2 bytes;
      translation = field (lengths_at f + 2 * t) 2 bytes;
    }

-- The entry of card k, as seen in translation t.
unfoldable pub entry_at : Format → List ℕ → ℕ → ℕ → Entry
entry_at f image k t = read_entry f t (part (entry_place f k) (entry_size f) image)
