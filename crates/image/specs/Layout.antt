-- Sizes, limits and places in an image (rules 2.2, 2.4 and 2.5).
-- Assumes nothing.
use Rattle.std.specs.Prelude.{ℕ, suc, ◌+◌, ◌*◌, ◌%◌, [], ◌∷◌, Bool, leb, eqb}
use Rattle.lists.specs.Table.{all}
use Rattle.formats.specs.Format.{Format, translations, entry_size, lengths_at}

-- The limits of N, C and the whole (rule 2.2).
abbrev pub most_cards : ℕ
most_cards = 128

abbrev pub least_room : ℕ
least_room = 16

abbrev pub most_room : ℕ
most_room = 1024

abbrev pub room_step : ℕ
room_step = 16

abbrev pub most_bytes : ℕ
most_bytes = 65536

-- The size of a header (rule 2.3).
abbrev pub header_size : ℕ
header_size = 16

-- How many bodies a card has: side 0 is the original's, side t + 1 that of translation t (rule 2.5).
abbrev pub sides : Format → ℕ
sides f = suc (translations f)

abbrev pub size_of : Format → ℕ → ℕ → ℕ
size_of f n c = header_size + entry_size f * n + sides f * c * n

unfoldable pub shape_ok : Format → ℕ → ℕ → Bool
shape_ok f n c =
    all
    (leb 1 n
    ∷ leb n most_cards
    ∷ leb least_room c
    ∷ leb c most_room
    ∷ eqb (c % room_step) 0
    ∷ leb (size_of f n c) most_bytes
    ∷ [])

-- Where an entry stands, where its numbers end in it, and where the body of a card's side stands (rules 2.4, 2.5, 15.3 and 15.4).
abbrev pub entry_place : Format → ℕ → ℕ
entry_place f k = header_size + entry_size f * k

abbrev pub entry_end : Format → ℕ
entry_end f = lengths_at f + 2 * translations f

abbrev pub body_place : Format → ℕ → ℕ → ℕ → ℕ → ℕ
body_place f n c k side = header_size + entry_size f * n + (sides f * k + side) * c
