-- The claims on what a desk shows, used where their hypotheses only just hold: no buffers, a text as long as its buffer and
-- one longer, a translation that is behind. A stricter hypothesis or a sentence left out is noticed here.
-- Assumes nothing.
use mathlib.Core.Path.{◌≡◌, refl}
use mathlib.Core.List.{[], ◌∷◌, ◌++◌}
use lib.Dec.{T}
use lib.ListN.{length}
use Rattle.lists.specs.Table.{no_row, applies, earlier, listed}
use Rattle.desk_shows.specs.Show.{Text, held_text, desk_rows, shown_number, shown_part}
use Rattle.desk_shows.specs.Claims.{shown_numbers}
use Rattle.desk_shows.specs.declared.Asked.TheVariants.{Original, Translation}
use Rattle.desk_shows.proofs.Claims.{claims, alike_cases}

-- `205` in as many bytes, and in one too few; and no bytes at all.
abbrev whole : Text
whole = held_text (50 ∷ 48 ∷ 53 ∷ []) 3

abbrev short : Text
short = held_text (50 ∷ 48 ∷ []) 3

abbrev nothing : Text
nothing = held_text [] 0

-- ---- numbers (rules 5.1 and 6.2): the other buffer is short; the translation is behind; nothing is

short_row : T (applies 8 (desk_rows whole short 1 1 Original)) × T (no_row (earlier 8 (desk_rows whole short 1 1 Original)))
short_row = ((claims.exactly whole short 1 1 Original).refused 7).0 refl

behind_row : T (applies 6 (desk_rows whole whole 2 1 Translation)) × T (no_row (earlier 6 (desk_rows whole whole 2 1 Translation)))
behind_row = ((claims.exactly whole whole 2 1 Translation).refused 5).0 refl

no_row_lem : T (no_row (desk_rows nothing nothing 0 0 Original))
no_row_lem = (claims.exactly nothing nothing 0 0 Original).shown.0 refl

numbered : T (listed shown_numbers (shown_number short short 0 0 Translation))
numbered = claims.numbers short short 0 0 Translation

-- ---- the part that is shown (rule 6.2)

prefix_whole : shown_part whole nothing 1 0 Original ++ (claims.prefix whole nothing 1 0 Original).rest ≡ 50 ∷ 48 ∷ 53 ∷ []
prefix_whole = (claims.prefix whole nothing 1 0 Original).whole

long_whole : length (shown_part whole nothing 1 0 Original) ≡ 3
long_whole = (claims.prefix whole nothing 1 0 Original).shown refl

none_short : (shown_number whole short 1 1 Original ≡ 0 → ⊥) → shown_part whole short 1 1 Original ≡ []
none_short = (claims.prefix whole short 1 1 Original).refused

-- ---- what the other buffer holds does not matter (rule 6.3)

same_number : shown_number (held_text (50 ∷ 48 ∷ 53 ∷ []) 3) (held_text (52 ∷ 48 ∷ 49 ∷ 0 ∷ []) 3) 2 1 Original
    ≡ shown_number (held_text (50 ∷ 48 ∷ 53 ∷ []) 3) (held_text (57 ∷ 57 ∷ 57 ∷ 57 ∷ []) 3) 2 1 Original
same_number =
    (claims.independent Original (held_text (50 ∷ 48 ∷ 53 ∷ []) 3) (held_text (52 ∷ 48 ∷ 49 ∷ 0 ∷ []) 3) (held_text (50 ∷ 48 ∷ 53 ∷ []) 3) (held_text (57 ∷ 57 ∷ 57 ∷ 57 ∷ []) 3) 2 1
    alike_cases.originals).number

same_part : shown_part (held_text (50 ∷ 48 ∷ 53 ∷ []) 3) (held_text (52 ∷ 48 ∷ 49 ∷ 0 ∷ []) 3) 2 1 Original ≡ shown_part (held_text (50 ∷ 48 ∷ 53 ∷ []) 3)
    (held_text (57 ∷ 57 ∷ 57 ∷ 57 ∷ []) 3) 2 1 Original
same_part =
    (claims.independent Original (held_text (50 ∷ 48 ∷ 53 ∷ []) 3) (held_text (52 ∷ 48 ∷ 49 ∷ 0 ∷ []) 3) (held_text (50 ∷ 48 ∷ 53 ∷ []) 3) (held_text (57 ∷ 57 ∷ 57 ∷ 57 ∷ []) 3) 2 1
    alike_cases.originals).part
