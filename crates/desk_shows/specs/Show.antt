-- The text that a desk shows (rules 6.1 to 6.3).
-- Assumes nothing.
use Rattle.std.specs.Prelude.{ℕ, List, [], ◌∷◌, Bool, false, ◌||◌, ltb, length, take}
use Rattle.guard.specs.Judge.{behind}
use Rattle.lists.specs.Table.{Row, row, first, settled}
use Rattle.desk_shows.specs.declared.Asked.{Asked}
use Rattle.desk_shows.specs.declared.Asked.TheVariants.{Original, Translation}
use Rattle.numbers.specs.Numbers.{EDITION_WRONG, REPLY_SHORT}

-- Rule 6.1: a buffer, and how many of its first bytes are the text.
pub record Text : Type 0 where
  pub buffer : List ℕ
  pub length : ℕ

abbrev pub held_text : List ℕ → ℕ → Text
held_text b n = record { buffer = b; length = n }

-- Of two things, one for each language, that of the language asked for.
abbrev pub of : {A : Type 0} → Asked → A → A → A
of Original original translation = original
of Translation original translation = translation

-- The length is beyond its buffer.
abbrev pub beyond : Text → Bool
beyond t = ltb (length t.buffer) t.length

-- A translation asked for and behind.
abbrev pub behind_asked : ℕ → ℕ → Asked → Bool
behind_asked edition from asked = of asked false (behind edition from)

-- Rule 6.2, in its order.
abbrev pub show_rows : Bool → Bool → List Row
show_rows long late = row long REPLY_SHORT ∷ row late EDITION_WRONG ∷ []

abbrev pub desk_rows : Text → Text → ℕ → ℕ → Asked → List Row
desk_rows original translation edition from asked =
    show_rows (beyond original || beyond translation) (behind_asked edition from asked)

abbrev pub shown_number : Text → Text → ℕ → ℕ → Asked → ℕ
shown_number original translation edition from asked = first (desk_rows original translation edition from asked)

-- Rule 6.3: a front part of the buffer asked for, an empty one after a refusal.
abbrev pub shown_part : Text → Text → ℕ → ℕ → Asked → List ℕ
shown_part original translation edition from asked =
    take (settled (shown_number original translation edition from asked) (of asked original translation).length 0)
    (of asked original translation).buffer
