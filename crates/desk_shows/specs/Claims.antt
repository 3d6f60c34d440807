-- What is claimed of the text that a desk shows (rules 6.2 and 6.3).
-- Assumes nothing.
use Rattle.std.specs.Prelude.{ℕ, suc, ◌≡◌, ◌↔◌, List, [], ◌∷◌, ◌++◌, map, T, length}
use Rattle.lists.specs.Table.{no_row, applies, earlier, listed}
use Rattle.desk_shows.specs.Show.{Text, held_text, of, desk_rows, shown_number, shown_part}
use Rattle.desk_shows.specs.declared.Asked.{Asked}
use Rattle.desk_shows.specs.declared.Asked.TheVariants.{Original, Translation}
use Rattle.numbers.specs.Numbers.{EDITION_WRONG, REPLY_SHORT}

-- Each number exactly when its row applies and none above it does, and 0 exactly when no row applies.
pub record ShownExactly (o t : Text) (edition from : ℕ) (asked : Asked) : Type 0 where
  pub refused : (n : ℕ) →
      (shown_number o t edition from asked ≡ suc n)
      ↔ (T (applies (suc n) (desk_rows o t edition from asked)) × T (no_row (earlier (suc n) (desk_rows o t edition from asked))))
  pub shown : (shown_number o t edition from asked ≡ 0) ↔ T (no_row (desk_rows o t edition from asked))

-- The part is a prefix of the buffer asked for: with number 0 exactly the text's bytes, with any other number nothing.
pub record Prefix (o t : Text) (edition from : ℕ) (asked : Asked) : Type 0 where
  pub rest : List ℕ
  pub whole : shown_part o t edition from asked ++ rest ≡ (of asked o t).buffer
  pub shown : shown_number o t edition from asked ≡ 0 → length (shown_part o t edition from asked) ≡ (of asked o t).length
  pub refused : (shown_number o t edition from asked ≡ 0 → ⊥) → shown_part o t edition from asked ≡ []

-- The language that is not asked for.
abbrev pub other_language : Asked → Asked
other_language Original = Translation
other_language Translation = Original

-- Two desks' texts are alike where the text asked for is the same, and of the other the buffer's size and the length: nothing of what
-- the other buffer holds.
pub record Alike (asked : Asked) (o t o' t' : Text) : Type 0 where
  pub same : of asked o t ≡ of asked o' t'
  pub size : length (of (other_language asked) o t).buffer ≡ length (of (other_language asked) o' t').buffer
  pub long : (of (other_language asked) o t).length ≡ (of (other_language asked) o' t').length

-- Rule 6.3: what is shown of one language does not depend on what the other buffer holds.
pub record Independent (asked : Asked) (o t o' t' : Text) (edition from : ℕ) : Type 0 where
  pub number : shown_number o t edition from asked ≡ shown_number o' t' edition from asked
  pub part : shown_part o t edition from asked ≡ shown_part o' t' edition from asked

-- Rule 5.1: what a desk that asks for its text may be answered, besides 0.
abbrev pub shown_numbers : List ℕ
shown_numbers = EDITION_WRONG ∷ REPLY_SHORT ∷ []

pub record DeskClaims : Type 0 where
  pub exactly : (o t : Text) (edition from : ℕ) (asked : Asked) → ShownExactly o t edition from asked
  pub prefix : (o t : Text) (edition from : ℕ) (asked : Asked) → Prefix o t edition from asked
  pub independent : (asked : Asked) (o t o' t' : Text) (edition from : ℕ) → Alike asked o t o' t' → Independent asked o t o' t' edition from
  pub numbers : (o t : Text) (edition from : ℕ) (asked : Asked) → T (listed shown_numbers (shown_number o t edition from asked))

-- Worked: desks that hold the same text in one language and another in the other are alike there, and show that text: `205` for the original, whatever the
-- translation is, and `401` for the translation, whatever the original is.
pub record AlikeCases : Type 0 where
  pub originals :
      Alike Original (held_text (50 ∷ 48 ∷ 53 ∷ []) 3) (held_text (52 ∷ 48 ∷ 49 ∷ 0 ∷ []) 3) (held_text (50 ∷ 48 ∷ 53 ∷ []) 3) (held_text (57 ∷ 57 ∷ 57 ∷ 57 ∷ []) 3)
  pub translations :
      Alike Translation (held_text (50 ∷ 48 ∷ 53 ∷ []) 3) (held_text (52 ∷ 48 ∷ 49 ∷ 0 ∷ []) 3) (held_text (57 ∷ 57 ∷ 57 ∷ []) 3) (held_text (52 ∷ 48 ∷ 49 ∷ 0 ∷ []) 3)
  pub shows_original : shown_part (held_text (50 ∷ 48 ∷ 53 ∷ []) 3) (held_text (57 ∷ 57 ∷ 57 ∷ 57 ∷ []) 3) 1 1 Original ≡ 50 ∷ 48 ∷ 53 ∷ []
  pub shows_translation : shown_part (held_text (57 ∷ 57 ∷ 57 ∷ []) 3) (held_text (52 ∷ 48 ∷ 49 ∷ 0 ∷ []) 3) 1 1 Translation ≡ 52 ∷ 48 ∷ 49 ∷ []

-- Worked rows of rule 6.2, with the number and the part that is shown: a text as long as its buffer and one longer; the
-- other buffer that is short; a translation behind, asked for and not; one never made; a buffer short and a translation
-- behind, both.
pub record ShownCase : Type 0 where
  pub original : Text
  pub translation : Text
  pub edition : ℕ
  pub from : ℕ
  pub asked : Asked

abbrev pub two_of3 : Text
two_of3 = held_text (50 ∷ 48 ∷ 53 ∷ []) 2

abbrev pub four_of3 : Text
four_of3 = held_text (50 ∷ 48 ∷ 53 ∷ []) 4

abbrev pub three_of3 : Text
three_of3 = held_text (52 ∷ 48 ∷ 49 ∷ []) 3

abbrev pub asked_for : Text → Text → ℕ → ℕ → Asked → ShownCase
asked_for o t edition from asked = record { original = o; translation = t; edition = edition; from = from; asked = asked }

abbrev pub shown_cases : List ShownCase
shown_cases =
    asked_for two_of3 three_of3 2 2 Original
    ∷ asked_for two_of3 three_of3 2 2 Translation
    ∷ asked_for four_of3 three_of3 2 2 Original
    ∷ asked_for four_of3 three_of3 2 2 Translation
    ∷ asked_for two_of3 three_of3 2 1 Translation
    ∷ asked_for two_of3 three_of3 2 1 Original
    ∷ asked_for two_of3 three_of3 2 0 Translation
    ∷ asked_for four_of3 three_of3 2 1 Translation
    ∷ []

pub record ShownCases : Type 0 where
  pub gives :
      map (λ (c : ShownCase). shown_number c.original c.translation c.edition c.from c.asked) shown_cases
      ≡ 0 ∷ 0 ∷ 8 ∷ 8 ∷ 6 ∷ 0 ∷ 6 ∷ 8 ∷ []
  pub shows :
      map (λ (c : ShownCase). shown_part c.original c.translation c.edition c.from c.asked) shown_cases
      ≡ (50 ∷ 48 ∷ []) ∷ (52 ∷ 48 ∷ 49 ∷ []) ∷ [] ∷ [] ∷ [] ∷ (50 ∷ 48 ∷ []) ∷ [] ∷ [] ∷ []
