-- A stored entry within its fields' widths, and its rules (rules 2.4 and 2.6).
-- Assumes nothing.
use Rattle.std.specs.Prelude.{ℕ, ◌<◌, List, [], ◌∷◌, Bool, not, ◌||◌, leb, eqb}
use Rattle.lists.specs.Table.{all}
use Rattle.stamps.specs.Stamp.{stamp_valid, mark_whole, no_pair, no_mark, FitsPair, FitsMark}
use Rattle.guard.specs.declared.Entry.{Entry}

-- The entry of a card of a fresh image.
abbrev pub no_entry : Entry
no_entry = record { pair = no_pair; mark = no_mark; edition = 0; from = 0; original = 0; translation = 0 }

-- The rules of an entry (rule 2.6), one test for each: stamps, mark, both lengths within the room, translated-from no newer than the edition, and no text
-- without an edition.
abbrev pub entry_checks : ℕ → Entry → List Bool
entry_checks room e =
    stamp_valid e.pair.s
    ∷ stamp_valid e.pair.x
    ∷ mark_whole e.mark
    ∷ leb e.original room
    ∷ leb e.translation room
    ∷ leb e.from e.edition
    ∷ (not (eqb e.edition 0) || eqb e.original 0)
    ∷ (not (eqb e.from 0) || eqb e.translation 0)
    ∷ []

unfoldable pub entry_sound : ℕ → Entry → Bool
entry_sound room e = all (entry_checks room e)

-- Each number within its field's width.
pub record FitsEntry (e : Entry) : Type 0 where
  pub pair : FitsPair e.pair
  pub mark : FitsMark e.mark
  pub edition : e.edition < 65536
  pub from : e.from < 65536
  pub original : e.original < 65536
  pub translation : e.translation < 65536
