-- A card, worked out from the commands that were accepted for it: largest stamps, counts and last ones. No entry is stored and none is raised.
-- Kept commands are lists of bytes and stand latest first.
-- Assumes nothing.
use Rattle.std.specs.Prelude.{ℕ, ◌+◌, max, List, [], ◌∷◌, Bool, cond, ◌&&◌, eqb}
use Rattle.formats.specs.Format.{V1}
use Rattle.lists.specs.Search.{last}
use Rattle.stamps.specs.Stamp.{no_mark}
use Rattle.stamps.specs.declared.Pair.{Pair}
use Rattle.commands.specs.Command.{Language, original, translation, writes, update}
use Rattle.commands.specs.Bytes.{fields_of, payload}
use Rattle.guard.specs.declared.Entry.{Entry}

-- A kept command is for card k; it writes card k's text of a language.
abbrev pub concerns : ℕ → List ℕ → Bool
concerns k command = eqb (fields_of V1 command).card k

abbrev pub writes_for : Language → ℕ → List ℕ → Bool
writes_for l k command = concerns k command && writes l (fields_of V1 command)

-- The largest stamp on one side of the update pairs of the kept commands for card k; 0, no stamp, where there is none. Rule 14.5.
unfoldable pub highest : (Pair → ℕ) → ℕ → List (List ℕ) → ℕ
highest side k [] = 0
highest side k (command ∷ kept) =
    cond (concerns k command) (max (highest side k kept) (side (update (fields_of V1 command)))) (highest side k kept)

-- How many kept commands write card k's text of a language. Rule 14.5.
unfoldable pub times_written : Language → ℕ → List (List ℕ) → ℕ
times_written l k [] = 0
times_written l k (command ∷ kept) = cond (writes_for l k command) (times_written l k kept + 1) (times_written l k kept)

-- The text of card k: what the last write of that language brought along; empty where none was kept. Rule 14.6.
unfoldable pub text_from : Language → List (List ℕ) → ℕ → List ℕ
text_from l kept k = last (writes_for l k) (payload V1) [] kept

-- The entry of card k, field by field. Rule 14.5.
unfoldable pub entry_from : List (List ℕ) → ℕ → Entry
entry_from kept k =
    record {
      pair = record { s = highest (λ (p : Pair). p.s) k kept; x = highest (λ (p : Pair). p.x) k kept };
      -- the mark that the last command leaves
      mark = last (concerns k) (λ (b : List ℕ). (fields_of V1 b).next) no_mark kept;
      -- one for each write of the original
      edition = times_written original k kept;
      -- the edition that the last write of the translation names
      from = last (writes_for (translation 0) k) (λ (b : List ℕ). (fields_of V1 b).edition) 0 kept;
      -- the lengths that the last writes name
      original = last (writes_for original k) (λ (b : List ℕ). (fields_of V1 b).length) 0 kept;
      translation = last (writes_for (translation 0) k) (λ (b : List ℕ). (fields_of V1 b).length) 0 kept;
    }
