-- What is written to an image: an entry as it is seen in one translation, where the numbers of the others stay, and a text over an old one.
-- Assumes nothing.
use Rattle.std.specs.Prelude.{ℕ, ◌+◌, ◌-◌, ◌*◌, List, ◌++◌, length, replicate}
use Rattle.lists.specs.Parts.{splice}
use Rattle.lists.specs.Le.{to_le}
use Rattle.guard.specs.declared.Entry.{Entry}
use Rattle.formats.specs.Format.{Format, original_at, froms_at, lengths_at}
use Rattle.commands.specs.Bytes.{pair_bytes}
use Rattle.image.specs.Bytes.{entry_mark}

-- The parts of an entry that change apart: the pair and the mark; the edition and the original's length; of translation t the edition that it was made
-- from and its length.
unfoldable pub stamps_with : Entry → ℕ → List ℕ → List ℕ
stamps_with e at l = splice (at + 16) (entry_mark e.mark) (splice at (pair_bytes e.pair) l)

unfoldable pub original_with : Format → Entry → ℕ → List ℕ → List ℕ
original_with f e at l = splice (at + original_at f) (to_le 2 e.original) (splice (at + 24) (to_le 2 e.edition) l)

unfoldable pub translation_with : Format → ℕ → Entry → ℕ → List ℕ → List ℕ
translation_with f t e at l =
    splice (at + (lengths_at f + 2 * t)) (to_le 2 e.translation) (splice (at + (froms_at f + 2 * t)) (to_le 2 e.from) l)

-- The entry as seen in translation t.
unfoldable pub entry_with : Format → ℕ → Entry → ℕ → List ℕ → List ℕ
entry_with f t e at l = translation_with f t e at (original_with f e at (stamps_with e at l))

-- A text over an old one of this length: the text, and zeros in place of what is left of the old one.
unfoldable pub over_old : ℕ → List ℕ → List ℕ
over_old old text = text ++ replicate (old - length text) 0
