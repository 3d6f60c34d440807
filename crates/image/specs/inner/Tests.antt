-- The rules of an entry in two: those of its card, and those of the text in the translation that it is seen in.
-- Assumes nothing.
use Rattle.std.specs.Prelude.{ℕ, Bool, not, ◌&&◌, ◌||◌, leb, eqb}
use Rattle.stamps.specs.Stamp.{stamp_valid, mark_whole}
use Rattle.guard.specs.declared.Entry.{Entry}

-- The tests of a text by its length and the edition that it was made from; the original is made from its own edition.
abbrev pub text_tests : ℕ → ℕ → ℕ → ℕ → Bool
text_tests edition from count room = leb count room && leb from edition && (not (eqb from 0) || eqb count 0)

-- Those of a card: of its stamps and its original, and of its mark.
abbrev pub front_tests : ℕ → Entry → Bool
front_tests room e = stamp_valid e.pair.s && stamp_valid e.pair.x && text_tests e.edition e.edition e.original room

abbrev pub card_tests : ℕ → Entry → Bool
card_tests room e = front_tests room e && mark_whole e.mark
