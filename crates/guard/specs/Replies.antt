-- What is answered: the reply fields of a number and an entry (rule 4.8).
-- Assumes nothing.
use Rattle.std.specs.Prelude.{ℕ, Bool, cond, ◌||◌, eqb, List, [], ◌∷◌}
use Rattle.lists.specs.Table.{settled}
use Rattle.stamps.specs.Stamp.{no_pair, no_mark}
use Rattle.commands.specs.Command.{original, reads_translation, reads}
use Rattle.commands.specs.declared.Command.{Command}
use Rattle.numbers.specs.Numbers.{MALFORMED, NO_CARD, UNSOUND}
use Rattle.guard.specs.declared.Entry.{Entry}
use Rattle.guard.specs.declared.Answer.{Answer}

-- Answers whose reply fields are zeros: 9, 1 and 2.
abbrev pub blank_reply : ℕ → Bool
blank_reply number = eqb number UNSOUND || eqb number MALFORMED || eqb number NO_CARD

-- The length of the text that a command reads, 0 if it reads none.
abbrev pub read_length : Entry → Command → ℕ
read_length e c = cond (reads original c) e.original (cond (reads_translation c) e.translation 0)

-- The seven reply fields (rule 4.8), for a number and the entry as it is after it.
unfoldable pub replied : ℕ → Entry → Command → Answer
replied number e c =
    record {
      number = number;
      pair = cond (blank_reply number) no_pair e.pair;
      mark = cond (blank_reply number) no_mark e.mark;
      edition = cond (blank_reply number) 0 e.edition;
      from = cond (blank_reply number) 0 e.from;
      length = settled number (read_length e c) 0;
    }

-- The answer of a number whose reply fields are zeros.
abbrev pub refused : ℕ → Answer
refused number = record { number = number; pair = no_pair; mark = no_mark; edition = 0; from = 0; length = 0 }

-- The seven reply fields as numbers, in the order in which a line of the program's output and the exported functions have them.
abbrev pub reply_fields : Answer → List ℕ
reply_fields a =
    a.pair.s ∷ a.pair.x ∷ a.mark.desk ∷ a.mark.transaction ∷ a.edition ∷ a.from ∷ a.length ∷ []
