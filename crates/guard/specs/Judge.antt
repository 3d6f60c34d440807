-- How an entry judges a command: the table's rows and the raised entry (rules 4.1 to 4.6 and 4.9).
-- Assumes nothing.
use Rattle.std.specs.Prelude.{ℕ, ◌+◌, List, [], ◌∷◌, Bool, cond, not, ◌&&◌, ◌||◌, ltb, eqb}
use Rattle.stamps.specs.Stamp.{stale, too_far, larger_of_each, mark_fits}
use Rattle.commands.specs.Command.{original, reads_translation, writes_translation, reads, writes, verifier, update, well_formed}
use Rattle.lists.specs.Table.{Row, row, first, settled}
use Rattle.commands.specs.declared.Command.{Command}
use Rattle.guard.specs.declared.Entry.{Entry}
use Rattle.guard.specs.declared.Judged.{Judged}
use Rattle.numbers.specs.Numbers.{MALFORMED, STALE, MARK_DIFFERS, PAYLOAD_LONG, EDITION_WRONG, EDITIONS_SPENT, REPLY_SHORT, TOO_FAR}

-- ---- The rows.

-- Rule 4.6.
abbrev pub behind : ℕ → ℕ → Bool
behind edition from = eqb from 0 || not (eqb from edition)

-- The edition that no write can raise.
abbrev pub last_edition : ℕ
last_edition = 65535

-- Row 6: a read of a translation that is behind, or a write of one for another edition than the stored.
abbrev pub wrong_edition : Entry → Command → Bool
wrong_edition e c =
    reads_translation c && behind e.edition e.from || writes_translation c && not (eqb c.edition e.edition)

-- Row 7: a write of the original that no edition is left for.
abbrev pub editions_spent : Entry → Command → Bool
editions_spent e c = writes original c && eqb e.edition last_edition

-- Row 8: a read whose text does not fit into the reply buffer.
abbrev pub reply_short : Entry → Command → ℕ → Bool
reply_short e c lent = reads original c && ltb lent e.original || reads_translation c && ltb lent e.translation

-- The rows that go by the act, 5 to 8, for the card's entry, a command, the room C and the length of the lent reply buffer.
abbrev pub act_rows : Entry → Command → ℕ → ℕ → List Row
act_rows e c room lent =
    row (ltb room c.length) PAYLOAD_LONG
    ∷ row (wrong_edition e c) EDITION_WRONG
    ∷ row (editions_spent e c) EDITIONS_SPENT
    ∷ row (reply_short e c lent) REPLY_SHORT
    ∷ []

-- The table's rows from 3 on: 3, 17, 4, then those.
abbrev pub entry_rows : Entry → Command → ℕ → ℕ → List Row
entry_rows e c room lent =
    row (stale c.mode e.pair (verifier c)) STALE
    ∷ row (too_far e.pair (update c)) TOO_FAR
    ∷ row (not (mark_fits e.mark c.expected)) MARK_DIFFERS
    ∷ act_rows e c room lent

-- The rows of an entry that judges a command, whoever made it: row 1, command malformed, on its numbers, then those rows.
abbrev pub judge_rows : Entry → Command → ℕ → ℕ → List Row
judge_rows e c room lent = row (not (well_formed c)) MALFORMED ∷ entry_rows e c room lent

-- The entry after an accepted command: the larger of each stamp, the stored one or the update pair's, and the next mark (rule 4.4); a write of the
-- original counts one edition more, a write of the translation keeps the edition that it names (rule 4.5).
unfoldable pub raise : Entry → Command → Entry
raise e c =
    record {
      pair = larger_of_each e.pair (update c);
      mark = c.next;
      edition = cond (writes original c) (e.edition + 1) e.edition;
      from = cond (writes_translation c) c.edition e.from;
      original = cond (writes original c) c.length e.original;
      translation = cond (writes_translation c) c.length e.translation;
    }

-- The entry takes a command: the number, and the entry as it then is.
unfoldable pub judged : Entry → Command → ℕ → ℕ → Judged
judged e c room lent =
    record {
      number = first (judge_rows e c room lent);
      entry = settled (first (judge_rows e c room lent)) (raise e c) e;
    }
