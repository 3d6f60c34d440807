-- The history engine on a list of kept commands, latest first: one request. There is no image; N and C come with the request.
-- Assumes nothing.
use Rattle.std.specs.Prelude.{ℕ, List, [], ◌∷◌, ◌++◌, Bool, cond, not, ◌||◌, length, ltb}
use Rattle.formats.specs.Format.{V1}
use Rattle.lists.specs.Parts.{splice, concat_map}
use Rattle.lists.specs.Table.{Row, row, first, settled}
use Rattle.commands.specs.Command.{original, translation, reads, reads_translation}
use Rattle.commands.specs.declared.Command.{Command}
use Rattle.commands.specs.Bytes.{fields_of, payload, formed}
use Rattle.numbers.specs.Numbers.{MALFORMED, NO_CARD, HISTORY_FULL}
use Rattle.guard.specs.Judge.{entry_rows}
use Rattle.guard.specs.Replies.{replied}
use Rattle.guard.specs.declared.Answer.{Answer}
use Rattle.history.specs.WorkedOut.{text_from, entry_from}

-- How many commands a history may keep, and how many payload bytes these may have in all. Rule 14.2.
abbrev pub most_kept : ℕ
most_kept = 200

abbrev pub most_payload : ℕ
most_payload = 32768

-- Kept commands pass either limit. Rule 14.2.
abbrev pub over_limits : List (List ℕ) → Bool
over_limits kept = ltb most_kept (length kept) || ltb most_payload (length (concat_map (payload V1) kept))

-- The store's table without row 9, on the entry that is worked out: rows 1 and 2, then the guard's own. Rule 14.7.
abbrev pub guard_rows : ℕ → ℕ → List (List ℕ) → List ℕ → ℕ → List Row
guard_rows n room kept command lent =
    row (not (formed V1 command)) MALFORMED
    ∷ row (not (ltb (fields_of V1 command).card n)) NO_CARD
    ∷ entry_rows (entry_from kept (fields_of V1 command).card) (fields_of V1 command) room lent

-- Behind it one row more: with this command kept as well, a limit would be passed. Rule 14.7.
abbrev pub engine_rows : ℕ → ℕ → List (List ℕ) → List ℕ → ℕ → List Row
engine_rows n room kept command lent = guard_rows n room kept command lent ++ (row (over_limits (command ∷ kept)) HISTORY_FULL ∷ [])

-- What is kept after a number: an accepted command stands in front, as the latest. Rules 14.8 and 14.9.
abbrev pub kept_by : ℕ → List (List ℕ) → List ℕ → List (List ℕ)
kept_by number kept command = settled number (command ∷ kept) kept

-- The text that a command reads; empty for one that reads none. Rule 14.6.
abbrev pub read_from : List (List ℕ) → Command → List ℕ
read_from kept c =
    cond (reads original c) (text_from original kept c.card)
    (cond (reads_translation c) (text_from (translation 0) kept c.card) [])

-- What a request comes to: its answer, what is kept, and the reply buffer.
pub record Deduced : Type 0 where
  pub answer : Answer
  pub kept : List (List ℕ)
  pub reply : List ℕ

-- By the number: the reply fields are those of the entry worked out from what is kept afterwards, so a refusal's are those of the entry as it stands;
-- an accepted read fills the front of the reply buffer, and nothing else does. Rules 14.8 and 14.9.
unfoldable pub deduced_by : ℕ → List (List ℕ) → List ℕ → List ℕ → Deduced
deduced_by number kept command reply =
    record {
      answer = replied number (entry_from (kept_by number kept command) (fields_of V1 command).card) (fields_of V1 command);
      kept = kept_by number kept command;
      reply = settled number (splice 0 (read_from kept (fields_of V1 command)) reply) reply;
    }

-- One request, for N cards with room C: the first row that applies gives its number. Rule 14.7.
unfoldable pub deduced : ℕ → ℕ → List (List ℕ) → List ℕ → List ℕ → Deduced
deduced n room kept command reply = deduced_by (first (engine_rows n room kept command (length reply))) kept command reply
