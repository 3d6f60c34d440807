-- Steps of the code on the way to `history_serve`; nobody needs them to know what is promised. The code raises an entry command by command, which comes
-- to the entry that is worked out (`entry_here`, proofs/Raised).
-- Assumes nothing.
use Rattle.std.specs.Prelude.{ℕ, ◌+◌, ◌*◌, ◌≤◌, ◌≡◌, List, [], reverse, Bool, cond, ◌&&◌, ◌||◌, ltb, eqb, length}
use Rattle.formats.specs.Format.{V1, fixed}
use Rattle.lists.specs.Parts.{part, concat_map, splice}
use Rattle.lists.specs.Search.{last}
use Rattle.lists.specs.Table.{settled}
use Rattle.commands.specs.declared.Command.{Command}
use Rattle.commands.specs.Bytes.{fields_of, payload}
use Rattle.guard.specs.Judge.{judged}
use Rattle.guard.specs.declared.Judged.{Judged}
use Rattle.guard.specs.Replies.{replied}
use Rattle.stream.specs.Stream.{commands, end_of}
use Rattle.history.specs.WorkedOut.{concerns, entry_from}
use Rattle.history.specs.Engine.{most_kept, most_payload, read_from}
use Rattle.history.specs.Lent.{kept_in, bytes_by, used_by, HistoryOutcome}
use Rattle.numbers.specs.Numbers.{HISTORY_FULL}

-- How far the commands of some bytes go, how many they are, and their payload bytes in all.
pub record Measured (bytes : List ℕ) (end count payloads : ℕ) : Type 0 where
  pub ends : end ≡ end_of V1 bytes
  pub counts : count ≡ length (reverse (commands V1 bytes))
  pub pays : payloads ≡ length (concat_map (payload V1) (reverse (commands V1 bytes)))
  pub sum : end ≡ count * fixed V1 + payloads
  pub within : end ≤ length bytes

-- What the last kept command with this act for card k brought along: the text of a language, by the act that writes it.
unfoldable pub written_by : ℕ → List (List ℕ) → ℕ → List ℕ
written_by act kept k = last (λ (b : List ℕ). concerns k b && eqb (fields_of V1 b).act act) (payload V1) [] kept

-- Where a text that the bytes keep stands in them: it is the part of them at a place.
pub record LiesIn (bytes text : List ℕ) : Type 0 where
  pub place : ℕ
  pub inside : place + length text ≤ length bytes
  pub is : part place (length text) bytes ≡ text

-- One well-formed command for an existing card: either limit would be passed with it.
abbrev pub over_with : List (List ℕ) → Command → Bool
over_with kept c = ltb most_kept (length kept + 1) || ltb most_payload (c.length + length (concat_map (payload V1) kept))

-- The entry judges it; where it accepts, the limits are asked.
unfoldable pub weighed_number : List (List ℕ) → Command → ℕ → ℕ → ℕ
weighed_number kept c room lent =
    settled (judged (entry_from kept c.card) c room lent).number
    (cond (over_with kept c) HISTORY_FULL 0)
    (judged (entry_from kept c.card) c room lent).number

unfoldable pub weighed : List (List ℕ) → Command → ℕ → ℕ → Judged
weighed kept c room lent =
    record {
      number = weighed_number kept c room lent;
      entry = settled (weighed_number kept c room lent) (judged (entry_from kept c.card) c room lent).entry (entry_from kept c.card);
    }

-- What it leaves.
unfoldable pub history_carried : ℕ → List ℕ → ℕ → Command → List ℕ → List ℕ → HistoryOutcome
history_carried room bytes used c command reply =
    record {
      answer =
          replied (weighed (kept_in bytes used) c room (length reply)).number (weighed (kept_in bytes used) c room (length reply)).entry c;
      bytes = bytes_by (weighed (kept_in bytes used) c room (length reply)).number bytes used command;
      used = used_by (weighed (kept_in bytes used) c room (length reply)).number bytes used command;
      reply =
          settled (weighed (kept_in bytes used) c room (length reply)).number (splice 0 (read_from (kept_in bytes used) c) reply) reply;
    }
