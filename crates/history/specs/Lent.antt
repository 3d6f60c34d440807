-- The history engine over lent bytes: the kept commands stand end to end, oldest first, and a number says how many of the bytes are used.
-- Assumes nothing.
use Rattle.std.specs.Prelude.{ℕ, ◌+◌, ◌*◌, List, reverse, length, take}
use Rattle.formats.specs.Format.{V1, fixed}
use Rattle.lists.specs.Parts.{splice}
use Rattle.lists.specs.Table.{settled}
use Rattle.guard.specs.declared.Answer.{Answer}
use Rattle.stream.specs.Stream.{commands, end_of}
use Rattle.history.specs.Engine.{most_kept, most_payload, deduced}

-- Room for a history at both limits: 43,168 bytes. Rule 14.3.
abbrev pub history_size : ℕ
history_size = most_kept * fixed V1 + most_payload

-- The commands that lent bytes keep, latest first: the whole commands of the used ones. Any bytes and any number say which these are; what stands
-- behind the last whole command is not looked at. Rules 14.3 and 14.4.
unfoldable pub kept_in : List ℕ → ℕ → List (List ℕ)
kept_in bytes used = reverse (commands V1 (take used bytes))

-- An accepted command is written behind the others, and the used bytes end behind it. Rule 14.8.
unfoldable pub bytes_by : ℕ → List ℕ → ℕ → List ℕ → List ℕ
bytes_by number bytes used command = settled number (splice (end_of V1 (take used bytes)) command bytes) bytes

unfoldable pub used_by : ℕ → List ℕ → ℕ → List ℕ → ℕ
used_by number bytes used command = settled number (end_of V1 (take used bytes) + length command) used

-- What a request leaves: its answer, the lent bytes, how many of them are used, and the reply buffer.
pub record HistoryOutcome : Type 0 where
  pub answer : Answer
  pub bytes : List ℕ
  pub used : ℕ
  pub reply : List ℕ

-- One request over lent bytes, for N cards with room C. Rules 14.7 to 14.9.
unfoldable pub history_serve : ℕ → ℕ → List ℕ → ℕ → List ℕ → List ℕ → HistoryOutcome
history_serve n room bytes used command reply =
    record {
      answer = (deduced n room (kept_in bytes used) command reply).answer;
      bytes = bytes_by (deduced n room (kept_in bytes used) command reply).answer.number bytes used command;
      used = used_by (deduced n room (kept_in bytes used) command reply).answer.number bytes used command;
      reply = (deduced n room (kept_in bytes used) command reply).reply;
    }
