-- A stream: commands end to end (rules 8.1 and 8.2).
-- Assumes nothing.
use Rattle.std.specs.Prelude.{ℕ, zero, suc, ◌+◌, ◌≤◌, ◌≡◌, List, [], ◌∷◌, Bool, true, false, cond, ◌&&◌, leb, length, take, drop, Option, Some, None}
use Rattle.formats.specs.declared.Version.{Version}
use Rattle.formats.specs.Format.{Format, fixed, format_of}
use Rattle.lists.specs.Parts.{concat_map}
use Rattle.commands.specs.Bytes.{extent}
use Rattle.std.specs.Borrow.{Bor}
use Rattle.std.specs.Iterator.{YieldsFirstRef}
use Rattle.stream.specs.declared.Reader.{Reader}

-- The bytes begin with a whole command: all of its fixed part, and all of its payload.
unfoldable pub whole : Format → List ℕ → Bool
whole v bytes = leb (fixed v) (length bytes) && leb (extent v bytes) (length bytes)

-- A list of bytes is one whole command, by its own length field (rule 8.1).
abbrev pub OneCommand : Format → List ℕ → Type 0
OneCommand v c = (fixed v ≤ length c) × (length c ≡ extent v c)

-- What stands at a place of a stream: a whole command, and the place behind it; or none that is whole. From a place beyond the end on nothing is left, which is no whole command.
unfoldable pub next_at : Format → List ℕ → ℕ → Option ℕ
next_at v stream at = cond (whole v (drop at stream)) (Some (at + extent v (drop at stream))) None

-- What the two cases say: the place to go on from, which is the place itself where no whole command stands.
abbrev pub onward : ℕ → Option ℕ → ℕ
onward at (Some end) = end
onward at None = at

-- Whether a whole command stands at the place that was looked at (rule 8.1).
abbrev pub is_whole : Option ℕ → Bool
is_whole (Some end) = true
is_whole None = false

-- The whole commands of a stream, in order, up to the first that is not whole. Each takes at least one byte, so that as many steps as there
-- are bytes are enough.
unfoldable pub commands_within : Format → ℕ → List ℕ → List (List ℕ)
commands_within v zero bytes = []
commands_within v (suc steps) bytes =
    cond (whole v bytes) (take (extent v bytes) bytes ∷ commands_within v steps (drop (extent v bytes) bytes)) []

unfoldable pub commands : Format → List ℕ → List (List ℕ)
commands v stream = commands_within v (length stream) stream

-- Rule 8.2: where the first command begins that is not whole.
unfoldable pub end_within : Format → ℕ → List ℕ → ℕ
end_within v zero bytes = 0
end_within v (suc steps) bytes = cond (whole v bytes) (extent v bytes + end_within v steps (drop (extent v bytes) bytes)) 0

unfoldable pub end_of : Format → List ℕ → ℕ
end_of v stream = end_within v (length stream) stream

-- Commands end to end.
abbrev pub end_to_end : List (List ℕ) → List ℕ
end_to_end cs = concat_map (λ (c : List ℕ). c) cs

-- The byte where the command with this number, counted from 0, begins.
unfoldable pub place_of : Format → List ℕ → ℕ → ℕ
place_of v stream i = length (end_to_end (take i (commands v stream)))

-- ---- A reader that keeps the lent stream of a version's commands and its place.

-- A reader at the first byte of a lent stream.
abbrev pub begun : Version → Bor (List ℕ) → Reader
begun v stream = record { version = v; stream = stream; at = 0 }

-- A reader at another place of its stream.
abbrev pub moved_to : Reader → ℕ → Reader
moved_to r at = record { version = r.version; stream = r.stream; at = at }

-- A reader that was asked for its next command and moved on behind it; where none is whole it stays.
abbrev pub passed : Reader → Reader
passed r = moved_to r (onward r.at (next_at (format_of r.version) r.stream.now r.at))

-- The same, so many times.
unfoldable pub steps : ℕ → Reader → Reader
steps zero r = r
steps (suc n) r = passed (steps n r)

-- The commands that a reader has still to give: those from its place on.
abbrev pub unread : Reader → List (List ℕ)
unread r = commands (format_of r.version) (drop r.at r.stream.now)

-- What a reader that is asked for its next command gives and leaves: the first of those that it has still to give, if any, and it moves on behind it.
pub record Gives (r : Reader) (given : Option (Bor (List ℕ))) (after : Reader) : Type 0 where
  pub first : YieldsFirstRef unread r given after
  pub moved : after ≡ passed r
