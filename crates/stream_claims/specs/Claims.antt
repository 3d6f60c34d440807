-- What is claimed of a stream (rules 8.1 and 8.2).
-- Assumes nothing.
use Rattle.std.specs.Prelude.{ℕ, suc, ◌+◌, ◌-◌, ◌/◌, ◌≤◌, ◌<◌, ◌≡◌, List, [], ◌∷◌, ◌++◌, false, length, drop, get_or, Some, None}
use Rattle.std.specs.Borrow.{Bor}
use Rattle.formats.specs.declared.Version.{Version}
use Rattle.formats.specs.Format.{Format, fixed, format_of}
use Rattle.lists.specs.Parts.{part}
use Rattle.stream.specs.Stream.{whole, OneCommand, next_at, commands, end_of, end_to_end, place_of, begun, moved_to, steps}

-- The commands and the rest, end to end, are the stream, and the rest begins no whole command.
pub record Parts (v : Format) (stream : List ℕ) : Type 0 where
  pub joined : end_to_end (commands v stream) ++ drop (end_of v stream) stream ≡ stream
  pub each : (i : ℕ) → i < length (commands v stream) → OneCommand v (get_or (commands v stream) i [])
  pub stopped : whole v (drop (end_of v stream) stream) ≡ false
  pub within : end_of v stream ≤ length stream
  pub few : length (commands v stream) ≤ length stream / (fixed v)

-- A command in front of a stream, malformed or not, is its first command, and the others follow.
abbrev pub First : Type 0
First = (v : Format) (c stream : List ℕ) → OneCommand v c → commands v (c ++ stream) ≡ c ∷ commands v stream

-- Commands put end to end, before bytes that begin no whole command, are the commands of the stream that they make.
abbrev pub Back : Type 0
Back = (v : Format) (cs : List (List ℕ)) (rest : List ℕ) → ((i : ℕ) → i < length cs → OneCommand v (get_or cs i [])) → whole v rest ≡ false → commands v (end_to_end cs ++ rest) ≡ cs

-- What stands at a place is the first of the commands from there on, and the place behind it is where the others begin. Any place gets an
-- answer, also one beyond the end.
pub record Stepping (v : Format) (stream : List ℕ) (at : ℕ) : Type 0 where
  pub passes : (end : ℕ) → next_at v stream at ≡ Some end →
      (at + fixed v ≤ end) × (end ≤ length stream) × (commands v (drop at stream) ≡ part at (end - at) stream ∷ commands v (drop end stream))
  pub stops : next_at v stream at ≡ None → commands v (drop at stream) ≡ []

-- From the first byte on, stepping visits the commands in their order, each from its place to the next one's, and stops at the end.
pub record Visits (v : Format) (stream : List ℕ) : Type 0 where
  pub starts : place_of v stream 0 ≡ 0
  pub goes : (i : ℕ) → i < length (commands v stream) → next_at v stream (place_of v stream i) ≡ Some (place_of v stream (suc i))
  pub sees : (i : ℕ) → i < length (commands v stream) →
      part (place_of v stream i) (place_of v stream (suc i) - place_of v stream i) stream ≡ get_or (commands v stream) i []
  pub arrives : place_of v stream (length (commands v stream)) ≡ end_of v stream
  pub stops : next_at v stream (end_of v stream) ≡ None

-- A reader of a lent stream, asked and moved on again and again, stands where each command begins, one after the other, and stays at the byte
-- that the walk yields.
pub record Reads (v : Version) (stream : Bor (List ℕ)) : Type 0 where
  pub stands : (i : ℕ) → i ≤ length (commands (format_of v) stream.now) →
      steps i (begun v stream) ≡ moved_to (begun v stream) (place_of (format_of v) stream.now i)
  pub ends : (i : ℕ) → length (commands (format_of v) stream.now) ≤ i →
      steps i (begun v stream) ≡ moved_to (begun v stream) (end_of (format_of v) stream.now)

pub record StreamClaims : Type 0 where
  pub parts : (v : Format) (stream : List ℕ) → Parts v stream
  pub first : First
  pub back : Back
  pub stepping : (v : Format) (stream : List ℕ) (at : ℕ) → Stepping v stream at
  pub visits : (v : Format) (stream : List ℕ) → Visits v stream
  pub reads : (v : Version) (stream : Bor (List ℕ)) → Reads v stream
