-- What the lines of a stream stand on: the image in front of the input is sound and within its limits, and there is room for them.
-- Assumes nothing.
use Rattle.std.specs.Prelude.{ℕ, ◌+◌, ◌≤◌, ◌≡◌, List, true, length, take, drop}
use Rattle.formats.specs.Format.{V1}
use Rattle.image.specs.Layout.{most_bytes, most_room}
use Rattle.image.specs.Image.{sound}
use Rattle.program.specs.Program.{most_printed}

pub record Ready (input : List ℕ) (size room : ℕ) (out : List ℕ) (at : ℕ) : Type 0 where
  pub within : size ≤ length input
  pub small : size ≤ most_bytes
  pub most : room ≤ most_room
  pub good : sound V1 (take size input) ≡ true
  pub lines : at + most_printed (drop size input) ≤ length out
