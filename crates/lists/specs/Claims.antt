-- What is claimed of little-endian numbers: `le` and `to_le` are each other's inverse. Proved in proofs/Claims.antt.
-- Assumes nothing.
use Rattle.std.specs.Prelude.{◌≡◌, ℕ, ◌^◌, ◌<◌, List, length}
use Rattle.lists.specs.Parts.{Bytes}
use Rattle.lists.specs.Le.{le, to_le}

-- A number that fits in `count` bytes is what its bytes stand for.
abbrev pub NumberComesBack : Type 0
NumberComesBack = (count n : ℕ) → n < 256 ^ count → le (to_le count n) ≡ n

-- A list of bytes is the bytes of the number that it stands for.
abbrev pub DigitsComeBack : Type 0
DigitsComeBack = (l : List ℕ) → Bytes l → to_le (length l) (le l) ≡ l

-- A list of bytes stands for a number that fits in as many bytes.
abbrev pub NumberFits : Type 0
NumberFits = (l : List ℕ) → Bytes l → le l < 256 ^ length l
