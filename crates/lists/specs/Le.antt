-- Little-endian numbers of any byte count (rule 2.1).
-- Assumes nothing.
use Rattle.std.specs.Prelude.{ℕ, zero, suc, ◌+◌, ◌*◌, ◌/◌, ◌%◌, List, [], ◌∷◌}
use Rattle.lists.specs.Parts.{part}

-- The number that a list of bytes stands for: the first byte counts units, the next 256s, and so on.
unfoldable pub le : List ℕ → ℕ
le [] = 0
le (b ∷ bs) = le bs * 256 + b

-- The `count` bytes that stand for n, lowest first; what does not fit is dropped.
unfoldable pub to_le : ℕ → ℕ → List ℕ
to_le zero n = []
to_le (suc count) n = n % 256 ∷ to_le count (n / 256)

-- The number of `count` bytes at an offset.
abbrev pub field : ℕ → ℕ → List ℕ → ℕ
field at count bytes = le (part at count bytes)
