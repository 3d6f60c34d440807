-- The versions of images and of commands, as data: what differs between them, and nothing else (rules 2.3, 2.4, 2.5 and 3.1).
-- Assumes nothing.
use Rattle.std.specs.Prelude.{ℕ}
use Rattle.formats.specs.declared.Version.{Version}
use Rattle.formats.specs.declared.Version.TheVariants as Version

-- The versions.
pub data Format : Type 0 where
  V1 : Format
  V2 : Format

-- The version that a value of the code names (rules 2.3 and 15.3).
abbrev pub format_of : Version → Format
format_of Version.V1 = V1
format_of Version.V2 = V2

-- The number that a header has for its version (rules 2.3 and 15.3).
abbrev pub version : Format → ℕ
version V1 = 1
version V2 = 2

-- How many translations a card has (rules 2.5 and 15.1).
abbrev pub translations : Format → ℕ
translations V1 = 1
translations V2 = 4

-- How long an entry is (rules 2.4 and 15.3), and where in it stand the length of the original, and of translation 0 the edition that it was made from and its
-- length. Those of the further translations follow, two bytes each; what stands behind the last length is zero.
abbrev pub entry_size : Format → ℕ
entry_size V1 = 32
entry_size V2 = 48

abbrev pub original_at : Format → ℕ
original_at V1 = 28
original_at V2 = 26

abbrev pub froms_at : Format → ℕ
froms_at V1 = 26
froms_at V2 = 28

abbrev pub lengths_at : Format → ℕ
lengths_at V1 = 30
lengths_at V2 = 36

-- How long a command is in front of its payload (rules 3.1 and 15.6), where its update pair stands, and where the zeros in front of its expected mark, which
-- stands at 36, begin; version 1 has none.
abbrev pub fixed : Format → ℕ
fixed V1 = 52
fixed V2 = 68

abbrev pub update_at : Format → ℕ
update_at V1 = 20
update_at V2 = 52

abbrev pub blank_at : Format → ℕ
blank_at V1 = 36
blank_at V2 = 21
