-- A command in bytes (rules 3.1 and 3.3).
-- Assumes nothing.
use Rattle.std.specs.Prelude.{ℕ, ◌+◌, ◌-◌, List, [], ◌∷◌, ◌++◌, Bool, cond, ◌&&◌, length, drop, get_or, replicate, eqb, Option, Some, None}
use Rattle.lists.specs.Parts.{part, zeros}
use Rattle.lists.specs.Le.{to_le, field}
use Rattle.stamps.specs.Stamp.{no_pair, no_mark}
use Rattle.stamps.specs.declared.Mark.{Mark}
use Rattle.stamps.specs.declared.Pair.{Pair}
use Rattle.formats.specs.Format.{Format, V1, V2, fixed, update_at, blank_at}
use Rattle.commands.specs.declared.Command.{Command}
use Rattle.commands.specs.Command.{well_formed}
use Rattle.numbers.specs.Numbers.{MALFORMED}

-- A commit mark at an offset (rule 3.1): the expected one at 36, the next one at 42.
abbrev pub mark_at : ℕ → List ℕ → Mark
mark_at at bytes = record { desk = field at 2 bytes; transaction = field (at + 2) 4 bytes }

-- A pair at an offset (rule 3.1): the verifier at 4, and what stands for the update pair.
abbrev pub pair_at : ℕ → List ℕ → Pair
pair_at at bytes = record { s = field at 8 bytes; x = field (at + 8) 8 bytes }

-- The translation that a command names, by its number (rule 15.6): version 1 has one, and no byte for it.
abbrev pub language_at : Format → List ℕ → ℕ
language_at V1 bytes = 0
language_at V2 bytes = get_or bytes 20 0

-- The numbers of a command, by the offsets of rule 3.1. What stands for the update pair is kept as it came, all zero too, so that the bytes come back.
unfoldable pub fields_of : Format → List ℕ → Command
fields_of f bytes =
    record {
      act = get_or bytes 0 0;
      mode = get_or bytes 1 0;
      language = language_at f bytes;
      card = field 2 2 bytes;
      verifier = pair_at 4 bytes;
      opened = pair_at (update_at f) bytes;
      expected = mark_at 36 bytes;
      next = mark_at 42 bytes;
      edition = field 48 2 bytes;
      length = field 50 2 bytes;
    }

unfoldable pub payload : Format → List ℕ → List ℕ
payload f bytes = drop (fixed f) bytes

-- The bytes in front of the expected mark that are to be zero.
abbrev pub blanks : Format → List ℕ → List ℕ
blanks f bytes = part (blank_at f) (36 - blank_at f) bytes

-- How long the command is that begins these bytes, malformed or not (rule 8.1).
abbrev pub extent : Format → List ℕ → ℕ
extent f bytes = fixed f + field 50 2 bytes

-- Lent bytes are a command (rule 3.3): as long as they say, zeros where they are to be, and numbers by the rules.
unfoldable pub formed : Format → List ℕ → Bool
formed f bytes = eqb (length bytes) (extent f bytes) && zeros (blanks f bytes) && well_formed (fields_of f bytes)

unfoldable pub parsed : Format → List ℕ → Option Command
parsed f bytes = cond (formed f bytes) (Some (fields_of f bytes)) None

-- What a parse is: number 1 and zeros where it is malformed, else the command, with nothing refused yet.
abbrev pub parsed_number : Option Command → ℕ
parsed_number None = MALFORMED
parsed_number (Some c) = 0

abbrev pub parsed_command : Option Command → Command
parsed_command None =
    record { act = 0; mode = 0; language = 0; card = 0; verifier = no_pair; opened = no_pair; expected = no_mark; next = no_mark; edition = 0; length = 0 }
parsed_command (Some c) = c

-- The bytes of a command, the other way round.
abbrev pub mark_bytes : Mark → List ℕ
mark_bytes m = to_le 2 m.desk ++ to_le 4 m.transaction

abbrev pub pair_bytes : Pair → List ℕ
pair_bytes p = to_le 8 p.s ++ to_le 8 p.x

-- What stands from 20 to the expected mark, and behind the length.
abbrev pub middle_bytes : Format → Command → List ℕ
middle_bytes V1 c = pair_bytes c.opened
middle_bytes V2 c = c.language ∷ replicate 15 0

abbrev pub last_bytes : Format → Command → List ℕ
last_bytes V1 c = []
last_bytes V2 c = pair_bytes c.opened

unfoldable pub command_bytes : Format → Command → List ℕ → List ℕ
command_bytes f c text =
    (c.act ∷ c.mode ∷ [])
    ++ to_le 2 c.card
    ++ pair_bytes c.verifier
    ++ middle_bytes f c
    ++ mark_bytes c.expected
    ++ mark_bytes c.next
    ++ to_le 2 c.edition
    ++ to_le 2 c.length
    ++ last_bytes f c
    ++ text
