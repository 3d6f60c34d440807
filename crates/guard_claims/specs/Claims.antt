-- What is claimed of an entry that judges a command, and of commands in bytes. Proved in proofs/Claims.antt.
-- Assumes nothing.
use Rattle.std.specs.Prelude.{ℕ, suc, ◌+◌, ◌≤◌, ◌<◌, ◌≡◌, ◌↔◌, ◌⊎◌, List, [], ◌∷◌, false, not, T, length, Some, None}
use Rattle.lists.specs.Parts.{Bytes}
use Rattle.stamps.specs.Stamp.{shared, exclusive, stale, stamp_t, most_ahead, too_far}
use Rattle.formats.specs.Format.{Format, V1, V2, translations}
use Rattle.commands.specs.Command.{verifier, update, well_formed, FitsCommand}
use Rattle.commands.specs.Bytes.{fields_of, payload, formed, parsed, parsed_number, parsed_command, command_bytes}
use Rattle.lists.specs.Table.{row, first, applies, no_row, earlier}
use Rattle.guard.specs.Judge.{judge_rows, raise, judged}
use Rattle.guard.specs.Entry.{entry_sound, FitsEntry}
use Rattle.commands.specs.declared.Command.{Command}
use Rattle.guard.specs.declared.Entry.{Entry}
use Rattle.stamps.specs.declared.Pair.{Pair}
use Rattle.numbers.specs.Numbers.{MALFORMED}

-- What holds of an entry that judges a command.
pub record Judging (e : Entry) (c : Command) (room lent : ℕ) : Type 0 where
  -- Each number exactly when its row applies and none before it; accepted, 0, exactly when no row applies.
  pub each : (n : ℕ) → ((judged e c room lent).number ≡ suc n) ↔ (T (applies (suc n) (judge_rows e c room lent)) × T (no_row (earlier (suc n) (judge_rows e c room lent))))
  pub accepts : ((judged e c room lent).number ≡ 0) ↔ T (no_row (judge_rows e c room lent))
  -- A refusal leaves the entry as it was; an accepted command leaves it raised.
  pub leaves : (n : ℕ) → (judged e c room lent).number ≡ suc n → (judged e c room lent).entry ≡ e
  pub raises : (judged e c room lent).number ≡ 0 → (judged e c room lent).entry ≡ raise e c
  -- An accepted command is well formed, shared or exclusive, not stale, and not too far ahead.
  pub formed : (judged e c room lent).number ≡ 0 → T (well_formed c)
  pub mode : (judged e c room lent).number ≡ 0 → (c.mode ≡ shared) ⊎ (c.mode ≡ exclusive)
  pub fresh : (judged e c room lent).number ≡ 0 → stale c.mode e.pair (verifier c) ≡ false
  pub near : (judged e c room lent).number ≡ 0 → too_far e.pair (update c) ≡ false
  -- An entry by the rules of a sound image stays so, and within its fields' widths, whatever it judges; its stamps grow.
  pub sound : T (entry_sound room e) → T (entry_sound room (judged e c room lent).entry)
  pub fits : FitsEntry e → FitsCommand c → FitsEntry (judged e c room lent).entry
  pub grows : (e.pair.s ≤ (judged e c room lent).entry.pair.s) × (e.pair.x ≤ (judged e c room lent).entry.pair.x)
  -- The T of a stored stamp grows by 1,000,000 at most, whatever is judged (rule 4.9).
  pub bounded :
      (stamp_t (judged e c room lent).entry.pair.s ≤ stamp_t e.pair.s + most_ahead)
      × (stamp_t (judged e c room lent).entry.pair.x ≤ stamp_t e.pair.x + most_ahead)

abbrev pub Judges : Type 0
Judges = (e : Entry) (c : Command) (room lent : ℕ) → Judging e c room lent

-- What is stale stays stale, as the stored stamps grow.
abbrev pub StaleStays : Type 0
StaleStays = (mode : ℕ) (stored more new : Pair) → stored.s ≤ more.s → stored.x ≤ more.x → T (stale mode stored new) → T (stale mode more new)

-- Lent bytes by number: 1 exactly where row 1 applies to them, with zeros, else 0 with the numbers at their offsets (rule 3.1).
pub record Parsing (f : Format) (bytes : List ℕ) : Type 0 where
  pub number : parsed_number (parsed f bytes) ≡ first (row (not (formed f bytes)) MALFORMED ∷ [])
  pub numbers : T (formed f bytes) → parsed_command (parsed f bytes) ≡ fields_of f bytes
  pub blanks : T (not (formed f bytes)) → parsed_command (parsed f bytes) ≡ parsed_command None

abbrev pub Parses : Type 0
Parses = (f : Format) (bytes : List ℕ) → Parsing f bytes

-- A well-formed command that names a translation of its version comes back from its bytes, and so does its payload.
abbrev pub CommandComesBack : Type 0
CommandComesBack =
    (f : Format) (c : Command) (text : List ℕ) → FitsCommand c → c.language < translations f → T (well_formed c) → length text ≡ c.length →
    (parsed f (command_bytes f c text) ≡ Some c) × (payload f (command_bytes f c text) ≡ text)

-- Bytes that are a command are the bytes of that command and its payload.
abbrev pub BytesComeBack : Type 0
BytesComeBack = (f : Format) (bytes : List ℕ) → Bytes bytes → T (formed f bytes) → command_bytes f (fields_of f bytes) (payload f bytes) ≡ bytes

-- Rule 15.7: no bytes are a command of both versions. Both have the payload's length at 50, and other bytes before the payload.
abbrev pub OneCommandVersion : Type 0
OneCommandVersion = (bytes : List ℕ) → T (formed V2 bytes) → formed V1 bytes ≡ false
