-- Lent bytes that are a command: its numbers keep the rules, and one that writes nothing has no payload. Assumes nothing.
use mathlib.Core.Path.{◌≡◌, sym, ap, ◌∙◌}
use mathlib.Core.List.{List}
use mathlib.Core.Bool.{Bool, true, false, ◌||◌, or-false}
use Prim.Native.Nat.{ℕ}
use borrow.Author.Tests.{eqb-true}
use lib.Dec.{eqb}
use Rattle.formats.specs.Format.{Format}
use Rattle.commands.specs.Command.{is_write, well_formed}
use Rattle.commands.specs.Bytes.{fields_of, formed}
use Rattle.commands.specs.declared.Command.{Command}
use Rattle.commands.proofs.CommandBytes.{formedness}
use Rattle.commands.proofs.Rules.{CommandRules, command_rules}

pub formed_well : (f : Format) (bytes : List ℕ) → formed f bytes ≡ true → well_formed (fields_of f bytes) ≡ true
formed_well f bytes e = (formedness f bytes e).rules

pub formed_rules : (f : Format) (bytes : List ℕ) → formed f bytes ≡ true → CommandRules (fields_of f bytes)
formed_rules f bytes e = command_rules (fields_of f bytes) (formed_well f bytes e)

-- A command that writes nothing has no payload.
pub no_payload : (c : Command) → CommandRules c → is_write c ≡ false → c.length ≡ 0
no_payload c r w =
    eqb-true c.length 0 (sym (or-false (eqb c.length 0)) ∙ sym (ap (λ (b : Bool). eqb c.length 0 || b) w) ∙ r.length)
