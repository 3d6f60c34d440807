-- What a parse says of the bytes. Assumes nothing.
use Prim.Native.Nat.{ℕ}
use native.Mathlib.Omega.{arith}
use mathlib.Core.Path.{◌≡◌, sym, ap, subst, ◌∙◌}
use mathlib.Core.List.{List}
use mathlib.Core.Logic.{◌⊎◌, inl, inr}
use mathlib.Core.Bool.{true, false}
use Rattle.lists.proofs.Tests.{cases}
use Rattle.formats.specs.Format.{Format}
use Rattle.commands.specs.Bytes.{fields_of, formed, parsed}
use Rattle.commands.specs.declared.Command.{Command}
use Rattle.std.specs.Prelude.{Option, Some, None, is_some, IfSome}
use Rattle.commands.specs.declared.formed.Formed.{Formed}
use Rattle.commands.proofs.CommandBytes.{parsed_formed, parsed_malformed}

pub is_malformed : (f : Format) (bytes : List ℕ) → None ≡ parsed f bytes → formed f bytes ≡ false
is_malformed f bytes e = go (cases (formed f bytes))
  where
    go : (formed f bytes ≡ true) ⊎ (formed f bytes ≡ false) → formed f bytes ≡ false
    go (inl t) = let never : ◌≡◌ {A = ℕ} 0 1 = cc (parsed_formed f bytes t) in absurd (omega arith)
    go (inr g) = g

pub is_formed : (f : Format) (bytes : List ℕ) {c : Command} → Some c ≡ parsed f bytes → (formed f bytes ≡ true) × (c ≡ fields_of f bytes)
is_formed f bytes {c} e = go (cases (formed f bytes))
  where
    go : (formed f bytes ≡ true) ⊎ (formed f bytes ≡ false) → (formed f bytes ≡ true) × (c ≡ fields_of f bytes)
    go (inl t) = (t, cc (parsed_formed f bytes t))
    go (inr g) = let never : ◌≡◌ {A = ℕ} 0 1 = cc (parsed_malformed f bytes g) in absurd (omega arith)

-- The same of what the parse hands on to the guard.
module _ (f : Format) (bytes : List ℕ) (o : Option Formed) (tests : is_some o ≡ formed f bytes) (numbers : IfSome o (λ (g : Formed). g.command ≡ fields_of f bytes)) where
  pub nothing_found : o ≡ None → formed f bytes ≡ false
  nothing_found e = sym tests ∙ ap is_some e

  pub found : {g : Formed} → o ≡ Some g → (formed f bytes ≡ true) × (g.command ≡ fields_of f bytes)
  found e = (sym tests ∙ ap is_some e, subst (λ (p : Option Formed). IfSome p (λ (g : Formed). g.command ≡ fields_of f bytes)) e numbers)
