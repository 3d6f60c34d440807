-- The update pair that is told of a command by the rules, and none of another. Assumes nothing.
use mathlib.Core.Path.{◌≡◌, refl, sym, ◌∙◌}
use mathlib.Core.Bool.{Bool, true, false, cond, ◌&&◌}
use Rattle.lists.specs.Table.{all}
use Rattle.stamps.specs.Stamp.{session_checks}
use Rattle.stamps.specs.declared.Pair.{Pair}
use Rattle.commands.specs.Command.{opens_none, update, verifier_checks, pair_checks}
use Rattle.commands.specs.declared.Command.{Command}
use Rattle.std.specs.Prelude.{Some, None, is_some}
use Rattle.commands.proofs.Rules.{of_session, of_opened}

-- Told by a test, and what that says of the test.
pub told : {b : Bool} {p q : Pair} → b ≡ true → p ≡ q → Some p ≡ cond b (Some q) None
told h e = sym (rw (h, e))

pub untold : {b : Bool} (q : Pair) → b ≡ false → None ≡ cond b (Some q) None
untold q h = sym (rw h)

pub is_some_told : (b : Bool) (p : Pair) → is_some (cond b (Some p) None) ≡ b
is_some_told true p = refl
is_some_told false p = refl

module _ (c : Command) where
  module _ (none : opens_none c ≡ true) where
    pub opens_verifier : {b : Bool} → b ≡ all (session_checks c.mode c.verifier) → b ≡ true → Some c.verifier ≡ cond (all (pair_checks c)) (Some (update c)) None
    opens_verifier p h = told {p = c.verifier} {q = update c} (sym (of_session c none) ∙ sym p ∙ h) (rw none)

    pub opens_no_verifier : {b : Bool} → b ≡ all (session_checks c.mode c.verifier) → b ≡ false → None ≡ cond (all (pair_checks c)) (Some (update c)) None
    opens_no_verifier p h = untold (update c) (sym (of_session c none) ∙ sym p ∙ h)

  module _ (sent : opens_none c ≡ false) where
    pub opens_sent : {a b : Bool} → a ≡ all (session_checks c.mode c.opened) → b ≡ all (verifier_checks c) → (a && b) ≡ true → Some c.opened ≡ cond (all (pair_checks c)) (Some (update c)) None
    opens_sent p q h = told {p = c.opened} {q = update c} (sym (of_opened c sent) ∙ sym (rw (p, q)) ∙ h) (rw sent)

    pub opens_not_sent : {a b : Bool} → a ≡ all (session_checks c.mode c.opened) → b ≡ all (verifier_checks c) → (a && b) ≡ false → None ≡ cond (all (pair_checks c)) (Some (update c)) None
    opens_not_sent p q h = untold (update c) (sym (of_opened c sent) ∙ sym (rw (p, q)) ∙ h)
