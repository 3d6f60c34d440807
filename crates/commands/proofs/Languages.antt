-- A command reads and writes the translation that it names, and no other. Assumes nothing.
use Prim.Native.Nat.{ℕ}
use mathlib.Core.Path.{◌≡◌, refl}
use mathlib.Core.Logic.{◌⊎◌, inl, inr}
use mathlib.Core.Bool.{Bool, true, false, ◌&&◌}
use borrow.Author.Tests.{eqb-true, eq-eqb}
use lib.Dec.{eqb}
use Rattle.lists.proofs.Tests.{cases, never_both, and_left, and_right}
use Rattle.commands.specs.Command.{original, translation, reads_translation, writes_translation, reads, writes}
use Rattle.commands.specs.declared.Command.{Command}

and_holds : (a : Bool) {b : Bool} → b ≡ true → (a && b) ≡ a
and_holds true h = h
and_holds false h = refl

module _ (c : Command) where
  pub reads_named : (t : ℕ) → reads (translation t) c ≡ true → c.language ≡ t
  reads_named t h = eqb-true c.language t (and_right (reads_translation c) (eqb c.language t) h)

  pub writes_named : (t : ℕ) → writes (translation t) c ≡ true → c.language ≡ t
  writes_named t h = eqb-true c.language t (and_right (writes_translation c) (eqb c.language t) h)

  pub reads_act : (t : ℕ) → reads (translation t) c ≡ true → reads_translation c ≡ true
  reads_act t h = and_left (reads_translation c) (eqb c.language t) h

  pub writes_act : (t : ℕ) → writes (translation t) c ≡ true → writes_translation c ≡ true
  writes_act t h = and_left (writes_translation c) (eqb c.language t) h

  -- A command that writes a translation writes the one that it names.
  pub writes_own : writes (translation c.language) c ≡ writes_translation c
  writes_own = and_holds (writes_translation c) (eq-eqb c.language c.language refl)

  pub writes_other : (t : ℕ) → (c.language ≡ t → ⊥) → writes (translation t) c ≡ false
  writes_other t apart = go (cases (writes (translation t) c))
    where
      go : (writes (translation t) c ≡ true) ⊎ (writes (translation t) c ≡ false) → writes (translation t) c ≡ false
      go (inl w) = absurd (apart (writes_named t w))
      go (inr q) = q

  -- A command writes one text at most.
  pub one_write : writes original c ≡ true → (t : ℕ) → writes (translation t) c ≡ false
  one_write h t = rw (eqb-true c.act 3 h)

  pub no_original : (t : ℕ) → writes (translation t) c ≡ true → writes original c ≡ false
  no_original t h = go (cases (writes original c))
    where
      go : (writes original c ≡ true) ⊎ (writes original c ≡ false) → writes original c ≡ false
      go (inl p) = absurd (never_both h (one_write p t))
      go (inr q) = q

  -- A command that writes no translation writes none of them.
  pub none_written : writes_translation c ≡ false → (t : ℕ) → writes (translation t) c ≡ false
  none_written h t = rw h
