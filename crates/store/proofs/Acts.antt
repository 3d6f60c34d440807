-- What an accepted command comes to, by its act. Assumes nothing.
use Prim.Native.Nat.{ℕ}
use native.Mathlib.Omega.{arith}
use mathlib.Core.Path.{◌≡◌, refl, ap, ◌∙◌}
use mathlib.Core.Bool.{Bool, true, false}
use borrow.Author.Tests.{eqb-true, eqb-false, eq-eqb}
use lib.Dec.{eqb}
use Rattle.commands.specs.Command.{original, reads, reads_translation, writes, writes_translation, well_formed}
use Rattle.commands.specs.declared.Command.{Command}
use Rattle.commands.proofs.Rules.{command_rules}
use Rattle.guard.specs.declared.Entry.{Entry}
use Rattle.guard.specs.declared.Answer.{Answer}
use Rattle.guard.specs.Judge.{raise}
use Rattle.guard.specs.Replies.{read_length, replied}
use Rattle.store.specs.declared.inner.effects.Effect.{Effect}

-- An effect with the length that it should have.
pub effect_is : {r : Effect} {e : Entry} {m n : ℕ} → r ≡ record { entry = e; length = m } → m ≡ n → r ≡ record { entry = e; length = n }
effect_is p q = rw q at p

-- One act is no other.
pub other : {x n : ℕ} (m : ℕ) → x ≡ n → eqb n m ≡ false → eqb x m ≡ false
other m p f = ap (λ (k : ℕ). eqb k m) p ∙ f

-- The act that is left.
pub last_act : (c : Command) → well_formed c ≡ true → (c.act ≡ 5 → ⊥) → reads original c ≡ false → reads_translation c ≡ false → writes original c ≡ false → writes_translation c ≡ true
last_act c w five one two three =
    let rules = command_rules c w in
    eq-eqb c.act 4
    (omega (arith, rules.least, rules.most, five, eqb-false c.act 1 one, eqb-false c.act 2 two, eqb-false c.act 3 three))

module _ (e : Entry) (c : Command) where
  pub length_none : reads original c ≡ false → reads_translation c ≡ false → 0 ≡ read_length e c
  length_none h g = rw (h, g)

  pub length_original : reads original c ≡ true → e.original ≡ read_length e c
  length_original h = rw h

  pub length_translation : reads original c ≡ false → reads_translation c ≡ true → e.translation ≡ read_length e c
  length_translation h g = rw (h, g)

  -- A text that is read stays, so its length does.
  read_kept : read_length e c ≡ read_length (raise e c) c
  unfolding raise
  read_kept = go (reads original c) (reads_translation c) refl refl
    where
      go : (x y : Bool) → reads original c ≡ x → reads_translation c ≡ y → read_length e c ≡ read_length (raise e c) c
      go true y p q = rw (eqb-true c.act 1 p)
      go false true p q = rw (eqb-true c.act 2 q)
      go false false p q = rw (p, q)

  -- What is answered to an accepted command.
  pub told_is : {n : ℕ} {d : Effect} {a : Answer} → n ≡ 0 → d ≡ record { entry = raise e c; length = read_length e c } →
      a ≡ record { number = 0; pair = d.entry.pair; mark = d.entry.mark; edition = d.entry.edition; from = d.entry.from; length = d.length } → a ≡ replied n (raise e c) c
  unfolding replied
  told_is z d t = rw (t, d, z, read_kept)
