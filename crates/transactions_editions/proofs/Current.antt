-- What holds of translations at every moment, and that each step keeps it. Assumes nothing.
use Prim.Native.Nat.{ℕ, ◌+◌, ◌≤◌, ◌<◌}
use native.Mathlib.Omega.{arith}
use mathlib.Core.Path.{◌≡◌, refl, sym, ap, ◌∙◌, subst}
use mathlib.Core.Logic.{◌⊎◌, inl, inr}
use mathlib.Core.Bool.{Bool, true, false, cond, not, ◌&&◌}
use borrow.Author.Tests.{eqb-true, eq-eqb, ne_eqb, ltb-true, leb-true, not-true}
use lib.ListN.{length}
use lib.Dec.{eqb, lit<}
use Rattle.formats.specs.Format.{V1}
use Rattle.lists.proofs.Tests.{cases, or_right, not_in, from_T, all_out}
use Rattle.commands.specs.declared.Command.{Command}
use Rattle.commands.specs.Command.{original, is_write, writes, writes_translation}
use Rattle.commands.specs.Bytes.{payload}
use Rattle.commands.proofs.Rules.{CommandRules}
use Rattle.commands.proofs.CommandBytes.{language_within}
use Rattle.store_model.proofs.Formed.{formed_rules}
use Rattle.guard.specs.Entry.{entry_sound}
use Rattle.guard.specs.Judge.{behind, raise}
use Rattle.guard.specs.declared.Entry.{Entry}
use Rattle.image.specs.Image.{Card, Cards, GoodCards, view, translation_of}
use Rattle.store_model.specs.Serve.{stepped}
use Rattle.store_model.specs.Words.{Sent}
use Rattle.store_model.proofs.Machine.{number_on, Passed, passed}
use Rattle.store_model.proofs.Stepped.{from_step}
use Rattle.redo_recovery_model.proofs.Texts.{counted}
use Rattle.transactions.specs.System.{command_in}
use Rattle.transactions.proofs.Serving.{at, then, stepped_here}

-- A card's translation is current.
abbrev pub cur : Card → Bool
cur card = not (behind card.edition (translation_of 0 card).from)

-- ---- an accepted request

entry_source : (room : ℕ) (e : Entry) → entry_sound room e ≡ true → e.from ≤ e.edition
unfolding entry_sound
entry_source room e h = leb-true e.from e.edition (all_out _ h 5)

module _ (cs : Cards) (s : Sent) (gc : GoodCards V1 cs) (z : number_on V1 cs s ≡ 0) where
  abbrev c : Command
  c = command_in s

  abbrev stored : Card
  stored = at cs c.card

  abbrev now : Card
  now = stepped stored c (payload V1 s.command)

  known : Passed V1 cs s
  known = passed V1 cs s z

  rules : CommandRules c
  rules = formed_rules V1 s.command known.well_formed

  first_language : c.language ≡ 0
  first_language = let below : c.language < 1 = language_within V1 s.command known.well_formed in omega arith

  has : c.language < length stored.translated
  has = subst (λ (n : ℕ). c.language < n) (sym (counted cs gc c.card)) (language_within V1 s.command known.well_formed)

  source : (translation_of 0 stored).from ≤ stored.edition
  source =
      entry_source cs.room (view 0 stored)
      (from_T (entry_sound cs.room (view 0 stored)) ((gc.each c.card (ltb-true c.card (length cs.cards) known.exists)).rules 0 (lit< tt)))

  from_now : (translation_of 0 now).from ≡ cond (writes_translation c) c.edition (translation_of 0 stored).from
  from_now = from_step stored c (payload V1 s.command) has 0 ∙ ap (λ (b : Bool). cond b c.edition (translation_of 0 stored).from) (named (writes_translation c))
    where
      named : (b : Bool) → (b && eqb c.language 0) ≡ b
      named true = eq-eqb c.language 0 first_language
      named false = refl

  edition_now : now.edition ≡ cond (writes original c) (stored.edition + 1) stored.edition
  unfolding stepped raise
  edition_now = refl

  cur_now : cur now ≡ cond (is_write c) (writes_translation c) (cur stored)
  cur_now = ap (λ (n : ℕ). not (behind n (translation_of 0 now).from)) edition_now ∙ ap
      (λ (n : ℕ). not (behind (cond (writes original c) (stored.edition + 1) stored.edition) n)) from_now ∙ go (cases (writes original c))
      (cases (writes_translation c))
    where
      go : (writes original c ≡ true) ⊎ (writes original c ≡ false) → (writes_translation c ≡ true) ⊎ (writes_translation c ≡ false)
          → not (behind (cond (writes original c) (stored.edition + 1) stored.edition)
          (cond (writes_translation c) c.edition (translation_of 0 stored).from)) ≡ cond (is_write c) (writes_translation c) (cur stored)
      go (inl p) (inl q) = absurd (omega (arith, eqb-true c.act 3 p, eqb-true c.act 4 q))
      go (inl p) (inr q) =
          let newer : eqb (translation_of 0 stored).from (stored.edition + 1) ≡ false = ne_eqb (translation_of 0 stored).from (stored.edition + 1) (λ w. omega (arith, source)) in
          rw (p, q) (ap not (or_right (eqb (translation_of 0 stored).from 0) (not_in newer)))
      go (inr p) (inl q) =
          let same : c.edition ≡ stored.edition = known.judged.named q in
          let some : eqb c.edition 0 ≡ false = not-true (eqb c.edition 0) (sym rules.edition ∙ q) in
          rw (p, q) (rw (some, eq-eqb c.edition stored.edition same))
      go (inr p) (inr q) = rw (p, q)

  pub cur_then : cur (at (then cs s) c.card) ≡ cond (is_write c) (writes_translation c) (cur stored)
  cur_then = ap cur (stepped_here cs s gc z) ∙ cur_now
