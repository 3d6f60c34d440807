-- A card after an accepted command: its texts, its translations, and its entry as seen in each of them. Assumes nothing.
use Prim.Native.Nat.{ℕ, ◌+◌, ◌≤◌, ◌<◌}
use native.Mathlib.Omega.{arith}
use mathlib.Core.Path.{◌≡◌, refl, sym, ap, subst, ◌∙◌}
use mathlib.Core.Logic.{◌⊎◌, inl, inr}
use mathlib.Core.List.{List}
use mathlib.Core.Bool.{Bool, true, false, cond, ◌&&◌}
use borrow.Author.Tests.{eqb-true, eqb-false}
use lib.Dec.{eqb}
use lib.ListN.{length, get_or, set, length-set}
use lib.Seq.{get_or-set_same, get_or-set_other}
use Rattle.lists.proofs.Tests.{cases}
use Rattle.commands.specs.Command.{Language, original, translation, writes_translation, writes}
use Rattle.commands.specs.declared.Command.{Command}
use Rattle.commands.proofs.Languages.{writes_own}
use Rattle.guard.specs.Judge.{raise}
use Rattle.guard.specs.declared.Entry.{Entry}
use Rattle.image.proofs.Mixed.{mixed}
use Rattle.image.specs.Image.{Card, Translation, no_translation, translation_of, view, text}
use Rattle.store_model.specs.Serve.{stepped}

-- What is made of the one that a test picks.
made_of : {A B : Type 0} (g : A → B) (b : Bool) (u v : A) → g (cond b u v) ≡ cond b (g u) (g v)
made_of g true u v = refl
made_of g false u v = refl

module _ (card : Card) (c : Command) (written : List ℕ) where
  abbrev now : Card
  now = stepped card c written

  -- The translation that a write of a translation leaves.
  abbrev new : Translation
  new = record { from = c.edition; text = written }

  pub count_step : length now.translated ≡ length card.translated
  unfolding stepped
  count_step = go (writes_translation c)
    where
      go : (b : Bool) → length (cond b (set card.translated c.language new) card.translated) ≡ length card.translated
      go true = length-set card.translated c.language new
      go false = refl

  -- From here on the card has the translation that the command names.
  module _ (known : c.language < length card.translated) where
    -- Translation t: the new one where the command writes it, else as it was.
    pub translation_step : (t : ℕ) → translation_of t now ≡ cond (writes (translation t) c) new (translation_of t card)
    unfolding stepped
    translation_step t = go (cases (writes_translation c)) (cases (eqb c.language t))
      where
        go : (writes_translation c ≡ true) ⊎ (writes_translation c ≡ false) → (eqb c.language t ≡ true) ⊎ (eqb c.language t ≡ false)
            → get_or (cond (writes_translation c) (set card.translated c.language new) card.translated) t no_translation
            ≡ cond (writes_translation c && eqb c.language t) new (translation_of t card)
        go (inl p) (inl q) =
            rw (p, q)
            (subst (λ (j : ℕ). get_or (set card.translated c.language new) j no_translation ≡ new) (eqb-true c.language t q)
            (get_or-set_same card.translated c.language new no_translation known))
        go (inl p) (inr q) =
            rw (p, q) (get_or-set_other card.translated c.language t new no_translation (λ z. eqb-false c.language t q (sym z)))
        go (inr p) either = rw p

    pub text_step : (l : Language) → text l now ≡ cond (writes l c) written (text l card)
    unfolding stepped
    text_step original = refl
    text_step (translation t) =
        ap (λ (u : Translation). u.text) (translation_step t)
        ∙ made_of (λ (u : Translation). u.text) (writes (translation t) c) new (translation_of t card)

    pub from_step : (t : ℕ) → (translation_of t now).from ≡ cond (writes (translation t) c) c.edition (translation_of t card).from
    from_step t =
        ap (λ (u : Translation). u.from) (translation_step t)
        ∙ made_of (λ (u : Translation). u.from) (writes (translation t) c) new (translation_of t card)

    -- From here on the payload is as long as the command says.
    module _ (long : length written ≡ c.length) where
      abbrev lifted : Entry
      lifted = raise (view c.language card) c

      length_step : (l : Language) → length (text l now) ≡ cond (writes l c) c.length (length (text l card))
      length_step l = ap length (text_step l) ∙ made_of length (writes l c) written (text l card) ∙ rw long

      -- As seen in the translation that the command names, the entry is the raised one.
      pub seen_named : view c.language now ≡ lifted
      unfolding stepped raise
      seen_named =
          let from : (translation_of c.language now).from ≡ lifted.from = from_step c.language ∙ rw (writes_own c) in
          let originals : length now.original ≡ lifted.original = length_step original in
          let size : length (translation_of c.language now).text ≡ lifted.translation = length_step (translation c.language) ∙ rw (writes_own c) in
          λ i. record { pair = lifted.pair; mark = lifted.mark; edition = lifted.edition; from = from i; original = originals i; translation = size i }

-- As seen in a translation that the command does not write, the entry is the raised one with that translation as it was.
pub seen_other : (card : Card) (c : Command) (written : List ℕ) → c.language < length card.translated → length written ≡ c.length
    → (t : ℕ) → writes (translation t) c ≡ false → view t (stepped card c written) ≡ mixed (view t card) (raise (view c.language card) c)
unfolding stepped raise
seen_other card c written known long t other =
    let from : (translation_of t (stepped card c written)).from ≡ (translation_of t card).from = from_step card c written known t ∙ rw other in
    let originals : length (stepped card c written).original ≡ (raise (view c.language card) c).original = length_step card c written known long original in
    let size : length (translation_of t (stepped card c written)).text ≡ length (translation_of t card).text =
    length_step card c written known long (translation t) ∙ rw other in
    let lifted = raise (view c.language card) c in
    λ i. record { pair = lifted.pair; mark = lifted.mark; edition = lifted.edition; from = from i; original = originals i; translation = size i }

pub edition_kept : (e : Entry) (c : Command) → e.edition ≤ (raise e c).edition
unfolding raise
edition_kept e c = go (writes original c)
  where
    go : (b : Bool) → e.edition ≤ cond b (e.edition + 1) e.edition
    go true = omega arith
    go false = omega arith
