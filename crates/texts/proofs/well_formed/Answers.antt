-- The section at the front is the whole, or not. Assumes nothing.
use mathlib.Core.Path.{refl, subst}
use borrow.Author.Tests.{eqb-true, eq-eqb}
use Rattle.lists.proofs.Tests.{never_both}
use Rattle.texts.specs.inner.Read.{ReadsSection}
use Rattle.std.specs.Prelude.{Option}
use Prim.Native.Nat.{ℕ}
use Rattle.texts.proofs.Reading.{front_says, front_whole, front_ill}
use Rattle.texts.proofs.well_formed.Goals as goal

pub returns-in-Some : goal.returns-in-Some
returns-in-Some c =
    let text = c.args.text.now in
    let read = subst (λ (r : Option ℕ). ReadsSection text 0 8 r) c.in-Some.is c.section.ensures in
    ((λ t. front_says text read (eqb-true _ _ t)), (λ f. eq-eqb _ _ (front_whole text read f)))

pub returns-in-None : goal.returns-in-None
returns-in-None c =
    let text = c.args.text.now in
    let read = subst (λ (r : Option ℕ). ReadsSection text 0 8 r) c.in-None.is c.section.ensures in
    ((λ t. absurd (never_both t refl)), (λ f. absurd (front_ill text read f)))
