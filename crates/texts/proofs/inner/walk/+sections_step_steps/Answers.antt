-- The cycle of calls of the walk over two texts: the nesting falls from two sections to their steps, and the steps' loop counts them down. Assumes nothing.
use mathlib.Core.Path.{◌≡◌, sym, subst}
use Rattle.std.proofs.lemmas.Result.{err_from_is_err_and}
use Prim.Native.Nat.{◌+◌, ◌-◌}
use native.Mathlib.Omega.{arith}
use Rattle.texts.specs.inner.Walk.{same, differ, StepsWalked}
use Rattle.texts.proofs.Walking.{
  places as same-places,
  opened_both,
  pair_fits,
  sections_open,
  sections_walked,
  pair_other,
  pair_words,
  words_fit,
  drops_fit,
  pair_drops,
  sections_here,
  pair_sections,
  steps_done,
  steps_unlike,
  pair_first,
  steps_differ,
  steps_behind,
  steps_on,
}
use Rattle.texts.proofs.inner.walk.+sections_step_steps.Goals as goal

pub sections-overflow_add-i : goal.sections-overflow_add-i
sections-overflow_add-i t c =
    let start = c.args in
    omega (arith, (opened_both start.a.now start.i start.b.now start.j start.nesting c.requires).0)

pub sections-overflow_add-i-2 : goal.sections-overflow_add-i-2
sections-overflow_add-i-2 t c =
    let start = c.args in
    omega (arith, (opened_both start.a.now start.i start.b.now start.j start.nesting c.requires).0)

pub sections-bounds-a-i : goal.sections-bounds-a-i
sections-bounds-a-i t c =
    let start = c.args in
    omega (arith, (opened_both start.a.now start.i start.b.now start.j start.nesting c.requires).0)

pub sections-overflow_cast-a : goal.sections-overflow_cast-a
sections-overflow_cast-a t c = omega (arith, c.type_inv.a (c.args.i + 1))

pub sections-overflow_add-j : goal.sections-overflow_add-j
sections-overflow_add-j t c =
    let start = c.args in
    omega (arith, (opened_both start.a.now start.i start.b.now start.j start.nesting c.requires).1)

pub sections-overflow_add-j-2 : goal.sections-overflow_add-j-2
sections-overflow_add-j-2 t c =
    let start = c.args in
    omega (arith, (opened_both start.a.now start.i start.b.now start.j start.nesting c.requires).1)

pub sections-bounds-b-j : goal.sections-bounds-b-j
sections-bounds-b-j t c =
    let start = c.args in
    omega (arith, (opened_both start.a.now start.i start.b.now start.j start.nesting c.requires).1)

pub sections-overflow_cast-b : goal.sections-overflow_cast-b
sections-overflow_cast-b t c = omega (arith, c.type_inv.b (c.args.j + 1))

pub sections-overflow_sub-nesting : goal.sections-overflow_sub-nesting
sections-overflow_sub-nesting t c =
    let start = c.args in
    omega (arith, (opened_both start.a.now start.i start.b.now start.j start.nesting c.requires).2)

pub sections-steps-requires : goal.sections-steps-requires
sections-steps-requires t c =
    let start = c.args in (
      omega (
        arith,
        (opened_both start.a.now start.i start.b.now start.j start.nesting
            c.requires).2,
        c.type_inv.a (start.i + 1),
      ),
      sections_open start.a.now
          start.i start.b.now start.j start.nesting c.requires,
    )

pub sections-returns : goal.sections-returns
sections-returns t c =
    let start = c.args in
    sections_walked start.a.now start.i start.b.now start.j start.nesting _ c.steps.ensures

pub step-bounds-a-i : goal.step-bounds-a-i
step-bounds-a-i t c =
    let start = c.args in
    omega (arith, (pair_fits start.a.now start.i start.b.now start.j start.nesting c.requires).0)

pub step-bounds-b-j : goal.step-bounds-b-j
step-bounds-b-j t c =
    let start = c.args in
    omega (arith, (pair_fits start.a.now start.i start.b.now start.j start.nesting c.requires).1)

pub step-returns-then-kind-b : goal.step-returns-then-kind-b
step-returns-then-kind-b t c =
    let start = c.args in
    pair_other start.a.now start.i start.b.now start.j start.nesting c.if-kind-b.true

pub step-behind_words-requires : goal.step-behind_words-requires
step-behind_words-requires t c =
    let start = c.args in
    (words_fit start.a.now start.i start.b.now start.j start.nesting c.if-kind-b.false c.if-kind-eq-WORDS.true c.requires).0

pub step-behind_words-requires-then-kind-eq-WORDS : goal.step-behind_words-requires-then-kind-eq-WORDS
step-behind_words-requires-then-kind-eq-WORDS t c =
    let start = c.args in
    (words_fit start.a.now start.i start.b.now start.j start.nesting c.if-kind-b.false c.if-kind-eq-WORDS.true
    c.requires).1

pub step-returns-then-kind-eq-WORDS : goal.step-returns-then-kind-eq-WORDS
step-returns-then-kind-eq-WORDS t c =
    let start = c.args in
    subst (StepsWalked start.a.now start.i start.b.now start.j start.nesting)
    (same-places (sym c.behind_words.ensures) (sym c.behind_words-then-kind-eq-WORDS.ensures))
    (pair_words start.a.now start.i start.b.now start.j start.nesting c.if-kind-b.false
    c.if-kind-eq-WORDS.true)

pub step-degrees-requires : goal.step-degrees-requires
step-degrees-requires t c =
    let start = c.args in
    drops_fit start.a.now start.i start.b.now start.j start.nesting c.if-kind-b.false c.if-kind-eq-DROP.true c.requires

pub step-returns-then-kind-eq-DROP : goal.step-returns-then-kind-eq-DROP
step-returns-then-kind-eq-DROP t c =
    let start = c.args in
    pair_drops start.a.now start.i start.b.now start.j start.nesting c.if-kind-b.false _ c.if-kind-eq-DROP.true c.degrees.ensures

pub step-overflow_add-i : goal.step-overflow_add-i
step-overflow_add-i t c =
    let start = c.args in
    omega (arith, (pair_fits start.a.now start.i start.b.now start.j start.nesting c.requires).0)

pub step-overflow_add-j : goal.step-overflow_add-j
step-overflow_add-j t c =
    let start = c.args in
    omega (arith, (pair_fits start.a.now start.i start.b.now start.j start.nesting c.requires).1)

pub step-sections-requires : goal.step-sections-requires
step-sections-requires t c =
    let start = c.args in (
      omega arith,
      sections_here start.a.now start.i start.b.now
          start.j start.nesting c.if-kind-b.false c.if-kind-eq-WORDS.false c.if-kind-eq-DROP.false
          c.requires,
    )

pub step-returns : goal.step-returns
step-returns t c =
    let start = c.args in
    pair_sections start.a.now start.i start.b.now start.j start.nesting c.if-kind-b.false
    c.if-kind-eq-WORDS.false c.if-kind-eq-DROP.false _ c.sections.ensures

pub steps-step-requires : goal.steps-step-requires
steps-step-requires t c =
    let start = c.args in
    let here = c.loop in (
      omega arith,
      pair_first start.a.now here.x start.b.now here.y start.nesting
          (λ none. omega (arith, none, c.loop-test.true, c.min-end.ensures))
          (λ none. omega (arith, none, c.loop-test.true, c.min-end.ensures)) here.invariant.2,
    )

pub steps-returns-in_err-x : goal.steps-returns-in_err-x
steps-returns-in_err-x t c =
    let start = c.args in
    let here = c.loop in
    let step = subst (StepsWalked start.a.now here.x start.b.now here.y start.nesting) c.in_err-x.was c.step.ensures in
    let p = err_from_is_err_and c.from_residual.result c.from_residual.ensures.1 in
    rw (p.1, p.2) (here.invariant.3 _ (steps_differ start.a.now here.x start.b.now here.y start.nesting
    (λ none. omega (arith, none, c.loop-test.true, c.min-end.ensures))
    (λ none. omega (arith, none, c.loop-test.true, c.min-end.ensures)) _ step))

pub steps-loop-preserved : goal.steps-loop-preserved
steps-loop-preserved t c =
    let start = c.args in
    let here = c.loop in
    let step = subst (StepsWalked start.a.now here.x start.b.now here.y start.nesting) c.in_ok-x.was c.step.ensures in
    let some : start.many - here.counter ≡ 0 → ⊥ = λ none. omega (arith, none, c.loop-test.true, c.min-end.ensures) in
    let more : start.more - here.counter ≡ 0 → ⊥ = λ none. omega (arith, none, c.loop-test.true, c.min-end.ensures) in
    let one : start.many - (here.counter + 1) ≡ start.many - here.counter - 1 = omega arith in
    let other : start.more - (here.counter + 1) ≡ start.more - here.counter - 1 = omega arith in (
      omega (arith, c.loop-test.true, c.min-end.ensures),
      omega (arith, c.loop-test.true, c.min-end.ensures),
      rw (one, other) (steps_behind start.a.now here.x start.b.now here.y start.nesting some more _ _ step here.invariant.2),
      rw (one, other) (λ r walked. here.invariant.3 r (steps_on start.a.now here.x start.b.now here.y start.nesting some more _ _ step r walked)),
    )

pub steps-returns-then-many-more : goal.steps-returns-then-many-more
steps-returns-then-many-more t c =
    let start = c.args in
    let here = c.loop in
    here.invariant.3 (differ here.x) (steps_unlike start.a.now here.x start.b.now here.y start.nesting start.many start.more here.counter
    c.if-many-more.true here.invariant.0 here.invariant.1 (omega (arith, c.loop-test.false, c.min-end.ensures)))

pub steps-returns : goal.steps-returns
steps-returns t c =
    let start = c.args in
    let here = c.loop in
    here.invariant.3 (same here.x here.y) (steps_done start.a.now here.x start.b.now here.y start.nesting
    (omega (arith, c.loop-test.false, c.min-end.ensures, c.if-many-more.false)) (omega (arith, c.loop-test.false, c.min-end.ensures, c.if-many-more.false)))
