-- Holders of a log, one at a time, are one desk: a log that is taken over is a desk that starts again. Assumes nothing.
use Prim.Native.Nat.{ℕ}
use mathlib.Core.Path.{◌≡◌, refl, sym, ap, ◌∙◌, subst}
use mathlib.Core.List.{List, [], ◌∷◌}
use mathlib.Core.Bool.{Bool, true, cond, not, ◌&&◌}
use borrow.Author.Tests.{eqb-true, eq-eqb}
use lib.Dec.{eqb}
use Rattle.lists.proofs.Tests.{and_left, and_right}
use Rattle.lists.specs.Runs.{foldl, every_along}
use Rattle.transactions.specs.System.{OneDesk, Holding, unknown, Step, crash, lawful, after_step, after_steps, lawful_all}
use Rattle.transactions.specs.Claims.{AllSteps}
use Rattle.transactions_progress.specs.Holders.{
  Holders,
  seen_as,
  Acting,
  takes,
  acts,
  comes,
  is_act,
  lawful_acting,
  minding,
  after_acting,
  after_actings,
  lawful_actings,
  ActingBytes,
  holders_opening,
  HoldersAreOne,
}

abbrev step_for : Acting → Step
step_for (takes who) = crash
step_for (acts who m) = m
step_for (comes m) = m

abbrev steps_for : List Acting → List Step
steps_for [] = []
steps_for (a ∷ actings) = step_for a ∷ steps_for actings

bytes_for : (actings : List Acting) → ActingBytes actings → AllSteps (steps_for actings)
bytes_for [] b = tt
bytes_for (takes who ∷ actings) b = (tt, bytes_for actings b)
bytes_for (acts who m ∷ actings) b = (b.0, bytes_for actings b.1)
bytes_for (comes m ∷ actings) b = (b.0, bytes_for actings b.1)

-- The desk as its holder sees it.
abbrev held_by : Holders → OneDesk
held_by y = seen_as y.holder y

with_mind_lem : OneDesk → (ℕ → Holding) → OneDesk
with_mind_lem y mind = record { image = y.image; log = y.log; meant = y.meant; orders = y.orders; shown = y.shown; holds = mind }

-- What somebody minds is what was put there.
mind_is : (who e : ℕ) (mind : ℕ → Holding) (minds : ℕ → ℕ → Holding) → eqb e who ≡ true → minding who mind minds e ≡ mind
mind_is who e mind minds h i k = ap (λ (b : Bool). cond b (mind k) (minds e k)) h i

step_is : (d : ℕ) (y : Holders) (a : Acting) → lawful_acting d y a ≡ true → held_by (after_acting d y a) ≡ after_step d (held_by y) (step_for a)
unfolding after_acting after_step with_mind_lem
step_is d y (takes who) h = ap (with_mind_lem y.desk) (mind_is who who (λ k. unknown) y.minds (eq-eqb who who refl))
step_is d y (acts who m) h =
    let same : who ≡ y.holder = eqb-true who y.holder (and_left (eqb who y.holder) (is_act m) (and_left (eqb who y.holder && is_act m) (lawful d (seen_as who y) m) h)) in
    ap (with_mind_lem (after_step d (seen_as who y) m)) (mind_is who y.holder (after_step d (seen_as who y) m).holds y.minds (eq-eqb y.holder who (sym same)))
    ∙ ap (λ (e : ℕ). after_step d (seen_as e y) m) same
step_is d y (comes m) h = refl

rule_is : (d : ℕ) (y : Holders) (a : Acting) → lawful_acting d y a ≡ true → lawful d (held_by y) (step_for a) ≡ true
rule_is d y (takes who) h = refl
rule_is d y (acts who m) h =
    let two = and_left (eqb who y.holder && is_act m) (lawful d (seen_as who y) m) h in
    subst (λ (e : ℕ). lawful d (seen_as e y) m ≡ true) (eqb-true who y.holder (and_left (eqb who y.holder) (is_act m) two))
    (and_right (eqb who y.holder && is_act m) (lawful d (seen_as who y) m) h)
rule_is d y (comes m) h = and_right (not (is_act m)) (lawful d (held_by y) m) h

runs_as : (d : ℕ) (y : Holders) (actings : List Acting) → lawful_actings d y actings ≡ true
    → (lawful_all d (held_by y) (steps_for actings) ≡ true) × (after_steps d (held_by y) (steps_for actings) ≡ held_by (after_actings d y actings))
unfolding every_along foldl
runs_as d y [] h = (refl, refl)
runs_as d y (a ∷ actings) h =
    let now = and_left (lawful_acting d y a) (lawful_actings d (after_acting d y a) actings) h in
    let rest = runs_as d (after_acting d y a) actings (and_right (lawful_acting d y a) (lawful_actings d (after_acting d y a) actings) h) in
    let same = step_is d y a now in (
      both (rule_is d y a now) (subst (λ (z : OneDesk). lawful_all d z (steps_for actings) ≡ true) same rest.0),
      subst (λ (z : OneDesk). after_steps d z (steps_for actings) ≡ held_by (after_actings d (after_acting d y a) actings)) same rest.1,
    )
  where
    both : {p q : Bool} → p ≡ true → q ≡ true → (p && q) ≡ true
    both e f = rw (e, f)

pub holders_are_one : HoldersAreOne
holders_are_one d first image log actings store blank bytes rules =
    let run = runs_as d (holders_opening first image log) actings rules in
    record { image = image; log = log; steps = steps_for actings; store = store; blank = blank; sent = bytes_for actings bytes; rules = run.0; led = run.1 }
