-- Nothing is unmatched exactly where two sections agree; an unmatched place is inside. Assumes nothing.
use Prim.Native.Nat.{ℕ, ◌+◌, ◌≤◌}
use native.Mathlib.Omega.{arith}
use mathlib.Core.Path.{◌≡◌, refl, sym, ap, ◌∙◌}
use mathlib.Core.Bool.{Bool, true, false, cond, ◌&&◌}
use mathlib.Core.Option.{Option, none, some}
use lib.ListN.{length, length-append}
use lib.Dec.{T}
use Rattle.lists.proofs.Tests.{to_T, from_T}
use Rattle.text_drops.specs.Drop.{drop_of, near}
use Rattle.texts.specs.Text.{TextStep, words, temperature, section, Section, done, ◌then◌, step_bytes, steps_bytes}
use Rattle.texts.specs.Agree.{agree_step, agree_steps, or_else, unmatched_step, unmatched}
use Rattle.texts_claims.specs.Claims.{MatchedAgree, PlaceInside}

abbrev nothing : Option ℕ → Bool
nothing none = true
nothing (some at) = false

nothing_first : (a b : Option ℕ) → nothing (or_else a b) ≡ (nothing a && nothing b)
nothing_first none b = refl
nothing_first (some at) b = refl

nothing_cond : (b : Bool) (at : ℕ) → nothing (cond b none (some at)) ≡ b
nothing_cond true at = refl
nothing_cond false at = refl

mutual
  unfolding agree_step unmatched_step

  step_agrees : (s t : TextStep) (at : ℕ) → nothing (unmatched_step s t at) ≡ agree_step s t
  step_agrees (words w) (words v) at = refl
  step_agrees (words w) (temperature k n) at = refl
  step_agrees (words w) (section s) at = refl
  step_agrees (temperature k n) (words w) at = refl
  step_agrees (temperature k n) (temperature l m) at = nothing_cond (near (drop_of k n) (drop_of l m)) at
  step_agrees (temperature k n) (section s) at = refl
  step_agrees (section s) (words w) at = refl
  step_agrees (section s) (temperature k n) at = refl
  step_agrees (section s) (section t) at = steps_agree s t (at + 3)

  steps_agree : (s t : Section) (at : ℕ) → nothing (unmatched s t at) ≡ agree_steps s t
  steps_agree done done at = refl
  steps_agree done (t then ts) at = refl
  steps_agree (s then ss) done at = refl
  steps_agree (s then ss) (t then ts) at =
      nothing_first (unmatched_step s t at) (unmatched ss ts (at + length (step_bytes s)))
      ∙ rw (step_agrees s t at, steps_agree ss ts (at + length (step_bytes s)))

none_nothing : (o : Option ℕ) → T (nothing o) → o ≡ none
none_nothing none t = refl
none_nothing (some at) t = absurd t

pub matched_agree_lem : MatchedAgree
matched_agree_lem s t at = (
  (λ e. to_T (sym (steps_agree s t at) ∙ ap nothing e)),
  (λ h. none_nothing (unmatched s t at) (to_T (steps_agree s t at ∙ from_T (agree_steps s t) h))),
)

-- A place, where there is one, is from `low` to `high`.
unfoldable Between : ℕ → ℕ → Option ℕ → Type 0
Between low high none = Unit {0}
Between low high (some place) = (low ≤ place) × (place ≤ high)

at_once : (at more : ℕ) → Between at (at + more) (some at)
unfolding Between
at_once at more = (omega arith, omega arith)

wider : (o : Option ℕ) {low high low' high' : ℕ} → low' ≤ low → high ≤ high' → Between low high o → Between low' high' o
unfolding Between
wider none l h b = tt
wider (some place) l h b = (omega (arith, l, b.0), omega (arith, h, b.1))

either : (low high : ℕ) (o p : Option ℕ) → Between low high o → Between low high p → Between low high (or_else o p)
unfolding Between
either low high none p a b = b
either low high (some place) p a b = a

near_or_at : (b : Bool) (at more : ℕ) → Between at (at + more) (cond b none (some at))
unfolding Between
near_or_at true at more = tt
near_or_at false at more = (omega arith, omega arith)

mutual
  unfolding unmatched_step Between step_bytes

  step_inside : (s t : TextStep) (at : ℕ) → Between at (at + length (step_bytes s)) (unmatched_step s t at)
  step_inside (words w) (words v) at = tt
  step_inside (words w) (temperature k n) at = at_once at (length (step_bytes (words w)))
  step_inside (words w) (section s) at = at_once at (length (step_bytes (words w)))
  step_inside (temperature k n) (words w) at = at_once at (length (step_bytes (temperature k n)))
  step_inside (temperature k n) (temperature l m) at = near_or_at (near (drop_of k n) (drop_of l m)) at (length (step_bytes (temperature k n)))
  step_inside (temperature k n) (section s) at = at_once at (length (step_bytes (temperature k n)))
  step_inside (section s) (words w) at = at_once at (length (step_bytes (section s)))
  step_inside (section s) (temperature k n) at = at_once at (length (step_bytes (section s)))
  step_inside (section s) (section t) at = wider (unmatched s t (at + 3)) (omega arith) (omega arith) (steps_inside s t (at + 3))

  steps_inside : (s t : Section) (at : ℕ) → Between at (at + length (steps_bytes s)) (unmatched s t at)
  steps_inside done done at = tt
  steps_inside done (t then ts) at = at_once at (length (steps_bytes done))
  steps_inside (s then ss) done at = at_once at (length (steps_bytes (s then ss)))
  steps_inside (s then ss) (t then ts) at =
      let long : length (steps_bytes (s then ss)) ≡ length (step_bytes s) + length (steps_bytes ss) = length-append (step_bytes s) (steps_bytes ss) in
      either
      at
      (at + length (steps_bytes (s then ss)))
      (unmatched_step s t at)
      (unmatched ss ts (at + length (step_bytes s)))
      (wider (unmatched_step s t at) (omega arith) (omega (arith, long)) (step_inside s t at))
      (wider (unmatched ss ts (at + length (step_bytes s))) (omega arith) (omega (arith, long)) (steps_inside ss ts (at + length (step_bytes s))))

pub place_inside_lem : PlaceInside
unfolding Between
place_inside_lem s t at place e = go (unmatched s t at) e (steps_inside s t at)
  where
    go : (o : Option ℕ) → o ≡ some place → Between at (at + length (steps_bytes s)) o → (at ≤ place) × (place ≤ at + length (steps_bytes s))
    go none e b = let z : ◌≡◌ {A = ℕ} 0 1 = cc in absurd (omega arith)
    go (some p) e b = let h : p ≡ place = cc in (omega (arith, h, b.0), omega (arith, h, b.1))
