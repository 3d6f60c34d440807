-- The place of an unmatched step: a step of the first section begins there, or a section of it ends there; and the bytes say so. Assumes nothing.
use Prim.Native.Nat.{ℕ, ◌+◌}
use native.Mathlib.Omega.{arith}
use mathlib.Core.Path.{◌≡◌, refl, sym, ap, subst, ◌∙◌}
use mathlib.Core.Logic.{◌⊎◌, inl, inr}
use mathlib.Core.List.{List, [], ◌∷◌, ◌++◌, append_assoc, append-nil}
use mathlib.Core.Bool.{Bool, true, false, cond}
use mathlib.Core.Option.{Option, none, some}
use lib.ListN.{length, take, drop, length-append}
use lib.Seq.{take_at, drop_at}
use Rattle.text_drops.specs.Drop.{drop_of, near}
use Rattle.texts.specs.Text.{TextStep, words, temperature, section, Section, done, ◌then◌, step_count, step_bytes, steps_bytes, section_bytes, Says}
use Rattle.texts.specs.Agree.{or_else, unmatched_step, unmatched}
use Rattle.texts_claims.specs.Claims.{StepInside, StepBegins, StepEnds, InnerEnds, SectionEnds, BeginsThere, EndsThere}

-- ---- options

abbrev value : Option ℕ → ℕ
value none = 0
value (some n) = n

there : {a b : ℕ} → some a ≡ some b → b ≡ a
there e = sym (ap value e)

nowhere : {b : ℕ} → none ≡ some b → ⊥
nowhere e = let z : ◌≡◌ {A = ℕ} 0 1 = cc in absurd (omega arith)

one_of : (o p : Option ℕ) {n : ℕ} → or_else o p ≡ some n → (o ≡ some n) ⊎ (p ≡ some n)
one_of none p e = inr e
one_of (some a) p e = inl e

if_not : (b : Bool) {at place : ℕ} → cond b none (some at) ≡ some place → place ≡ at
if_not true e = absurd (nowhere e)
if_not false e = there e

-- ---- in the tree

abbrev Tells : Section → ℕ → ℕ → Type 0
Tells s at place = ((u : TextStep) × StepBegins s at u place) ⊎ ((r : Section) × SectionEnds s at r place)

-- Of one step: it begins there itself, or one within it, or a section within it ends there.
abbrev TellsStep : TextStep → ℕ → ℕ → Type 0
TellsStep s at place = (place ≡ at) ⊎ (((u : TextStep) × StepInside s at u place) ⊎ ((r : Section) × StepEnds s at r place))

within_section : (s : Section) (at place : ℕ) → Tells s (at + 3) place → TellsStep (section s) at place
unfolding StepInside StepEnds step_bytes
within_section s at place (inl (u, b)) = inr (inl (u, b))
within_section s at place (inr (r, inl (same, end))) = inr (inr (r, inl (same, omega (arith, end))))
within_section s at place (inr (r, inr i)) = inr (inr (r, inr i))

by_step : (s : TextStep) (ss : Section) (at place : ℕ) → TellsStep s at place → Tells (s then ss) at place
unfolding StepBegins InnerEnds
by_step s ss at place (inl e) = inl (s, inl (refl, e))
by_step s ss at place (inr (inl (u, i))) = inl (u, inr (inl i))
by_step s ss at place (inr (inr (r, e))) = inr (r, inr (inl e))

by_later : (s : TextStep) (ss : Section) (at place : ℕ) → Tells ss (at + length (step_bytes s)) place → Tells (s then ss) at place
unfolding StepBegins InnerEnds step_bytes
by_later s ss at place (inl (u, b)) = inl (u, inr (inr b))
by_later s ss at place (inr (r, inl (same, end))) =
    let long : length (steps_bytes (s then ss)) ≡ length (step_bytes s) + length (steps_bytes ss) = length-append (step_bytes s) (steps_bytes ss) in
    inr (s then ss, inl (refl, omega (arith, end, long)))
by_later s ss at place (inr (r, inr i)) = inr (r, inr (inr i))

mutual
  unfolding unmatched_step step_bytes

  step_tells : (s t : TextStep) (at place : ℕ) → unmatched_step s t at ≡ some place → TellsStep s at place
  step_tells (words w) (words v) at place e = absurd (nowhere e)
  step_tells (words w) (temperature k n) at place e = inl (there e)
  step_tells (words w) (section s) at place e = inl (there e)
  step_tells (temperature k n) (words w) at place e = inl (there e)
  step_tells (temperature k n) (temperature l m) at place e = inl (if_not (near (drop_of k n) (drop_of l m)) e)
  step_tells (temperature k n) (section s) at place e = inl (there e)
  step_tells (section s) (words w) at place e = inl (there e)
  step_tells (section s) (temperature k n) at place e = inl (there e)
  step_tells (section s) (section t) at place e = within_section s at place (steps_tell s t (at + 3) place e)

  steps_tell : (s t : Section) (at place : ℕ) → unmatched s t at ≡ some place → Tells s at place
  steps_tell done done at place e = absurd (nowhere e)
  steps_tell done (t then ts) at place e = let here = there e in inr (done, inl (refl, omega (arith, here)))
  steps_tell (s then ss) done at place e = by_step s ss at place (inl (there e))
  steps_tell (s then ss) (t then ts) at place e =
      either_way (one_of (unmatched_step s t at) (unmatched ss ts (at + length (step_bytes s))) e) (λ q. step_tells s t at place q) (λ q. steps_tell ss ts (at + length (step_bytes s)) place q)
    where
      either_way : (unmatched_step s t at ≡ some place) ⊎ (unmatched ss ts (at + length (step_bytes s)) ≡ some place)
          → (unmatched_step s t at ≡ some place → TellsStep s at place)
          → (unmatched ss ts (at + length (step_bytes s)) ≡ some place → Tells ss (at + length (step_bytes s)) place)
          → Tells (s then ss) at place
      either_way (inl q) first later = by_step s ss at place (first q)
      either_way (inr q) first later = by_later s ss at place (later q)

-- ---- in the bytes

-- From a place on stand the bytes of a step; up to a place stand those of a section.
abbrev Stands : List ℕ → ℕ → TextStep → Type 0
Stands l place u = (rest : List ℕ) × (drop place l ≡ step_bytes u ++ rest)

abbrev Closed : List ℕ → ℕ → Section → Type 0
Closed l place r = (front : List ℕ) × (take place l ≡ front ++ section_bytes r)

-- The bytes of a step and of what follows it, put together otherwise.
apart : (pre a b post : List ℕ) → pre ++ (a ++ (b ++ post)) ≡ pre ++ ((a ++ b) ++ post)
apart pre a b post = ap (λ (l : List ℕ). pre ++ l) (sym (append_assoc a b post))

behind : (pre a b post : List ℕ) → (pre ++ a) ++ (b ++ post) ≡ pre ++ ((a ++ b) ++ post)
behind pre a b post = append_assoc pre a (b ++ post) ∙ apart pre a b post

-- The front of a section that is a step.
abbrev opening : Section → List ℕ
opening s = 4 ∷ 1 ∷ step_count s ∷ []

mutual
  unfolding StepInside step_bytes

  inside_stands : (s : TextStep) (pre post : List ℕ) (u : TextStep) (place : ℕ) → StepInside s (length pre) u place → Stands (pre ++ (step_bytes s ++ post)) place u
  inside_stands (words w) pre post u place h = absurd h
  inside_stands (temperature k n) pre post u place h = absurd h
  inside_stands (section s) pre post u place h =
      subst (λ (l : List ℕ). Stands l place u) (append_assoc pre (opening s) (steps_bytes s ++ post))
      (begins_stands s (pre ++ opening s) post u place (subst (λ (n : ℕ). StepBegins s n u place) (sym (length-append pre (opening s))) h))

  begins_stands : (s : Section) (pre post : List ℕ) (u : TextStep) (place : ℕ) → StepBegins s (length pre) u place → Stands (pre ++ (steps_bytes s ++ post)) place u
  begins_stands done pre post u place h = absurd h
  begins_stands (s then ss) pre post u place (inl (same, e)) = (
    steps_bytes ss ++ post,
    drop_at pre ((step_bytes s ++ steps_bytes ss) ++ post) place (sym e)
        ∙ append_assoc (step_bytes s) (steps_bytes ss) post
        ∙ ap (λ (v : TextStep). step_bytes v ++ (steps_bytes ss ++ post)) (sym same),
  )
  begins_stands (s then ss) pre post u place (inr (inl i)) =
      subst (λ (l : List ℕ). Stands l place u) (apart pre (step_bytes s) (steps_bytes ss) post) (inside_stands s pre (steps_bytes ss ++ post) u place i)
  begins_stands (s then ss) pre post u place (inr (inr b)) =
      subst (λ (l : List ℕ). Stands l place u) (behind pre (step_bytes s) (steps_bytes ss) post)
      (begins_stands ss (pre ++ step_bytes s) post u place (subst (λ (n : ℕ). StepBegins ss n u place) (sym (length-append pre (step_bytes s))) b))

mutual
  unfolding StepEnds step_bytes

  step_closed : (s : TextStep) (pre post : List ℕ) (r : Section) (place : ℕ) → StepEnds s (length pre) r place → Closed (pre ++ (step_bytes s ++ post)) place r
  step_closed (words w) pre post r place h = absurd h
  step_closed (temperature k n) pre post r place h = absurd h
  step_closed (section s) pre post r place (inl (same, e)) =
      let own : List ℕ = step_bytes (section s) in (
        pre ++ (4 ∷ []),
        ap (take place) (sym (append_assoc pre own post))
            ∙ take_at (pre ++ own) post place (length-append pre own ∙ sym e)
            ∙ sym (append_assoc pre (4 ∷ []) (section_bytes s))
            ∙ ap (λ (q : Section). (pre ++ (4 ∷ [])) ++ section_bytes q) (sym same),
      )
  step_closed (section s) pre post r place (inr i) =
      subst (λ (l : List ℕ). Closed l place r) (append_assoc pre (opening s) (steps_bytes s ++ post))
      (inner_closed s (pre ++ opening s) post r place (subst (λ (n : ℕ). InnerEnds s n r place) (sym (length-append pre (opening s))) i))

  inner_closed : (s : Section) (pre post : List ℕ) (r : Section) (place : ℕ) → InnerEnds s (length pre) r place → Closed (pre ++ (steps_bytes s ++ post)) place r
  inner_closed done pre post r place h = absurd h
  inner_closed (s then ss) pre post r place (inl e) =
      subst (λ (l : List ℕ). Closed l place r) (apart pre (step_bytes s) (steps_bytes ss) post) (step_closed s pre (steps_bytes ss ++ post) r place e)
  inner_closed (s then ss) pre post r place (inr i) =
      subst (λ (l : List ℕ). Closed l place r) (behind pre (step_bytes s) (steps_bytes ss) post)
      (inner_closed ss (pre ++ step_bytes s) post r place (subst (λ (n : ℕ). InnerEnds ss n r place) (sym (length-append pre (step_bytes s))) i))

-- A whole text: its steps begin behind its first two bytes.
module _ (a : List ℕ) (s : Section) (says : Says a s) where
  abbrev front : List ℕ
  front = 1 ∷ step_count s ∷ []

  whole_is : front ++ (steps_bytes s ++ []) ≡ a
  whole_is = ap (λ (l : List ℕ). front ++ l) (append-nil (steps_bytes s)) ∙ sym says.bytes

  ends_closed : (r : Section) (place : ℕ) → SectionEnds s 2 r place → Closed a place r
  ends_closed r place (inl (same, e)) =
      let long : length (section_bytes s) ≡ place = omega (arith, e) in (
        [],
        ap (take place) (says.bytes ∙ sym (append-nil (section_bytes s)))
            ∙ take_at (section_bytes s) [] place long
            ∙ ap section_bytes (sym same),
      )
  ends_closed r place (inr i) = subst (λ (l : List ℕ). Closed l place r) whole_is (inner_closed s front [] r place i)

  pub tells_there : (t : Section) (place : ℕ) → unmatched s t 2 ≡ some place → BeginsThere a place ⊎ EndsThere a place
  tells_there t place e = go (steps_tell s t 2 place e)
    where
      go : Tells s 2 place → BeginsThere a place ⊎ EndsThere a place
      go (inl (u, b)) =
          let found = subst (λ (l : List ℕ). Stands l place u) whole_is (begins_stands s front [] u place b) in
          inl (record { whole = s; says = says; step = u; begins = b; rest = found.0; bytes = found.1 })
      go (inr (r, e)) =
          let found = ends_closed r place e in
          inr (record { whole = s; says = says; ended = r; ends = e; front = found.0; bytes = found.1 })
