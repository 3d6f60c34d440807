-- Two texts walked together: what stands at a place of each, and what the walk answers. A step of the code on the way to `Agree`: nobody needs it to know
-- what is promised.
-- Assumes nothing.
use Rattle.std.specs.Prelude.{ℕ, ◌+◌, ◌≡◌, List, length, get_or, Result, Ok, Err}
use Rattle.std.proofs.Math.Option.{Option, none, some}
use Rattle.lists.specs.Le.{field}
use Rattle.text_drops.specs.Drop.{scale_of, drop_of}
use Rattle.text_drops.specs.declared.Drop.{Drop}
use Rattle.texts.specs.Text.{TextStep, Section, step_count, step_bytes, steps_bytes, section_bytes, StepWithin, StepsWithin, SectionWithin}
use Rattle.texts.specs.Agree.{unmatched_step, unmatched}
use Rattle.texts.specs.inner.Read.{StandsThere}
use Rattle.texts.specs.declared.inner.walk.UnmatchedAt.{UnmatchedAt}

-- A section, a step, or so many steps stand at a place.
abbrev pub SectionThere : List ℕ → ℕ → ℕ → Section → Type 0
SectionThere l at n s = StandsThere (λ (t : Section). SectionWithin t n) section_bytes l at s (at + length (section_bytes s))

abbrev pub StepThere : List ℕ → ℕ → ℕ → TextStep → Type 0
StepThere l at n s = StandsThere (λ (t : TextStep). StepWithin t n) step_bytes l at s (at + length (step_bytes s))

abbrev pub StepsThere : List ℕ → ℕ → ℕ → ℕ → Section → Type 0
StepsThere l at n many s = StandsThere (λ (t : Section). StepsWithin t n × (step_count t ≡ many)) steps_bytes l at s (at + length (steps_bytes s))

-- The drop that begins at a place.
abbrev pub drop_there : List ℕ → ℕ → Drop
drop_there l at = drop_of (scale_of (get_or l (at + 1) 0)) (field (at + 2) 2 l)

-- The walk's answer: the unmatched place, or the two places behind what was walked.
abbrev pub Walk : Type 0
Walk = Result (ℕ × ℕ) UnmatchedAt

abbrev pub same : ℕ → ℕ → Walk
same i j = Ok (i, j)

abbrev pub differ : ℕ → Walk
differ at = Err (record { at = at })

abbrev pub walked : Option ℕ → ℕ → ℕ → Walk
walked none i j = same i j
walked (some at) i j = differ at

-- What each part of the walk needs, and what it answers, for a place i of a and a place j of b.
module _ (a : List ℕ) (i : ℕ) (b : List ℕ) (j : ℕ) (n : ℕ) where
  pub record TwoSections (s t : Section) : Type 0 where
    pub one : SectionThere a i n s
    pub other : SectionThere b j n t

  pub record TwoRuns (many more : ℕ) (s t : Section) : Type 0 where
    pub one : StepsThere a i n many s
    pub other : StepsThere b j n more t

  pub record TwoSteps (s t : TextStep) : Type 0 where
    pub one : StepThere a i n s
    pub other : StepThere b j n t

  abbrev pub SectionsWalked : Walk → Type 0
  SectionsWalked r = (s t : Section) → TwoSections s t → r ≡ walked (unmatched s t (i + 2)) (i + length (section_bytes s)) (j + length (section_bytes t))

  abbrev pub RunsWalked : ℕ → ℕ → Walk → Type 0
  RunsWalked many more r = (s t : Section) → TwoRuns many more s t → r ≡ walked (unmatched s t i) (i + length (steps_bytes s)) (j + length (steps_bytes t))

  abbrev pub StepsWalked : Walk → Type 0
  StepsWalked r = (s t : TextStep) → TwoSteps s t → r ≡ walked (unmatched_step s t i) (i + length (step_bytes s)) (j + length (step_bytes t))
