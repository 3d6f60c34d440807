-- What reading at a place finds: something that the limits allow and that the bytes there begin with, and the place behind it; or that there is none.
-- A step of the code on the way to `Text`: nobody needs it to know what is promised.
-- Assumes nothing.
use Rattle.std.specs.Prelude.{ℕ, ◌+◌, ◌≡◌, List, ◌++◌, length, drop, Option, Some, None}
use Rattle.texts.specs.Text.{TextStep, Section, step_count, step_bytes, steps_bytes, section_bytes, StepWithin, StepsWithin, SectionWithin}

module _ {A : Type 0} (Allowed : A → Type 0) (bytes : A → List ℕ) (text : List ℕ) (at : ℕ) where
  -- `thing` stands at the place, and ends before `next`.
  pub record StandsThere (thing : A) (next : ℕ) : Type 0 where
    pub allowed : Allowed thing
    pub here : drop at text ≡ bytes thing ++ drop next text
    pub behind : next ≡ at + length (bytes thing)

  -- What a reader answers: the place behind what stands there, or that nothing does.
  unfoldable pub Finds : Option ℕ → Type 0
  Finds (Some next) = (thing : A) × StandsThere thing next
  Finds None = (thing : A) → Allowed thing → (rest : List ℕ) → drop at text ≡ bytes thing ++ rest → ⊥

-- A section, with at most n sections within one another.
abbrev pub ReadsSection : List ℕ → ℕ → ℕ → Option ℕ → Type 0
ReadsSection text at n = Finds (λ (s : Section). SectionWithin s n) section_bytes text at

-- A step, with at most n sections within one another.
abbrev pub ReadsStep : List ℕ → ℕ → ℕ → Option ℕ → Type 0
ReadsStep text at n = Finds (λ (s : TextStep). StepWithin s n) step_bytes text at

-- So many steps.
abbrev pub ReadsSteps : List ℕ → ℕ → ℕ → ℕ → Option ℕ → Type 0
ReadsSteps text at n many = Finds (λ (s : Section). StepsWithin s n × (step_count s ≡ many)) steps_bytes text at
