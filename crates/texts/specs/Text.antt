-- Structured texts: what a text says, as a tree, and the bytes that say it (docs/RULES.md, 12.1 to 12.4). Nothing here reads bytes.
-- Assumes nothing.
use Rattle.std.specs.Prelude.{ℕ, zero, suc, ◌<◌, ◌≡◌, List, [], ◌∷◌, ◌++◌, length}
use Rattle.lists.specs.Le.{to_le}
use Rattle.text_drops.specs.Drop.{Scale, unit_byte}

infixr 20 ◌then◌
-- A step is words, a drop (a scale and tenths of a degree) or a section; a section is steps, one after another.
mutual
  pub data TextStep : Type 0 where
    words : List ℕ → TextStep
    temperature : Scale → ℕ → TextStep
    section : Section → TextStep

  pub data Section : Type 0 where
    done : Section
    ◌then◌ : TextStep → Section → Section

-- How many steps a section has; those of the sections in it do not count.
unfoldable pub step_count : Section → ℕ
step_count done = 0
step_count (s then ss) = suc (step_count ss)

-- The front of a section, its first byte and its count, and the bytes of its steps (rule 12.2).
abbrev pub headed : ℕ → List ℕ → List ℕ
headed n steps = 1 ∷ n ∷ steps

-- The bytes of a step, by its kind (rule 12.3), and of steps, end to end.
unfoldable mutual
  pub step_bytes : TextStep → List ℕ
  step_bytes (words w) = 2 ∷ length w ∷ w
  step_bytes (temperature scale tenths) = 3 ∷ unit_byte scale ∷ to_le 2 tenths
  step_bytes (section s) = 4 ∷ headed (step_count s) (steps_bytes s)

  pub steps_bytes : Section → List ℕ
  steps_bytes done = []
  steps_bytes (s then ss) = step_bytes s ++ steps_bytes ss

-- The bytes of a section (rule 12.2).
abbrev pub section_bytes : Section → List ℕ
section_bytes s = headed (step_count s) (steps_bytes s)

-- What bytes can say: a length and a count are one byte, tenths are two, and at most n sections stand within one another (rules 12.2 to 12.4).
unfoldable mutual
  pub StepWithin : TextStep → ℕ → Type 0
  StepWithin (words w) n = length w < 256
  StepWithin (temperature scale tenths) n = tenths < 65536
  StepWithin (section s) zero = ⊥
  StepWithin (section s) (suc n) = (step_count s < 256) × StepsWithin s n

  pub StepsWithin : Section → ℕ → Type 0
  StepsWithin done n = Unit {0}
  StepsWithin (s then ss) n = StepWithin s n × StepsWithin ss n

unfoldable pub SectionWithin : Section → ℕ → Type 0
SectionWithin s zero = ⊥
SectionWithin s (suc n) = (step_count s < 256) × StepsWithin s n

-- How deep sections nest at most, the outer one counted (rule 12.4).
abbrev pub deepest : ℕ
deepest = 8

-- A text says a section that keeps the limits if it is that section's bytes, and no more (rule 12.1).
pub record Says (text : List ℕ) (s : Section) : Type 0 where
  pub within : SectionWithin s deepest
  pub bytes : text ≡ section_bytes s

-- A text is well formed if it says some section (rule 12.1).
abbrev pub WellFormedText : List ℕ → Type 0
WellFormedText text = (s : Section) × Says text s
