-- What is claimed of structured texts (docs/RULES.md, 12.11).
-- Assumes nothing.
use Rattle.std.specs.Prelude.{ℕ, ◌+◌, ◌≤◌, ◌≡◌, ◌⊎◌, ◌↔◌, List, [], ◌∷◌, ◌++◌, T, length, take, drop}
use Rattle.std.proofs.Math.Option.{none, some}
use Rattle.lists.specs.Table.{listed}
use Rattle.text_drops.specs.Drop.{near}
use Rattle.text_drops.specs.declared.Drop.{Drop}
use Rattle.texts.specs.Text.{TextStep, words, temperature, section, Section, done, ◌then◌, step_bytes, steps_bytes, section_bytes, Says, WellFormedText}
use Rattle.texts.specs.Agree.{agree_steps, unmatched, Verdict, Compared}
use Rattle.numbers.specs.Numbers.{FIRST_ILL, SECOND_ILL, UNMATCHED}

-- Rule 12.11: no text has two readings.
abbrev pub OneReading : Type 0
OneReading = (text : List ℕ) (s t : Section) → Says text s → Says text t → s ≡ t

-- Rule 12.11: no text goes on from another; bytes behind a text make it ill formed, and so does a cut anywhere.
abbrev pub NoneBehind : Type 0
NoneBehind = (text more : List ℕ) → WellFormedText text → WellFormedText (text ++ more) → more ≡ []

-- Rules 12.8 and 12.10: nothing is unmatched exactly where two sections agree.
abbrev pub MatchedAgree : Type 0
MatchedAgree = (s t : Section) (at : ℕ) → (unmatched s t at ≡ none) ↔ T (agree_steps s t)

-- Rule 12.10: an unmatched place is one of the section's own, or just past it.
abbrev pub PlaceInside : Type 0
PlaceInside = (s t : Section) (at place : ℕ) → unmatched s t at ≡ some place → (at ≤ place) × (place ≤ at + length (steps_bytes s))

-- Rule 12.8: agreeing goes both ways, of two drops and of two sections.
abbrev pub NearBothWays : Type 0
NearBothWays = (a b : Drop) → near a b ≡ near b a

abbrev pub AgreeBothWays : Type 0
AgreeBothWays = (s t : Section) → agree_steps s t ≡ agree_steps t s

-- ---- places (rule 12.10)

-- A step `u` of a section begins at a place, at whatever depth, if the section's own steps begin at `at`.
unfoldable mutual
  pub StepInside : TextStep → ℕ → TextStep → ℕ → Type 0
  StepInside (words w) at u place = ⊥
  StepInside (temperature k n) at u place = ⊥
  StepInside (section s) at u place = StepBegins s (at + 3) u place

  pub StepBegins : Section → ℕ → TextStep → ℕ → Type 0
  StepBegins done at u place = ⊥
  StepBegins (s then ss) at u place =
      ((u ≡ s) × (place ≡ at)) ⊎ (StepInside s at u place ⊎ StepBegins ss (at + length (step_bytes s)) u place)

-- A section `r`, the given one or one that is a step in it at whatever depth, ends at a place.
unfoldable mutual
  pub StepEnds : TextStep → ℕ → Section → ℕ → Type 0
  StepEnds (words w) at r place = ⊥
  StepEnds (temperature k n) at r place = ⊥
  StepEnds (section s) at r place = ((r ≡ s) × (place ≡ at + length (step_bytes (section s)))) ⊎ InnerEnds s (at + 3) r place

  pub InnerEnds : Section → ℕ → Section → ℕ → Type 0
  InnerEnds done at r place = ⊥
  InnerEnds (s then ss) at r place = StepEnds s at r place ⊎ InnerEnds ss (at + length (step_bytes s)) r place

abbrev pub SectionEnds : Section → ℕ → Section → ℕ → Type 0
SectionEnds s at r place = ((r ≡ s) × (place ≡ at + length (steps_bytes s))) ⊎ InnerEnds s at r place

-- In the bytes of a text: a step of it begins at a place, and its bytes stand there; a section of it ends at a place, and its bytes stand in front of it.
pub record BeginsThere (text : List ℕ) (place : ℕ) : Type 0 where
  pub whole : Section
  pub says : Says text whole
  pub step : TextStep
  pub begins : StepBegins whole 2 step place
  pub rest : List ℕ
  pub bytes : drop place text ≡ step_bytes step ++ rest

pub record EndsThere (text : List ℕ) (place : ℕ) : Type 0 where
  pub whole : Section
  pub says : Says text whole
  pub ended : Section
  pub ends : SectionEnds whole 2 ended place
  pub front : List ℕ
  pub bytes : take place text ≡ front ++ section_bytes ended

-- Rule 12.11: two texts get one verdict.
abbrev pub OneVerdict : Type 0
OneVerdict = (a b : List ℕ) (v w : Verdict) → Compared a b v → Compared a b w → v ≡ w

-- Two texts agree, or are both well formed and do not.
abbrev pub Agreed : List ℕ → List ℕ → Type 0
Agreed a b = (s t : Section) × Says a s × Says b t × T (agree_steps s t)

abbrev pub Disagreed : List ℕ → List ℕ → Type 0
Disagreed a b = (s t : Section) × Says a s × Says b t × (T (agree_steps s t) → ⊥)

-- Rule 12.8: two texts agree in either order.
abbrev pub AgreedBothWays : Type 0
AgreedBothWays = (a b : List ℕ) → Agreed a b ↔ Agreed b a

-- Rules 12.9 to 12.11: each number of a verdict is given exactly when it should be. The place is in the first text, or just past it: a step of it begins there, or a section of it ends
-- there. Without 20 it is zero.
pub record VerdictExactly (a b : List ℕ) (v : Verdict) : Type 0 where
  pub agreed : (v.number ≡ 0) ↔ Agreed a b
  pub first_refused : (v.number ≡ FIRST_ILL) ↔ (WellFormedText a → ⊥)
  pub second_refused : (v.number ≡ SECOND_ILL) ↔ (WellFormedText a × (WellFormedText b → ⊥))
  pub differing : (v.number ≡ UNMATCHED) ↔ Disagreed a b
  pub inside : v.number ≡ UNMATCHED → (2 ≤ v.place) × (v.place ≤ length a)
  pub there : v.number ≡ UNMATCHED → BeginsThere a v.place ⊎ EndsThere a v.place
  pub placeless : (v.number ≡ UNMATCHED → ⊥) → v.place ≡ 0

-- Rule 5.1: what a comparison may answer, besides 0.
abbrev pub compare_numbers : List ℕ
compare_numbers = FIRST_ILL ∷ SECOND_ILL ∷ UNMATCHED ∷ []

-- All of it.
pub record TextClaims : Type 0 where
  pub one_reading : OneReading
  pub none_behind : NoneBehind
  pub matched_agree : MatchedAgree
  pub place_inside : PlaceInside
  pub near_both_ways : NearBothWays
  pub agree_both_ways : AgreeBothWays
  pub agreed_both_ways : AgreedBothWays
  pub one_verdict : OneVerdict
  pub exactly : (a b : List ℕ) (v : Verdict) → Compared a b v → VerdictExactly a b v
  pub numbers : (a b : List ℕ) (v : Verdict) → Compared a b v → T (listed compare_numbers v.number)
