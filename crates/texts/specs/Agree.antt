-- When two texts agree, where two that do not first differ, and what comparing them tells (docs/RULES.md, 12.8 to 12.10).
-- Assumes nothing.
use Rattle.std.specs.Prelude.{ℕ, ◌+◌, ◌≡◌, Bool, true, false, cond, ◌&&◌, List, length, Result, Ok, Err}
use Rattle.std.proofs.Math.Option.{Option, none, some}
use Rattle.text_drops.specs.Drop.{drop_of, near}
use Rattle.texts.specs.Text.{TextStep, words, temperature, section, Section, done, ◌then◌, step_bytes, Says, WellFormedText}
use Rattle.texts.specs.declared.inner.walk.UnmatchedAt.{UnmatchedAt}
use Rattle.texts.specs.declared.Disagreement.{Disagreement}
use Rattle.texts.specs.declared.Disagreement.TheVariants.{FirstIll, SecondIll, Unmatched}
use Rattle.numbers.specs.Numbers.{FIRST_ILL, SECOND_ILL, UNMATCHED}

-- Two sections agree: as many steps, each of the same kind as its partner, sections in turn, and each two drops near. Words may be any (rule 12.8).
unfoldable mutual
  pub agree_step : TextStep → TextStep → Bool
  agree_step (words w) (words v) = true
  agree_step (words w) (temperature k n) = false
  agree_step (words w) (section s) = false
  agree_step (temperature k n) (words w) = false
  agree_step (temperature k n) (temperature l m) = near (drop_of k n) (drop_of l m)
  agree_step (temperature k n) (section s) = false
  agree_step (section s) (words w) = false
  agree_step (section s) (temperature k n) = false
  agree_step (section s) (section t) = agree_steps s t

  pub agree_steps : Section → Section → Bool
  agree_steps done done = true
  agree_steps done (t then ts) = false
  agree_steps (s then ss) done = false
  agree_steps (s then ss) (t then ts) = agree_step s t && agree_steps ss ts

-- A place if there is one, else the other.
abbrev pub or_else : Option ℕ → Option ℕ → Option ℕ
or_else none later = later
or_else (some at) later = some at

-- The place in the first text at which its first step without a match begins, or just past the section in which the second has a step more (rule 12.10); none where
-- all match. The step, or the steps, of the first begin at `at`. A section step matches a section step, and the steps in it begin three bytes on: behind
-- 4, 1 and the count.
unfoldable mutual
  pub unmatched_step : TextStep → TextStep → ℕ → Option ℕ
  unmatched_step (words w) (words v) at = none
  unmatched_step (words w) (temperature k n) at = some at
  unmatched_step (words w) (section s) at = some at
  unmatched_step (temperature k n) (words w) at = some at
  unmatched_step (temperature k n) (temperature l m) at = cond (near (drop_of k n) (drop_of l m)) none (some at)
  unmatched_step (temperature k n) (section s) at = some at
  unmatched_step (section s) (words w) at = some at
  unmatched_step (section s) (temperature k n) at = some at
  unmatched_step (section s) (section t) at = unmatched s t (at + 3)

  pub unmatched : Section → Section → ℕ → Option ℕ
  unmatched done done at = none
  unmatched done (t then ts) at = some at
  unmatched (s then ss) done at = some at
  unmatched (s then ss) (t then ts) at = or_else (unmatched_step s t at) (unmatched ss ts (at + length (step_bytes s)))

-- What a comparison tells: a number, and a place in the first text, which is zero but for 20 (rules 12.9, 12.10).
pub record Verdict : Type 0 where
  pub number : ℕ
  pub place : ℕ

abbrev pub verdict : ℕ → ℕ → Verdict
verdict number place = record { number = number; place = place }

-- Two texts that differ, at the unmatched place.
abbrev pub differing : UnmatchedAt → Disagreement
differing unmatched = Unmatched unmatched.at

-- The number and the place of each case of the code's answer.
abbrev pub told : Result Unit Disagreement → Verdict
told (Ok _) = verdict 0 0
told (Err FirstIll) = verdict FIRST_ILL 0
told (Err SecondIll) = verdict SECOND_ILL 0
told (Err (Unmatched place)) = verdict UNMATCHED place

-- Two well formed texts agree if no place is unmatched, else the place is told.
abbrev pub placed : Option ℕ → Verdict
placed none = verdict 0 0
placed (some place) = verdict UNMATCHED place

-- What two texts get, row by row in the order of rule 12.9. The steps of a text begin behind its first two bytes.
pub data Compared (a b : List ℕ) (v : Verdict) : Type 0 where
  first_ill : (WellFormedText a → ⊥) → v ≡ verdict FIRST_ILL 0 → Compared a b v
  second_ill : WellFormedText a → (WellFormedText b → ⊥) → v ≡ verdict SECOND_ILL 0 → Compared a b v
  both_formed : (s t : Section) → Says a s → Says b t → v ≡ placed (unmatched s t 2) → Compared a b v
