-- Bytes that begin with a section's, or a step's, begin with those of no other. Assumes nothing.
use Prim.Native.Nat.{ℕ, zero, suc}
use native.Mathlib.Omega.{arith}
use mathlib.Core.Path.{◌≡◌, refl, sym, ap, ◌∙◌}
use mathlib.Core.List.{List, ◌∷◌, ◌++◌, append_assoc}
use lib.ListN.{length, take, drop}
use lib.Seq.{take-append_seam, drop-append_seam}
use Rattle.lists.specs.Le.{to_le}
use Rattle.lists.proofs.Le.{length_to_le, to_le_injective}
use Rattle.text_drops.specs.Drop.{Scale, celsius, fahrenheit, unit_byte}
use Rattle.texts.specs.Text.{TextStep, words, temperature, section, Section, done, ◌then◌, step_count, step_bytes, steps_bytes, section_bytes, StepWithin, StepsWithin, SectionWithin}

-- Two lists of one length, each with more behind it, are equal where the whole is.
pub split : (w v x y : List ℕ) → length w ≡ length v → w ++ x ≡ v ++ y → (w ≡ v) × (x ≡ y)
split w v x y long e = (
  sym (take-append_seam w x) ∙ ap (take (length w)) e ∙ ap (λ (n : ℕ). take n (v ++ y)) long ∙ take-append_seam v y,
  sym (drop-append_seam w x) ∙ ap (drop (length w)) e ∙ ap (λ (n : ℕ). drop n (v ++ y)) long ∙ drop-append_seam v y,
)

pub never : {A : Type 0} {a b : ℕ} {x y : List ℕ} → a ∷ x ≡ b ∷ y → (a ≡ b → ⊥) → A
never {A} {a} {b} {x} {y} e apart = let h : a ≡ b = cc in absurd (apart h)

-- A unit byte is that of one scale.
unit_once : (u v : Scale) → unit_byte u ≡ unit_byte v → u ≡ v
unit_once celsius celsius e = refl
unit_once celsius fahrenheit e = absurd (omega (arith, e))
unit_once fahrenheit celsius e = absurd (omega (arith, e))
unit_once fahrenheit fahrenheit e = refl

mutual
  unfolding step_bytes StepWithin step_count

  pub step_once : (s t : TextStep) (n m : ℕ) → StepWithin s n → StepWithin t m → (x y : List ℕ) → step_bytes s ++ x ≡ step_bytes t ++ y → (s ≡ t) × (x ≡ y)
  step_once (words w) (words v) n m f g x y e =
      let long : length w ≡ length v = cc in
      let tail : w ++ x ≡ v ++ y = cc in
      let both = split w v x y long tail in
      (ap words both.0, both.1)
  step_once (words w) (temperature u t) n m f g x y e = never e (λ h. omega arith)
  step_once (words w) (section t) n m f g x y e = never e (λ h. omega arith)
  step_once (temperature u t) (words v) n m f g x y e = never e (λ h. omega arith)
  step_once (temperature u t) (temperature u' t') n m f g x y e =
      let unit : u ≡ u' = unit_once u u' (cc) in
      let tail : to_le 2 t ++ x ≡ to_le 2 t' ++ y = cc in
      let both = split (to_le 2 t) (to_le 2 t') x y (length_to_le 2 t ∙ sym (length_to_le 2 t')) tail in
      let tenths : t ≡ t' = to_le_injective 2 t t' f g both.0 in
      (cc, both.1)
  step_once (temperature u t) (section s) n m f g x y e = never e (λ h. omega arith)
  step_once (section s) (words v) n m f g x y e = never e (λ h. omega arith)
  step_once (section s) (temperature u t) n m f g x y e = never e (λ h. omega arith)
  step_once (section s) (section t) zero m f g x y e = absurd f
  step_once (section s) (section t) (suc n) zero f g x y e = absurd g
  step_once (section s) (section t) (suc n) (suc m) f g x y e =
      let counts : step_count s ≡ step_count t = cc in
      let tail : steps_bytes s ++ x ≡ steps_bytes t ++ y = cc in
      let both = steps_once s t n m f.1 g.1 counts x y tail in
      (ap section both.0, both.1)

  pub steps_once : (s t : Section) (n m : ℕ) → StepsWithin s n → StepsWithin t m → step_count s ≡ step_count t → (x y : List ℕ) → steps_bytes s ++ x ≡ steps_bytes t ++ y → (s ≡ t) × (x ≡ y)
  steps_once done done n m f g c x y e = (refl, e)
  steps_once done (t then ts) n m f g c x y e = absurd (omega (arith, c))
  steps_once (s then ss) done n m f g c x y e = absurd (omega (arith, c))
  steps_once (s then ss) (t then ts) n m f g c x y e =
      let first = step_once s t n m f.0 g.0 (steps_bytes ss ++ x) (steps_bytes ts ++ y) (sym (append_assoc (step_bytes s) (steps_bytes ss) x) ∙ e ∙ append_assoc (step_bytes t) (steps_bytes ts) y) in
      let c' : step_count ss ≡ step_count ts = omega (arith, c) in
      let others = steps_once ss ts n m f.1 g.1 c' x y first.1 in
      let same_first : s ≡ t = first.0 in
      let same-others : ss ≡ ts = others.0 in
      (cc, others.1)

pub section_once : (s t : Section) (n m : ℕ) → SectionWithin s n → SectionWithin t m → (x y : List ℕ) → section_bytes s ++ x ≡ section_bytes t ++ y → (s ≡ t) × (x ≡ y)
unfolding SectionWithin
section_once s t zero m f g x y e = absurd f
section_once s t (suc n) zero f g x y e = absurd g
section_once s t (suc n) (suc m) f g x y e =
    let counts : step_count s ≡ step_count t = cc in
    let tail : steps_bytes s ++ x ≡ steps_bytes t ++ y = cc in
    steps_once s t n m f.1 g.1 counts x y tail
