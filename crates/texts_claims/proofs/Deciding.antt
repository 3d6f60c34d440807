-- Verdicts by computation, for worked cases: a reader that is tried on bytes and finds every text that there is. Assumes nothing.
use Prim.Native.Nat.{ℕ, zero, suc, ◌<◌}
use native.Mathlib.Omega.{arith}
use mathlib.Core.Path.{◌≡◌, refl, sym, ap, ◌∙◌}
use mathlib.Core.Bool.{Bool, true, false, ◌&&◌}
use mathlib.Core.List.{List, [], ◌∷◌, ◌++◌, append_assoc, append-nil}
use mathlib.Core.Option.{Option, none, some}
use lib.Dec.{eqb, ltb, leb}
use lib.ListN.{length, take, drop, length-append}
use lib.Seq.{take-append_seam, drop-append_seam}
use borrow.Author.Tests.{eqb-true, ltb-true, le-leb}
use Rattle.lists.specs.Le.{le, to_le}
use Rattle.lists.proofs.Le.{le_to_le}
use Rattle.lists.proofs.Tests.{and_left, and_right, never_both}
use Rattle.text_drops.specs.Drop.{Scale, celsius, fahrenheit, unit_byte}
use Rattle.texts.specs.Text.{
  TextStep,
  words,
  temperature,
  section,
  Section,
  done,
  ◌then◌,
  step_count,
  step_bytes,
  steps_bytes,
  section_bytes,
  StepWithin,
  StepsWithin,
  SectionWithin,
  deepest,
  Says,
  WellFormedText,
}
use Rattle.texts.specs.Agree.{unmatched, Verdict, verdict, placed, Compared, first_ill, second_ill, both_formed}
use Rattle.texts.proofs.Reading.{out}
use Rattle.texts_claims.specs.Cases.{TextCase, Each}

-- ---- a reader

-- What is found, and the bytes behind it.
pub record Found (A : Type 0) : Type 0 where
  pub it : A
  pub rest : List ℕ

abbrev found : {A : Type 0} → A → List ℕ → Option (Found A)
found it rest = some (record { it = it; rest = rest })

abbrev onward : {A B : Type 0} → Option A → (A → Option B) → Option B
onward none f = none
onward (some a) f = f a

abbrev provided : {B : Type 0} → Bool → (Unit {0} → Option B) → Option B
provided true f = f tt
provided false f = none

unfoldable pub read_words : List ℕ → Option (Found TextStep)
read_words [] = none
read_words (n ∷ l) = provided (leb n (length l)) (λ _. found (words (take n l)) (drop n l))

unfoldable pub of_scale : ℕ → Option Scale
of_scale unit = scaled (eqb unit 67) (eqb unit 70)
  where
    scaled : Bool → Bool → Option Scale
    scaled true b = some celsius
    scaled false true = some fahrenheit
    scaled false false = none

unfoldable pub read_drop : List ℕ → Option (Found TextStep)
read_drop [] = none
read_drop (u ∷ []) = none
read_drop (u ∷ x ∷ []) = none
read_drop (u ∷ x ∷ y ∷ l) = onward (of_scale u) (λ (k : Scale). found (temperature k (le (x ∷ y ∷ []))) l)

unfoldable pub by_kind : (List ℕ → Option (Found Section)) → Bool → Bool → Bool → List ℕ → Option (Found TextStep)
by_kind inner true b c l = read_words l
by_kind inner false true c l = read_drop l
by_kind inner false false true l = onward (inner l) (λ (f : Found Section). found (section f.it) f.rest)
by_kind inner false false false l = none

unfoldable pub read_step : (List ℕ → Option (Found Section)) → List ℕ → Option (Found TextStep)
read_step inner [] = none
read_step inner (k ∷ l) = by_kind inner (eqb k 2) (eqb k 3) (eqb k 4) l

unfoldable pub read_steps : (List ℕ → Option (Found Section)) → ℕ → List ℕ → Option (Found Section)
read_steps inner zero l = found done l
read_steps inner (suc n) l = onward (read_step inner l) (λ (f : Found TextStep). onward (read_steps inner n f.rest) (λ (g : Found Section). found (f.it then g.it) g.rest))

unfoldable pub read_section : ℕ → List ℕ → Option (Found Section)
read_section zero l = none
read_section (suc n) [] = none
read_section (suc n) (k ∷ []) = none
read_section (suc n) (k ∷ count ∷ l) = provided (eqb k 1) (λ _. read_steps (read_section n) count l)

-- ---- it finds what stands in front

abbrev Finds : (List ℕ → Option (Found Section)) → ℕ → Type 0
Finds inner n = (s : Section) → SectionWithin s n → (rest : List ℕ) → inner (section_bytes s ++ rest) ≡ found s rest

words_found : (w rest : List ℕ) → read_words (length w ∷ (w ++ rest)) ≡ found (words w) rest
unfolding read_words
words_found w rest =
    let fits : leb (length w) (length (w ++ rest)) ≡ true = le-leb (length w) (length (w ++ rest)) (omega (arith, length-append w rest)) in
    rw (fits, take-append_seam w rest, drop-append_seam w rest)

drop_found : (k : Scale) (n : ℕ) → n < 65536 → (rest : List ℕ) → read_drop (unit_byte k ∷ (to_le 2 n ++ rest)) ≡ found (temperature k n) rest
unfolding read_drop to_le of_scale
drop_found celsius n f rest = ap (λ (m : ℕ). found (temperature celsius m) rest) (le_to_le 2 n f)
drop_found fahrenheit n f rest = ap (λ (m : ℕ). found (temperature fahrenheit m) rest) (le_to_le 2 n f)

module _ (inner : List ℕ → Option (Found Section)) (n : ℕ) (finds : Finds inner n) where
  step_found : (s : TextStep) → StepWithin s n → (rest : List ℕ) → read_step inner (step_bytes s ++ rest) ≡ found s rest
  unfolding read_step by_kind step_bytes StepWithin
  step_found (words w) f rest = words_found w rest
  step_found (temperature k t) f rest = drop_found k t f rest
  step_found (section s) f rest = ap (λ (o : Option (Found Section)). onward o (λ (g : Found Section). found (section g.it) g.rest)) (finds s (out n s f) rest)

  steps_found : (s : Section) → StepsWithin s n → (rest : List ℕ) → read_steps inner (step_count s) (steps_bytes s ++ rest) ≡ found s rest
  unfolding read_steps steps_bytes step_count StepsWithin
  steps_found done f rest = refl
  steps_found (s then ss) f rest =
      ap (λ (l : List ℕ). read_steps inner (suc (step_count ss)) l) (append_assoc (step_bytes s) (steps_bytes ss) rest)
      ∙ ap (λ (o : Option (Found TextStep)). onward o
      (λ (g : Found TextStep). onward (read_steps inner (step_count ss) g.rest) (λ (h : Found Section). found (g.it then h.it) h.rest)))
      (step_found s f.0 (steps_bytes ss ++ rest))
      ∙ ap (λ (o : Option (Found Section)). onward o (λ (h : Found Section). found (s then h.it) h.rest)) (steps_found ss f.1 rest)

section_found : (n : ℕ) → Finds (read_section n) n
unfolding read_section SectionWithin
section_found zero s f rest = absurd f
section_found (suc n) s f rest = steps_found (read_section n) n (section_found n) s f.1 rest

-- ---- limits and bytes that are tried

unfoldable mutual
  pub step_fits : TextStep → ℕ → Bool
  step_fits (words w) n = ltb (length w) 256
  step_fits (temperature scale tenths) n = ltb tenths 65536
  step_fits (section s) zero = false
  step_fits (section s) (suc n) = ltb (step_count s) 256 && steps_fit s n

  pub steps_fit : Section → ℕ → Bool
  steps_fit done n = true
  steps_fit (s then ss) n = step_fits s n && steps_fit ss n

mutual
  unfolding step_fits StepWithin

  step_within : (s : TextStep) (n : ℕ) → step_fits s n ≡ true → StepWithin s n
  step_within (words w) n e = ltb-true (length w) 256 e
  step_within (temperature scale tenths) n e = ltb-true tenths 65536 e
  step_within (section s) zero e = never_both e refl
  step_within (section s) (suc n) e =
      (ltb-true (step_count s) 256 (and_left (ltb (step_count s) 256) (steps_fit s n) e), steps_within s n (and_right (ltb (step_count s) 256) (steps_fit s n) e))

  steps_within : (s : Section) (n : ℕ) → steps_fit s n ≡ true → StepsWithin s n
  steps_within done n e = tt
  steps_within (s then ss) n e = (step_within s n (and_left (step_fits s n) (steps_fit ss n) e), steps_within ss n (and_right (step_fits s n) (steps_fit ss n) e))

unfoldable pub alike : List ℕ → List ℕ → Bool
alike [] [] = true
alike [] (y ∷ m) = false
alike (x ∷ l) [] = false
alike (x ∷ l) (y ∷ m) = eqb x y && alike l m

alike_same : (l m : List ℕ) → alike l m ≡ true → l ≡ m
unfolding alike
alike_same [] [] e = refl
alike_same [] (y ∷ m) e = absurd (never_both e refl)
alike_same (x ∷ l) [] e = absurd (never_both e refl)
alike_same (x ∷ l) (y ∷ m) e =
    let here : x ≡ y = eqb-true x y (and_left (eqb x y) (alike l m) e) in
    let there : l ≡ m = alike_same l m (and_right (eqb x y) (alike l m) e) in
    cc

-- The section is what the text says.
unfoldable pub says_so : List ℕ → Section → Bool
says_so l s = step_fits (section s) deepest && alike l (section_bytes s)

says_so_lem : (l : List ℕ) (s : Section) → says_so l s ≡ true → Says l s
unfolding says_so
says_so_lem l s e = record {
  within = out deepest s (step_within (section s) deepest (and_left (step_fits (section s) deepest) (alike l (section_bytes s)) e));
  bytes = alike_same l (section_bytes s) (and_right (step_fits (section s) deepest) (alike l (section_bytes s)) e);
}

-- ---- a whole text

unfoldable pub whole : Option (Found Section) → Option Section
whole none = none
whole (some f) = alone f.it f.rest
  where
    alone : Section → List ℕ → Option Section
    alone s [] = some s
    alone s (x ∷ l) = none

unfoldable pub reading : List ℕ → Option Section
reading l = whole (read_section deepest l)

pub unread : (l : List ℕ) → reading l ≡ none → WellFormedText l → ⊥
unfolding reading whole
unread l e (s, says) = apart (sym e ∙ ap (λ (m : List ℕ). whole (read_section deepest m)) (says.bytes ∙ sym (append-nil (section_bytes s))) ∙ ap whole (section_found deepest s says.within []))
  where
    apart : none ≡ some s → ⊥
    apart z = let y : ◌≡◌ {A = ℕ} 0 1 = cc in omega arith

-- ---- two texts

unfoldable pub same_verdict : Verdict → Verdict → Bool
same_verdict v w = eqb v.number w.number && eqb v.place w.place

same_verdict_lem : (v w : Verdict) → same_verdict v w ≡ true → v ≡ w
unfolding same_verdict
same_verdict_lem v w e =
    let number : v.number ≡ w.number = eqb-true v.number w.number (and_left (eqb v.number w.number) (eqb v.place w.place) e) in
    let place : v.place ≡ w.place = eqb-true v.place w.place (and_right (eqb v.number w.number) (eqb v.place w.place) e) in
    ap (λ (n : ℕ). verdict n v.place) number ∙ ap (verdict w.number) place

-- By what is read of each.
unfoldable pub gets : List ℕ → List ℕ → Verdict → Option Section → Option Section → Bool
gets a b v none y = same_verdict v (verdict 18 0)
gets a b v (some s) none = says_so a s && same_verdict v (verdict 19 0)
gets a b v (some s) (some t) = says_so a s && (says_so b t && same_verdict v (placed (unmatched s t 2)))

unfoldable pub gotten : List ℕ → List ℕ → Verdict → Bool
gotten a b v = gets a b v (reading a) (reading b)

pub compared : (a b : List ℕ) (v : Verdict) → gotten a b v ≡ true → Compared a b v
unfolding gotten gets
compared a b v e = go (reading a) (reading b) refl refl e
  where
    go : (x y : Option Section) → reading a ≡ x → reading b ≡ y → gets a b v x y ≡ true → Compared a b v
    go none y p q e = first_ill (unread a p) (same_verdict_lem v (verdict 18 0) e)
    go (some s) none p q e =
        let rest = same_verdict v (verdict 19 0) in
        second_ill (s, says_so_lem a s (and_left (says_so a s) rest e)) (unread b q) (same_verdict_lem v (verdict 19 0) (and_right (says_so a s) rest e))
    go (some s) (some t) p q e =
        let last = same_verdict v (placed (unmatched s t 2)) in
        let rest = and_right (says_so a s) (says_so b t && last) e in
        both_formed s t (says_so_lem a s (and_left (says_so a s) (says_so b t && last) e)) (says_so_lem b t (and_left (says_so b t) last rest))
        (same_verdict_lem v (placed (unmatched s t 2)) (and_right (says_so b t) last rest))

unfoldable pub all_gotten : List TextCase → Bool
all_gotten [] = true
all_gotten (c ∷ cs) = gotten c.first c.second c.expected && all_gotten cs

pub each_compared : (cs : List TextCase) → all_gotten cs ≡ true → Each (λ (c : TextCase). Compared c.first c.second c.expected) cs
unfolding all_gotten Each
each_compared [] e = tt
each_compared (c ∷ cs) e =
    let here = gotten c.first c.second c.expected in
    (compared c.first c.second c.expected (and_left here (all_gotten cs) e), each_compared cs (and_right here (all_gotten cs) e))
