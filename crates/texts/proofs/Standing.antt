-- What stands at a place, taken apart. Assumes nothing.
use Prim.Native.Nat.{ℕ, zero, suc, ◌+◌, ◌-◌, ◌≤◌, ◌<◌}
use native.Mathlib.Omega.{arith}
use mathlib.Core.Path.{◌≡◌, refl, sym, ap, subst, ◌∙◌}
use mathlib.Core.List.{List, ◌∷◌, ◌++◌, append_assoc}
use lib.ListN.{length, take, drop, get_or, length-drop, length-append}
use lib.Seq.{drop-drop, drop-append_seam, take-append_seam}
use Rattle.lists.specs.Parts.{part}
use Rattle.lists.specs.Le.{le, to_le, field}
use Rattle.lists.proofs.Le.{length_to_le, le_to_le}
use Rattle.lists.proofs.Parts.{drop_left}
use Rattle.text_drops.specs.Drop.{Scale, unit_byte}
use Rattle.texts.specs.Text.{TextStep, words, temperature, section, Section, ◌then◌, step_count, step_bytes, steps_bytes, section_bytes, StepWithin, StepsWithin, SectionWithin}
use Rattle.texts.proofs.Reading.{two, step_long, out}
use Rattle.texts.specs.inner.Walk.{SectionThere, StepThere, StepsThere}

-- The byte that a step begins with.
abbrev pub kind : TextStep → ℕ
kind (words w) = 2
kind (temperature u t) = 3
kind (section s) = 4

module _ (l : List ℕ) (at : ℕ) where
  -- What is behind bytes that stand at a place.
  pub behind : (bytes rest : List ℕ) → drop at l ≡ bytes ++ rest → drop (at + length bytes) l ≡ rest
  behind bytes rest e = sym (drop-drop (length bytes) at l) ∙ ap (drop (length bytes)) e ∙ drop-append_seam bytes rest

  pub long_enough : (bytes rest : List ℕ) → drop at l ≡ bytes ++ rest → 0 < length bytes → at + length bytes ≤ length l
  long_enough bytes rest e some = omega (arith, ap length e, length-append bytes rest, length-drop at l)

  module _ (n : ℕ) where
    -- ---- a section
    pub record Opened (s : Section) : Type 0 where
      pub long : at + 2 ≤ length l
      pub deep : 0 < n
      pub small : get_or l (at + 1) 0 ≡ step_count s
      pub within : StepsThere l (at + 2) (n - 1) (get_or l (at + 1) 0) s

    pub opened : (s : Section) → SectionThere l at n s → Opened s
    unfolding SectionWithin
    opened s stands =
        let next = at + length (section_bytes s) in
        let long : at + 2 ≤ length l = omega (arith, long_enough (section_bytes s) (drop next l) stands.here (omega arith)) in
        let begins : drop at l ≡ get_or l at 0 ∷ get_or l (at + 1) 0 ∷ drop (at + 2) l = two l at long in
        let here : drop at l ≡ section_bytes s ++ drop next l = stands.here in
        let many : get_or l (at + 1) 0 ≡ step_count s = cc in
        let there : drop (at + 2) l ≡ steps_bytes s ++ drop next l = cc in
        let place : next ≡ at + 2 + length (steps_bytes s) = omega arith in
        record {
          long = long;
          deep = deep n stands.allowed;
          small = many;
          within = record {
            allowed = (within n stands.allowed, sym many);
            here = there ∙ ap (λ (i : ℕ). steps_bytes s ++ drop i l) place;
            behind = refl;
          };
        }
      where
        deep : (m : ℕ) → SectionWithin s m → 0 < m
        deep zero f = absurd f
        deep (suc m) f = omega arith

        within : (m : ℕ) → SectionWithin s m → StepsWithin s (m - 1)
        within zero f = absurd f
        within (suc m) f = let e : m ≡ suc m - 1 = omega arith in subst (λ (k : ℕ). StepsWithin s k) e f.1

    -- ---- steps, one by one
    pub step_of : (many : ℕ) (s : TextStep) (ss : Section) → StepsThere l at n many (s then ss) → StepThere l at n s
    unfolding steps_bytes StepsWithin
    step_of many s ss stands =
        let next = at + length (step_bytes s ++ steps_bytes ss) in
        let e : drop at l ≡ step_bytes s ++ (steps_bytes ss ++ drop next l) = stands.here ∙ append_assoc (step_bytes s) (steps_bytes ss) (drop next l) in
        record {
          allowed = stands.allowed.0.0;
          here = e ∙ ap (λ (x : List ℕ). step_bytes s ++ x) (sym (behind (step_bytes s) (steps_bytes ss ++ drop next l) e));
          behind = refl;
        }

    pub rest_of : (many : ℕ) (s : TextStep) (ss : Section) → StepsThere l at n many (s then ss) → StepsThere l (at + length (step_bytes s)) n (many - 1) ss
    unfolding steps_bytes StepsWithin step_count
    rest_of many s ss stands =
        let next = at + length (step_bytes s ++ steps_bytes ss) in
        let e : drop at l ≡ step_bytes s ++ (steps_bytes ss ++ drop next l) = stands.here ∙ append_assoc (step_bytes s) (steps_bytes ss) (drop next l) in
        let place : next ≡ at + length (step_bytes s) + length (steps_bytes ss) = omega (arith, length-append (step_bytes s) (steps_bytes ss)) in
        record {
          allowed = (stands.allowed.0.1, omega (arith, stands.allowed.1));
          here = behind (step_bytes s) (steps_bytes ss ++ drop next l) e ∙ ap (λ (i : ℕ). steps_bytes ss ++ drop i l) place;
          behind = refl;
        }

    -- ---- a step
    pub step_fits : (s : TextStep) → StepThere l at n s → at + 2 ≤ length l
    step_fits s stands = omega (arith, step_long s, long_enough (step_bytes s) (drop (at + length (step_bytes s)) l) stands.here (omega (arith, step_long s)))

    pub kind_here : (s : TextStep) → StepThere l at n s → get_or l at 0 ≡ kind s
    unfolding step_bytes
    kind_here s stands = go s (drop (at + length (step_bytes s)) l) stands.here
      where
        begins : drop at l ≡ get_or l at 0 ∷ drop (at + 1) l
        begins = drop_left l 0 (omega (arith, step_fits s stands))

        go : (t : TextStep) (rest : List ℕ) → drop at l ≡ step_bytes t ++ rest → get_or l at 0 ≡ kind t
        go (words w) rest e = let b : drop at l ≡ get_or l at 0 ∷ drop (at + 1) l = begins in cc
        go (temperature u t) rest e = let b : drop at l ≡ get_or l at 0 ∷ drop (at + 1) l = begins in cc
        go (section t) rest e = let b : drop at l ≡ get_or l at 0 ∷ drop (at + 1) l = begins in cc

    pub words_here : (w : List ℕ) → StepThere l at n (words w) → (get_or l (at + 1) 0 ≡ length w) × (at + 2 + length w ≤ length l)
    unfolding step_bytes
    words_here w stands =
        let begins : drop at l ≡ get_or l at 0 ∷ get_or l (at + 1) 0 ∷ drop (at + 2) l = two l at (step_fits (words w) stands) in
        let here : drop at l ≡ step_bytes (words w) ++ drop (at + length (step_bytes (words w))) l = stands.here in
        (cc, omega (arith, long_enough (step_bytes (words w)) (drop (at + length (step_bytes (words w))) l) stands.here (omega arith)))

    pub drop_here : (u : Scale) (t : ℕ) → StepThere l at n (temperature u t) → (get_or l (at + 1) 0 ≡ unit_byte u) × (field (at + 2) 2 l ≡ t) ×
        (at + 4 ≤ length l) × (length (step_bytes (temperature u t)) ≡ 4)
    unfolding step_bytes StepWithin part
    drop_here u t stands =
        let next = at + length (step_bytes (temperature u t)) in
        let begins : drop at l ≡ get_or l at 0 ∷ get_or l (at + 1) 0 ∷ drop (at + 2) l = two l at (step_fits (temperature u t) stands) in
        let here : drop at l ≡ step_bytes (temperature u t) ++ drop next l = stands.here in
        let there : drop (at + 2) l ≡ to_le 2 t ++ drop next l = cc in
        let four : length (step_bytes (temperature u t)) ≡ 4 = omega (arith, length_to_le 2 t) in
        let bytes : take 2 (drop (at + 2) l) ≡ to_le 2 t = ap (take 2) there ∙ ap (λ (k : ℕ). take k (to_le 2 t ++ drop next l)) (sym (length_to_le 2 t))
        ∙ take-append_seam (to_le 2 t) (drop next l) in (
          cc,
          ap le bytes ∙ le_to_le 2 t stands.allowed,
          omega (arith, four, long_enough (step_bytes (temperature u t)) (drop next l) stands.here (omega arith)),
          four,
        )

    pub section_here : (s : Section) → StepThere l at n (section s) → SectionThere l (at + 1) n s
    unfolding step_bytes
    section_here s stands =
        let next = at + length (step_bytes (section s)) in
        let begins : drop at l ≡ get_or l at 0 ∷ drop (at + 1) l = drop_left l 0 (omega (arith, step_fits (section s) stands)) in
        let here : drop at l ≡ step_bytes (section s) ++ drop next l = stands.here in
        let there : drop (at + 1) l ≡ section_bytes s ++ drop next l = cc in
        let place : next ≡ at + 1 + length (section_bytes s) = omega arith in
        record {
          allowed = out n s stands.allowed;
          here = there ∙ ap (λ (i : ℕ). section_bytes s ++ drop i l) place;
          behind = refl;
        }

    -- Words, and a drop, end within the text.
    pub words_end : (s : TextStep) → StepThere l at n s → kind s ≡ 2 → at + 2 + get_or l (at + 1) 0 ≤ length l
    words_end (words w) p e = omega (arith, (words_here w p).0, (words_here w p).1)
    words_end (temperature u t) p e = absurd (omega (arith, e))
    words_end (section s) p e = absurd (omega (arith, e))

    pub drop_end : (s : TextStep) → StepThere l at n s → kind s ≡ 3 → at + 4 ≤ length l
    drop_end (words w) p e = absurd (omega (arith, e))
    drop_end (temperature u t) p e = (drop_here u t p).2
    drop_end (section s) p e = absurd (omega (arith, e))
