-- Laws of reading at a place: one for each way in which a reader answers. Assumes nothing.
use Prim.Native.Nat.{ℕ, zero, suc, ◌+◌, ◌-◌, ◌≤◌, ◌<◌}
use native.Mathlib.Omega.{arith}
use native.Mathlib.Nat.{add_assoc}
use mathlib.Core.Path.{◌≡◌, refl, sym, ap, subst, ◌∙◌}
use mathlib.Core.List.{List, [], ◌∷◌, ◌++◌, append_assoc, append-nil}
use lib.ListN.{length, take, drop, get_or, length-drop, length-append, take-append-drop}
use lib.Seq.{drop-drop, drop-length}
use Rattle.lists.specs.Parts.{part, Bytes}
use Rattle.lists.specs.Le.{le, to_le}
use Rattle.lists.proofs.Parts.{drop_left, length_part}
use Rattle.lists.proofs.Le.{length_to_le, to_le_le, le_part_bound}
use Rattle.lists.proofs.Bytes.{Bytes_part}
use Rattle.text_drops.specs.Drop.{Scale, celsius, fahrenheit, unit_byte}
use Rattle.texts.specs.Text.{
  TextStep,
  words,
  temperature,
  section,
  Section,
  done,
  ◌then◌,
  step_count,
  step_bytes,
  steps_bytes,
  section_bytes,
  StepWithin,
  StepsWithin,
  SectionWithin,
  WellFormedText,
  deepest,
}
use Rattle.texts.proofs.Once.{never, step_once, section_once}
use Rattle.std.specs.Prelude.{Option, Some, None}
use Rattle.texts.specs.inner.Read.{Finds, ReadsSection, ReadsStep, ReadsSteps}

pub step_long : (s : TextStep) → 2 ≤ length (step_bytes s)
unfolding step_bytes to_le
step_long (words w) = omega arith
step_long (temperature u t) = omega arith
step_long (section s) = omega arith

-- A step that is a section keeps the limits that the section keeps.
pub into : (n : ℕ) (s : Section) → SectionWithin s n → StepWithin (section s) n
unfolding SectionWithin StepWithin
into zero s f = f
into (suc n) s f = f

pub out : (n : ℕ) (s : Section) → StepWithin (section s) n → SectionWithin s n
unfolding SectionWithin StepWithin
out zero s f = f
out (suc n) s f = f

module _ (l : List ℕ) (at : ℕ) where
  -- Two bytes and the rest.
  pub two : at + 2 ≤ length l → drop at l ≡ get_or l at 0 ∷ get_or l (at + 1) 0 ∷ drop (at + 2) l
  two h =
      let a : at < length l = omega arith in
      let b : at + 1 < length l = omega arith in
      drop_left l 0 a ∙ ap (λ (r : List ℕ). get_or l at 0 ∷ r) (drop_left l 0 b ∙ ap (λ (i : ℕ). get_or l (at + 1) 0 ∷ drop i l) (add_assoc at 1 1))

  -- A part from a place on, and what is behind it.
  apart : (i k : ℕ) → drop i l ≡ part i k l ++ drop (i + k) l
  unfolding part
  apart i k = sym (take-append-drop k (drop i l)) ∙ ap (λ (x : List ℕ). take k (drop i l) ++ x) (drop-drop k i l)

  -- Fewer than two bytes are no step and no section.
  pub step_short : (n : ℕ) → length l - at < 2 → ReadsStep l at n None
  unfolding Finds
  step_short n h s f rest e = omega (arith, step_long s, length-drop at l, ap length e, length-append (step_bytes s) rest)

  pub section_short : (n : ℕ) → length l - at < 2 → ReadsSection l at n None
  unfolding Finds
  section_short n h s f rest e = omega (arith, length-drop at l, ap length e, length-append (section_bytes s) rest)

  pub section_deep : ReadsSection l at 0 None
  unfolding Finds SectionWithin
  section_deep s f rest e = absurd f

  pub section_other : (n : ℕ) → at + 2 ≤ length l → (get_or l at 0 ≡ 1 → ⊥) → ReadsSection l at n None
  unfolding Finds
  section_other n h other s f rest e = never (sym (two h) ∙ e) other

  module _ (n : ℕ) (h : at + 2 ≤ length l) where
    -- ---- a section and its steps
    pub section_read : (r : Option ℕ) → get_or l (at + 1) 0 < 256 → get_or l at 0 ≡ 1 → ReadsSteps l (at + 2) n (get_or l (at + 1) 0) r → ReadsSection l at (suc n) r
    unfolding Finds SectionWithin
    section_read (Some next) small one (s, stands) =
        let long : length (section_bytes s) ≡ 2 + length (steps_bytes s) = omega arith in
        let begins : drop at l ≡ 1 ∷ get_or l (at + 1) 0 ∷ drop (at + 2) l = rw one at (two h) in
        let many : step_count s ≡ get_or l (at + 1) 0 = stands.allowed.1 in
        let there : drop (at + 2) l ≡ steps_bytes s ++ drop next l = stands.here in (
          s,
          record {
            allowed = (omega (arith, many), stands.allowed.0);
            here = begins ∙ cc;
            behind = omega (arith, stands.behind);
          },
        )
    section_read None small one fails = λ s f rest e.
        let begins : drop at l ≡ get_or l at 0 ∷ get_or l (at + 1) 0 ∷ drop (at + 2) l = two h in
        let many : step_count s ≡ get_or l (at + 1) 0 = cc in
        let there : drop (at + 2) l ≡ steps_bytes s ++ rest = cc in
        fails s (f.1, many) rest there

  pub section_read_at : (n : ℕ) (r : Option ℕ) → (n ≡ 0 → ⊥) → at + 2 ≤ length l → get_or l (at + 1) 0 < 256 → get_or l at 0 ≡ 1 → ReadsSteps l (at + 2) (n - 1)
      (get_or l (at + 1) 0) r → ReadsSection l at n r
  section_read_at n r some h small one reads =
      let e : suc (n - 1) ≡ n = omega (arith, some) in
      subst (λ (k : ℕ). ReadsSection l at k r) e (section_read (n - 1) h r small one reads)

  module _ (n : ℕ) where
    -- ---- a step that is a section
    pub step_section : (r : Option ℕ) → at < length l → get_or l at 0 ≡ 4 → ReadsSection l (at + 1) n r → ReadsStep l at n r
    unfolding Finds step_bytes
    step_section (Some next) h four (s, stands) =
        let begins : drop at l ≡ 4 ∷ drop (at + 1) l = rw four at (drop_left l 0 h) in
        let there : drop (at + 1) l ≡ section_bytes s ++ drop next l = stands.here in (
          section s,
          record {
            allowed = into n s stands.allowed;
            here = begins ∙ cc;
            behind = omega (arith, stands.behind);
          },
        )
    step_section None h four fails = go
      where
        begins : drop at l ≡ 4 ∷ drop (at + 1) l
        begins = rw four at (drop_left l 0 h)

        go : (s : TextStep) → StepWithin s n → (rest : List ℕ) → drop at l ≡ step_bytes s ++ rest → ⊥
        go (words w) f rest e = never (sym begins ∙ e) (λ a. omega arith)
        go (temperature u t) f rest e = never (sym begins ∙ e) (λ a. omega arith)
        go (section s) f rest e =
            let b : drop at l ≡ 4 ∷ drop (at + 1) l = begins in
            let there : drop (at + 1) l ≡ section_bytes s ++ rest = cc in
            fails s (out n s f) rest there

    -- A step begins with 2, 3 or 4.
    pub step_other : at < length l → (get_or l at 0 ≡ 2 → ⊥) → (get_or l at 0 ≡ 3 → ⊥) → (get_or l at 0 ≡ 4 → ⊥) → ReadsStep l at n None
    unfolding Finds step_bytes
    step_other h x2 x3 x4 = go
      where
        go : (s : TextStep) → StepWithin s n → (rest : List ℕ) → drop at l ≡ step_bytes s ++ rest → ⊥
        go (words w) f rest e = never (sym (drop_left l 0 h) ∙ e) x2
        go (temperature u t) f rest e = never (sym (drop_left l 0 h) ∙ e) x3
        go (section s) f rest e = never (sym (drop_left l 0 h) ∙ e) x4

    -- ---- so many steps
    pub steps_none : (many : ℕ) → many ≡ 0 → ReadsSteps l at n many (Some at)
    unfolding Finds steps_bytes StepsWithin step_count
    steps_none many z = (done, record { allowed = (tt, sym z); here = refl; behind = omega arith })

    pub steps_more : (next many : ℕ) (r : Option ℕ) → (many ≡ 0 → ⊥) → ReadsStep l at n (Some next) → ReadsSteps l next n (many - 1) r → ReadsSteps l at n many r
    unfolding Finds steps_bytes StepsWithin step_count
    steps_more next many (Some past) some (s, p) (ss, q) =
        let there : drop next l ≡ steps_bytes ss ++ drop past l = q.here in (
          s then ss,
          record {
            allowed = ((p.allowed, q.allowed.0), omega (arith, q.allowed.1, some));
            here = p.here ∙ ap (λ (x : List ℕ). step_bytes s ++ x) there ∙ sym (append_assoc (step_bytes s) (steps_bytes ss) (drop past l));
            behind = omega (arith, p.behind, q.behind, length-append (step_bytes s) (steps_bytes ss));
          },
        )
    steps_more next many None some (s, p) fails = go
      where
        go : (t : Section) → StepsWithin t n × (step_count t ≡ many) → (rest : List ℕ) → drop at l ≡ steps_bytes t ++ rest → ⊥
        go done f rest e = some (sym f.1)
        go (t then ts) f rest e =
            let both = step_once s t n n p.allowed f.0.0 (drop next l) (steps_bytes ts ++ rest) (sym p.here ∙ e ∙ append_assoc (step_bytes t) (steps_bytes ts) rest) in
            fails ts (f.0.1, omega (arith, f.1)) rest both.1

    pub steps_ill : (many : ℕ) → (many ≡ 0 → ⊥) → ReadsStep l at n None → ReadsSteps l at n many None
    unfolding Finds steps_bytes StepsWithin step_count
    steps_ill many some fails = go
      where
        go : (t : Section) → StepsWithin t n × (step_count t ≡ many) → (rest : List ℕ) → drop at l ≡ steps_bytes t ++ rest → ⊥
        go done f rest e = some (sym f.1)
        go (t then ts) f rest e = fails t f.0.0 (steps_bytes ts ++ rest) (e ∙ append_assoc (step_bytes t) (steps_bytes ts) rest)

    module _ (h : at + 2 ≤ length l) where
      -- ---- words
      pub words_read : get_or l at 0 ≡ 2 → get_or l (at + 1) 0 < 256 → at + 2 + get_or l (at + 1) 0 ≤ length l → ReadsStep l at n (Some (at + 2 + get_or l (at + 1) 0))
      unfolding Finds step_bytes StepWithin
      words_read is-2 small fits =
          let w = part (at + 2) (get_or l (at + 1) 0) l in
          let long : length w ≡ get_or l (at + 1) 0 = length_part (at + 2) (get_or l (at + 1) 0) l fits in
          let begins : drop at l ≡ 2 ∷ get_or l (at + 1) 0 ∷ drop (at + 2) l = rw is-2 at (two h) in
          let there : drop (at + 2) l ≡ w ++ drop (at + 2 + get_or l (at + 1) 0) l = apart (at + 2) (get_or l (at + 1) 0) in (
            words w,
            record {
              allowed = omega (arith, long);
              here = begins ∙ cc;
              behind = omega (arith, long);
            },
          )

      pub words_cut : get_or l at 0 ≡ 2 → length l - (at + 2) < get_or l (at + 1) 0 → ReadsStep l at n None
      unfolding Finds step_bytes
      words_cut is-2 cut = go
        where
          begins : drop at l ≡ 2 ∷ get_or l (at + 1) 0 ∷ drop (at + 2) l
          begins = rw is-2 at (two h)

          go : (s : TextStep) → StepWithin s n → (rest : List ℕ) → drop at l ≡ step_bytes s ++ rest → ⊥
          go (words w) f rest e =
              let b : drop at l ≡ 2 ∷ get_or l (at + 1) 0 ∷ drop (at + 2) l = begins in
              let long : get_or l (at + 1) 0 ≡ length w = cc in
              let there : drop (at + 2) l ≡ w ++ rest = cc in
              omega (arith, cut, long, ap length there, length-append w rest, length-drop (at + 2) l)
          go (temperature u t) f rest e = never (sym begins ∙ e) (λ a. omega arith)
          go (section s) f rest e = never (sym begins ∙ e) (λ a. omega arith)

      -- ---- drops
      pub drop_read : Bytes l → get_or l at 0 ≡ 3 → ((scale : Scale) × (get_or l (at + 1) 0 ≡ unit_byte scale)) → at + 4 ≤ length l → ReadsStep l at n (Some (at + 4))
      unfolding Finds step_bytes StepWithin
      drop_read small is-3 (scale, unit) fits =
          let w = part (at + 2) 2 l in
          let long : length w ≡ 2 = length_part (at + 2) 2 l (omega arith) in
          let back : to_le 2 (le w) ≡ w = subst (λ (k : ℕ). to_le k (le w) ≡ w) long (to_le_le w (Bytes_part (at + 2) 2 l small)) in
          let begins : drop at l ≡ 3 ∷ get_or l (at + 1) 0 ∷ drop (at + 2) l = rw is-3 at (two h) in
          let there : drop (at + 2) l ≡ w ++ drop (at + 2 + 2) l = apart (at + 2) 2 in
          let place : at + 2 + 2 ≡ at + 4 = omega arith in (
            temperature scale (le w),
            record {
              allowed = le_part_bound (at + 2) 2 l small;
              here = begins ∙ cc;
              behind = omega (arith, length_to_le 2 (le w));
            },
          )

      -- What begins with 3 is a drop or nothing.
      drop_go : get_or l at 0 ≡ 3 → ((u : Scale) (t : ℕ) (rest : List ℕ) → get_or l (at + 1) 0 ≡ unit_byte u → drop (at + 2) l ≡ to_le 2 t ++ rest → ⊥) → ReadsStep l at n None
      unfolding Finds step_bytes StepWithin
      drop_go is-3 fails = go
        where
          begins : drop at l ≡ 3 ∷ get_or l (at + 1) 0 ∷ drop (at + 2) l
          begins = rw is-3 at (two h)

          go : (s : TextStep) → StepWithin s n → (rest : List ℕ) → drop at l ≡ step_bytes s ++ rest → ⊥
          go (words w) f rest e = never (sym begins ∙ e) (λ a. omega arith)
          go (temperature u t) f rest e =
              let b : drop at l ≡ 3 ∷ get_or l (at + 1) 0 ∷ drop (at + 2) l = begins in
              fails u t rest (cc) (cc)
          go (section s) f rest e = never (sym begins ∙ e) (λ a. omega arith)

      pub drop_cut : get_or l at 0 ≡ 3 → length l - at < 4 → ReadsStep l at n None
      drop_cut is-3 cut =
          drop_go is-3 (λ u t rest e there. omega (arith, ap length there, length-append (to_le 2 t) rest, length_to_le 2 t, length-drop (at + 2) l))

      pub drop_unit : get_or l at 0 ≡ 3 → (get_or l (at + 1) 0 ≡ unit_byte celsius → ⊥) → (get_or l (at + 1) 0 ≡ unit_byte fahrenheit → ⊥) → ReadsStep l at n None
      drop_unit is-3 x67 x70 = drop_go is-3 (λ u t rest e there. other u e)
        where
          other : (u : Scale) → get_or l (at + 1) 0 ≡ unit_byte u → ⊥
          other celsius e = x67 e
          other fahrenheit e = x70 e

-- ---- a whole text

module _ (l : List ℕ) where
  -- The section that stands at the front, up to a place.
  pub front_says : {next : ℕ} → ReadsSection l 0 deepest (Some next) → next ≡ length l → WellFormedText l
  unfolding Finds
  front_says {next} (s, stands) e =
      let over : drop next l ≡ [] = ap (λ (i : ℕ). drop i l) e ∙ drop-length l in
      (s, record { within = stands.allowed; bytes = stands.here ∙ ap (λ (x : List ℕ). section_bytes s ++ x) over ∙ append-nil (section_bytes s) })

  pub front_whole : {next : ℕ} → ReadsSection l 0 deepest (Some next) → WellFormedText l → next ≡ length l
  unfolding Finds
  front_whole {next} (s, stands) (t, says) =
      let both = section_once s t deepest deepest stands.allowed says.within (drop next l) [] (sym stands.here ∙ says.bytes ∙ sym (append-nil (section_bytes t))) in
      stands.behind ∙ ap (λ (u : Section). 0 + length (section_bytes u)) both.0 ∙ omega (arith, ap length says.bytes)

  pub front_ill : ReadsSection l 0 deepest None → WellFormedText l → ⊥
  unfolding Finds
  front_ill fails (t, says) = fails t says.within [] (says.bytes ∙ sym (append-nil (section_bytes t)))
