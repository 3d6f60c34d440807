-- Laws of the walk over two texts: one for each way in which it goes on or answers. Assumes nothing.
use Prim.Native.Nat.{ℕ, ◌+◌, ◌-◌, ◌≤◌, ◌<◌, min}
use native.Mathlib.Omega.{arith}
use mathlib.Core.Path.{◌≡◌, refl, sym, ap, ◌∙◌}
use mathlib.Core.Logic.{◌⊎◌, inl, inr}
use Rattle.std.proofs.lemmas.Bool.{cases_lt}
use mathlib.Core.Bool.{Bool, true, false, cond}
use mathlib.Core.Option.{Option, none, some}
use mathlib.Core.List.{List}
use lib.ListN.{length, get_or, length-append}
use Rattle.text_drops.specs.Drop.{Scale, celsius, fahrenheit, unit_byte, scale_of, drop_of, near}
use Rattle.texts.specs.Text.{TextStep, words, temperature, section, Section, done, ◌then◌, step_count, step_bytes, steps_bytes, section_bytes}
use Rattle.texts.specs.Agree.{unmatched_step, unmatched, or_else}
use Rattle.std.specs.Prelude.{Ok, Err}
use Rattle.texts.specs.inner.Walk.{Walk, same, differ, drop_there, walked, TwoSections, TwoRuns, TwoSteps, SectionsWalked, RunsWalked, StepsWalked}
use Rattle.texts.proofs.Standing.{kind, opened, step_of, rest_of, step_fits, kind_here, words_here, drop_here, section_here, words_end, drop_end}

scale_back : (u : Scale) → scale_of (unit_byte u) ≡ u
scale_back celsius = refl
scale_back fahrenheit = refl

pub places : {x y x' y' : ℕ} → x ≡ x' → y ≡ y' → same x y ≡ same x' y'
places {x} {y} {x'} {y'} e f = cc

moved : {o o' : Option ℕ} {x y x' y' : ℕ} → o ≡ o' → x ≡ x' → y ≡ y' → walked o x y ≡ walked o' x' y'
moved {o} {o'} {x} {y} {x'} {y'} e f g = ap (λ (p : Option ℕ). walked p x y) e ∙ ap (λ (k : ℕ). walked o' k y) f ∙ ap (λ (k : ℕ). walked o' x' k) g

walked_cond : (p : Bool) (i x y : ℕ) → cond p (same x y) (differ i) ≡ walked (cond p none (some i)) x y
walked_cond true i x y = refl
walked_cond false i x y = refl

-- The places of a walk that found nothing unmatched.
first_place : Walk → ℕ
first_place (Ok both) = both.0
first_place (Err unmatched) = 0

second_place : Walk → ℕ
second_place (Ok both) = both.1
second_place (Err unmatched) = 0

differ_first : (o p : Option ℕ) (at x y x' y' : ℕ) → differ at ≡ walked o x y → differ at ≡ walked (or_else o p) x' y'
differ_first none p at x y x' y' e = let z : ◌≡◌ {A = ℕ} 0 1 = cc in absurd (omega arith)
differ_first (some k) p at x y x' y' e = e

record Went (o : Option ℕ) (x y x' y' : ℕ) : Type 0 where
  pub matched : o ≡ none
  pub one : x ≡ x'
  pub other : y ≡ y'

went : (o : Option ℕ) (x y x' y' : ℕ) → same x y ≡ walked o x' y' → Went o x y x' y'
unfolding first_place second_place
went none x y x' y' e = record { matched = refl; one = ap first_place e; other = ap second_place e }
went (some k) x y x' y' e = let z : ◌≡◌ {A = ℕ} 0 1 = cc in absurd (omega arith)

module _ (a : List ℕ) (i : ℕ) (b : List ℕ) (j : ℕ) (n : ℕ) where
  -- ---- two sections
  pub sections_open : ((s t : Section) × TwoSections a i b j n s t)
      → ((s t : Section) × TwoRuns a (i + 2) b (j + 2) (n - 1) (get_or a (i + 1) 0) (get_or b (j + 1) 0) s t)
  sections_open (s, t, both) = (s, t, record { one = (opened a i n s both.one).within; other = (opened b j n t both.other).within })

  pub opened_both : ((s t : Section) × TwoSections a i b j n s t) → (i + 2 ≤ length a) × (j + 2 ≤ length b) × (0 < n)
  opened_both (s, t, both) = ((opened a i n s both.one).long, (opened b j n t both.other).long, (opened a i n s both.one).deep)

  pub sections_walked : (r : Walk) → RunsWalked a (i + 2) b (j + 2) (n - 1) (get_or a (i + 1) 0) (get_or b (j + 1) 0) r → SectionsWalked a i b j n r
  sections_walked r w s t both =
      let one : i + 2 + length (steps_bytes s) ≡ i + length (section_bytes s) = omega arith in
      let other : j + 2 + length (steps_bytes t) ≡ j + length (section_bytes t) = omega arith in
      w s t (record { one = (opened a i n s both.one).within; other = (opened b j n t both.other).within })
      ∙ moved {o = unmatched s t (i + 2)} {o' = unmatched s t (i + 2)} refl one other

  -- ---- two steps
  module _ (s t : TextStep) (both : TwoSteps a i b j n s t) where
    here_one : get_or a i 0 ≡ kind s
    here_one = kind_here a i n s both.one

    here_other : get_or b j 0 ≡ kind t
    here_other = kind_here b j n t both.other

  pub pair_fits : ((s t : TextStep) × TwoSteps a i b j n s t) → (i + 2 ≤ length a) × (j + 2 ≤ length b)
  pair_fits (s, t, both) = (step_fits a i n s both.one, step_fits b j n t both.other)

  pub pair_other : (get_or a i 0 ≡ get_or b j 0 → ⊥) → StepsWalked a i b j n (differ i)
  unfolding unmatched_step
  pair_other apart s t both = go s t (λ e. apart (here_one s t both ∙ e ∙ sym (here_other s t both)))
    where
      go : (s t : TextStep) → (kind s ≡ kind t → ⊥) → differ i ≡ walked (unmatched_step s t i) (i + length (step_bytes s)) (j + length (step_bytes t))
      go (words w) (words v) x = absurd (x refl)
      go (words w) (temperature u t) x = refl
      go (words w) (section t) x = refl
      go (temperature u t) (words v) x = refl
      go (temperature u t) (temperature u' t') x = absurd (x refl)
      go (temperature u t) (section t') x = refl
      go (section s) (words v) x = refl
      go (section s) (temperature u t) x = refl
      go (section s) (section t) x = absurd (x refl)

  module _ (alike : get_or a i 0 ≡ get_or b j 0) where
    kinds : (k : ℕ) → get_or a i 0 ≡ k → (s t : TextStep) → TwoSteps a i b j n s t → (kind s ≡ k) × (kind t ≡ k)
    kinds k e s t both = (sym (here_one s t both) ∙ e, sym (here_other s t both) ∙ sym alike ∙ e)

    pub pair_words : get_or a i 0 ≡ 2 → StepsWalked a i b j n (same (i + 2 + get_or a (i + 1) 0) (j + 2 + get_or b (j + 1) 0))
    unfolding unmatched_step step_bytes
    pair_words is-2 s t both = go s t both (kinds 2 is-2 s t both)
      where
        go : (s t : TextStep) → TwoSteps a i b j n s t → (kind s ≡ 2) × (kind t ≡ 2) → same (i + 2 + get_or a (i + 1) 0)
            (j + 2 + get_or b (j + 1) 0) ≡ walked (unmatched_step s t i) (i + length (step_bytes s)) (j + length (step_bytes t))
        go (words w) (words v) p e = places (omega (arith, (words_here a i n w p.one).0)) (omega (arith, (words_here b j n v p.other).0))
        go (words w) (temperature u t) p e = absurd (omega (arith, e.1))
        go (words w) (section t) p e = absurd (omega (arith, e.1))
        go (temperature u t) (words v) p e = absurd (omega (arith, e.0))
        go (temperature u t) (temperature u' t') p e = absurd (omega (arith, e.0))
        go (temperature u t) (section t') p e = absurd (omega (arith, e.0))
        go (section s) (words v) p e = absurd (omega (arith, e.0))
        go (section s) (temperature u t) p e = absurd (omega (arith, e.0))
        go (section s) (section t) p e = absurd (omega (arith, e.0))

    -- The words, or the drops, of both end within their texts.
    pub words_fit : get_or a i 0 ≡ 2 → ((s t : TextStep) × TwoSteps a i b j n s t) → (i + 2 + get_or a (i + 1) 0 ≤ length a) × (j + 2 + get_or b (j + 1) 0 ≤ length b)
    words_fit is-2 (s, t, both) =
        let two = kinds 2 is-2 s t both in
        (words_end a i n s both.one two.0, words_end b j n t both.other two.1)

    pub drops_fit : get_or a i 0 ≡ 3 → ((s t : TextStep) × TwoSteps a i b j n s t) → (i + 4 ≤ length a) × (j + 4 ≤ length b)
    drops_fit is-3 (s, t, both) =
        let two = kinds 3 is-3 s t both in
        (drop_end a i n s both.one two.0, drop_end b j n t both.other two.1)

    abbrev near_here : Bool
    near_here = near (drop_there a i) (drop_there b j)

    pub pair_drops : (r : Walk) → get_or a i 0 ≡ 3 → r ≡ cond (near (drop_there a i) (drop_there b j)) (same (i + 4) (j + 4)) (differ i) → StepsWalked a i b j n r
    unfolding unmatched_step
    pair_drops r is-3 e s t both = e ∙ go s t both (kinds 3 is-3 s t both)
      where
        go : (s t : TextStep) → TwoSteps a i b j n s t → (kind s ≡ 3) × (kind t ≡ 3) → cond near_here (same (i + 4) (j + 4)) (differ i) ≡ walked
            (unmatched_step s t i) (i + length (step_bytes s)) (j + length (step_bytes t))
        go (words w) (words v) p e = absurd (omega (arith, e.0))
        go (words w) (temperature u t) p e = absurd (omega (arith, e.0))
        go (words w) (section t) p e = absurd (omega (arith, e.0))
        go (temperature u t) (words v) p e = absurd (omega (arith, e.1))
        go (temperature u t) (temperature u' t') p e =
            let one = drop_here a i n u t p.one in
            let other = drop_here b j n u' t' p.other in
            let same : near_here ≡ near (drop_of u t) (drop_of u' t') = rw (one.0, one.1, other.0, other.1, scale_back u, scale_back u') in
            let x : i + 4 ≡ i + length (step_bytes (temperature u t)) = omega (arith, one.3) in
            let y : j + 4 ≡ j + length (step_bytes (temperature u' t')) = omega (arith, other.3) in
            walked_cond near_here i (i + 4) (j + 4) ∙ moved (ap (λ (q : Bool). cond q none (some i)) same) x y
        go (temperature u t) (section t') p e = absurd (omega (arith, e.1))
        go (section s) (words v) p e = absurd (omega (arith, e.0))
        go (section s) (temperature u t) p e = absurd (omega (arith, e.0))
        go (section s) (section t) p e = absurd (omega (arith, e.0))

    -- ---- two steps that are sections
    module _ (x2 : get_or a i 0 ≡ 2 → ⊥) (x3 : get_or a i 0 ≡ 3 → ⊥) where
      pub sections_here : ((s t : TextStep) × TwoSteps a i b j n s t) → ((s t : Section) × TwoSections a (i + 1) b (j + 1) n s t)
      sections_here (s, t, both) = go s t both (λ e. x2 (here_one s t both ∙ e)) (λ e. x3 (here_one s t both ∙ e)) (sym (here_other s t both) ∙ sym alike ∙ here_one s t both)
        where
          go : (s t : TextStep) → TwoSteps a i b j n s t → (kind s ≡ 2 → ⊥) → (kind s ≡ 3 → ⊥) → kind t ≡ kind s → ((s t : Section) × TwoSections a (i + 1) b (j + 1) n s t)
          go (words w) t p y2 y3 e = absurd (y2 refl)
          go (temperature u t) t' p y2 y3 e = absurd (y3 refl)
          go (section s) (words v) p y2 y3 e = absurd (omega (arith, e))
          go (section s) (temperature u t) p y2 y3 e = absurd (omega (arith, e))
          go (section s) (section t) p y2 y3 e = (s, t, record { one = section_here a i n s p.one; other = section_here b j n t p.other })

      pub pair_sections : (r : Walk) → SectionsWalked a (i + 1) b (j + 1) n r → StepsWalked a i b j n r
      unfolding unmatched_step step_bytes
      pair_sections r w s t both = go s t both (λ e. x2 (here_one s t both ∙ e)) (λ e. x3 (here_one s t both ∙ e)) (sym (here_other s t both) ∙ sym alike ∙ here_one s t both)
        where
          go : (s t : TextStep) → TwoSteps a i b j n s t → (kind s ≡ 2 → ⊥) → (kind s ≡ 3 → ⊥) → kind t ≡ kind s → r ≡ walked (unmatched_step s t i)
              (i + length (step_bytes s)) (j + length (step_bytes t))
          go (words w) t p y2 y3 e = absurd (y2 refl)
          go (temperature u t) t' p y2 y3 e = absurd (y3 refl)
          go (section s) (words v) p y2 y3 e = absurd (omega (arith, e))
          go (section s) (temperature u t) p y2 y3 e = absurd (omega (arith, e))
          go (section s) (section t) p y2 y3 e =
              let place : i + 1 + 2 ≡ i + 3 = omega arith in
              let one : i + 1 + length (section_bytes s) ≡ i + length (step_bytes (section s)) = omega arith in
              let other : j + 1 + length (section_bytes t) ≡ j + length (step_bytes (section t)) = omega arith in
              w s t (record { one = section_here a i n s p.one; other = section_here b j n t p.other })
              ∙ moved (ap (unmatched s t) place) one other

  -- ---- so many steps of each
  pub steps_done : {many more : ℕ} → many ≡ 0 → more ≡ 0 → RunsWalked a i b j n many more (same i j)
  unfolding unmatched steps_bytes step_count
  steps_done {many} {more} z z' s t both = go s t (both.one.allowed.1 ∙ z) (both.other.allowed.1 ∙ z')
    where
      go : (s t : Section) → step_count s ≡ 0 → step_count t ≡ 0 → same i j ≡ walked (unmatched s t i) (i + length (steps_bytes s)) (j + length (steps_bytes t))
      go done done e f = places (omega arith) (omega arith)
      go done (t then ts) e f = absurd (omega (arith, f))
      go (s then ss) done e f = absurd (omega (arith, e))
      go (s then ss) (t then ts) e f = absurd (omega (arith, e))

  pub steps_fewer : {many more : ℕ} → many ≡ 0 → (more ≡ 0 → ⊥) → RunsWalked a i b j n many more (differ i)
  unfolding unmatched step_count
  steps_fewer {many} {more} z x s t both = go s t (both.one.allowed.1 ∙ z) (λ e. x (sym both.other.allowed.1 ∙ e))
    where
      go : (s t : Section) → step_count s ≡ 0 → (step_count t ≡ 0 → ⊥) → differ i ≡ walked (unmatched s t i) (i + length (steps_bytes s)) (j + length (steps_bytes t))
      go done done e f = absurd (f refl)
      go done (t then ts) e f = refl
      go (s then ss) done e f = absurd (f refl)
      go (s then ss) (t then ts) e f = absurd (omega (arith, e))

  pub steps_more : {many more : ℕ} → (many ≡ 0 → ⊥) → more ≡ 0 → RunsWalked a i b j n many more (differ i)
  unfolding unmatched step_count
  steps_more {many} {more} x z s t both = go s t (λ e. x (sym both.one.allowed.1 ∙ e)) (both.other.allowed.1 ∙ z)
    where
      go : (s t : Section) → (step_count s ≡ 0 → ⊥) → step_count t ≡ 0 → differ i ≡ walked (unmatched s t i) (i + length (steps_bytes s)) (j + length (steps_bytes t))
      go done done e f = absurd (e refl)
      go done (t then ts) e f = absurd (e refl)
      go (s then ss) done e f = refl
      go (s then ss) (t then ts) e f = absurd (omega (arith, f))

  -- Where the steps of one of the two are over, and those of the other are not.
  pub steps_unlike : (many more k : ℕ) → (many ≡ more → ⊥) → k ≤ many → k ≤ more → min many more ≤ k → RunsWalked a i b j n (many - k) (more - k) (differ i)
  steps_unlike many more k unlike one other over = go (cases_lt many more) where
    go : (many < more) ⊎ (more ≤ many) → RunsWalked a i b j n (many - k) (more - k) (differ i)
    go (inl less) = steps_fewer (omega (arith, less, over)) (λ none. omega (arith, none, less, over, one))
    go (inr no_less) = steps_more (λ none. unlike (omega (arith, none, no_less, over, other, one))) (omega (arith, no_less, over))

  module _ {many more : ℕ} (x : many ≡ 0 → ⊥) (y : more ≡ 0 → ⊥) where
    -- Two first steps, and the others of each.
    record First (s t : Section) : Type 0 where
      pub one : TextStep
      pub other : TextStep
      pub ones : Section
      pub others : Section
      pub first_is : s ≡ one then ones
      pub second_is : t ≡ other then others
      pub pair : TwoSteps a i b j n one other
      pub rest : TwoRuns a (i + length (step_bytes one)) b (j + length (step_bytes other)) n (many - 1) (more - 1) ones others

    firsts : (s t : Section) → TwoRuns a i b j n many more s t → First s t
    unfolding step_count
    firsts s t both = go s t both (λ e. x (sym both.one.allowed.1 ∙ e)) (λ e. y (sym both.other.allowed.1 ∙ e))
      where
        go : (s t : Section) → TwoRuns a i b j n many more s t → (step_count s ≡ 0 → ⊥) → (step_count t ≡ 0 → ⊥) → First s t
        go done done p e f = absurd (e refl)
        go done (t then ts) p e f = absurd (e refl)
        go (s then ss) done p e f = absurd (f refl)
        go (s then ss) (t then ts) p e f =
            record {
              one = s;
              other = t;
              ones = ss;
              others = ts;
              first_is = refl;
              second_is = refl;
              pair = record { one = step_of a i n many s ss p.one; other = step_of b j n more t ts p.other };
              rest = record { one = rest_of a i n many s ss p.one; other = rest_of b j n more t ts p.other };
            }

    pub pair_first : ((s t : Section) × TwoRuns a i b j n many more s t) → ((s t : TextStep) × TwoSteps a i b j n s t)
    pair_first (s, t, both) = let f = firsts s t both in (f.one, f.other, f.pair)

    pub steps_differ : (at : ℕ) → StepsWalked a i b j n (differ at) → RunsWalked a i b j n many more (differ at)
    unfolding unmatched
    steps_differ at w s t both = go s t (firsts s t both)
      where
        go : (s t : Section) → First s t → differ at ≡ walked (unmatched s t i) (i + length (steps_bytes s)) (j + length (steps_bytes t))
        go s t f =
            rw (f.first_is, f.second_is)
            (differ_first
            (unmatched_step f.one f.other i)
            (unmatched f.ones f.others (i + length (step_bytes f.one)))
            at
            (i + length (step_bytes f.one))
            (j + length (step_bytes f.other))
            (i + length (steps_bytes (f.one then f.ones)))
            (j + length (steps_bytes (f.other then f.others)))
            (w f.one f.other f.pair))

    module _ (k m : ℕ) (w : StepsWalked a i b j n (same k m)) where
      gone : (s t : TextStep) → TwoSteps a i b j n s t → Went (unmatched_step s t i) k m (i + length (step_bytes s)) (j + length (step_bytes t))
      gone s t p = went (unmatched_step s t i) k m (i + length (step_bytes s)) (j + length (step_bytes t)) (w s t p)

      moved_steps : (s t : Section) (f : First s t) → TwoRuns a k b m n (many - 1) (more - 1) f.ones f.others
      moved_steps s t f =
          let g = gone f.one f.other f.pair in
          rw (g.one, g.other) f.rest

      pub steps_behind : ((s t : Section) × TwoRuns a i b j n many more s t) → ((s t : Section) × TwoRuns a k b m n (many - 1) (more - 1) s t)
      steps_behind (s, t, both) = let f = firsts s t both in (f.ones, f.others, moved_steps s t f)

      pub steps_on : (r : Walk) → RunsWalked a k b m n (many - 1) (more - 1) r → RunsWalked a i b j n many more r
      unfolding unmatched steps_bytes
      steps_on r v s t both = go s t (firsts s t both)
        where
          go : (s t : Section) → First s t → r ≡ walked (unmatched s t i) (i + length (steps_bytes s)) (j + length (steps_bytes t))
          go s t f =
              let g = gone f.one f.other f.pair in
              let x' : k + length (steps_bytes f.ones) ≡ i + length (steps_bytes (f.one then f.ones)) = omega (arith, g.one, length-append (step_bytes f.one) (steps_bytes f.ones)) in
              let y' : m + length (steps_bytes f.others) ≡ j + length (steps_bytes (f.other then f.others)) = omega
              (arith, g.other, length-append (step_bytes f.other) (steps_bytes f.others)) in
              let o : unmatched f.ones f.others k ≡ unmatched (f.one then f.ones) (f.other then f.others) i =
              ap (unmatched f.ones f.others) g.one ∙ ap (λ (q : Option ℕ). or_else q (unmatched f.ones f.others (i + length (step_bytes f.one)))) (sym g.matched) in
              rw (f.first_is, f.second_is) (v f.ones f.others (moved_steps s t f) ∙ moved o x' y')
