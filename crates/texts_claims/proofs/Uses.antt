-- The claims on texts, used where their hypotheses only just hold: the empty section, a text cut to nothing, two texts that part
-- in their first step. A stricter hypothesis or a sentence left out is noticed here.
-- Assumes nothing.
use Prim.Native.Nat.{ℕ, ◌≤◌, ◌+◌}
use mathlib.Core.Path.{◌≡◌, refl}
use mathlib.Core.Logic.{◌⊎◌}
use mathlib.Core.List.{List, [], ◌∷◌, ◌++◌}
use mathlib.Core.Option.{none}
use lib.Dec.{T, lit<}
use lib.ListN.{length, take}
use Rattle.lists.specs.Table.{listed}
use Rattle.text_drops.specs.Drop.{near, drop_of, celsius, fahrenheit}
use Rattle.texts.specs.Text.{Section, words, done, ◌then◌, step_count, steps_bytes, Says, WellFormedText, SectionWithin, StepsWithin}
use Rattle.texts.specs.Agree.{agree_steps, unmatched, Compared, verdict}
use Rattle.texts_claims.specs.Claims.{Agreed, Disagreed, BeginsThere, EndsThere, compare_numbers}
use Rattle.texts_claims.specs.Cases.{holding, c205, f401, f402, sample, Each}
use Rattle.texts_claims.proofs.Claims.{text_claims}
use Rattle.texts_claims.proofs.Cases.{texts_worked}

abbrev empty : List ℕ
empty = 1 ∷ 0 ∷ []

empty_says : Says empty done
unfolding SectionWithin StepsWithin step_count steps_bytes
empty_says = record { within = (lit< tt, tt); bytes = refl }

abbrev step : Section
step = words [] then done

-- ---- readings (rule 12.11)

one_reading_lem : done ≡ done
one_reading_lem = text_claims.one_reading empty done done empty_says empty_says

nothing_behind : (more : List ℕ) → WellFormedText (empty ++ more) → more ≡ []
nothing_behind more whole = text_claims.none_behind empty more (done, empty_says) whole

-- ---- agreeing, and where not (rules 12.8 and 12.10)

matched : T (agree_steps done done)
unfolding unmatched
matched = (text_claims.matched_agree done done 0).0 refl

matching : unmatched step step 65535 ≡ none
unfolding agree_steps
matching = (text_claims.matched_agree step step 65535).1 tt

inside : (2 ≤ 2) × (2 ≤ 2 + length (steps_bytes done))
unfolding unmatched
inside = text_claims.place_inside done step 2 2 refl

drops_both_ways : near (drop_of celsius 2050) (drop_of fahrenheit 4020) ≡ near (drop_of fahrenheit 4020) (drop_of celsius 2050)
drops_both_ways = text_claims.near_both_ways (drop_of celsius 2050) (drop_of fahrenheit 4020)

both_ways : agree_steps done step ≡ agree_steps step done
both_ways = text_claims.agree_both_ways done step

texts_both_ways : (b : List ℕ) → Agreed empty b → Agreed b empty
texts_both_ways b a = (text_claims.agreed_both_ways empty b).0 a

-- ---- verdicts (rules 12.9 to 12.11): 0 and 20 of the first two worked rows, 18 and 19 of a text cut to nothing

near_drops : Compared (holding 1 c205) (holding 1 f401) (verdict 0 0)
unfolding Each
near_drops = texts_worked.0.0

far_drops : Compared (holding 1 c205) (holding 1 f402) (verdict 20 2)
unfolding Each
far_drops = texts_worked.0.1.0

cut_first : Compared (take 0 sample) sample (verdict 18 0)
cut_first = texts_worked.1.0.cut 0 (lit< tt)

cut_second_lem : Compared sample (take 0 sample) (verdict 19 0)
cut_second_lem = texts_worked.1.0.cut_second 0 (lit< tt)

one_verdict_lem : verdict 20 2 ≡ verdict 20 2
one_verdict_lem = text_claims.one_verdict (holding 1 c205) (holding 1 f402) (verdict 20 2) (verdict 20 2) far_drops far_drops

agree : Agreed (holding 1 c205) (holding 1 f401)
agree = (text_claims.exactly (holding 1 c205) (holding 1 f401) (verdict 0 0) near_drops).agreed.0 refl

disagree : Disagreed (holding 1 c205) (holding 1 f402)
disagree = (text_claims.exactly (holding 1 c205) (holding 1 f402) (verdict 20 2) far_drops).differing.0 refl

parts_inside : (2 ≤ 2) × (2 ≤ length (holding 1 c205))
parts_inside = (text_claims.exactly (holding 1 c205) (holding 1 f402) (verdict 20 2) far_drops).inside refl

parts_there : BeginsThere (holding 1 c205) 2 ⊎ EndsThere (holding 1 c205) 2
parts_there = (text_claims.exactly (holding 1 c205) (holding 1 f402) (verdict 20 2) far_drops).there refl

ill_first : WellFormedText (take 0 sample) → ⊥
ill_first = (text_claims.exactly (take 0 sample) sample (verdict 18 0) cut_first).first_refused.0 refl

ill_second : WellFormedText sample × (WellFormedText (take 0 sample) → ⊥)
ill_second = (text_claims.exactly sample (take 0 sample) (verdict 19 0) cut_second_lem).second_refused.0 refl

numbered : T (listed compare_numbers 20)
numbered = text_claims.numbers (holding 1 c205) (holding 1 f402) (verdict 20 2) far_drops
