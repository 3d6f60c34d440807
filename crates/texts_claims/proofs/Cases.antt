-- The worked cases, by computation. Assumes nothing.
use Prim.Native.Nat.{ℕ, ◌<◌}
use mathlib.Core.Path.{◌≡◌, refl}
use mathlib.Core.Bool.{Bool, true, ◌&&◌}
use lib.Ieee.{add, sub, mul, div, neg, le, of_int}
use lib.ListN.{take}
use Rattle.lists.specs.Parts.{every}
use Rattle.lists.proofs.Every.{every_out}
use Rattle.lists.proofs.Tests.{and_left, and_right}
use Rattle.lists.specs.Le.{le as le_number, to_le}
use Rattle.floats.specs.Numbers.{whole_float, half}
use Rattle.text_drops.specs.Drop.{degrees_of, drop_of, in_fahrenheit, near}
use Rattle.texts.specs.Text.{step_count, step_bytes}
use Rattle.texts.specs.Agree.{unmatched_step, verdict}
use Rattle.texts_claims.specs.Cases.{times, around, sample, text_cases, TwoTextsWorked, SampleWorked, PlacesWorked, TextsWorked}
use Rattle.texts_claims.proofs.Deciding.{
  gotten,
  compared,
  all_gotten,
  each_compared,
  gets,
  reading,
  whole,
  says_so,
  same_verdict,
  alike,
  step_fits,
  read_section,
  read_steps,
  read_step,
  by_kind,
  read_drop,
  of_scale,
  read_words,
}

-- The sample cut before a byte, as the first text and as the second.
abbrev cut_refused : ℕ → Bool
cut_refused k = gotten (take k sample) sample (verdict 18 0) && gotten sample (take k sample) (verdict 19 0)

computed : (all_gotten text_cases && (every cut_refused 20 && gotten sample sample (verdict 0 0))) ≡ true
unfolding all_gotten gotten gets reading whole says_so same_verdict alike step_fits read_section read_steps read_step by_kind read_drop of_scale read_words
    times around unmatched_step step_count step_bytes to_le add sub mul div neg le of_int whole_float half degrees_of drop_of in_fahrenheit near le_number every
computed = refl

two_texts_worked : TwoTextsWorked
two_texts_worked = each_compared text_cases (and_left (all_gotten text_cases) (every cut_refused 20 && gotten sample sample (verdict 0 0)) computed)

samples : (every cut_refused 20 && gotten sample sample (verdict 0 0)) ≡ true
samples = and_right (all_gotten text_cases) (every cut_refused 20 && gotten sample sample (verdict 0 0)) computed

refused : (k : ℕ) → k < 20 → cut_refused k ≡ true
refused k small = every_out cut_refused 20 (and_left (every cut_refused 20) (gotten sample sample (verdict 0 0)) samples) k small

sample_worked : SampleWorked
sample_worked = record {
  long = refl;
  whole = compared sample sample (verdict 0 0) (and_right (every cut_refused 20) (gotten sample sample (verdict 0 0)) samples);
  cut = λ k small. compared (take k sample) sample (verdict 18 0) (and_left (gotten (take k sample) sample (verdict 18 0)) (gotten sample (take k sample) (verdict 19 0)) (refused k small));
  cut_second = λ k small. compared sample (take k sample) (verdict 19 0) (and_right (gotten (take k sample) sample (verdict 18 0)) (gotten sample (take k sample) (verdict 19 0)) (refused k small));
}

places_worked : PlacesWorked
places_worked = record { drop_behind_words = refl; section_step_lem = refl; inner_step = refl; inner_end = refl; whole_end = refl }

pub texts_worked : TextsWorked
texts_worked = (two_texts_worked, (sample_worked, places_worked))
