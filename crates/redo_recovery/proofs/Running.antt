-- The loop of recovery. Assumes nothing.
use Prim.Native.Nat.{ℕ, zero, suc, ◌+◌, ◌-◌, ◌≤◌, ◌<◌}
use native.Mathlib.Omega.{arith}
use mathlib.Core.Path.{◌≡◌, refl, sym, ap, ◌∙◌, subst}
use mathlib.Core.Logic.{◌⊎◌, inl, inr}
use mathlib.Core.List.{List}
use mathlib.Core.Bool.{Bool, true, false, cond}
use lib.ListN.{length}
use Rattle.formats.specs.Format.{V1}
use Rattle.lists.proofs.Table.{settled_old}
use Rattle.image.specs.Image.{sound}
use Rattle.redo_log.specs.Log.{LogRecord, good_log, record_count, records}
use Rattle.redo_log.proofs.ReadBack.{length_records}
use Rattle.redo_recovery_model.specs.Recovery.{Pairs, Recovery, record_in, recovery_sent, recovery_step, recovering, recovered}
use Rattle.redo_recovery_model.proofs.Steps.{R, Idle, Sends, next}
use Rattle.redo_recovery.specs.inner.Step.{write_outcome, step_number, step_image}
use Rattle.redo_recovery.specs.Recover.{Recovered, recovery_answer}

abbrev pub pick : ℕ → ℕ → Recovered
pick m l = record { number = m; line = l }

pub answers_bad : (pairs : Pairs) (log image : List ℕ) → good_log log ≡ false
    → (record { number = 23; line = 0 } ≡ recovery_answer pairs log image) × (image ≡ (recovered pairs log image).image)
unfolding recovered
answers_bad pairs log image e = (rw e, rw e)

module _ (pairs : Pairs) (log image : List ℕ) where
  abbrev rs : List LogRecord
  rs = records log

  -- One record more, where none was refused.
  pub record Stepped (i : ℕ) : Type 0 where
    pub number : (R pairs rs image (suc i)).number ≡ step_number pairs rs (R pairs rs image i).image i
    pub image' : (R pairs rs image (suc i)).image ≡ step_image pairs rs (R pairs rs image i).image i
    pub line : (step_number pairs rs (R pairs rs image i).image i ≡ 0 → ⊥) → (R pairs rs image (suc i)).line ≡ i

  pub stepped : (i : ℕ) → (R pairs rs image i).number ≡ 0 → Stepped i
  unfolding recovery_step recovery_sent
  stepped i z = go (next pairs rs image i)
    where
      go : Idle pairs rs image i ⊎ Sends pairs rs image i → Stepped i
      go (inl idle) =
          let d = idle.why z in
          record {
            number = ap (λ (r : Recovery). r.number) idle.same ∙ z ∙ rw d;
            image' = ap (λ (r : Recovery). r.image) idle.same ∙ rw d;
            line = λ n. absurd (n (rw d));
          }
      go (inr s) =
          let d = s.is_due_lem in
          record {
            number = ap (λ (r : Recovery). r.number) s.now ∙ sym (ap (λ (b : Bool). cond b (write_outcome pairs (R pairs rs image i).image (record_in rs i)).answer.number 0) d);
            image' = ap (λ (r : Recovery). r.image) s.now ∙ sym (ap (λ (b : Bool). cond b (write_outcome pairs (R pairs rs image i).image (record_in rs i)).image (R pairs rs image i).image) d);
            line = λ n. ap (λ (r : Recovery). r.line) s.now
                ∙ settled_old {n = (write_outcome pairs (R pairs rs image i).image (record_in rs i)).answer.number} 0 i
                (λ q. n (ap (λ (b : Bool). cond b (write_outcome pairs (R pairs rs image i).image (record_in rs i)).answer.number 0) d ∙ q));
          }

  -- A refusal ends it.
  stays : (i k : ℕ) → ((R pairs rs image i).number ≡ 0 → ⊥) → R pairs rs image (i + k) ≡ R pairs rs image i
  stays i zero n = let z : i + 0 ≡ i = omega arith in rw z
  stays i (suc k) n =
      let z : i + suc k ≡ suc (i + k) = omega arith in
      ap (R pairs rs image) z ∙ go (next pairs rs image (i + k)) (stays i k n)
    where
      go : Idle pairs rs image (i + k) ⊎ Sends pairs rs image (i + k) → R pairs rs image (i + k) ≡ R pairs rs image i → R pairs rs image (suc (i + k)) ≡ R pairs rs image i
      go (inl idle) h = idle.same ∙ h
      go (inr s) h = absurd (n (sym (ap (λ (r : Recovery). r.number) h) ∙ s.so_far))

  -- What the loop knows before record i.
  pub record Going (now : List ℕ) (ok : Bool) (i : ℕ) : Type 0 where
    pub within : i ≤ record_count log
    pub none : (R pairs rs image i).number ≡ 0
    pub image' : now ≡ (R pairs rs image i).image
    pub sounds : ok ≡ sound V1 now
    pub long : length now ≡ length image

  pub going_none : (ok : Bool) → ok ≡ sound V1 image → Going image ok 0
  unfolding recovering
  going_none ok o = record { within = omega arith; none = refl; image' = refl; sounds = o; long = refl }

  module _ (now : List ℕ) (ok : Bool) (i : ℕ) (w : Going now ok i) (h : i < record_count log) {number : ℕ} {after : List ℕ}
      (en : number ≡ step_number pairs rs now i) (ea : after ≡ step_image pairs rs now i) where
    number_is : number ≡ (R pairs rs image (suc i)).number
    number_is = en ∙ ap (λ (im : List ℕ). step_number pairs rs im i) w.image' ∙ sym (stepped i w.none).number

    after_is : after ≡ (R pairs rs image (suc i)).image
    after_is = ea ∙ ap (λ (im : List ℕ). step_image pairs rs im i) w.image' ∙ sym (stepped i w.none).image'

    pub going_more : number ≡ 0 → ok ≡ sound V1 after → length after ≡ length now → Going after ok (i + 1)
    going_more z o n =
        let one : suc i ≡ i + 1 = omega arith in
        record {
          within = omega arith;
          none = rw (← one) (sym number_is ∙ z);
          image' = rw (← one) after_is;
          sounds = o;
          long = n ∙ w.long;
        }

    pub going_stops : good_log log ≡ true → (number ≡ 0 → ⊥) → (record { number = number; line = i } ≡ recovery_answer pairs log image) × (after ≡ (recovered pairs log image).image)
    unfolding recovered
    going_stops g n =
        let s = stepped i w.none in
        let z : suc i + (record_count log - suc i) ≡ record_count log = omega arith in
        let last-run : R pairs rs image (record_count log) ≡ R pairs rs image (suc i) =
        subst (λ (m : ℕ). R pairs rs image m ≡ R pairs rs image (suc i)) z (stays (suc i) (record_count log - suc i) (λ q. n (number_is ∙ q))) in
        let line_is : (R pairs rs image (suc i)).line ≡ i = s.line (λ q. n (number_is ∙ s.number ∙ q)) in
        let whole : recovered pairs log image ≡ R pairs rs image (suc i) = rw (g, length_records log) last-run in (
          sym (ap (λ (r : Recovery). pick r.number r.line) whole ∙ ap (λ (m : ℕ). pick m (R pairs rs image (suc i)).line) (sym number_is) ∙ ap (pick number) line_is),
          after_is ∙ sym (ap (λ (r : Recovery). r.image) whole),
        )

  pub going_done : (now : List ℕ) (ok : Bool) (i : ℕ) → Going now ok i → record_count log ≤ i → good_log log ≡ true → (R pairs rs image i).line ≡ 0
      → (record { number = 0; line = 0 } ≡ recovery_answer pairs log image) × (now ≡ (recovered pairs log image).image)
  unfolding recovered
  going_done now ok i w h g l =
      let z : i ≡ record_count log = omega (arith, w.within) in (
        rw (g, length_records log, ← z, w.none, l),
        w.image' ∙ rw (g, length_records log, z),
      )
