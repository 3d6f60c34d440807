-- Recovery on what is no sound image of version 1. Assumes nothing.
use Prim.Native.Nat.{ℕ, zero, suc, ◌<◌}
use native.Mathlib.Omega.{arith}
use native.Mathlib.Nat.{eq-or-lt_of_le}
use mathlib.Core.Path.{◌≡◌, refl, sym, ap, subst, ◌∙◌}
use mathlib.Core.Logic.{◌⊎◌, inl, inr}
use mathlib.Core.List.{List, [], nil≢cons}
use mathlib.Core.Bool.{Bool, true, false}
use lib.ListN.{length}
use Rattle.formats.specs.Format.{V1}
use Rattle.image.specs.Image.{sound}
use Rattle.image_claims.proofs.Claims.{number_tells}
use Rattle.lists.specs.Table.{settled}
use Rattle.lists.proofs.Tests.{never_both}
use Rattle.store_model.specs.Serve.{serve}
use Rattle.store_model.specs.Claims.{Turned}
use Rattle.store_model.proofs.Versions.{turned}
use Rattle.redo_log.specs.Log.{LogRecord, good_log, records}
use Rattle.redo_recovery_model.specs.Recovery.{Pairs, Recovery, due, recovery_step, recovering, recovered}
use Rattle.redo_recovery_model.specs.Claims.{due_below, Untouched, UnsoundRecovery, NoRecovery2}
use Rattle.redo_recovery_model.proofs.Steps.{R, S, Idle, Sends, next, below_more}

module _ (pairs : Pairs) (rs : List LogRecord) (image : List ℕ) (unsound : sound V1 image ≡ false) where
  -- The image stays; 0 is the number exactly as long as no update was due, and the first that is gets 9.
  pub record Unmoved (i : ℕ) : Type 0 where
    pub kept : (R pairs rs image i).image ≡ image
    pub idle : (R pairs rs image i).number ≡ 0 → due_below rs i ≡ []
    pub quiet : due_below rs i ≡ [] → ((R pairs rs image i).number ≡ 0) × ((R pairs rs image i).line ≡ 0)
    pub first : (j : ℕ) → j < i → due rs j ≡ true → due_below rs j ≡ [] → ((R pairs rs image i).number ≡ 9) × ((R pairs rs image i).line ≡ j)

  pub unsound_run : (i : ℕ) → Unmoved i
  unfolding recovering recovery_step due_below
  unsound_run zero = record { kept = refl; idle = λ z. refl; quiet = λ e. (refl, refl); first = λ j h. absurd (omega arith) }
  unsound_run (suc i) = go (next pairs rs image i) (unsound_run i)
    where
      was : (d : Bool) → due rs i ≡ d → due_below rs (suc i) ≡ [] → (due rs i ≡ false) × (due_below rs i ≡ [])
      was true e h = absurd (nil≢cons (sym h ∙ below_more pairs rs image i e))
      was false e h = (e, sym (below_more pairs rs image i e) ∙ h)

      same_idle : R pairs rs image (suc i) ≡ R pairs rs image i → {n m : ℕ} → ((R pairs rs image i).number ≡ n) × ((R pairs rs image i).line ≡ m)
          → ((R pairs rs image (suc i)).number ≡ n) × ((R pairs rs image (suc i)).line ≡ m)
      same_idle e h = (ap (λ (r : Recovery). r.number) e ∙ h.0, ap (λ (r : Recovery). r.line) e ∙ h.1)

      go : Idle pairs rs image i ⊎ Sends pairs rs image i → Unmoved i → Unmoved (suc i)
      go (inl same) u =
          record {
            kept = ap (λ (r : Recovery). r.image) same.same ∙ u.kept;
            idle =
                λ z.
                let so_far : (R pairs rs image i).number ≡ 0 = sym (ap (λ (r : Recovery). r.number) same.same) ∙ z in
                below_more pairs rs image i (same.why so_far) ∙ u.idle so_far;
            quiet = λ e. same_idle same.same (u.quiet (was (due rs i) refl e).1);
            first = λ j h d e. by j (eq-or-lt_of_le h) d e;
          }
        where
          by : (j : ℕ) → (suc j ≡ suc i) ⊎ (suc j < suc i) → due rs j ≡ true → due_below rs j ≡ []
              → ((R pairs rs image (suc i)).number ≡ 9) × ((R pairs rs image (suc i)).line ≡ j)
          by j (inl q) d e =
              let here : j ≡ i = omega arith in
              let none : due_below rs i ≡ [] = subst (λ (m : ℕ). due_below rs m ≡ []) here e in
              absurd (never_both (subst (λ (m : ℕ). due rs m ≡ true) here d) (same.why (u.quiet none).0))
          by j (inr q) d e = same_idle same.same (u.first j (omega arith) d e)
      go (inr s) u =
          record {
            kept = ap (λ (r : Recovery). r.image) s.now ∙ ap (λ (im : List ℕ). (serve V1 im command lent).image) u.kept ∙ nine.kept;
            idle = λ z. absurd (omega (arith, z, number));
            quiet = λ e. absurd (nil≢cons (sym e ∙ below_more pairs rs image i s.is_due_lem));
            first = λ j h d e. by j (eq-or-lt_of_le h) d e;
          }
        where
          command : List ℕ
          command = (S pairs rs image i).command

          lent : List ℕ
          lent = (S pairs rs image i).lent

          nine : Turned V1 image command lent
          nine = turned V1 image command lent unsound

          there : (serve V1 (R pairs rs image i).image command lent).answer.number ≡ 9
          there = ap (λ (im : List ℕ). (serve V1 im command lent).answer.number) u.kept ∙ nine.number

          number : (R pairs rs image (suc i)).number ≡ 9
          number = ap (λ (r : Recovery). r.number) s.now ∙ there

          line : (R pairs rs image (suc i)).line ≡ i
          line = ap (λ (r : Recovery). r.line) s.now ∙ ap (λ (n : ℕ). settled n 0 i) there

          by : (j : ℕ) → (suc j ≡ suc i) ⊎ (suc j < suc i) → due rs j ≡ true → due_below rs j ≡ []
              → ((R pairs rs image (suc i)).number ≡ 9) × ((R pairs rs image (suc i)).line ≡ j)
          by j (inl q) d e = let here : j ≡ i = omega arith in (number, line ∙ sym here)
          by j (inr q) d e = let never = (u.first j (omega arith) d e).0 in absurd (omega (arith, never, s.so_far))

pub unsound_recovery : UnsoundRecovery
unfolding recovered
unsound_recovery pairs log image unsound = go (good_log log) refl
  where
    go : (g : Bool) → good_log log ≡ g → Untouched log image (recovered pairs log image)
    go true e =
        let u = unsound_run pairs (records log) image unsound (length (records log)) in
        record {
          kept = rw e u.kept;
          bad = λ f. absurd (never_both e f);
          first = λ f i h d none. rw e (u.first i h d none);
          idle = λ f none. rw e (u.quiet none);
        }
    go false e =
        record {
          kept = rw e;
          bad = λ f. rw e (refl, refl);
          first = λ f. absurd (never_both f e);
          idle = λ f. absurd (never_both f e);
        }

pub no_recovery_2 : NoRecovery2
no_recovery_2 pairs log image other = unsound_recovery pairs log image (number_tells V1 image other)
