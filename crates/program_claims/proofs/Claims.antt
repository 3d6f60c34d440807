-- The claims hold. Assumes nothing.
use Prim.Native.Nat.{ℕ, zero, suc, ◌+◌, ◌<◌}
use native.Mathlib.Omega.{arith}
use native.Mathlib.Nat.{le_of_suc-le-suc, not-suc-le-zero, add-zero}
use mathlib.Core.Path.{◌≡◌, refl, sym, ap, ◌∙◌}
use mathlib.Core.List.{List, [], ◌∷◌, ◌++◌, append_assoc}
use mathlib.Core.Bool.{Bool, true, false, cond}
use borrow.Author.Tests.{le-ltb}
use lib.Dec.{ltb, lit<}
use lib.ListN.{length, take, drop, get_or}
use Rattle.formats.specs.Format.{Format}
use Rattle.guard.specs.declared.Answer.{Answer}
use Rattle.store_model.specs.Serve.{serve}
use Rattle.image.specs.Bytes.{count_of}
use Rattle.image.specs.Image.{good_front}
use Rattle.image_claims.proofs.Claims.{no_old_front}
use Rattle.program.specs.Text.{quoted}
use Rattle.program.specs.Program.{line_of, lines_from, first_line, printed, most_input, image_of, blank_of, stream_of, output_of}
use Rattle.store.specs.Runs.{runs}
use Rattle.program_claims.specs.Claims.{NeverEmpty, NoVersion2, ProgramClaims}
use Rattle.program_claims.proofs.Trace.{traces}
use Rattle.program_claims.proofs.Requests.{guarded}
use Rattle.program_claims.proofs.Served.{serves}
use Rattle.program_claims.proofs.GoingOn.{going_on}
use Rattle.program_claims.proofs.Prints.{prints}
use Rattle.program_claims.proofs.Numerals.{numerals}

lines_apart : (p i : ℕ) (l : List Answer) (none : Answer) → i < length l →
    lines_from p l ≡ lines_from p (take i l) ++ (line_of (p + i) (get_or l i none) ++ lines_from (p + i + 1) (drop (suc i) l))
unfolding lines_from
lines_apart p i [] none h = absurd (not-suc-le-zero h)
lines_apart p zero (a ∷ l) none h = rw add-zero
lines_apart p (suc i) (a ∷ l) none h =
    let place : p + 1 + i ≡ p + suc i = omega arith in
    ap (λ (m : List ℕ). line_of p a ++ m) (rw place at (lines_apart (p + 1) i l none (le_of_suc-le-suc h)))
    ∙ sym (append_assoc (line_of p a) _ _)

-- ---- a run of a version

module _ (v : Format) where
  one_each : (image reply : List ℕ) (cs : List (List ℕ)) → length (runs v image reply cs).answers ≡ length cs
  unfolding runs
  one_each image reply [] = refl
  one_each image reply (c ∷ cs) = ap suc (one_each (serve v image c reply).image (serve v image c reply).reply cs)

  each : (image reply : List ℕ) (cs : List (List ℕ)) (i : ℕ) (none : Answer) → i < length cs →
      get_or (runs v image reply cs).answers i none ≡ (serve v (runs v image reply (take i cs)).image (get_or cs i []) (runs v image reply (take i cs)).reply).answer
  unfolding runs
  each image reply [] i none h = absurd (not-suc-le-zero h)
  each image reply (c ∷ cs) zero none h = refl
  each image reply (c ∷ cs) (suc i) none h = each (serve v image c reply).image (serve v image c reply).reply cs i none (le_of_suc-le-suc h)

  -- Of the first commands, the first answers.
  first_answers : (image reply : List ℕ) (cs : List (List ℕ)) (i : ℕ) → (runs v image reply (take i cs)).answers ≡ take i (runs v image reply cs).answers
  unfolding runs
  first_answers image reply [] zero = refl
  first_answers image reply [] (suc i) = refl
  first_answers image reply (c ∷ cs) zero = refl
  first_answers image reply (c ∷ cs) (suc i) =
      ap (λ (l : List Answer). (serve v image c reply).answer ∷ l) (first_answers (serve v image c reply).image (serve v image c reply).reply cs i)

  lines : (image reply : List ℕ) (cs : List (List ℕ)) (i : ℕ) (none : Answer) → i < length cs →
      lines_from 1 (runs v image reply cs).answers
      ≡ lines_from 1 (runs v image reply (take i cs)).answers
      ++ (line_of (i + 1) (get_or (runs v image reply cs).answers i none) ++ lines_from (i + 2) (drop (i + 1) (runs v image reply cs).answers))
  lines image reply cs i none h =
      let a : 1 + i ≡ i + 1 = omega arith in
      let b : i + 1 + 1 ≡ i + 2 = omega arith in
      let c : suc i ≡ i + 1 = omega arith in
      rw (first_answers image reply cs i) (rw (c, b) at (rw a at (lines_apart 1 i (runs v image reply cs).answers none (rw (one_each image reply cs) h))))

never_empty : NeverEmpty
unfolding output_of quoted first_line
never_empty input = go (ltb most_input (length input)) (good_front input)
  where
    go : (a b : Bool) → 0 < length (cond a (quoted "too long\n") (cond b (first_line (count_of input) ++ printed (image_of input) (blank_of input) (stream_of input)) (quoted "bad store\n")))
    go true b = lit< tt
    go false true = omega arith
    go false false = lit< tt

no_version_2 : NoVersion2
unfolding output_of
no_version_2 input other h = rw (le-ltb most_input (length input) h, no_old_front input other)

pub claims : ProgramClaims
claims =
    record {
      stepwise = λ v image reply cs.
          record {
            whole = one_each v image reply cs;
            each = each v image reply cs;
            lines = lines v image reply cs;
          };
      traces = traces;
      guarded = guarded;
      going_on = going_on;
      serves = serves;
      prints = prints;
      numerals = numerals;
      never_empty = never_empty;
      no_version_2 = no_version_2;
    }
