-- One request as a run of one command. Assumes nothing.
use Prim.Native.Nat.{ℕ, ◌≤◌, ◌<◌}
use native.Mathlib.Omega.{arith}
use mathlib.Core.Path.{◌≡◌, refl, sym, ap, ◌∙◌}
use mathlib.Core.Logic.{◌⊎◌, inl, inr}
use mathlib.Core.List.{List, [], ◌∷◌, append-nil}
use mathlib.Core.Bool.{Bool, true, false, not, ◌&&◌}
use borrow.Author.Tests.{eqb-true, eq-eqb, ne_eqb}
use lib.Dec.{eqb}
use lib.ListN.{length, get_or}
use lib.Seq.{take-length, drop-length}
use native.Mathlib.Nat.{sub-zero, zero-add}
use Rattle.formats.specs.Format.{Format}
use Rattle.formats.proofs.Numbers.{numbers}
use Rattle.lists.specs.Parts.{part, splice, concat_map}
use Rattle.lists.proofs.Tests.{and_in, and_left, and_right, never_both}
use Rattle.lists.proofs.Parts.{splice_whole}
use Rattle.commands.specs.Bytes.{extent, formed}
use Rattle.guard.specs.Replies.{refused}
use Rattle.guard.specs.declared.Answer.{Answer}
use Rattle.store_model.specs.Serve.{Outcome, serve}
use Rattle.store.specs.Runs.{runs, numbers_of, per_line}
use Rattle.store_model.proofs.Exact.{refusals}
use Rattle.stream.specs.Stream.{commands, commands_within, next_at, onward}
use Rattle.stream.proofs.Place.{next_whole, whole_in, went}
use Rattle.stream.proofs.Walks as walk
use Rattle.store.specs.Ran.{judged_of, lined}
use Rattle.store.proofs.Step.{refusal}
use Rattle.store.proofs.Running.{per_line_lem}

no_commands : (f : Format) → commands f [] ≡ []
unfolding commands commands_within
no_commands f = refl

-- The step from the first byte of a command goes to its end; of bytes that are no whole command, or more, it does not, or there are none.
module _ (f : Format) (c : List ℕ) {end : ℕ} (step : end ≡ onward 0 (next_at f c 0)) where
  one_command : (eqb end (length c) && not (eqb end 0)) ≡ true → commands f c ≡ c ∷ []
  unfolding part
  one_command h =
      let long : end ≡ length c = eqb-true end (length c) (and_left (eqb end (length c)) (not (eqb end 0)) h) in
      let some = and_right (eqb end (length c)) (not (eqb end 0)) h in
      let e = went f c 0 step (λ none. never_both some (ap not (eq-eqb end 0 none))) in
      (walk.passes f c 0 end e).2 ∙ rw (long, sub-zero, take-length, drop-length, no_commands)

  pub not_one : (eqb end (length c) && not (eqb end 0)) ≡ false → formed f c ≡ false
  unfolding formed
  not_one h = go (eqb (length c) (extent f c)) refl
    where
      go : (b : Bool) → eqb (length c) (extent f c) ≡ b → formed f c ≡ false
      go false q = rw q
      go true q =
          let size : length c ≡ extent f c = eqb-true (length c) (extent f c) q in
          let there : end ≡ length c = step ∙ ap (onward 0) (next_whole f c 0 (whole_in f c (omega (arith, size)))) ∙ zero-add _ ∙ sym size in
          absurd (never_both (and_in (eq-eqb end (length c) there) (ap not (ne_eqb end 0 (λ none. omega (arith, numbers f, there, size, none))))) h)

-- A line that is written over as many numbers is the whole of them.
pub line_whole : (a : Answer) (line : List ℕ) → length line ≡ per_line → splice 0 (numbers_of a) line ≡ numbers_of a
line_whole a line h = splice_whole (numbers_of a) line (per_line_lem a ∙ sym h)

pub small : (f : Format) (image c reply : List ℕ) → (serve f image c reply).answer.number < 256
small f image c reply = go (refusals f image c reply).listed
  where
    go : ((serve f image c reply).answer.number ≤ 9) ⊎ ((serve f image c reply).answer.number ≡ 17) → (serve f image c reply).answer.number < 256
    go (inl h) = omega arith
    go (inr h) = omega arith

module _ (f : Format) (image reply c line : List ℕ) {end : ℕ} (step : end ≡ onward 0 (next_at f c 0)) (one : (eqb end (length c) && not (eqb end 0)) ≡ true) (whole : length line ≡ per_line) where
  judged : judged_of f c (length line) ≡ c ∷ []
  judged = rw (whole, one_command f c step one)

  pub one_image_lem : (runs f image reply (judged_of f c (length line))).image ≡ (serve f image c reply).image
  unfolding runs
  one_image_lem = rw judged

  pub one_reply : (runs f image reply (judged_of f c (length line))).reply ≡ (serve f image c reply).reply
  unfolding runs
  one_reply = rw judged

  pub one_line : splice 0 (lined (runs f image reply (judged_of f c (length line)))) line ≡ numbers_of (serve f image c reply).answer
  unfolding runs concat_map
  one_line = rw (judged, append-nil) (line_whole (serve f image c reply).answer line whole)

-- The first number of a line is the answer's number.
pub first_number : (a : Answer) → get_or (numbers_of a) 0 0 ≡ a.number
unfolding numbers_of
first_number a = refl

-- What a refusal leaves.
pub refused_exits : {o : Outcome} {image reply line' : List ℕ} (line : List ℕ) (n : ℕ) {a : Answer} {K : Type 0} → o ≡ refusal (refused n) image reply → a ≡ refused n →
    line' ≡ splice 0 (numbers_of a) line → length line ≡ per_line → K →
    ((line' ≡ numbers_of o.answer) × ((image ≡ o.image) × (reply ≡ o.reply))) × K
refused_exits line n {a} h p q whole kept = rw h ((q ∙ line_whole a line whole ∙ ap numbers_of p, (refl, refl)), kept)
