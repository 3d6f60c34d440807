-- A run that stopped for want of lines and the run of the rest are one run. Assumes nothing.
use Prim.Native.Nat.{ℕ, ◌+◌, ◌/◌}
use native.Mathlib.Omega.{arith}
use native.Mathlib.Nat.{zero-add}
use mathlib.Core.Path.{◌≡◌, refl, sym, ap, subst, ◌∙◌}
use mathlib.Core.List.{List, [], ◌∷◌, ◌++◌, append_assoc}
use lib.ListN.{length, take, drop, length-append, length-drop, take-append-drop}
use lib.Seq.{drop-append_seam, get_or-drop}
use Rattle.formats.specs.Format.{Format}
use Rattle.lists.specs.Parts.{part}
use Rattle.lists.proofs.Parts.{part_join}
use Rattle.lists.proofs.ConcatMap.{concat_map_append}
use Rattle.store_model.specs.Serve.{serve}
use Rattle.stream.specs.Stream.{commands, end_of, end_to_end, OneCommand}
use Rattle.stream.proofs.Walks as walk
use Rattle.store.specs.Runs.{Run, runs, per_line, numbers_of}
use Rattle.store.specs.Ran.{judged_of, lined}
use Rattle.program_claims.specs.Claims.{run_within, rest_of, run_of_rest, GoingOn}

-- A run of some commands and then of others.
module _ (v : Format) where
  abbrev joined : Run → Run → Run
  joined a b = record { answers = a.answers ++ b.answers; image = b.image; reply = b.reply }

  runs_on : (image reply : List ℕ) (a b : List (List ℕ)) →
      runs v image reply (a ++ b) ≡ joined (runs v image reply a) (runs v (runs v image reply a).image (runs v image reply a).reply b)
  unfolding runs
  runs_on image reply [] b = refl
  runs_on image reply (c ∷ a) b =
      ap (λ (r : Run). record { answers = (serve v image c reply).answer ∷ r.answers; image = r.image; reply = r.reply })
      (runs_on (serve v image c reply).image (serve v image c reply).reply a b)

  -- The commands from the end of the first i on.
  commands_from : (s : List ℕ) (i : ℕ) → commands v (drop (length (end_to_end (take i (commands v s)))) s) ≡ drop i (commands v s)
  commands_from s i =
      let cs : List (List ℕ) = commands v s in
      let left : List ℕ = drop (end_of v s) s in
      let parts : end_to_end (take i cs) ++ (end_to_end (drop i cs) ++ left) ≡ s =
      sym (append_assoc (end_to_end (take i cs)) (end_to_end (drop i cs)) left)
      ∙ ap (λ (l : List ℕ). l ++ left) (sym (concat_map_append (λ (c : List ℕ). c) (take i cs) (drop i cs)) ∙ ap end_to_end (take-append-drop i cs))
      ∙ walk.joined v s in
      let behind : drop (length (end_to_end (take i cs))) s ≡ end_to_end (drop i cs) ++ left =
      ap (drop (length (end_to_end (take i cs)))) (sym parts) ∙ drop-append_seam (end_to_end (take i cs)) (end_to_end (drop i cs) ++ left) in
      ap (commands v) behind
      ∙ walk.back v (drop i cs) left
      (λ j h. subst (OneCommand v) (sym (get_or-drop i cs j [])) (walk.each v s (i + j) (omega (arith, rw length-drop at h))))
      (walk.stopped v s)

-- The first m + n of a list.
take_both : {A : Type 0} (m n : ℕ) (l : List A) → take (m + n) l ≡ take m l ++ take n (drop m l)
unfolding part
take_both m n l = rw zero-add at (part_join 0 m n l)

module _ (v : Format) (image reply stream : List ℕ) (first second lent : ℕ) (h : lent / per_line ≡ first / per_line + second / per_line) where
  abbrev before : List (List ℕ)
  before = judged_of v stream first

  abbrev after : List (List ℕ)
  after = judged_of v (rest_of v stream first) second

  both : judged_of v stream lent ≡ before ++ after
  both =
      ap (λ (n : ℕ). take n (commands v stream)) h
      ∙ take_both (first / per_line) (second / per_line) (commands v stream)
      ∙ ap (λ (l : List (List ℕ)). before ++ take (second / per_line) l) (sym (commands_from v stream (first / per_line)))

  one : run_within v image reply stream lent ≡ joined v (run_within v image reply stream first) (run_of_rest v image reply stream first second)
  one = ap (runs v image reply) both ∙ runs_on v image reply before after

pub going_on : GoingOn
going_on v image reply stream first second lent h =
    let two = both v image reply stream first second lent h in
    let same = one v image reply stream first second lent h in
    let a : List (List ℕ) = judged_of v stream first in
    let b : List (List ℕ) = judged_of v (rest_of v stream first) second in
    record {
      rest = commands_from v stream (first / per_line);
      counts = ap length two ∙ length-append a b;
      ends = ap (λ (l : List (List ℕ)). length (end_to_end l)) two ∙ ap length (concat_map_append (λ (c : List ℕ). c) a b) ∙ length-append (end_to_end a) (end_to_end b);
      lines = ap lined same ∙ concat_map_append numbers_of (run_within v image reply stream first).answers (run_of_rest v image reply stream first second).answers;
      image_left_lem = ap (λ (r : Run). r.image) same;
      reply_left = ap (λ (r : Run). r.reply) same;
    }
