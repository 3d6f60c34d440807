-- What is left of a stream, run with room for one line: its first command is judged, or there is none. Assumes nothing.
use Prim.Native.Nat.{ℕ, ◌+◌, ◌-◌}
use native.Mathlib.Omega.{arith}
use mathlib.Core.Path.{◌≡◌, refl, ap, ◌∙◌}
use mathlib.Core.List.{List, append-nil}
use lib.ListN.{length, take, drop}
use Rattle.std.specs.Prelude.{Option, Some, None}
use Rattle.formats.specs.Format.{V1}
use Rattle.lists.specs.Parts.{part, splice, concat_map}
use Rattle.lists.proofs.Parts.{length_part}
use Rattle.stream.specs.Stream.{commands, next_at, end_to_end}
use Rattle.stream.proofs.Walks as walk
use Rattle.store_model.specs.Serve.{serve}
use Rattle.store.specs.Runs.{runs, per_line, ServesTo}
use Rattle.store.specs.Ran.{lined, RunsTo}
use Rattle.store.specs.declared.Ran.{Ran}
use Rattle.store.proofs.Running.{back_of}
use Rattle.store.proofs.One.{line_whole}

module _ (image reply stream line : List ℕ) (from : ℕ) {image' reply' line' : List ℕ} {ran : Ran} (eight : length line ≡ per_line)
    (run : RunsTo V1 image (take (length stream - from) (drop from stream)) reply line ran image' reply' line') where
  -- By the commands that are left: the first alone has a place for its line.
  left : (cs : List (List ℕ)) → commands V1 (drop from stream) ≡ cs →
      (ran ≡ record { count = length (take 1 cs); end = length (end_to_end (take 1 cs)) })
      × ((image' ≡ (runs V1 image reply (take 1 cs)).image)
      × ((reply' ≡ (runs V1 image reply (take 1 cs)).reply)
      × (line' ≡ splice 0 (lined (runs V1 image reply (take 1 cs))) line)))
  left cs e = rw (back_of from stream, eight, e) at run

  pub none_left : ran.count ≡ 0 → next_at V1 stream from ≡ None
  none_left none = go (next_at V1 stream from) refl
    where
      go : (n : Option ℕ) → next_at V1 stream from ≡ n → next_at V1 stream from ≡ None
      go None e = e
      go (Some end) e =
          let one = ap (λ (r : Ran). r.count) (left _ (walk.passes V1 stream from end e).2).0 in
          absurd (omega (arith, one, none))

  -- The place behind the command, and what it comes to.
  pub one_judged : (ran.count ≡ 0 → ⊥) →
      (next_at V1 stream from ≡ Some (from + ran.end)) × ServesTo V1 image (take (from + ran.end - from) (drop from stream)) reply line' image' reply'
  unfolding runs concat_map part
  one_judged some = go (next_at V1 stream from) refl
    where
      go : (n : Option ℕ) → next_at V1 stream from ≡ n →
          (next_at V1 stream from ≡ Some (from + ran.end)) × ServesTo V1 image (take (from + ran.end - from) (drop from stream)) reply line' image' reply'
      go None e = absurd (some (ap (λ (r : Ran). r.count) (left _ (walk.stops V1 stream from e)).0))
      go (Some end) e =
          let w = walk.passes V1 stream from end e in
          let l = left _ w.2 in
          let long : ran.end ≡ length (part from (end - from) stream) = ap (λ (r : Ran). r.end) l.0 ∙ ap length (append-nil (part from (end - from) stream)) in
          let size = length_part from (end - from) stream (omega (arith, w.0, w.1)) in
          let there : from + ran.end ≡ end = omega (arith, w.0, long, size) in
          rw there (e, (l.1.1.1 ∙ rw append-nil (line_whole (serve V1 image (part from (end - from) stream) reply).answer line eight), (l.1.0, l.1.1.0)))
