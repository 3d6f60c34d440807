-- The claims of specs/Claims, by the laws of the walk. Assumes nothing.
use Prim.Native.Nat.{ℕ, zero, suc, ◌+◌, ◌-◌, ◌≤◌}
use native.Mathlib.Omega.{arith}
use native.Mathlib.Nat.{zero-add, suc-add}
use mathlib.Core.Path.{◌≡◌, refl, sym, ap, ◌∙◌}
use mathlib.Core.List.{List}
use lib.ListN.{length}
use denote.Ref.{Bor}
use Rattle.std.specs.Prelude.{Option, Some}
use Rattle.formats.specs.declared.Version.{Version}
use Rattle.formats.specs.Format.{Format, format_of}
use Rattle.lists.specs.Parts.{concat_map}
use Rattle.stream.specs.Stream.{onward, commands, end_of, place_of, begun, moved_to, passed, steps}
use Rattle.stream_claims.specs.Claims.{Parts, Stepping, Visits, Reads, StreamClaims}
use Rattle.stream.proofs.Place.{next_whole, next_cut}
use Rattle.stream.proofs.Walks as walk

parts : (v : Format) (s : List ℕ) → Parts v s
parts v s =
    record {
      joined = walk.joined v s;
      each = walk.each v s;
      stopped = walk.stopped v s;
      within = walk.within v s;
      few = walk.few v s;
    }

stepping : (v : Format) (s : List ℕ) (at : ℕ) → Stepping v s at
stepping v s at = record { passes = walk.passes v s at; stops = walk.stops v s at }

visits : (v : Format) (s : List ℕ) → Visits v s
unfolding place_of concat_map
visits v s =
    record {
      starts = refl;
      goes = λ i h. next_whole v s (place_of v s i) (walk.at v s i h).begins ∙ ap Some (sym (walk.place v s i h));
      sees = walk.sees v s;
      arrives = walk.arrives v s;
      stops = next_cut v s (end_of v s) (walk.stopped v s);
    }

-- ---- a reader

module _ (v : Version) (stream : Bor (List ℕ)) where
  reads_stands : (i : ℕ) → i ≤ length (commands (format_of v) stream.now) → steps i (begun v stream) ≡ moved_to (begun v stream) (place_of (format_of v) stream.now i)
  unfolding steps place_of concat_map
  reads_stands zero h = refl
  reads_stands (suc i) h =
      ap passed (reads_stands i (omega arith))
      ∙ ap (λ (n : Option ℕ). moved_to (begun v stream) (onward (place_of (format_of v) stream.now i) n)) ((visits (format_of v) stream.now).goes i (omega arith))

  -- So many steps past the last command.
  reads_stays : (n : ℕ) → steps (n + length (commands (format_of v) stream.now)) (begun v stream) ≡ moved_to (begun v stream) (end_of (format_of v) stream.now)
  unfolding steps
  reads_stays zero =
      ap (λ (i : ℕ). steps i (begun v stream)) (zero-add (length (commands (format_of v) stream.now)))
      ∙ reads_stands (length (commands (format_of v) stream.now)) (omega arith)
      ∙ ap (moved_to (begun v stream)) (visits (format_of v) stream.now).arrives
  reads_stays (suc n) =
      ap (λ (i : ℕ). steps i (begun v stream)) (suc-add n (length (commands (format_of v) stream.now)))
      ∙ ap passed (reads_stays n)
      ∙ ap (λ (a : Option ℕ). moved_to (begun v stream) (onward (end_of (format_of v) stream.now) a)) (visits (format_of v) stream.now).stops

  reads : Reads v stream
  reads =
      record {
        stands = reads_stands;
        ends = λ i h. let past : i ≡ i - length (commands (format_of v) stream.now) + length (commands (format_of v) stream.now) = omega arith in rw past (reads_stays
            (i - length (commands (format_of v) stream.now)));
      }

pub claims : StreamClaims
claims = record { parts = parts; first = walk.first; back = walk.back; stepping = stepping; visits = visits; reads = reads }
