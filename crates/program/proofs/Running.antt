-- Laws of a run: what the loop of `put_printed` keeps. Assumes nothing.
use Prim.Native.Nat.{ℕ, ◌+◌, ◌-◌, ◌*◌, ◌≤◌, ◌<◌}
use mathlib.Core.Path.{◌≡◌, refl, subst, ◌∙◌}
use mathlib.Core.List.{List}
use lib.ListN.{length, take, drop}
use native.Mathlib.Omega.{arith}
use Rattle.std.specs.Prelude.{Some, None}
use Rattle.formats.specs.Format.{V1, fixed}
use Rattle.lists.specs.Parts.{part}
use Rattle.program.specs.inner.Put.{Put}
use Rattle.program.proofs.Puts.{put_put, put_wide, Putting, putting_none, putting_more, putting_done}
use Rattle.guard.specs.declared.Answer.{Answer}
use Rattle.program.specs.Program.{line_by, line_of, lines_from, last_line, most_line, printed, most_printed}
use Rattle.store.specs.Runs.{runs, numbers_of, per_line, ServesTo}
use Rattle.store.specs.Ran.{RunsTo}
use Rattle.store.specs.declared.Ran.{Ran}
use Rattle.program.proofs.OneLine.{none_left, one_judged}
use Rattle.store_model.specs.Serve.{serve}
use Rattle.stream.specs.Stream.{commands, next_at, end_of}
use Rattle.stream.proofs.Commands.{Walked, walked_none, walked_more, walked_done}
use Rattle.stream.proofs.Walks as walk

-- A run that has come to a byte of the stream: the lines that are left to write are those of what is left to run.
pub record Running (start : ℕ) (image₀ reply₀ stream out₀ image reply out : List ℕ) (from place to : ℕ) : Type 0 where
  pub room : start + most_printed stream ≤ length out₀
  pub walked : Walked V1 stream from
  pub few : place * fixed V1 ≤ from + fixed V1
  pub far : to + most_line ≤ start + place * most_line
  pub wide : length image ≡ length image₀
  pub deep : length reply ≡ length reply₀
  pub lines : Putting start to (lines_from 1 (runs V1 image₀ reply₀ (commands V1 stream)).answers) (lines_from place (runs V1 image reply (commands V1 (drop from stream))).answers) out₀ out

pub running_none : (start : ℕ) (image reply stream out : List ℕ) → start + most_printed stream ≤ length out → Running start image reply stream out image reply out 0 1 start
running_none start image reply stream out h =
    record {
      room = h;
      walked = walked_none V1 stream;
      few = omega arith;
      far = omega arith;
      wide = refl;
      deep = refl;
      lines = putting_none start _ out;
    }

module _ {start : ℕ} {image₀ reply₀ stream out₀ image reply out : List ℕ} {from place to : ℕ} (r : Running start image₀ reply₀ stream out₀ image reply out from place to) where
  -- What is left was run with room for one line.
  module _ (line : List ℕ) {image' reply' line' : List ℕ} {ran : Ran} (eight : length line ≡ per_line)
      (run : RunsTo V1 image (take (length stream - from) (drop from stream)) reply line ran image' reply' line') where
    pub running_stops : ran.count ≡ 0 → next_at V1 stream from ≡ None
    running_stops = none_left image reply stream line from eight run

    pub running_judged : (ran.count ≡ 0 → ⊥) →
        (next_at V1 stream from ≡ Some (from + ran.end)) × ServesTo V1 image (take (from + ran.end - from) (drop from stream)) reply line' image' reply'
    running_judged = one_judged image reply stream line from eight run

  pub running_within : (end : ℕ) → next_at V1 stream from ≡ Some end → (from < end) × (end ≤ length stream) × (place < end) × (to + most_line ≤ length out)
  running_within end e =
      let s = walk.passes V1 stream from end e in
      (omega (arith, s.0), s.1, omega (arith, s.0, r.few), omega (arith, s.0, s.1, r.few, r.far, r.room, r.lines.long))

  pub running_more : (end : ℕ) (a : Answer) (image' reply' out' : List ℕ) (to' : ℕ) → next_at V1 stream from ≡ Some end →
      a ≡ (serve V1 image (take (end - from) (drop from stream)) reply).answer →
      image' ≡ (serve V1 image (take (end - from) (drop from stream)) reply).image →
      reply' ≡ (serve V1 image (take (end - from) (drop from stream)) reply).reply →
      Put to most_line (line_of place a) out out' to' →
      length image' ≡ length image →
      length reply' ≡ length reply →
      Running start image₀ reply₀ stream out₀ image' reply' out' end (place + 1) to'
  unfolding runs part lines_from
  running_more end a image' reply' out' to' e l p q o wide deep =
      let s = walk.passes V1 stream from end e in
      let w = running_within end e in
      record {
        room = r.room;
        walked = (walked_more V1 stream from end r.walked e).0;
        few = omega (arith, s.0, r.few);
        far = omega (arith, o.few, r.far);
        wide = wide ∙ r.wide;
        deep = deep ∙ r.deep;
        lines = putting_more (line_of place a) _ r.lines (rw (s.2, l, p, q)) o w.3;
      }

  pub running_less : (end : ℕ) → next_at V1 stream from ≡ Some end → length stream - end < length stream - from
  running_less end e = (walked_more V1 stream from end r.walked e).1

  module _ (e : next_at V1 stream from ≡ None) where
    pub running_fits : to + most_line ≤ length out
    running_fits = omega (arith, r.walked.within, r.few, r.far, r.room, r.lines.long)

    pub running_done : {out' : List ℕ} {to' left : ℕ} → left ≡ length stream - from → Put to most_line (last_line left) out out' to' → Put start
        (most_printed stream) (printed image₀ reply₀ stream) out₀ out' to'
    unfolding runs lines_from
    running_done {left = left} k p =
        let at = walked_done V1 stream from r.walked e in
        let last : left ≡ length stream - end_of V1 stream = omega (arith, k, at) in
        let done = putting_done (to - start) r.lines (rw (walk.stops V1 stream from e)) (omega arith) in
        put_wide (omega (arith, r.walked.within, r.few, r.far)) (put_put (omega arith) done (rw last at p))

-- A line written from the numbers of an answer is the answer's line.
pub line_put : {to to' : ℕ} {line out out' : List ℕ} (place : ℕ) (a : Answer) → line ≡ numbers_of a → Put to most_line (line_by place line) out out' to'
    → Put to most_line (line_of place a) out out' to'
unfolding line_of
line_put {to} {to'} {out = out} {out'} place a e p = subst (λ (l : List ℕ). Put to most_line (line_by place l) out out' to') e p
