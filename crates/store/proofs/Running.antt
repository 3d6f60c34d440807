-- Laws of a run: what the loop of `many` keeps. Assumes nothing.
use Prim.Native.Nat.{ℕ, suc, ◌+◌, ◌-◌, ◌*◌, ◌/◌, ◌≤◌, ◌<◌}
use native.Mathlib.Omega.{arith}
use native.Mathlib.Nat.{zero-add, sub-zero}
use mathlib.Core.Path.{◌≡◌, refl, sym, ap, ◌∙◌}
use mathlib.Core.List.{List, [], ◌++◌}
use lib.ListN.{length, take, drop, length-append, length-drop}
use lib.Seq.{take-nil, take-length}
use Rattle.std.specs.Prelude.{Some, None}
use Rattle.formats.specs.Format.{Format}
use Rattle.formats.proofs.Numbers.{numbers}
use Rattle.lists.specs.Parts.{part, splice, concat_map}
use Rattle.lists.proofs.Parts.{length_part, length_splice, splice_nil, splice_adjacent}
use Rattle.guard.specs.declared.Answer.{Answer}
use Rattle.store_model.specs.Serve.{serve}
use Rattle.store.specs.Runs.{runs, numbers_of, per_line}
use Rattle.stream.specs.Stream.{commands, next_at, end_to_end}
use Rattle.stream.proofs.Place.{next_whole, next_cut, says_whole, says_cut}
use Rattle.stream.proofs.Commands.{Walked, walked_none, walked_more}
use Rattle.stream.proofs.Walks as walk
use Rattle.store.specs.Ran.{lined, RunsTo}

-- A stream lent from a place on to its end; what stands first in it stands at that place.
pub back_of : (at : ℕ) (s : List ℕ) → take (length s - at) (drop at s) ≡ drop at s
back_of at s = rw (← length-drop at s) (take-length (drop at s))

pub rest_whole : (f : Format) (stream : List ℕ) (at size : ℕ) → next_at f (take (length stream - at) (drop at stream)) 0 ≡ Some size → next_at f stream at ≡ Some (at + size)
rest_whole f stream at size e =
    let stands = says_whole f (drop at stream) 0 size (rw (back_of at stream) at e) in
    next_whole f stream at stands.begins ∙ ap (λ (n : ℕ). Some (at + n)) (sym (stands.ends ∙ zero-add _))

pub rest_cut : (f : Format) (stream : List ℕ) (at : ℕ) → next_at f (take (length stream - at) (drop at stream)) 0 ≡ None → next_at f stream at ≡ None
rest_cut f stream at e = next_cut f stream at (says_cut f (drop at stream) 0 (rw (back_of at stream) at e))

pub per_line_lem : (a : Answer) → length (numbers_of a) ≡ per_line
unfolding numbers_of
per_line_lem a = refl

-- One line more, behind so many.
line_more : (count : ℕ) (a : Answer) (rest lines : List ℕ) → count * per_line ≤ length lines →
    splice ((count + 1) * per_line) rest (splice (count * per_line) (numbers_of a) lines) ≡ splice (count * per_line) (numbers_of a ++ rest) lines
line_more count a rest lines h =
    let place : (count + 1) * per_line ≡ count * per_line + length (numbers_of a) = omega (arith, per_line_lem a) in
    rw place (splice_adjacent (count * per_line) (numbers_of a) rest lines h)

-- The commands that are left at a byte of the stream after so many of at most m.
abbrev left_at : Format → ℕ → List ℕ → ℕ → ℕ → List (List ℕ)
left_at f m stream at count = take (m - count) (commands f (drop at stream))

-- A run that has come to a byte of the stream, after so many commands of at most m: what is left to run from there on leaves what the whole run leaves.
pub record Running (f : Format) (m : ℕ) (image₀ reply₀ stream lines₀ image reply lines : List ℕ) (at count : ℕ) : Type 0 where
  pub walked : Walked f stream at
  pub few : count ≤ at
  pub room : m * per_line ≤ length lines₀
  pub wide : length image ≡ length image₀
  pub deep : length reply ≡ length reply₀
  pub long : length lines ≡ length lines₀
  pub counted : count + length (left_at f m stream at count) ≡ length (take m (commands f stream))
  pub ends : at + length (end_to_end (left_at f m stream at count)) ≡ length (end_to_end (take m (commands f stream)))
  pub left_image : (runs f image reply (left_at f m stream at count)).image ≡ (runs f image₀ reply₀ (take m (commands f stream))).image
  pub left_reply : (runs f image reply (left_at f m stream at count)).reply ≡ (runs f image₀ reply₀ (take m (commands f stream))).reply
  pub left_lines : splice (count * per_line) (lined (runs f image reply (left_at f m stream at count))) lines ≡ splice 0 (lined (runs f image₀ reply₀ (take m (commands f stream)))) lines₀

pub running_none : (f : Format) (m : ℕ) (image reply stream lines : List ℕ) → m * per_line ≤ length lines → Running f m image reply stream lines image reply lines 0 0
running_none f m image reply stream lines h =
    record {
      walked = walked_none f stream;
      few = omega arith;
      room = h;
      wide = refl;
      deep = refl;
      long = refl;
      counted = rw sub-zero (zero-add _);
      ends = rw sub-zero (zero-add _);
      left_image = rw sub-zero;
      left_reply = rw sub-zero;
      left_lines = rw sub-zero;
    }

module _ {f : Format} {m : ℕ} {image₀ reply₀ stream lines₀ image reply lines : List ℕ} {at count : ℕ} (r : Running f m image₀ reply₀ stream lines₀ image reply lines at count) where
  pub running_within : (end : ℕ) → next_at f stream at ≡ Some end → count < m → (at < end) × (end ≤ length stream) × (count * per_line + per_line ≤ length lines) × (count < end)
  running_within end e h =
      let n = numbers f in
      let s = walk.passes f stream at end e in
      (omega (arith, s.0), s.1, omega (arith, r.room, r.long), omega (arith, s.0, r.few))

  pub running_more : (end : ℕ) (a : Answer) (image' reply' lines' : List ℕ) → next_at f stream at ≡ Some end → count < m →
      numbers_of a ≡ numbers_of (serve f image (take (end - at) (drop at stream)) reply).answer →
      image' ≡ (serve f image (take (end - at) (drop at stream)) reply).image →
      reply' ≡ (serve f image (take (end - at) (drop at stream)) reply).reply →
      lines' ≡ splice (count * per_line) (numbers_of a) lines →
      length image' ≡ length image →
      length reply' ≡ length reply →
      Running f m image₀ reply₀ stream lines₀ image' reply' lines' end (count + 1)
  unfolding runs part concat_map
  running_more end a image' reply' lines' e h l p q o wide deep =
      let s = walk.passes f stream at end e in
      let width = numbers f in
      let w = running_within end e h in
      let one : m - count ≡ suc (m - (count + 1)) = omega arith in
      let n = rw (one, s.2) at r.counted in
      let size : length (take (end - at) (drop at stream)) ≡ end - at = length_part at (end - at) stream (omega (arith, w.0, w.1)) in
      let b = rw (one, s.2, length-append, size) at r.ends in
      let fits : count * per_line + length (numbers_of a) ≤ length lines = omega (arith, per_line_lem a, w.2) in
      record {
        walked = (walked_more f stream at end r.walked e).0;
        few = omega (arith, s.0, r.few);
        room = r.room;
        wide = wide ∙ r.wide;
        deep = deep ∙ r.deep;
        long = ap length o ∙ length_splice (count * per_line) (numbers_of a) lines fits ∙ r.long;
        counted = omega (arith, n);
        ends = omega (arith, b, w.0);
        left_image = rw (p, q) (rw (one, s.2) at r.left_image);
        left_reply = rw (p, q) (rw (one, s.2) at r.left_reply);
        left_lines =
            rw (p, q, o, l)
            (line_more count _ _ lines (omega (arith, w.2)) ∙ rw (one, s.2) at r.left_lines);
      }

  pub running_less : (end : ℕ) → next_at f stream at ≡ Some end → length stream - end < length stream - at
  running_less end e = (walked_more f stream at end r.walked e).1

  -- Where nothing is left, the run is done.
  module _ (none : left_at f m stream at count ≡ []) where
    pub done_count : count ≡ length (take m (commands f stream))
    done_count = let n = rw none at r.counted in omega (arith, n)

    pub done_end : at ≡ length (end_to_end (take m (commands f stream)))
    unfolding concat_map
    done_end = let n = rw none at r.ends in omega (arith, n)

    pub done_image : image ≡ (runs f image₀ reply₀ (take m (commands f stream))).image
    unfolding runs
    done_image = rw none at r.left_image

    pub done_reply : reply ≡ (runs f image₀ reply₀ (take m (commands f stream))).reply
    unfolding runs
    done_reply = rw none at r.left_reply

    pub done_lines : lines ≡ splice 0 (lined (runs f image₀ reply₀ (take m (commands f stream)))) lines₀
    unfolding runs concat_map
    done_lines = sym (splice_nil (count * per_line) lines) ∙ rw none at r.left_lines

    pub ended : {K : Type 0} → m ≡ length lines₀ / per_line → K → RunsTo f image₀ stream reply₀ lines₀ (record { count = count; end = at }) image reply lines × K
    ended same kept =
        ((rw (← same, ← done_count, ← done_end), (rw (← same) done_image, (rw (← same) done_reply, rw (← same) done_lines))), kept)

  -- That is so where there is no room, and where no whole command stands.
  pub full_none : m ≤ count → left_at f m stream at count ≡ []
  full_none h = let zero : m - count ≡ 0 = omega arith in rw zero

  pub cut_none : next_at f stream at ≡ None → left_at f m stream at count ≡ []
  cut_none e = rw (walk.stops f stream at e) (take-nil (m - count))
