-- The input taken apart: the image's copy, the reply buffer and the stream; and the three cases of the output. Assumes nothing.
use Prim.Native.Nat.{ℕ, zero, ◌+◌, ◌-◌, ◌≤◌, ◌<◌}
use mathlib.Core.Path.{◌≡◌, refl, sym, ap, ◌∙◌}
use mathlib.Core.List.{List, ◌++◌}
use mathlib.Core.Bool.{Bool, true, false}
use lib.ListN.{length, take, drop, replicate, length-drop, length-append}
use lib.Seq.{take_at, length-take-le}
use borrow.Author.Tests.{lt-ltb, le-ltb}
use native.Mathlib.Omega.{arith}
use native.Mathlib.Nat.{zero-add}
use Rattle.std.specs.Prelude.{Some, None}
use Rattle.lists.specs.Parts.{part, splice}
use Rattle.lists.proofs.Parts.{part_replicate, splice_nil}
use Rattle.image.specs.Layout.{most_room}
use Rattle.image.specs.Bytes.{count_of, room_of}
use Rattle.program.specs.Text.{quoted}
use Rattle.program.specs.inner.Put.{Put}
use Rattle.program.proofs.Puts.{put_put, put_wide}
use Rattle.formats.specs.Format.{V1}
use Rattle.image.specs.Image.{claimed, good_front, front_size, front_of, sound}
use Rattle.image.specs.declared.Dimensions.{Dimensions}
use Rattle.program.specs.Program.{first_line, most_line, most_input, image_of, stream_of, blank_of, printed, most_printed, output_of, most_output, output_within}
use Rattle.program.specs.inner.Ready.{Ready}
use Rattle.image.proofs.InFront.{Fronting, good_front_lem}
use Rattle.store.proofs.Running.{back_of}

front_of_lem : (n : ℕ) (v l : List ℕ) → length v ≡ n → take n (splice 0 v l) ≡ v
unfolding splice
front_of_lem n v l e = take_at v (drop (0 + length v) l) n e

front_of_repeat : (n m : ℕ) → n ≤ m → take n (replicate m zero) ≡ replicate n zero
unfolding part
front_of_repeat n m h = part_replicate 0 n m 0 (omega arith)

-- The front of a copy is sound where the front of the input is.
pub copied_sound : (size : ℕ) (input blank copy : List ℕ) → size ≤ length input → copy ≡ splice 0 (take size input) blank → sound V1 (take size input) ≡ true → sound V1 (take size copy) ≡ true
copied_sound size input blank copy within put good = rw (put, front_of_lem size (take size input) blank (length-take-le size input within)) good

-- A run over a copy of the image in front, with the front of a buffer of zeros, is the run that the input asks for.
pub answered_by : (size room : ℕ) (input blank copy : List ℕ) {at : ℕ} {out₀ out : List ℕ} {r : ℕ} → size ≤ length input → room ≤ most_room → copy ≡ splice 0 (take size input) blank →
    Put at (most_printed (take (length input - size) (drop size input))) (printed (take size copy) (take room (replicate most_room zero)) (take (length input - size) (drop size input))) out₀ out r →
    Put at (most_printed (drop size input)) (printed (take size input) (replicate room 0) (drop size input)) out₀ out r
answered_by size room input blank copy within most put run =
    rw (put, front_of_lem size (take size input) blank (length-take-le size input within), front_of_repeat room most_room most, back_of size input) at run

-- ---- the three cases

-- What the front is told to be, where there is one.
module _ (input : List ℕ) (d : Dimensions) (is : Some d ≡ front_of input) where
  good : good_front input ≡ true
  good = go (good_front input) refl
    where
      go : (b : Bool) → good_front input ≡ b → good_front input ≡ true
      go true e = e
      go false e = let never : Some d ≡ None = is ∙ rw e in cc

  there : Fronting input
  there = good_front_lem input good

  told : d ≡ record { size = claimed input; cards = count_of input; room = room_of input }
  told = let same = is ∙ there.said in cc

  size_is : d.size ≡ front_size input
  size_is = ap (λ (d : Dimensions). d.size) told ∙ sym there.size

  cards_is : d.cards ≡ count_of input
  cards_is = ap (λ (d : Dimensions). d.cards) told

  room_is : d.room ≡ room_of input
  room_is = ap (λ (d : Dimensions). d.room) told

  pub lent : (out : List ℕ) (at : ℕ) → length input ≤ most_input → at ≤ most_line → most_output ≤ length out → Ready input d.size d.room out at
  lent out at h j k =
      record {
        within = omega (arith, size_is, there.size, there.within);
        small = omega (arith, size_is, there.size, there.small);
        most = omega (arith, room_is, there.room);
        good = rw (size_is ∙ there.size) there.sounds;
        lines = omega (arith, length-drop d.size input);
      }

module _ (input : List ℕ) where
  pub long_output : most_input < length input → output_of input ≡ quoted "too long\n"
  unfolding output_of
  long_output h = rw (lt-ltb most_input (length input) h)

  pub bad_output : length input ≤ most_input → good_front input ≡ false → output_of input ≡ quoted "bad store\n"
  unfolding output_of
  bad_output h e = rw (le-ltb most_input (length input) h, e)

  pub good_output : length input ≤ most_input → good_front input ≡ true →
      output_of input ≡ first_line (count_of input) ++ printed (image_of input) (blank_of input) (stream_of input)
  unfolding output_of
  good_output h e = rw (le-ltb most_input (length input) h, e)

module _ (input : List ℕ) {out out' : List ℕ} {r : ℕ} where
  pub too_long : most_input < length input → Put 0 9 (quoted "too long\n") out out' r → Put 0 most_output (output_of input) out out' r
  too_long h p = rw (long_output input h) (put_wide (omega arith) p)

  module _ (h : length input ≤ most_input) where
    pub bad_store : None ≡ front_of input → Put 0 10 (quoted "bad store\n") out out' r → Put 0 most_output (output_of input) out out' r
    bad_store none p = go (good_front input) refl
      where
        go : (b : Bool) → good_front input ≡ b → Put 0 most_output (output_of input) out out' r
        go false e = rw (bad_output input h e) (put_wide (omega arith) p)
        go true e = let never = none ∙ (good_front_lem input e).said in cc

    pub lines_of : (d : Dimensions) → Some d ≡ front_of input → {at : ℕ} {out₁ : List ℕ} →
        Put 0 most_line (first_line d.cards) out out₁ at →
        Put at (most_printed (drop d.size input)) (printed (take d.size input) (replicate d.room 0) (drop d.size input)) out₁ out' r →
        Put 0 most_output (output_of input) out out' r
    lines_of d is first rest =
        rw (good_output input h (good input d is))
        (put_wide (omega (arith, length-drop (front_size input) input))
        (put_put (omega arith) (rw (cards_is input d is) at first) (rw (size_is input d is, room_is input d is) at rest)))

-- ---- by the room that is lent

module _ (input out : List ℕ) where
  pub too_short : length out < most_output → (0 ≡ length (output_within (length out) input)) × (out ≡ splice 0 (output_within (length out) input) out)
  unfolding output_within
  too_short h = let t = lt-ltb (length out) most_output h in (rw t, rw t (sym (splice_nil 0 out)))

  pub long_enough : {out' : List ℕ} {r : ℕ} → most_output ≤ length out → Put 0 most_output (output_of input) out out' r →
      (r ≡ length (output_within (length out) input)) × (out' ≡ splice 0 (output_within (length out) input) out)
  unfolding output_within
  long_enough h p = let t = le-ltb (length out) most_output h in (rw t (p.counted ∙ zero-add (length (output_of input))), rw t p.written)

-- What is printed of a buffer that is long enough: so many of its bytes are the output.
pub record Printed (input out : List ℕ) (count : ℕ) : Type 0 where
  pub within : count ≤ length out
  pub lends : count ≡ length (take count out)
  pub text : take count out ≡ output_of input

pub prints : (input before : List ℕ) {out : List ℕ} {count : ℕ} →
    count ≡ length (output_within (length before) input) → out ≡ splice 0 (output_within (length before) input) before → most_output ≤ length before → Printed input out count
unfolding output_within splice
prints input before {out} {count} n w h =
    let t = le-ltb (length before) most_output h in
    let k : count ≡ length (output_of input) = n ∙ rw t in
    let same : out ≡ output_of input ++ drop (0 + length (output_of input)) before = w ∙ rw t in
    let within : count ≤ length out = rw same (rw length-append (omega (arith, k))) in
    record {
      within = within;
      lends = sym (length-take-le count out within);
      text = ap (take count) same ∙ take_at (output_of input) (drop (0 + length (output_of input)) before) count (sym k);
    }
