-- What is printed behind a sound image in front. Assumes nothing.
use Prim.Native.Nat.{ℕ, ◌≤◌}
use native.Mathlib.Omega.{arith}
use mathlib.Core.Path.{◌≡◌, refl, sym, ap, ◌∙◌}
use mathlib.Core.List.{List, ◌++◌}
use mathlib.Core.Bool.{true}
use lib.ListN.{length, length-append}
use lib.Seq.{take_at, drop-append_seam}
use Rattle.lists.specs.Le.{le}
use Rattle.lists.proofs.Parts.{part_append_left}
use Rattle.lists.proofs.Tests.{to_T}
use Rattle.formats.specs.Format.{V1}
use Rattle.image.specs.Layout.{size_of}
use Rattle.image.specs.Bytes.{count_of, room_of}
use Rattle.image.specs.Image.{sound, claimed, good_front, front_size}
use Rattle.image.proofs.Decode.{long}
use Rattle.image.proofs.InFront.{front_sound_lem}
use Rattle.program.proofs.Answered.{good_output}
use Rattle.program_claims.specs.Claims.{Prints}

module _ (image stream : List ℕ) (s : sound V1 image ≡ true) where
  abbrev input : List ℕ
  input = image ++ stream

  size : length image ≡ size_of V1 (count_of image) (room_of image)
  size = long V1 image (to_T s)

  count_is : count_of input ≡ count_of image
  count_is = ap le (part_append_left 6 2 image stream (omega (arith, size)))

  room_is : room_of input ≡ room_of image
  room_is = ap le (part_append_left 8 2 image stream (omega (arith, size)))

  claims_it : length image ≡ claimed input
  claims_it = rw (count_is, room_is) size

  within : length image ≤ length input
  within = rw length-append (omega arith)

  good : good_front input ≡ true
  good =
      front_sound_lem input (length image) claims_it (omega (arith, size, within)) within
      ∙ ap (sound V1) (take_at image stream (length image) refl)
      ∙ s

  front_is : front_size input ≡ length image
  front_is = rw good (sym claims_it)

pub prints : Prints
prints image stream s h =
    good_output (image ++ stream) h (good image stream s)
    ∙ rw (front_is image stream s, count_is image stream s, room_is image stream s, take_at image stream (length image) refl, drop-append_seam image stream)
