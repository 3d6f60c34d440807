-- Laws of a sound header, a sound card and a sound image. Assumes nothing.
use Prim.Native.Nat.{ℕ, suc, ◌+◌, ◌-◌, ◌≤◌, ◌<◌}
use native.Mathlib.Omega.{arith}
use mathlib.Core.Path.{◌≡◌, refl, ap, ◌∙◌}
use mathlib.Core.List.{List, ◌∷◌, []}
use mathlib.Core.Logic.{◌⊎◌, inl, inr}
use mathlib.Core.Bool.{Bool, true, false, ◌&&◌}
use borrow.Author.Tests.{ne_eqb, leb-true, eqb-true}
use lib.Dec.{eqb}
use lib.ListN.{length, take, drop}
use Rattle.lists.specs.Parts.{part, zeros, every}
use Rattle.lists.specs.Le.{field}
use Rattle.lists.specs.Table.{all, all_from}
use Rattle.lists.proofs.Every.{every_fail}
use Rattle.lists.proofs.Tests.{all_out, all_fails_at, and_fails}
use Rattle.stamps.specs.Stamp.{mark_whole}
use Rattle.guard.specs.Entry.{entry_sound}
use Rattle.guard.specs.declared.Entry.{Entry}
use Rattle.formats.specs.Format.{Format, translations, entry_size}
use Rattle.image.specs.Layout.{sides, size_of, header_size, body_place, entry_place, entry_end}
use Rattle.image.specs.Bytes.{count_of, room_of, entry_at}
use Rattle.image.specs.Image.{header_sound, tail_zero, translation_sound, card_sound, sound}
use Rattle.formats.proofs.Numbers.{numbers}
use Rattle.image.specs.inner.Tests.{front_tests}
use Rattle.image.proofs.Seen.{mark_fails}
use Rattle.image.proofs.Parts.{cut}
use Rattle.image.proofs.Shape.{body_within, entry_within}

-- The lengths of a sound entry are at most its room.
pub record Lengths (room : ℕ) (e : Entry) : Type 0 where
  pub original : e.original ≤ room
  pub translation : e.translation ≤ room

pub lengths : (room : ℕ) (e : Entry) → entry_sound room e ≡ true → Lengths room e
unfolding entry_sound
lengths room e h =
    record {
      original = leb-true e.original room (all_out _ h 3);
      translation = leb-true e.translation room (all_out _ h 4);
    }

-- With the other tests known to hold, the third decides.
third : (b : Bool) → b ≡ all (true ∷ true ∷ b ∷ true ∷ [])
unfolding all all_from
third true = refl
third false = refl

module _ (f : Format) (image : List ℕ) where
  pub short : length image < header_size → header_sound f image ≡ false
  unfolding header_sound
  short h = all_fails_at _ 4 (ne_eqb (length image) (size_of f (count_of image) (room_of image)) (λ e. omega arith))

  pub header_size_lem : header_sound f image ≡ true → length image ≡ size_of f (count_of image) (room_of image)
  unfolding header_sound
  header_size_lem e = eqb-true (length image) (size_of f (count_of image) (room_of image)) (all_out _ e 4)

  pub translation_fails : (k t : ℕ) → entry_sound (room_of image) (entry_at f image k t) ≡ false → translation_sound f image k t ≡ false
  unfolding translation_sound
  translation_fails k t e = rw e

  pub translation_holds : (k t : ℕ) → entry_sound (room_of image) (entry_at f image k t) ≡ true →
      tail_zero f image k (suc t) (entry_at f image k t).translation ≡ translation_sound f image k t
  unfolding translation_sound
  translation_holds k t e = rw e

  -- A card fails by its entry, by its mark with the zero between its numbers, by what stands behind them, and by its original's tail; without them its translations decide.
  pub entry_fails : (k : ℕ) → entry_sound (room_of image) (entry_at f image k 0) ≡ false → card_sound f image k ≡ false
  unfolding card_sound
  entry_fails k e = all_fails_at _ 2 (every_fail (translation_sound f image k) (translations f) 0 (numbers f).some (translation_fails k 0 e))

  field_fails : (k : ℕ) → eqb (field (entry_place f k + 18) 2 image) 0 ≡ false → card_sound f image k ≡ false
  unfolding card_sound
  field_fails k e = all_fails_at _ 0 e

  pub mark_decides : (k : ℕ) → front_tests (room_of image) (entry_at f image k 0) ≡ true →
      (mark_whole (entry_at f image k 0).mark && eqb (field (entry_place f k + 18) 2 image) 0) ≡ false → card_sound f image k ≡ false
  mark_decides k h e = go (and_fails (mark_whole (entry_at f image k 0).mark) (eqb (field (entry_place f k + 18) 2 image) 0) e)
    where
      go : (mark_whole (entry_at f image k 0).mark ≡ false) ⊎ ((mark_whole (entry_at f image k 0).mark ≡ true) × (eqb (field (entry_place f k + 18) 2 image) 0 ≡ false)) →
          card_sound f image k ≡ false
      go (inl m) = entry_fails k (mark_fails (room_of image) (entry_at f image k 0) h m)
      go (inr z) = field_fails k z.1

  pub blank_fails : (k : ℕ) → zeros (part (entry_place f k + entry_end f) (entry_size f - entry_end f) image) ≡ false → card_sound f image k ≡ false
  unfolding card_sound
  blank_fails k e = all_fails_at _ 1 e

  pub tail_fails : (k : ℕ) → tail_zero f image k 0 (entry_at f image k 0).original ≡ false → card_sound f image k ≡ false
  unfolding card_sound
  tail_fails k e = all_fails_at _ 3 e

  pub translations_decide : (k : ℕ) → eqb (field (entry_place f k + 18) 2 image) 0 ≡ true →
      zeros (part (entry_place f k + entry_end f) (entry_size f - entry_end f) image) ≡ true →
      tail_zero f image k 0 (entry_at f image k 0).original ≡ true → every (translation_sound f image k) (translations f) ≡ card_sound f image k
  unfolding card_sound
  translations_decide k a b d = rw (a, b, d) (third (every (translation_sound f image k) (translations f)))

  -- A body and an entry lie within the image, by the numbers that were read.
  pub body_lies : {n c k side place : ℕ} → place ≡ body_place f n c k side → n ≡ count_of image → c ≡ room_of image →
      length image ≡ size_of f (count_of image) (room_of image) → k < count_of image → side < sides f → place + c ≤ length image
  body_lies {k = k} {side = side} p q r size below h =
      rw (p, q, r, size) (body_within f (count_of image) (room_of image) k side below h)

  pub entry_lies : {k : ℕ} → length image ≡ size_of f (count_of image) (room_of image) → k < count_of image → entry_place f k + entry_size f ≤ length image
  entry_lies size below = rw size (entry_within f (count_of image) (room_of image) below)

  pub header_fails : header_sound f image ≡ false → sound f image ≡ false
  unfolding sound
  header_fails e = rw e

  pub card_fails : (k : ℕ) → header_sound f image ≡ true → k < count_of image → card_sound f image k ≡ false → sound f image ≡ false
  unfolding sound
  card_fails k e h g = rw e (every_fail (card_sound f image) (count_of image) k h g)

  pub all_hold : header_sound f image ≡ true → every (card_sound f image) (count_of image) ≡ true → sound f image ≡ true
  unfolding sound
  all_hold e g = rw (e, g)

  -- What stands behind an entry's numbers, by the numbers that were read.
  pub blank_is : {at last size : ℕ} (k : ℕ) → at ≡ entry_place f k → last ≡ entry_end f → size ≡ entry_size f
      → zeros (take (at + size - (at + last)) (drop (at + last) image)) ≡ zeros (part (entry_place f k + entry_end f) (entry_size f - entry_end f) image)
  blank_is {at} {last} {size} k p q r =
      ap zeros (cut (at + last) (size - last) (at + size) image (omega (arith, numbers f)) ∙ rw (p, q, r))
