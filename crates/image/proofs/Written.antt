-- Laws of writing lists end to end, and a text into its body. Assumes nothing.
use Prim.Native.Nat.{ℕ, ◌+◌, ◌-◌, ◌≤◌}
use native.Mathlib.Omega.{arith}
use mathlib.Core.Path.{◌≡◌, sym, ap, ◌∙◌}
use mathlib.Core.List.{List, ◌++◌, append_assoc, append-nil}
use mathlib.Core.Bool.{true}
use lib.ListN.{length, take, replicate, length-append, length-replicate, replicate-append-replicate}
use lib.Seq.{take-append-add, take_at}
use Rattle.lists.specs.Parts.{part, splice, zeros}
use Rattle.lists.proofs.Parts.{length_part, part_part, part_replicate, length_splice, splice_after, splice_adjacent, splice_part}
use Rattle.lists.proofs.Bytes.{zeros_means}
use Rattle.image.specs.Bytes.{pad}
use Rattle.image.specs.inner.Write.{over_old}

module _ {A : Type 0} where
  -- The first of many equal elements.
  pub take_replicate : (n m : ℕ) (a : A) → n ≤ m → take n (replicate m a) ≡ replicate n a
  take_replicate n m a h =
      let whole : m ≡ n + (m - n) = omega arith in
      rw (whole, ← replicate-append-replicate n (m - n) a) (take_at (replicate n a) (replicate (m - n) a) n (length-replicate n a))

  -- Three and four lists written end to end.
  pub splice_three : (at : ℕ) (a b c l : List A) → at ≤ length l →
      splice (at + length (a ++ b)) c (splice (at + length a) b (splice at a l)) ≡ splice at (a ++ b ++ c) l
  splice_three at a b c l h = rw (splice_adjacent at a b l h) (splice_adjacent at (a ++ b) c l h)

  pub splice_four : (at : ℕ) (a b c d l : List A) → at ≤ length l →
      splice (at + length (a ++ b ++ c)) d (splice (at + length (a ++ b)) c (splice (at + length a) b (splice at a l))) ≡ splice at (a ++ b ++ c ++ d) l
  splice_four at a b c d l h = rw (splice_three at a b c l h) (splice_adjacent at (a ++ b ++ c) d l h)

-- ---- a body

-- A text that its room holds, and the zeros after it.
pub pad_text : (room : ℕ) (t : List ℕ) → length t ≤ room → pad room t ≡ t ++ replicate (room - length t) 0
unfolding pad
pad_text room t h =
    let whole : length t + (room - length t) ≡ room = omega arith in
    ap (λ (n : ℕ). take n (t ++ replicate room 0)) (sym whole)
    ∙ take-append-add t (replicate room 0) (room - length t)
    ∙ ap (λ (z : List ℕ). t ++ z) (take_replicate (room - length t) room 0 (omega arith))

-- ---- a text over an old one

-- Writing the text, and then zeros over what is left of the old one.
pub over_longer : (at old : ℕ) (t l : List ℕ) → at ≤ length l →
    splice (at + length t) (replicate (old - length t) 0) (splice at t l) ≡ splice at (over_old old t) l
unfolding over_old
over_longer at old t l g = splice_adjacent at t (replicate (old - length t) 0) l g

-- An old text that is no longer leaves nothing.
pub over_shorter : (old : ℕ) (t : List ℕ) → old ≤ length t → t ≡ over_old old t
unfolding over_old
over_shorter old t h = let none : old - length t ≡ 0 = omega arith in rw none (sym (append-nil t))

length_over : (old : ℕ) (t : List ℕ) → length (over_old old t) ≡ length t + (old - length t)
unfolding over_old
length_over old t = simp (length-append, length-replicate)

-- A body is the text over an old one, and zeros behind both.
pad_over : (room old : ℕ) (t : List ℕ) → length t ≤ room → old ≤ room →
    pad room t ≡ over_old old t ++ replicate (room - (length t + (old - length t))) 0
unfolding over_old
pad_over room old t h g =
    let whole : room - length t ≡ (old - length t) + (room - (length t + (old - length t))) = omega arith in
    pad_text room t h
    ∙ ap (λ (n : ℕ). t ++ replicate n 0) whole
    ∙ ap (λ (z : List ℕ). t ++ z) (sym (replicate-append-replicate (old - length t) (room - (length t + (old - length t))) 0))
    ∙ sym (append_assoc t (replicate (old - length t) 0) (replicate (room - (length t + (old - length t))) 0))

-- Where a body is zero behind the old text, the text over the old one makes the whole body.
pub over_body : (at room old : ℕ) (t l : List ℕ) → length t ≤ room → old ≤ room → at + room ≤ length l →
    zeros (part (at + old) (room - old) l) ≡ true → splice at (over_old old t) l ≡ splice at (pad room t) l
over_body at room old t l h g k z =
    sym (splice_part (at + n) (room - n) (splice at (over_old old t) l) (rw (length_splice at (over_old old t) l (rw (length_over old t) (omega arith))) (omega arith)))
    ∙ ap (λ (v : List ℕ). splice (at + n) v (splice at (over_old old t) l)) (splice_after at (at + n) (room - n) (over_old old t) l (omega arith) (rw (length_over old t) (omega arith)) ∙ tail)
    ∙ ap (λ (m : ℕ). splice (at + m) (replicate (room - n) 0) (splice at (over_old old t) l)) (sym (length_over old t))
    ∙ splice_adjacent at (over_old old t) (replicate (room - n) 0) l (omega arith)
    ∙ ap (λ (v : List ℕ). splice at v l) (sym (pad_over room old t h g))
  where
    n : ℕ
    n = length t + (old - length t)

    rest : part (at + old) (room - old) l ≡ replicate (room - old) 0
    rest = zeros_means (part (at + old) (room - old) l) z ∙ ap (λ (m : ℕ). replicate m 0) (length_part (at + old) (room - old) l (omega arith))

    tail : part (at + n) (room - n) l ≡ replicate (room - n) 0
    tail =
        let place : at + old + (n - old) ≡ at + n = omega arith in
        ap (λ (m : ℕ). part m (room - n) l) (sym place)
        ∙ sym (part_part (at + old) (room - old) (n - old) (room - n) l (omega arith))
        ∙ ap (part (n - old) (room - n)) rest
        ∙ part_replicate (n - old) (room - n) (room - old) 0 (omega arith)
