-- The bytes of a fresh image, and when one is made. Assumes nothing.
use Prim.Native.Nat.{ℕ, ◌+◌, ◌-◌}
use native.Mathlib.Omega.{arith}
use mathlib.Core.Path.{◌≡◌, sym, ◌∙◌}
use mathlib.Core.List.{List, ◌++◌, append_assoc}
use mathlib.Core.Bool.{true, false}
use borrow.Author.Tests.{eq-eqb, ne_eqb}
use lib.ListN.{length, replicate, length-append, length-replicate, replicate-append-replicate}
use Rattle.lists.specs.Parts.{splice}
use Rattle.lists.specs.Le.{to_le}
use Rattle.lists.proofs.Parts.{splice_adjacent, splice_whole}
use Rattle.formats.specs.Format.{Format}
use Rattle.image.specs.Layout.{size_of, shape_ok, header_size}
use Rattle.image.specs.Bytes.{header, header_numbers}
use Rattle.image.specs.Image.{fresh, makes}

pub fresh_numbers : (f : Format) (n c : ℕ) → fresh f n c ≡ header_numbers f n c ++ replicate (size_of f n c - 10) 0
unfolding fresh header
fresh_numbers f n c =
    let rest : 6 + (size_of f n c - header_size) ≡ size_of f n c - 10 = omega arith in
    append_assoc (header_numbers f n c) (replicate 6 0) (replicate (size_of f n c - header_size) 0)
    ∙ rw (replicate-append-replicate {A = ℕ} 6 (size_of f n c - header_size) 0, rest)

-- Writing the numbers of the header, and then zeros up to the end.
pub fresh_written : (f : Format) (n c : ℕ) (l : List ℕ) → length l ≡ size_of f n c →
    splice 10 (replicate (length l - 10) 0) (splice 0 (header_numbers f n c) l) ≡ fresh f n c
unfolding to_le
fresh_written f n c l e =
    let long : length (header_numbers f n c ++ replicate (length l - 10) 0) ≡ length l =
    length-append (header_numbers f n c) (replicate (length l - 10) 0) ∙ rw length-replicate (omega arith) in
    splice_adjacent 0 (header_numbers f n c) (replicate (length l - 10) 0) l (omega arith)
    ∙ splice_whole (header_numbers f n c ++ replicate (length l - 10) 0) l long
    ∙ sym (fresh_numbers f n c ∙ rw e)

-- When an image is made.
pub not_shaped : (f : Format) (n c lent : ℕ) → shape_ok f n c ≡ false → makes f n c lent ≡ false
unfolding makes
not_shaped f n c lent e = rw e

pub not_lent : (f : Format) (n c lent : ℕ) → shape_ok f n c ≡ true → (lent ≡ size_of f n c → ⊥) → makes f n c lent ≡ false
unfolding makes
not_lent f n c lent e g = rw (e, ne_eqb lent (size_of f n c) g)

pub made : (f : Format) (n c lent : ℕ) → shape_ok f n c ≡ true → lent ≡ size_of f n c → makes f n c lent ≡ true
unfolding makes
made f n c lent e g = rw (e, eq-eqb lent (size_of f n c) g)
