-- What stands at a place of a stream. Assumes nothing.
use Prim.Native.Nat.{ℕ, ◌+◌, ◌≤◌, ◌<◌}
use native.Mathlib.Omega.{arith}
use native.Mathlib.Nat.{add_assoc}
use mathlib.Core.Path.{◌≡◌, refl, sym, ap, ◌∙◌}
use mathlib.Core.List.{List, ◌++◌}
use mathlib.Core.Bool.{Bool, true, false, not}
use borrow.Author.Tests.{leb-true, le-leb, ne_eqb, eq-eqb}
use lib.Dec.{leb, eqb}
use lib.ListN.{length, take, drop, length-drop}
use Rattle.std.specs.Prelude.{Option, Some, None}
use Rattle.formats.proofs.Numbers.{numbers}
use Rattle.formats.specs.Format.{Format, fixed}
use Rattle.lists.specs.Parts.{part}
use Rattle.lists.specs.Le.{le}
use Rattle.lists.proofs.Parts.{part_drop, part_take, part_append_left}
use Rattle.lists.proofs.Tests.{and_in, and_right}
use Rattle.commands.specs.Bytes.{extent}
use Rattle.stream.specs.Stream.{whole, next_at, onward, is_whole}

module _ (v : Format) where
  -- ---- the command that begins some bytes

  pub extent_fixed : (s : List ℕ) → fixed v ≤ extent v s
  extent_fixed s = omega (arith, numbers v)

  -- Its length stands in its fixed part.
  pub extent_take : (n : ℕ) (s : List ℕ) → fixed v ≤ n → extent v (take n s) ≡ extent v s
  extent_take n s h = ap (λ (l : List ℕ). fixed v + le l) (part_take _ 2 n s (omega (arith, numbers v)))

  pub extent_append : (c s : List ℕ) → fixed v ≤ length c → extent v (c ++ s) ≡ extent v c
  extent_append c s h = ap (λ (l : List ℕ). fixed v + le l) (part_append_left _ 2 c s (omega (arith, numbers v)))

  pub extent_at : (at : ℕ) (s : List ℕ) → extent v (drop at s) ≡ fixed v + le (part (at + 50) 2 s)
  extent_at at s = ap (λ (l : List ℕ). fixed v + le l) (part_drop _ 2 at s)

  pub whole_in : (s : List ℕ) → extent v s ≤ length s → whole v s ≡ true
  unfolding whole
  whole_in s h = and_in (le-leb (fixed v) (length s) (omega (arith, numbers v, extent_fixed s))) (le-leb (extent v s) (length s) h)

  pub whole_out : (s : List ℕ) → whole v s ≡ true → extent v s ≤ length s
  unfolding whole
  whole_out s e = leb-true (extent v s) (length s) (and_right (leb (fixed v) (length s)) (leb (extent v s) (length s)) e)

  pub cut_in : (s : List ℕ) → length s < extent v s → whole v s ≡ false
  cut_in s h = go (whole v s) refl
    where
      go : (b : Bool) → whole v s ≡ b → b ≡ false
      go true e = absurd (omega (arith, numbers v, whole_out s e))
      go false e = refl

  pub cut_short : (s : List ℕ) → length s < fixed v → whole v s ≡ false
  cut_short s h = cut_in s (omega (arith, numbers v, extent_fixed s))

  -- ---- what stands at a place

  module _ (stream : List ℕ) (at : ℕ) where
    pub next_whole : whole v (drop at stream) ≡ true → next_at v stream at ≡ Some (at + extent v (drop at stream))
    unfolding next_at
    next_whole e = rw e

    pub next_cut : whole v (drop at stream) ≡ false → next_at v stream at ≡ None
    unfolding next_at
    next_cut e = rw e

    -- From the tests of the code, with the size of the fixed part and the payload's length p as they were found.
    module _ {size : ℕ} (is : size ≡ fixed v) where
      pub shows_short : length stream < at + size → None ≡ next_at v stream at
      shows_short h = sym (next_cut (cut_short (drop at stream) (simp length-drop (omega (arith, numbers v, is)))))

      pub shows_cut : (p : ℕ) → p ≡ le (part (at + 50) 2 stream) → length stream < at + size + p → None ≡ next_at v stream at
      shows_cut p e h = sym (next_cut (cut_in (drop at stream) (rw (extent_at at stream, ← e) (simp length-drop (omega (arith, numbers v, is))))))

      pub shows_whole : (p : ℕ) → p ≡ le (part (at + 50) 2 stream) → at + size + p ≤ length stream → Some (at + size + p) ≡ next_at v stream at
      shows_whole p e h =
          let long : extent v (drop at stream) ≡ size + p = extent_at at stream ∙ rw (← is, ← e) in
          let place : at + extent v (drop at stream) ≡ at + size + p = rw long (sym (add_assoc at size p)) in
          sym (next_whole (whole_in (drop at stream) (rw long (simp length-drop (omega (arith, numbers v))))) ∙ ap Some place)

    -- What an answer says.
    pub record Stands (end : ℕ) : Type 0 where
      pub begins : whole v (drop at stream) ≡ true
      pub ends : end ≡ at + extent v (drop at stream)

    pub says_whole : (end : ℕ) → next_at v stream at ≡ Some end → Stands end
    says_whole end e = go (whole v (drop at stream)) refl
      where
        go : (b : Bool) → whole v (drop at stream) ≡ b → Stands end
        go true q = record { begins = q; ends = let same : Some end ≡ Some (at + extent v (drop at stream)) = sym e ∙ next_whole q in cc }
        go false q = let never : Some end ≡ None = sym e ∙ next_cut q in let z : ◌≡◌ {A = ℕ} 0 1 = cc in absurd (omega (arith, numbers v))

    pub says_cut : next_at v stream at ≡ None → whole v (drop at stream) ≡ false
    says_cut e = go (whole v (drop at stream)) refl
      where
        go : (b : Bool) → whole v (drop at stream) ≡ b → whole v (drop at stream) ≡ false
        go true q = let never : Some (at + extent v (drop at stream)) ≡ None = sym (next_whole q) ∙ e in let z : ◌≡◌ {A = ℕ} 0 1 = cc in absurd (omega (arith, numbers v))
        go false q = q

    -- A step goes on behind a whole command, and only there.
    pub went : {end : ℕ} → end ≡ onward at (next_at v stream at) → (end ≡ at → ⊥) → next_at v stream at ≡ Some end
    went {end} h moved = go (next_at v stream at) refl
      where
        go : (n : Option ℕ) → next_at v stream at ≡ n → next_at v stream at ≡ Some end
        go (Some to) e = e ∙ ap Some (sym (h ∙ ap (onward at) e))
        go None e = absurd (moved (h ∙ ap (onward at) e))

    pub stayed : {end : ℕ} → end ≡ onward at (next_at v stream at) → end ≡ at → next_at v stream at ≡ None
    stayed {end} h same = go (next_at v stream at) refl
      where
        go : (n : Option ℕ) → next_at v stream at ≡ n → next_at v stream at ≡ None
        go (Some to) e =
            let there : to ≡ at = sym (h ∙ ap (onward at) e) ∙ same in
            absurd (omega (arith, numbers v, there, (says_whole to e).ends, extent_fixed (drop at stream)))
        go None e = e

    -- Whether it went on is whether a whole command stands there.
    pub moved : {end : ℕ} → end ≡ onward at (next_at v stream at) → not (eqb end at) ≡ is_whole (next_at v stream at)
    moved {end} h = go (next_at v stream at) refl
      where
        go : (n : Option ℕ) → next_at v stream at ≡ n → not (eqb end at) ≡ is_whole n
        go (Some to) e =
            let there : end ≡ to = h ∙ ap (onward at) e in
            rw (ne_eqb end at (λ same. omega (arith, numbers v, there, same, (says_whole to e).ends, extent_fixed (drop at stream))))
        go None e = rw (eq-eqb end at (h ∙ ap (onward at) e))
