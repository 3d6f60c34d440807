-- Laws of `part` and `splice`. Assumes nothing.
use Prim.Native.Nat.{ℕ, zero, suc, ◌+◌, ◌-◌, ◌≤◌, ◌<◌}
use native.Mathlib.Omega.{arith}
use native.Mathlib.Nat.{add-zero, zero-add, add_assoc, sub-zero, suc-sub-suc}
use native.Mathlib.Numerals.{add-one}
use mathlib.Core.Path.{◌≡◌, refl, sym, ap, ◌∙◌}
use mathlib.Core.List.{List, [], ◌∷◌, ◌++◌, append_assoc, append-nil}
use lib.ListN.{length, take, drop, get_or, set, replicate, length-take, length-drop, length-append, length-replicate, replicate-append-replicate, drop_of_length-le, take-append-drop, get_or-append}
use lib.Seq.{
  get_or-take,
  get_or-drop,
  get_or-append-add,
  drop-cons,
  length-take-le,
  take-take,
  drop-drop,
  take-add,
  take-append-le,
  drop-append-le,
  take-append-add,
  drop-append-add,
  take_at,
  drop_at,
  take-length,
  take-nil,
  set_split,
}
use Rattle.lists.specs.Parts.{part, splice}

module _ {A : Type 0} where
  -- What is left of a list from place i on, by its first element.
  pub drop_left : (l : List A) (d : A) {i : ℕ} → i < length l → drop i l ≡ get_or l i d ∷ drop (i + 1) l
  drop_left l d {i} h = rw (add-one, drop-cons l i d h)

  pub drop_take : (m n : ℕ) (l : List A) → drop m (take n l) ≡ take (n - m) (drop m l)
  drop_take zero n l = rw sub-zero
  drop_take (suc m) zero l = let none : 0 - suc m ≡ 0 = omega arith in rw none
  drop_take (suc m) (suc n) [] = sym (take-nil (suc n - suc m))
  drop_take (suc m) (suc n) (a ∷ l) = rw suc-sub-suc (drop_take m n l)

  -- ---- part

  pub length_part : (at n : ℕ) (l : List A) → at + n ≤ length l → length (part at n l) ≡ n
  unfolding part
  length_part at n l h = simp (length-take, length-drop) (omega arith)

  pub get_d_part : (at n : ℕ) (l : List A) (i : ℕ) (d : A) → i < n → get_or (part at n l) i d ≡ get_or l (at + i) d
  unfolding part
  get_d_part at n l i d h = get_or-take n (drop at l) i d h ∙ get_or-drop at l i d

  pub part_all : (l : List A) → part 0 (length l) l ≡ l
  unfolding part
  part_all l = take-length l

  -- Parts that lie end to end.
  pub part_join : (at m n : ℕ) (l : List A) → part at (m + n) l ≡ part at m l ++ part (at + m) n l
  unfolding part
  part_join at m n l = take-add m n (drop at l) ∙ rw drop-drop

  -- A part of a part.
  pub take_part : (at n m : ℕ) (l : List A) → m ≤ n → take m (part at n l) ≡ part at m l
  unfolding part
  take_part at n m l h = take-take m n (drop at l) h

  pub drop_part : (at n m : ℕ) (l : List A) → drop m (part at n l) ≡ part (at + m) (n - m) l
  unfolding part
  drop_part at n m l = drop_take m n (drop at l) ∙ rw drop-drop

  pub part_part : (at n i m : ℕ) (l : List A) → i + m ≤ n → part i m (part at n l) ≡ part (at + i) m l
  unfolding part
  part_part at n i m l h = ap (take m) (drop_part at n i l) ∙ take_part (at + i) (n - i) m l (omega arith)

  pub part_take : (at n m : ℕ) (l : List A) → at + n ≤ m → part at n (take m l) ≡ part at n l
  unfolding part
  part_take at n m l h = ap (take n) (drop_take at m l) ∙ take-take n (m - at) (drop at l) (omega arith)

  pub part_drop : (at n m : ℕ) (l : List A) → part at n (drop m l) ≡ part (m + at) n l
  unfolding part
  part_drop at n m l = rw drop-drop

  -- A part of a list that is two lists end to end: in the left one, or in the right one.
  pub part_append_left : (at n : ℕ) (a b : List A) → at + n ≤ length a → part at n (a ++ b) ≡ part at n a
  unfolding part
  part_append_left at n a b h =
      ap (take n) (drop-append-le at a b (omega arith)) ∙ take-append-le n (drop at a) b (simp length-drop (omega arith))

  pub part_append_right : (k at n : ℕ) (a b : List A) → length a ≡ k → part (k + at) n (a ++ b) ≡ part at n b
  unfolding part
  part_append_right k at n a b e = ap (take n) (sym (drop-drop at k (a ++ b)) ∙ ap (drop at) (drop_at a b k e))

  -- The middle one of three lists.
  pub part_middle : (at n : ℕ) (a b c : List A) → length a ≡ at → length b ≡ n → part at n (a ++ (b ++ c)) ≡ b
  unfolding part
  part_middle at n a b c e f = ap (take n) (drop_at a (b ++ c) at e) ∙ take_at b c n f

  pub part_replicate : (at n m : ℕ) (a : A) → at + n ≤ m → part at n (replicate m a) ≡ replicate n a
  part_replicate at n m a h =
      let whole : replicate m a ≡ replicate at a ++ (replicate n a ++ replicate (m - (at + n)) a) =
      let count : m ≡ at + (n + (m - (at + n))) = omega arith in
      ap (λ (k : ℕ). replicate k a) count
      ∙ sym (replicate-append-replicate at (n + (m - (at + n))) a)
      ∙ ap (λ (r : List A). replicate at a ++ r) (sym (replicate-append-replicate n (m - (at + n)) a)) in
      ap (part at n) whole
      ∙ part_middle at n (replicate at a) (replicate n a) (replicate (m - (at + n)) a) (length-replicate at a) (length-replicate n a)

  -- ---- splice

  pub splice_nil : (at : ℕ) (l : List A) → splice at [] l ≡ l
  unfolding splice
  splice_nil at l = rw (add-zero, take-append-drop)

  -- The middle one of three lists is replaced.
  pub splice_middle : (at : ℕ) (v a b c : List A) → length a ≡ at → length b ≡ length v → splice at v (a ++ (b ++ c)) ≡ a ++ (v ++ c)
  unfolding splice
  splice_middle at v a b c e f =
      let rest : drop (at + length v) (a ++ (b ++ c)) ≡ c =
      sym (drop-drop (length v) at (a ++ (b ++ c))) ∙ ap (drop (length v)) (drop_at a (b ++ c) at e) ∙ drop_at b c (length v) f in
      rw (rest, take_at a (b ++ c) at e)

  -- A splice in a list that is two lists end to end: in the left one, or in the right one.
  pub splice_append_left : (at : ℕ) (v a b : List A) → at + length v ≤ length a → splice at v (a ++ b) ≡ splice at v a ++ b
  unfolding splice
  splice_append_left at v a b h =
      rw (take-append-le at a b (omega arith), drop-append-le (at + length v) a b h) (simp append_assoc)

  pub splice_append_right : (k at : ℕ) (v a b : List A) → length a ≡ k → splice (k + at) v (a ++ b) ≡ a ++ splice at v b
  unfolding splice
  splice_append_right k at v a b e =
      let front : take (k + at) (a ++ b) ≡ a ++ take at b = rw (← e) (take-append-add a b at) in
      let back : drop (k + at + length v) (a ++ b) ≡ drop (at + length v) b =
      rw (add_assoc, ← drop-drop (at + length v) k (a ++ b), drop_at a b k e) in
      rw (front, back) (simp append_assoc)

  pub length_splice : (at : ℕ) (v l : List A) → at + length v ≤ length l → length (splice at v l) ≡ length l
  unfolding splice
  length_splice at v l h = simp (length-append, length-take, length-drop) (omega arith)

  -- What stands before, in and after the place of the splice.
  pub take_splice : (at : ℕ) (v l : List A) → at ≤ length l → take at (splice at v l) ≡ take at l
  unfolding splice
  take_splice at v l h = take_at (take at l) (v ++ drop (at + length v) l) at (length-take-le at l h)

  pub drop_splice : (at : ℕ) (v l : List A) → at ≤ length l → drop at (splice at v l) ≡ v ++ drop (at + length v) l
  unfolding splice
  drop_splice at v l h = drop_at (take at l) (v ++ drop (at + length v) l) at (length-take-le at l h)

  pub part_splice : (at i n : ℕ) (v l : List A) → at ≤ length l → i + n ≤ length v → part (at + i) n (splice at v l) ≡ part i n v
  part_splice at i n v l h k =
      sym (part_drop i n at (splice at v l)) ∙ ap (part i n) (drop_splice at v l h) ∙ part_append_left i n v (drop (at + length v) l) k

  pub splice_here : (at : ℕ) (v l : List A) → at ≤ length l → part at (length v) (splice at v l) ≡ v
  splice_here at v l h =
      ap (λ (k : ℕ). part k (length v) (splice at v l)) (sym (add-zero at)) ∙ part_splice at 0 (length v) v l h (omega arith) ∙ part_all v

  pub splice_front : (v l : List A) → take (length v) (splice 0 v l) ≡ v
  unfolding part
  splice_front v l = splice_here 0 v l (omega arith)

  pub splice_before : (at i n : ℕ) (v l : List A) → at ≤ length l → i + n ≤ at → part i n (splice at v l) ≡ part i n l
  splice_before at i n v l h k =
      sym (part_take i n at (splice at v l) k) ∙ ap (part i n) (take_splice at v l h) ∙ part_take i n at l k

  pub splice_after : (at i n : ℕ) (v l : List A) → at ≤ length l → at + length v ≤ i → part i n (splice at v l) ≡ part i n l
  splice_after at i n v l h k =
      let place : i ≡ at + (length v + (i - (at + length v))) = omega arith in
      let place' : at + length v + (i - (at + length v)) ≡ i = omega arith in
      ap (λ (j : ℕ). part j n (splice at v l)) place
      ∙ sym (part_drop (length v + (i - (at + length v))) n at (splice at v l))
      ∙ ap (part (length v + (i - (at + length v))) n) (drop_splice at v l h)
      ∙ part_append_right (length v) (i - (at + length v)) n v (drop (at + length v) l) refl
      ∙ part_drop (i - (at + length v)) n (at + length v) l
      ∙ ap (λ (j : ℕ). part j n l) place'

  pub get_d_splice : (at i : ℕ) (v l : List A) (d : A) → at ≤ length l → i < length v → get_or (splice at v l) (at + i) d ≡ get_or v i d
  get_d_splice at i v l d h k =
      sym (get_or-drop at (splice at v l) i d) ∙ ap (λ (m : List A). get_or m i d) (drop_splice at v l h) ∙ get_or-append v (drop (at + length v) l) d i k

  pub get_d_splice_before : (at i : ℕ) (v l : List A) (d : A) → at ≤ length l → i < at → get_or (splice at v l) i d ≡ get_or l i d
  get_d_splice_before at i v l d h k =
      sym (get_or-take at (splice at v l) i d k) ∙ ap (λ (m : List A). get_or m i d) (take_splice at v l h) ∙ get_or-take at l i d k

  pub get_d_splice_after : (at i : ℕ) (v l : List A) (d : A) → at ≤ length l → at + length v ≤ i → get_or (splice at v l) i d ≡ get_or l i d
  get_d_splice_after at i v l d h k =
      let place : i ≡ at + (length v + (i - (at + length v))) = omega arith in
      let place' : at + length v + (i - (at + length v)) ≡ i = omega arith in
      ap (λ (j : ℕ). get_or (splice at v l) j d) place
      ∙ sym (get_or-drop at (splice at v l) (length v + (i - (at + length v))) d)
      ∙ ap (λ (m : List A). get_or m (length v + (i - (at + length v))) d) (drop_splice at v l h)
      ∙ get_or-append-add v (drop (at + length v) l) (i - (at + length v)) d
      ∙ get_or-drop (at + length v) l (i - (at + length v)) d
      ∙ ap (λ (j : ℕ). get_or l j d) place'

  -- Two splices: one inside the other, the later over the earlier, end to end, and apart.
  pub splice_within : (at i : ℕ) (w v l : List A) → at ≤ length l → i + length w ≤ length v → splice (at + i) w (splice at v l) ≡ splice at (splice i w v) l
  unfolding splice
  splice_within at i w v l h k =
      ap (splice (at + i) w) (opened v)
      ∙ splice_append_right at i w (take at l) (v ++ drop (at + length v) l) (length-take-le at l h)
      ∙ ap (λ (m : List A). take at l ++ m) (splice_append_left i w v (drop (at + length v) l) k)
      ∙ ap (λ (n : ℕ). take at l ++ (splice i w v ++ drop (at + n) l)) (sym (length_splice i w v k))
      ∙ sym (opened (splice i w v))
    where
      opened : (u : List A) → splice at u l ≡ take at l ++ (u ++ drop (at + length u) l)
      opened u = refl

  pub splice_whole : (v l : List A) → length v ≡ length l → splice 0 v l ≡ v
  unfolding splice
  splice_whole v l e = rw (zero-add, e, drop_of_length-le l {i = length l} (omega arith), append-nil)

  pub splice_adjacent : (at : ℕ) (a b l : List A) → at ≤ length l → splice (at + length a) b (splice at a l) ≡ splice at (a ++ b) l
  unfolding splice part
  splice_adjacent at a b l h =
      let front : take (at + length a) (splice at a l) ≡ take at l ++ a =
      take-add at (length a) (splice at a l)
      ∙ ap (λ (m : List A). m ++ take (length a) (drop at (splice at a l))) (take_splice at a l h)
      ∙ ap (λ (m : List A). take at l ++ m) (splice_here at a l h) in
      let back : drop (at + length a + length b) (splice at a l) ≡ drop (at + length (a ++ b)) l =
      rw (length-append, add_assoc, ← drop-drop (length a + length b) at (splice at a l), drop_splice at a l h, drop-append-add, drop-drop, add_assoc) in
      rw (front, back) (simp append_assoc)

  split : (at : ℕ) (v l : List A) → splice at v l ≡ take at l ++ splice 0 v (drop at l)
  unfolding splice
  split at v l = rw (zero-add, drop-drop)

  -- A part's own elements, spliced back.
  pub splice_part : (at n : ℕ) (l : List A) → at + n ≤ length l → splice at (part at n l) l ≡ l
  unfolding splice part
  splice_part at n l h =
      let rest : part at n l ++ drop (at + n) l ≡ drop at l = rw (← drop-drop) (take-append-drop n (drop at l)) in
      rw (length_part at n l h, rest, take-append-drop)

  -- A splice of one element is a store.
  pub splice_set : (at : ℕ) (a : A) (l : List A) → at < length l → splice at (a ∷ []) l ≡ set l at a
  unfolding splice
  splice_set at a l h = rw add-one (sym (set_split l at a h))

  -- The first element of what is spliced, put at its place beforehand.
  pub splice_cons : (at : ℕ) (a : A) (v l : List A) → at < length l → splice (at + 1) v (set l at a) ≡ splice at (a ∷ v) l
  splice_cons at a v l h =
      ap (splice (at + 1) v) (sym (splice_set at a l h)) ∙ splice_adjacent at (a ∷ []) v l (omega arith)
