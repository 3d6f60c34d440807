-- Laws of `concat_map` and `tabulate`. Assumes nothing.
use Prim.Native.Nat.{ℕ, zero, suc, ◌+◌, ◌*◌, ◌<◌, zero-le, suc-le-suc}
use native.Mathlib.Omega.{arith}
use native.Mathlib.Nat.{zero-mul, le_of_suc-le-suc, not-suc-le-zero, eq-or-lt_of_le}
use native.Mathlib.Numerals.{add-one}
use mathlib.Core.Path.{◌≡◌, refl, sym, ap, ◌∙◌}
use mathlib.Core.Logic.{◌⊎◌, inl, inr}
use mathlib.Core.List.{List, [], ◌∷◌, ◌++◌, map, map-append, append_assoc, append-nil}
use lib.ListN.{length, get_or, set, replicate, length-append, replicate-append-replicate, get_or-append}
use lib.Seq.{get_or-append_seam, ext_get_or}
use Rattle.lists.specs.Parts.{part, splice, tabulate, concat_map, Bytes}
use Rattle.lists.proofs.Parts.{part_join, part_append_right, part_middle, splice_append_right, splice_middle}
use Rattle.lists.proofs.Bytes.{Bytes_nil, Bytes_append}

-- ---- concat_map

module _ {A B : Type 0} where
  pub concat_map_append : (f : A → List B) (l m : List A) → concat_map f (l ++ m) ≡ concat_map f l ++ concat_map f m
  unfolding concat_map
  concat_map_append f [] m = refl
  concat_map_append f (a ∷ l) m = rw (concat_map_append f l m) (sym (append_assoc (f a) (concat_map f l) (concat_map f m)))

  pub concat_map_ext : (f g : A → List B) (l : List A) (d : A) → ((i : ℕ) → i < length l → f (get_or l i d) ≡ g (get_or l i d)) → concat_map f l ≡ concat_map g l
  unfolding concat_map
  concat_map_ext f g [] d h = refl
  concat_map_ext f g (a ∷ l) d h = rw (h 0 (suc-le-suc zero-le), concat_map_ext f g l d (λ i k. h (suc i) (suc-le-suc k)))

  pub concat_map_map : {C : Type 0} (f : A → List B) (g : C → A) (l : List C) → concat_map f (map g l) ≡ concat_map (λ (c : C). f (g c)) l
  unfolding concat_map
  concat_map_map f g [] = refl
  concat_map_map f g (c ∷ l) = rw (concat_map_map f g l)

  -- Where each element makes w elements, element k makes those from place k * w on.
  module _ (f : A → List B) (w : ℕ) (wide : (a : A) → length (f a) ≡ w) where
    pub length_concat_map : (l : List A) → length (concat_map f l) ≡ length l * w
    unfolding concat_map
    length_concat_map [] = sym (zero-mul w)
    length_concat_map (a ∷ l) = rw (length-append, wide, length_concat_map l) (omega arith)

    pub part_concat_map : (l : List A) (k : ℕ) (d : A) → k < length l → part (k * w) w (concat_map f l) ≡ f (get_or l k d)
    unfolding concat_map
    part_concat_map [] k d h = absurd (not-suc-le-zero h)
    part_concat_map (a ∷ l) zero d h = rw zero-mul (part_middle 0 w [] (f a) (concat_map f l) refl (wide a))
    part_concat_map (a ∷ l) (suc k) d h =
        let place : suc k * w ≡ w + k * w = omega arith in
        rw place (part_append_right w (k * w) w (f a) (concat_map f l) (wide a) ∙ part_concat_map l k d (le_of_suc-le-suc h))

    pub splice_concat_map : (l : List A) (k : ℕ) (a : A) → k < length l → splice (k * w) (f a) (concat_map f l) ≡ concat_map f (set l k a)
    unfolding concat_map
    splice_concat_map [] k a h = absurd (not-suc-le-zero h)
    splice_concat_map (b ∷ l) zero a h = rw zero-mul (splice_middle 0 (f a) [] (f b) (concat_map f l) refl (wide b ∙ sym (wide a)))
    splice_concat_map (b ∷ l) (suc k) a h =
        let place : suc k * w ≡ w + k * w = omega arith in
        rw place
        (splice_append_right w (k * w) (f a) (f b) (concat_map f l) (wide b) ∙ ap (λ (m : List B). f b ++ m) (splice_concat_map l k a (le_of_suc-le-suc h)))

  -- An element that makes a repeat.
  pub concat_map_replicate : (f : A → List B) (a : A) (w : ℕ) (b : B) → f a ≡ replicate w b → (n : ℕ) → concat_map f (replicate n a) ≡ replicate (n * w) b
  unfolding concat_map
  concat_map_replicate f a w b e zero = rw zero-mul
  concat_map_replicate f a w b e (suc n) =
      let count : suc n * w ≡ w + n * w = omega arith in
      rw (e, concat_map_replicate f a w b e n, count) (replicate-append-replicate w (n * w) b)

pub Bytes_concat_map : {A : Type 0} (f : A → List ℕ) (l : List A) (d : A) → ((i : ℕ) → i < length l → Bytes (f (get_or l i d))) → Bytes (concat_map f l)
unfolding concat_map
Bytes_concat_map f [] d h = Bytes_nil
Bytes_concat_map f (a ∷ l) d h =
    Bytes_append (f a) (concat_map f l) (h 0 (suc-le-suc zero-le)) (Bytes_concat_map f l d (λ i k. h (suc i) (suc-le-suc k)))

-- ---- table

module _ {A : Type 0} where
  pub length_tabulate : (f : ℕ → A) (n : ℕ) → length (tabulate f n) ≡ n
  unfolding tabulate
  length_tabulate f zero = refl
  length_tabulate f (suc n) = length-append (tabulate f n) (f n ∷ []) ∙ rw (length_tabulate f n) (add-one n)

  pub get_d_tabulate : (f : ℕ → A) (n i : ℕ) (d : A) → i < n → get_or (tabulate f n) i d ≡ f i
  unfolding tabulate
  get_d_tabulate f zero i d h = absurd (not-suc-le-zero h)
  get_d_tabulate f (suc n) i d h = go (eq-or-lt_of_le (le_of_suc-le-suc h)) (get_d_tabulate f n i d)
    where
      go : (i ≡ n) ⊎ (i < n) → (i < n → get_or (tabulate f n) i d ≡ f i) → get_or (tabulate f n ++ (f n ∷ [])) i d ≡ f i
      go (inl e) below =
          rw e
          (ap (λ (k : ℕ). get_or (tabulate f n ++ (f n ∷ [])) k d) (sym (length_tabulate f n)) ∙ get_or-append_seam (tabulate f n) (f n) [] d)
      go (inr k) below = get_or-append (tabulate f n) (f n ∷ []) d i (rw (length_tabulate f n) k) ∙ below k

  pub tabulate_ext : (f g : ℕ → A) (n : ℕ) → ((i : ℕ) → i < n → f i ≡ g i) → tabulate f n ≡ tabulate g n
  unfolding tabulate
  tabulate_ext f g zero h = refl
  tabulate_ext f g (suc n) h = rw (tabulate_ext f g n (λ i k. h i (omega arith)), h n (omega arith))

  -- A list is the table of its own elements.
  pub tabulate_get_d : (l : List A) (d : A) → tabulate (λ (i : ℕ). get_or l i d) (length l) ≡ l
  tabulate_get_d l d =
      ext_get_or d (tabulate (λ (i : ℕ). get_or l i d) (length l)) l (length_tabulate _ (length l))
      (λ i h. get_d_tabulate (λ (j : ℕ). get_or l j d) (length l) i d (rw (length_tabulate (λ (j : ℕ). get_or l j d) (length l)) at h))

  pub tabulate_is : (f : ℕ → A) (l : List A) (d : A) → ((i : ℕ) → i < length l → f i ≡ get_or l i d) → tabulate f (length l) ≡ l
  tabulate_is f l d h = tabulate_ext f (λ (i : ℕ). get_or l i d) (length l) h ∙ tabulate_get_d l d

  pub map_tabulate : {B : Type 0} (g : A → B) (f : ℕ → A) (n : ℕ) → map g (tabulate f n) ≡ tabulate (λ (i : ℕ). g (f i)) n
  unfolding tabulate
  map_tabulate g f zero = refl
  map_tabulate g f (suc n) = map-append g (tabulate f n) (f n ∷ []) ∙ rw (map_tabulate g f n)

  pub concat_map_tabulate : {B : Type 0} (g : A → List B) (f : ℕ → A) (n : ℕ) → concat_map g (tabulate f (suc n)) ≡ concat_map g (tabulate f n) ++ g (f n)
  unfolding tabulate concat_map
  concat_map_tabulate g f n = concat_map_append g (tabulate f n) (f n ∷ []) ∙ rw append-nil

  -- Where each element makes w elements, element k of a table makes those from place k * w on.
  pub part_concat_map_tabulate : {B : Type 0} (g : A → List B) (w : ℕ) → ((a : A) → length (g a) ≡ w) → (f : ℕ → A) (n k : ℕ) → k < n → part (k * w) w (concat_map g (tabulate f n)) ≡ g (f k)
  part_concat_map_tabulate g w wide f n k h =
      part_concat_map g w wide (tabulate f n) k (f k) (rw (length_tabulate f n) h) ∙ ap g (get_d_tabulate f n k (f k) h)

  -- A list that is cut into parts of w elements, each of which comes back from what is made of it, comes back whole.
  pub concat_map_parts : {B : Type 0} (g : A → List B) (f : ℕ → A) (at w : ℕ) (s : List B) (n : ℕ) → ((k : ℕ) → k < n → g (f k) ≡ part (at + k * w) w s) → concat_map g
      (tabulate f n) ≡ part at (n * w) s
  unfolding tabulate concat_map part
  concat_map_parts g f at w s zero h = rw zero-mul
  concat_map_parts g f at w s (suc n) h =
      let count : suc n * w ≡ n * w + w = omega arith in
      concat_map_tabulate g f n ∙ rw (concat_map_parts g f at w s n (λ k i. h k (omega arith)), h n (omega arith), count) (sym (part_join at (n * w) w s))
