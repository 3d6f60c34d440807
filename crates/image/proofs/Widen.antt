-- Cards of version 1 in the bytes of version 2. Assumes nothing.
use Prim.Native.Nat.{ℕ, suc, ◌+◌, ◌*◌, ◌≤◌, ◌<◌}
use native.Mathlib.Omega.{arith}
use native.Mathlib.Nat.{add-zero, zero-mul}
use mathlib.Core.Path.{◌≡◌, refl, sym, ap, subst, ◌∙◌}
use mathlib.Core.List.{List, [], ◌++◌, map, append_assoc}
use mathlib.Core.Bool.{Bool, true, false, cond, not}
use mathlib.Core.Logic.{◌⊎◌, inl, inr}
use borrow.Author.Tests.{lt-ltb, le-ltb, ltb-true, ltb-false}
use lib.Dec.{T, ltb, lit<}
use lib.ListN.{length, get_or, replicate, length-replicate, get_or-replicate, length-append}
use Rattle.lists.specs.Parts.{part, splice, concat_map, tabulate, Bytes}
use Rattle.lists.specs.Table.{settled}
use Rattle.lists.proofs.Parts.{splice_before, splice_middle, length_splice}
use Rattle.lists.proofs.ConcatMap.{length_tabulate, get_d_tabulate, tabulate_ext, tabulate_is, map_tabulate}
use Rattle.lists.proofs.Tests.{cases, to_T}
use Rattle.numbers.specs.Numbers.{UNSOUND, NOT_MADE}
use Rattle.guard.specs.declared.Entry.{Entry}
use Rattle.formats.specs.Format.{V1, V2, entry_size}
use Rattle.image.specs.Layout.{sides, size_of, header_size, entry_place, body_place}
use Rattle.image.specs.Bytes.{count_of, room_of, entry_at, entry_bytes, pad}
use Rattle.image.specs.Image.{Card, Cards, no_card, translation_of, view, with_card, card_entry, bodies, encode, decode, card_at, sound, fresh, fresh_cards, makes, make_number}
use Rattle.image.specs.inner.Write.{entry_with}
use Rattle.image.specs.Convert.{widened, converted, widened_up_to, convert_number}
use Rattle.image.proofs.Shape.{entry_within, body_within}
use Rattle.image.proofs.Encode.{length_pad, length_bodies, length_encode, part_entry, part_whole, length_entry_bytes}
use Rattle.image.proofs.Put.{tabulate_set, put_part_entry}
use Rattle.image.proofs.Empty.{fresh_cards_lem}
use Rattle.image.proofs.EntryWritten.{seen_after, entry_written}
use Rattle.image.proofs.Decode.{view_at, bodies_back, places, long}

-- The card at place j on the way.
abbrev on_the_way : ℕ → List ℕ → ℕ → Card
on_the_way k image j = cond (ltb j k) (widened (card_at V1 image j)) (no_card V2)

pub count_up_to : (k : ℕ) (image : List ℕ) → length (widened_up_to k image).cards ≡ count_of image
unfolding widened_up_to
count_up_to k image = length_tabulate (on_the_way k image) (count_of image)

pub room_up_to : (k : ℕ) (image : List ℕ) → (widened_up_to k image).room ≡ room_of image
unfolding widened_up_to
room_up_to k image = refl

-- At first there is nothing on any card, and at the end every card is widened.
pub none_widened : (image : List ℕ) → encode V2 (widened_up_to 0 image) ≡ fresh V2 (count_of image) (room_of image)
unfolding widened_up_to fresh_cards
none_widened image =
    let none : tabulate (on_the_way 0 image) (count_of image) ≡ replicate (count_of image) (no_card V2) =
    ap (tabulate (on_the_way 0 image)) (sym (length-replicate (count_of image) (no_card V2)))
    ∙ tabulate_is (on_the_way 0 image) (replicate (count_of image) (no_card V2)) (no_card V2)
    (λ j h. nothing j ∙ sym (get_or-replicate (count_of image) j (no_card V2) (no_card V2) (subst (λ (n : ℕ). j < n) (length-replicate (count_of image) (no_card V2)) h))) in
    ap (λ (l : List Card). encode V2 (record { room = room_of image; cards = l })) none ∙ fresh_cards_lem V2 (count_of image) (room_of image)
  where
    nothing : (j : ℕ) → on_the_way 0 image j ≡ no_card V2
    nothing j = rw (le-ltb j 0 (omega arith))

pub all_widened : (image : List ℕ) → encode V2 (widened_up_to (count_of image) image) ≡ converted image
unfolding widened_up_to converted decode
all_widened image =
    let every : tabulate (on_the_way (count_of image) image) (count_of image) ≡ map widened (tabulate (card_at V1 image) (count_of image)) =
    tabulate_ext (on_the_way (count_of image) image) (λ (j : ℕ). widened (card_at V1 image j)) (count_of image) (λ j h. rw (lt-ltb j (count_of image) h))
    ∙ sym (map_tabulate widened (card_at V1 image) (count_of image)) in
    ap (λ (l : List Card). encode V2 (record { room = room_of image; cards = l })) every

-- ---- one card more

-- The two bodies of a card before three empty ones.
bodies_widened : (room : ℕ) (card : Card) → bodies V2 room (widened card) ≡ splice 0 (bodies V1 room card) (bodies V2 room (no_card V2))
unfolding bodies concat_map tabulate
bodies_widened room card =
    let p = pad room card.original in
    let q = pad room (translation_of 0 card).text in
    let z = pad room [] in
    let rest = z ++ (z ++ (z ++ [])) in
    let as_long : length (z ++ (z ++ [])) ≡ length (p ++ (q ++ [])) = simp (length-append, length_pad) in
    sym
    (ap (splice 0 (p ++ (q ++ []))) (sym (append_assoc z (z ++ []) rest ∙ ap (λ (u : List ℕ). z ++ u) (append_assoc z [] rest)))
    ∙ splice_middle 0 (p ++ (q ++ [])) [] (z ++ (z ++ [])) rest refl as_long
    ∙ append_assoc p (q ++ []) rest
    ∙ ap (λ (u : List ℕ). p ++ u) (append_assoc q [] rest))

-- The entry of a widened card: that of the card in language 0, and nothing in the others.
entry_widened : (card : Card) → entry_bytes V2 (seen_after 0 (view 0 card) (λ (t : ℕ). view t (no_card V2))) ≡ card_entry V2 (widened card)
unfolding entry_bytes concat_map tabulate
entry_widened card = refl

module _ (image : List ℕ) (b : Bytes image) (holds : T (sound V1 image)) (k : ℕ) (below : k < count_of image) where
  abbrev n : ℕ
  n = count_of image

  abbrev c : ℕ
  c = room_of image

  abbrev cs : Cards
  cs = widened_up_to k image

  abbrev card : Card
  card = widened (card_at V1 image k)

  abbrev empty : ℕ → Entry
  empty t = view t (no_card V2)

  inside : k < length cs.cards
  inside = subst (λ (m : ℕ). k < m) (sym (count_up_to k image)) below

  old_empty : get_or cs.cards k (no_card V2) ≡ no_card V2
  unfolding widened_up_to
  old_empty = get_d_tabulate (on_the_way k image) n k (no_card V2) below ∙ rw (le-ltb k k (omega arith))

  -- What is copied.
  both : part (body_place V1 n c k 0) (sides V1 * c) image ≡ bodies V1 c (card_at V1 image k)
  both =
      let place : body_place V1 n c k 0 ≡ header_size + entry_size V1 * n + k * (sides V1 * c) = omega arith in
      ap (λ (at : ℕ). part at (sides V1 * c) image) place ∙ sym (bodies_back V1 image b holds k below)

  -- The cards with one more of them widened.
  one_more : with_card k card cs ≡ widened_up_to (suc k) image
  unfolding widened_up_to
  one_more =
      ap (λ (l : List Card). record { room = c; cards = l })
      (sym (tabulate_set (on_the_way k image) (on_the_way (suc k) image) n k card (no_card V2) below (rw (lt-ltb k (suc k) (omega arith))) (λ j apart. others j apart (cases (ltb j k)))))
    where
      others : (j : ℕ) → (j ≡ k → ⊥) → (ltb j k ≡ true) ⊎ (ltb j k ≡ false) → on_the_way (suc k) image j ≡ on_the_way k image j
      others j apart (inl e) = rw (e, lt-ltb j (suc k) (omega (arith, ltb-true j k e)))
      others j apart (inr e) = rw (e, le-ltb j (suc k) (go j (ltb-false j k e) apart))
        where
          go : (j : ℕ) → k ≤ j → (j ≡ k → ⊥) → suc k ≤ j
          go j le ne = omega arith

  -- The entry where it stands before it is written: empty, also where the bodies are copied.
  abbrev copied : List ℕ
  copied = splice (body_place V2 n c k 0) (bodies V1 c (card_at V1 image k)) (encode V2 cs)

  target_long : length (encode V2 cs) ≡ size_of V2 n c
  target_long = length_encode V2 cs ∙ rw (count_up_to k image, room_up_to k image)

  still_empty : part (entry_place V2 k) (entry_size V2) copied ≡ entry_bytes V2 empty
  still_empty =
      let lies : body_place V2 n c k 0 + c ≤ size_of V2 n c = body_within V2 n c k 0 below (lit< tt) in
      splice_before (body_place V2 n c k 0) (entry_place V2 k) (entry_size V2) (bodies V1 c (card_at V1 image k)) (encode V2 cs) (rw target_long (omega arith)) (omega arith)
      ∙ ap (λ (at : ℕ). part at (entry_size V2) (encode V2 cs)) (sym (add-zero (entry_place V2 k)))
      ∙ part_entry V2 cs k 0 (entry_size V2) inside (omega arith)
      ∙ part_whole (entry_size V2) (card_entry V2 (get_or cs.cards k (no_card V2))) (length_entry_bytes V2 (λ (t : ℕ). view t (get_or cs.cards k (no_card V2))))
      ∙ ap (card_entry V2) old_empty

  copied_long : length copied ≡ size_of V2 n c
  copied_long =
      let lies : body_place V2 n c k 1 + c ≤ size_of V2 n c = body_within V2 n c k 1 below (lit< tt) in
      length_splice (body_place V2 n c k 0) (bodies V1 c (card_at V1 image k)) (encode V2 cs) (rw (target_long, length_bodies V1 c (card_at V1 image k)) (omega arith)) ∙ target_long

  pub widen_step : entry_with V2 0 (entry_at V1 image k 0) (entry_place V2 k) (splice (body_place V2 n c k 0) (part (body_place V1 n c k 0) (sides V1 * c) image) (encode V2 cs))
      ≡ encode V2 (widened_up_to (suc k) image)
  unfolding widened_up_to
  widen_step =
      let fits : entry_place V2 k + entry_size V2 ≤ length copied = rw copied_long (entry_within V2 n c below) in
      let changed : bodies V2 c card ≡ splice (0 * c) (bodies V1 c (card_at V1 image k)) (bodies V2 c (get_or cs.cards k (no_card V2))) =
      bodies_widened c (card_at V1 image k)
      ∙ ap (λ (u : Card). splice 0 (bodies V1 c (card_at V1 image k)) (bodies V2 c u)) (sym old_empty)
      ∙ ap (λ (at : ℕ). splice at (bodies V1 c (card_at V1 image k)) (bodies V2 c (get_or cs.cards k (no_card V2)))) (sym (zero-mul c)) in
      ap (λ (v : List ℕ). entry_with V2 0 (entry_at V1 image k 0) (entry_place V2 k) (splice (body_place V2 n c k 0) v (encode V2 cs))) both
      ∙ ap (λ (e : Entry). entry_with V2 0 e (entry_place V2 k) copied) (sym (view_at V1 image holds k below 0 (lit< tt)))
      ∙ entry_written V2 0 (view 0 (card_at V1 image k)) empty (entry_place V2 k) copied (lit< tt) fits still_empty
      ∙ ap (λ (v : List ℕ). splice (entry_place V2 k) v copied) (entry_widened (card_at V1 image k))
      ∙ ap (λ (m : ℕ). splice (entry_place V2 k) (card_entry V2 card) (splice (body_place V2 m c k 0) (bodies V1 c (card_at V1 image k)) (encode V2 cs))) (sym (count_up_to k image))
      ∙ put_part_entry V2 cs k inside card 0 (bodies V1 c (card_at V1 image k)) (rw (length_bodies V1 c (card_at V1 image k)) (omega arith)) changed
      ∙ ap (encode V2) one_more

-- ---- where what is copied lies

pub record Lies (image : List ℕ) (k from to wide : ℕ) : Type 0 where
  pub header : header_size ≤ length image
  pub small : length image ≤ 65536
  pub bodies : from + wide ≤ length image
  pub copies : to + wide ≤ length (encode V2 (widened_up_to k image))
  pub entry : entry_place V1 k + entry_size V1 ≤ length image
  pub new_entry : entry_place V2 k + entry_size V2 ≤ length (encode V2 (widened_up_to k image))

pub lies : (image : List ℕ) (k : ℕ) → T (sound V1 image) → k < count_of image → {n c s from to : ℕ} → n ≡ count_of image → c ≡ room_of image → s ≡ sides V1
    → from ≡ body_place V1 n c k 0 → to ≡ body_place V2 n c k 0 → Lies image k from to (s * c)
lies image k holds below p q r u v =
    let places = places V1 image k holds below in
    let n = count_of image in
    let c = room_of image in
    let old : body_place V1 n c k 1 + c ≤ length image = places.bodies 1 (lit< tt) in
    let long : length (encode V2 (widened_up_to k image)) ≡ size_of V2 n c = length_encode V2 (widened_up_to k image) ∙ rw (count_up_to k image, room_up_to k image) in
    let new : body_place V2 n c k 1 + c ≤ size_of V2 n c = body_within V2 n c k 1 below (lit< tt) in
    record {
      header = places.header;
      small = places.small;
      bodies = rw (u, r, p, q) (omega arith);
      copies = rw (v, r, p, q, long) (omega arith);
      entry = places.entry;
      new_entry = rw long (entry_within V2 n c below);
    }

-- ---- when an image is converted

pub sound_header : (image : List ℕ) → sound V1 image ≡ true → header_size ≤ length image
sound_header image e = rw (long V1 image (to_T e)) (omega arith)

pub unsound_source : (image : List ℕ) (lent : ℕ) → sound V1 image ≡ false → convert_number image lent ≡ UNSOUND
unsound_source image lent e = rw e

-- After the target was made or not: its number, and what stands in it.
module _ (image : List ℕ) {n c number : ℕ} (old target : List ℕ) (p : n ≡ count_of image) (q : c ≡ room_of image)
    (answered : number ≡ make_number V2 n c (length old)) (left : target ≡ settled (make_number V2 n c (length old)) (fresh V2 n c) old) where
  abbrev lent : ℕ
  lent = length old

  abbrev made : Bool
  made = makes V2 (count_of image) (room_of image) lent

  answered_by_image : number ≡ cond made 0 NOT_MADE
  answered_by_image = answered ∙ rw (p, q)

  left_by_image : target ≡ settled (cond made 0 NOT_MADE) (fresh V2 n c) old
  left_by_image = left ∙ ap (λ (m : ℕ). settled m (fresh V2 n c) old) (rw (p, q))

  -- Refused.
  pub not_made : sound V1 image ≡ true → (number ≡ 0 → ⊥) →
      (number ≡ convert_number image lent) × (target ≡ settled (convert_number image lent) (converted image) old)
  not_made e some = rw e (go made answered_by_image left_by_image)
    where
      go : (b : Bool) → number ≡ cond b 0 NOT_MADE → target ≡ settled (cond b 0 NOT_MADE) (fresh V2 n c) old →
          (number ≡ cond (not b) NOT_MADE 0) × (target ≡ settled (cond (not b) NOT_MADE 0) (converted image) old)
      go true g l = absurd (some g)
      go false g l = (g, l)

  -- Made.
  pub converts : sound V1 image ≡ true → number ≡ 0 → convert_number image lent ≡ 0
  converts e none = rw e (go made (sym answered_by_image ∙ none))
    where
      go : (b : Bool) → cond b 0 NOT_MADE ≡ 0 → cond (not b) NOT_MADE 0 ≡ 0
      go true g = refl
      go false g = absurd (omega (arith, g))

  pub begins : number ≡ 0 → target ≡ encode V2 (widened_up_to 0 image)
  begins none = left ∙ ap (λ (m : ℕ). settled m (fresh V2 n c) old) (sym answered ∙ none) ∙ sym (none_widened image ∙ rw (p, q))
