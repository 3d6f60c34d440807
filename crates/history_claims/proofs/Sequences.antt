-- Two lists with the same sequence of requests for each card: a request is moved to the front by swaps, one after another. Assumes nothing.
use Prim.Native.Nat.{ℕ}
use mathlib.Core.Path.{◌≡◌, refl, sym, ap, subst, ◌∙◌}
use mathlib.Core.Logic.{◌⊎◌, inl, inr}
use mathlib.Core.List.{List, [], ◌∷◌, ◌++◌, nil≢cons, head-eq_of_cons-eq, tail-eq_of_cons-eq}
use mathlib.Core.Bool.{Bool, true, false, cond}
use borrow.Author.Tests.{eq-eqb, eqb-true}
use lib.Dec.{eqb}
use Rattle.formats.specs.Format.{Format}
use Rattle.lists.specs.Parts.{Bytes}
use Rattle.lists.specs.Search.{any, filter}
use Rattle.lists.proofs.Tests.{cases, never_both, and_left, and_right, and_in, or_fails}
use Rattle.commands.specs.Bytes.{fields_of, formed}
use Rattle.image.specs.Image.{sound}
use Rattle.store_model.specs.Serve.{serve, serve_by}
use Rattle.store_model.specs.Words.{Sent, Event, event_of, image_after, trace_from}
use Rattle.store_model.specs.Claims.{AllBytes}
use Rattle.history_claims.specs.Swaps.{swap, Apart, sent_for, SameSequences, event_for, SameByCard, Sequences}
use Rattle.history_claims.proofs.Swaps.{image_by, event, unsound_image, swapping}

-- ---- those elements of a list

module _ {A : Type 0} (p : A → Bool) where
  filter_append : (a b : List A) → filter p (a ++ b) ≡ filter p a ++ filter p b
  filter_append [] b = refl
  filter_append (x ∷ a) b = go (p x) (filter_append a b)
    where
      go : (q : Bool) → filter p (a ++ b) ≡ filter p a ++ filter p b
          → cond q (x ∷ filter p (a ++ b)) (filter p (a ++ b)) ≡ cond q (x ∷ filter p a) (filter p a) ++ filter p b
      go true rest = ap (λ (l : List A). x ∷ l) rest
      go false rest = rest

  filter_swap : (a b : A) (l : List A) → (p a ≡ true → p b ≡ true → ⊥) → filter p (a ∷ b ∷ l) ≡ filter p (b ∷ a ∷ l)
  filter_swap a b l h = go (p a) (p b) h
    where
      go : (q r : Bool) → (q ≡ true → r ≡ true → ⊥)
          → cond q (a ∷ cond r (b ∷ filter p l) (filter p l)) (cond r (b ∷ filter p l) (filter p l))
          ≡ cond r (b ∷ cond q (a ∷ filter p l) (filter p l)) (cond q (a ∷ filter p l) (filter p l))
      go true true h = absurd (h refl refl)
      go true false h = refl
      go false true h = refl
      go false false h = refl

  filter_none : (l : List A) → any p l ≡ false → filter p l ≡ []
  filter_none [] h = refl
  filter_none (x ∷ l) h = let both = or_fails (p x) (any p l) h in rw both.0 (filter_none l both.1)

  -- The list, split at the first of them.
  record Split (l : List A) (x : A) (rest : List A) : Type 0 where
    front : List A
    back : List A
    joined : l ≡ front ++ x ∷ back
    free : any p front ≡ false
    later : filter p back ≡ rest

  split_first : (l : List A) (x : A) (rest : List A) → filter p l ≡ x ∷ rest → Split l x rest
  split_first [] x rest e = absurd (nil≢cons e)
  split_first (y ∷ l) x rest e = go (p y) refl e (split_first l x rest)
    where
      go : (q : Bool) → p y ≡ q → cond q (y ∷ filter p l) (filter p l) ≡ x ∷ rest → (filter p l ≡ x ∷ rest → Split l x rest) → Split (y ∷ l) x rest
      go true h e more =
          record {
            front = [];
            back = l;
            joined = ap (λ (z : A). z ∷ l) (head-eq_of_cons-eq e);
            free = refl;
            later = tail-eq_of_cons-eq e;
          }
      go false h e more =
          let s = more e in
          record {
            front = y ∷ s.front;
            back = s.back;
            joined = ap (λ (m : List A). y ∷ m) s.joined;
            free = rw h s.free;
            later = s.later;
          }

  -- One element more in front, by its test.
  filter_here : {x : A} (l : List A) → p x ≡ true → filter p (x ∷ l) ≡ x ∷ filter p l
  filter_here l h = rw h

  filter_past : {x : A} (l : List A) → p x ≡ false → filter p (x ∷ l) ≡ filter p l
  filter_past l h = rw h

-- ---- a request moved to the front

moved_bytes : (front : List Sent) (s : Sent) (back : List Sent) → AllBytes (front ++ s ∷ back) → AllBytes (s ∷ (front ++ back))
moved_bytes [] s back b = b
moved_bytes (p ∷ front) s back b = let rest = moved_bytes front s back b.1 in (rest.0, (b.0, rest.1))

-- One more event, the same on both sides.
events_more : (k : ℕ) (e : Event) (a b : List Event) → filter (event_for k) a ≡ filter (event_for k) b → filter (event_for k) (e ∷ a) ≡ filter (event_for k) (e ∷ b)
events_more k e a b h = ap (λ (l : List Event). cond (event_for k e) (e ∷ l) l) h

module _ (v : Format) where
  -- ---- a malformed request is for no card and changes nothing

  unseen : (k : ℕ) (s : Sent) → formed v s.command ≡ false → sent_for v k s ≡ false
  unseen k s f = rw f

  malformed_image : (image : List ℕ) (s : Sent) → formed v s.command ≡ false → image_by v image s ≡ image
  unfolding serve serve_by
  malformed_image image s f = go (cases (sound v image))
    where
      go : (sound v image ≡ true) ⊎ (sound v image ≡ false) → image_by v image s ≡ image
      go (inl e) = rw (e, f)
      go (inr e) = unsound_image v image s e

  -- A well-formed request is for its card.
  own_card : (s : Sent) → formed v s.command ≡ true → sent_for v (fields_of v s.command).card s ≡ true
  own_card s f = and_in f (eq-eqb (fields_of v s.command).card (fields_of v s.command).card refl)

  -- Requests that are both for card k are for one card.
  not_both : (a b : Sent) → Apart v a b → (k : ℕ) → sent_for v k a ≡ true → sent_for v k b ≡ true → ⊥
  not_both a b apart k ha hb =
      let fa = and_left (formed v a.command) (eqb (fields_of v a.command).card k) ha in
      let fb = and_left (formed v b.command) (eqb (fields_of v b.command).card k) hb in
      let ka = eqb-true (fields_of v a.command).card k (and_right (formed v a.command) (eqb (fields_of v a.command).card k) ha) in
      let kb = eqb-true (fields_of v b.command).card k (and_right (formed v b.command) (eqb (fields_of v b.command).card k) hb) in
      apart fa fb (ka ∙ sym kb)

  module _ (start : List ℕ) (bs : Bytes start) (s : Sent) (f : formed v s.command ≡ true) where
    abbrev k : ℕ
    k = (fields_of v s.command).card

    moved : (front back : List Sent) → AllBytes (front ++ s ∷ back) → any (sent_for v k) front ≡ false
        → SameByCard v start (front ++ s ∷ back) (s ∷ (front ++ back))
    unfolding image_after trace_from swap
    moved [] back b free = record { image = refl; events = λ j. refl }
    moved (p ∷ front) back b free =
        let both = or_fails (sent_for v k p) (any (sent_for v k) front) free in
        let rest = moved front back b.1 both.1 in
        let bytes = moved_bytes front s back b.1 in
        let apart : Apart v p s = λ fp fs z. never_both (and_in fp (eq-eqb (fields_of v p.command).card k z)) both.0 in
        let two = swapping v start bs (p ∷ s ∷ (front ++ back)) (b.0, bytes) 0 apart in
        let ahead : List ℕ = image_after v start (s ∷ (front ++ back)) in
        record {
          image = ap (λ (image : List ℕ). image_by v image p) rest.image ∙ sym two.image;
          events =
              λ j.
              ap (λ (image : List ℕ). filter (event_for j) (event v image p ∷ trace_from v start (front ++ s ∷ back))) rest.image
              ∙ events_more j (event v ahead p) (trace_from v start (front ++ s ∷ back)) (trace_from v start (s ∷ (front ++ back))) (rest.events j)
              ∙ filter_swap (event_for j) (event v ahead p) (event v (image_after v start (front ++ back)) s) (trace_from v start (front ++ back)) (not_both p s apart j)
              ∙ ap (filter (event_for j)) (sym two.trace);
        }

  -- ---- both lists

  -- Requests of which none is for any card.
  idle : (start : List ℕ) (b : List Sent) → ((k : ℕ) → [] ≡ filter (sent_for v k) b) → SameByCard v start [] b
  unfolding image_after trace_from
  idle start [] h = record { image = refl; events = λ k. refl }
  idle start (s ∷ b) h = go (cases (formed v s.command)) (idle start b)
    where
      go : (formed v s.command ≡ true) ⊎ (formed v s.command ≡ false) → (((k : ℕ) → [] ≡ filter (sent_for v k) b) → SameByCard v start [] b)
          → SameByCard v start [] (s ∷ b)
      go (inl f) more =
          let k : ℕ = (fields_of v s.command).card in
          absurd (nil≢cons (h k ∙ filter_here (sent_for v k) b (own_card s f)))
      go (inr f) more =
          let rest = more (λ k. h k ∙ filter_past (sent_for v k) b (unseen k s f)) in
          record {
            image = rest.image ∙ sym (malformed_image (image_after v start b) s f);
            events = λ k. rest.events k ∙ sym (filter_past (event_for k) {x = event_of v s (serve v (image_after v start b) s.command s.lent)} (trace_from v start b) (unseen k s f));
          }

  -- The sequences are the same without the request that was moved.
  without : (s : Sent) (a front back : List Sent) → formed v s.command ≡ true → any (sent_for v (fields_of v s.command).card) front ≡ false
      → SameSequences v (s ∷ a) (front ++ s ∷ back) → SameSequences v a (front ++ back)
  without s a front back f free h j = go (cases (sent_for v j s))
    where
      there : filter (sent_for v j) (front ++ s ∷ back) ≡ filter (sent_for v j) front ++ filter (sent_for v j) (s ∷ back)
      there = filter_append (sent_for v j) front (s ∷ back)

      apart : filter (sent_for v j) (front ++ back) ≡ filter (sent_for v j) front ++ filter (sent_for v j) back
      apart = filter_append (sent_for v j) front back

      go : (sent_for v j s ≡ true) ⊎ (sent_for v j s ≡ false) → filter (sent_for v j) a ≡ filter (sent_for v j) (front ++ back)
      go (inl t) =
          let card = eqb-true (fields_of v s.command).card j (and_right (formed v s.command) (eqb (fields_of v s.command).card j) t) in
          let none : filter (sent_for v j) front ≡ [] = filter_none (sent_for v j) front (subst (λ (i : ℕ). any (sent_for v i) front ≡ false) card free) in
          tail-eq_of_cons-eq
          (sym (filter_here (sent_for v j) a t)
          ∙ h j
          ∙ there
          ∙ ap (λ (l : List Sent). l ++ filter (sent_for v j) (s ∷ back)) none
          ∙ filter_here (sent_for v j) back t)
          ∙ sym (apart ∙ ap (λ (l : List Sent). l ++ filter (sent_for v j) back) none)
      go (inr n) =
          sym (filter_past (sent_for v j) a n)
          ∙ h j
          ∙ there
          ∙ ap (λ (l : List Sent). filter (sent_for v j) front ++ l) (filter_past (sent_for v j) back n)
          ∙ sym apart

pub sequences : Sequences
unfolding image_after trace_from
sequences v start bs [] b ba bb h = idle v start b h
sequences v start bs (s ∷ a) b ba bb h = go (cases (formed v s.command)) (λ l. sequences v start bs a l ba.1)
  where
    go : (formed v s.command ≡ true) ⊎ (formed v s.command ≡ false)
        → ((l : List Sent) → AllBytes l → SameSequences v a l → SameByCard v start a l)
        → SameByCard v start (s ∷ a) b
    go (inr f) more =
        let rest = more b bb (λ k. sym (filter_past (sent_for v k) a (unseen v k s f)) ∙ h k) in
        record {
          image = malformed_image v (image_after v start a) s f ∙ rest.image;
          events = λ k. filter_past (event_for k) {x = event_of v s (serve v (image_after v start a) s.command s.lent)} (trace_from v start a) (unseen v k s f) ∙ rest.events k;
        }
    go (inl f) more =
        let k : ℕ = (fields_of v s.command).card in
        let at = split_first (sent_for v k) b s (filter (sent_for v k) a) (sym (h k) ∙ filter_here (sent_for v k) a (own_card v s f)) in
        let front : List Sent = at.front in
        let back : List Sent = at.back in
        let bytes = subst AllBytes at.joined bb in
        let ahead = moved v start bs s f front back bytes at.free in
        let rest =
        more (front ++ back) (moved_bytes front s back bytes).1
        (without v s a front back f at.free (λ j. h j ∙ ap (filter (sent_for v j)) at.joined)) in
        record {
          image =
              ap (λ (image : List ℕ). image_by v image s) rest.image
              ∙ sym ahead.image
              ∙ ap (image_after v start) (sym at.joined);
          events =
              λ j.
              ap (λ (image : List ℕ). filter (event_for j) (event v image s ∷ trace_from v start a)) rest.image
              ∙ events_more j (event v (image_after v start (front ++ back)) s) (trace_from v start a) (trace_from v start (front ++ back)) (rest.events j)
              ∙ sym (ahead.events j)
              ∙ ap (λ (l : List Sent). filter (event_for j) (trace_from v start l)) (sym at.joined);
        }
