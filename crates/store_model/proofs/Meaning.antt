-- The words on lists mean what they read like. Assumes nothing.
use Prim.Native.Nat.{ℕ, ◌+◌, ◌<◌, ◌%◌}
use native.Mathlib.Omega.{arith}
use mathlib.Core.Path.{◌≡◌, refl, sym, ap, ◌∙◌}
use mathlib.Core.Logic.{◌↔◌, ◌⊎◌, inl, inr}
use mathlib.Core.List.{List, [], ◌∷◌, ◌++◌, map, nil≢cons, head-eq_of_cons-eq, tail-eq_of_cons-eq, reverse, append_assoc, reverse-append, reverse-cons, reverse-reverse}
use mathlib.Core.Bool.{Bool, true, false, not, ◌&&◌, ◌||◌, or_assoc}
use borrow.Author.Tests.{not-true, not-false, ltb-true, lt-ltb, leb-false, lt-leb, eqb-true, eqb-false, eq-eqb, ne_eqb}
use lib.Dec.{eqb, ltb, leb}
use Rattle.lists.proofs.Tests.{never_both, cases, and_in, and_left, and_right, or_left, or_right, or_cases, or_fails, not_in}
use Rattle.commands.specs.Command.{verifier, update}
use Rattle.stamps.specs.Stamp.{shared, exclusive, stamp_t, desk_number, desk_start, most_ahead}
use Rattle.commands.specs.declared.Command.{Command}
use Rattle.stamps.specs.declared.Pair.{Pair}
use Rattle.store_model.specs.Words.{Received, Event, command_of, accepted, larger_s, larger_x, late, in_reach, out_of_reach, far_ahead, formed_for, carries, under, breaks, premise, desk_in, intrudes}
use Rattle.lists.specs.Search.{any, none, since, last}
use Rattle.store_model.specs.Meaning.{Among, Nearest, Overtakes, Beyond, Carries, Ordered, Intruder}

module _ {A : Type 0} where
  pub among_here : (a : A) (l : List A) → Among a (a ∷ l)
  among_here a l = record { front = []; back = l; split = refl }

  pub among_later : {a : A} {l : List A} (b : A) → Among a l → Among a (b ∷ l)
  among_later b m = record { front = b ∷ m.front; back = m.back; split = ap (λ (r : List A). b ∷ r) m.split }

  pub among_right : (s : List A) {a : A} {l : List A} → Among a l → Among a (s ++ l)
  among_right [] m = m
  among_right (b ∷ s) m = among_later b (among_right s m)

  pub among_reverse : {a : A} {l : List A} → Among a (reverse l) → Among a l
  among_reverse {a} {l} m =
      record {
        front = reverse m.back;
        back = reverse m.front;
        split =
            sym (reverse-reverse l)
            ∙ ap reverse m.split
            ∙ reverse-append m.front (a ∷ m.back)
            ∙ ap (λ (r : List A). r ++ reverse m.front) (reverse-cons a m.back)
            ∙ append_assoc (reverse m.back) (a ∷ []) (reverse m.front);
      }

  module _ (p : A → Bool) where
    pub any_append : (s l : List A) → any p (s ++ l) ≡ (any p s || any p l)
    any_append [] l = refl
    any_append (a ∷ s) l = ap (λ (b : Bool). p a || b) (any_append s l) ∙ sym (or_assoc (p a) (any p s) (any p l))

    pub any_here : {a : A} {l : List A} → Among a l → p a ≡ true → any p l ≡ true
    any_here {a} {l} m e =
        ap (any p) m.split
        ∙ any_append m.front (a ∷ m.back)
        ∙ or_right (any p m.front) (or_left (any p m.back) e)

    pub nearest : (l : List A) → any p l ≡ true → (a : A) × Nearest p a l
    unfolding among_here among_later
    nearest [] e = absurd (never_both e refl)
    nearest (a ∷ l) e = go (cases (p a)) (nearest l)
      where
        go : (p a ≡ true) ⊎ (p a ≡ false) → (any p l ≡ true → (b : A) × Nearest p b l) → (b : A) × Nearest p b (a ∷ l)
        go (inl h) rest = (a, record { among = among_here a l; holds = h; alone = refl })
        go (inr h) rest =
            let found = rest (sym (ap (λ (b : Bool). b || any p l) h) ∙ e) in (
              found.0,
              record {
                among = among_later a found.1.among;
                holds = found.1.holds;
                alone = ap (λ (b : Bool). not (b || any p found.1.among.front)) h ∙ found.1.alone;
              },
            )

    -- Some element is so: the list splits at one.
    pub any_means : (l : List A) → (any p l ≡ true) ↔ ((a : A) × Among a l × (p a ≡ true))
    any_means l = (λ e. ((nearest l e).0, (nearest l e).1.among, (nearest l e).1.holds), λ h. any_here h.1 h.2)

    -- No element is so: wherever the list splits, that element is not.
    pub none_means : (l : List A) → (none p l ≡ true) ↔ ((a : A) → Among a l → p a ≡ false)
    none_means l = (out, back)
      where
        out : none p l ≡ true → (a : A) → Among a l → p a ≡ false
        out e a m = go (cases (p a))
          where
            go : (p a ≡ true) ⊎ (p a ≡ false) → p a ≡ false
            go (inl h) = absurd (never_both (any_here m h) (not-true (any p l) e))
            go (inr h) = h

        back : ((a : A) → Among a l → p a ≡ false) → none p l ≡ true
        back h = go (cases (any p l))
          where
            go : (any p l ≡ true) ⊎ (any p l ≡ false) → none p l ≡ true
            go (inl e) = absurd (never_both (nearest l e).1.holds (h (nearest l e).0 (nearest l e).1.among))
            go (inr e) = not_in e

    -- Where none is so, all elements stand since then; else those in front of the nearest.
    pub since_none : (l : List A) → none p l ≡ true → since p l ≡ l
    since_none [] e = refl
    since_none (a ∷ l) e =
        let both = or_fails (p a) (any p l) (not-true (p a || any p l) e) in
        rw both.0 (ap (λ (r : List A). a ∷ r) (since_none l (not_in both.1)))

    pub since_at : (s : List A) (a : A) (l : List A) → none p s ≡ true → p a ≡ true → since p (s ++ a ∷ l) ≡ s
    since_at [] a l e h = rw h
    since_at (b ∷ s) a l e h =
        let both = or_fails (p b) (any p s) (not-true (p b || any p s) e) in
        rw both.0 (ap (λ (r : List A). b ∷ r) (since_at s a l (not_in both.1) h))

    pub since_means : {a : A} (l : List A) (m : Nearest p a l) → since p l ≡ m.among.front
    since_means {a} l m = ap (since p) m.among.split ∙ since_at m.among.front a m.among.back m.alone m.holds

    -- Where none is so, it is the default; else what f says of the nearest.
    module _ {B : Type 0} (f : A → B) (d : B) where
      pub last_none : (l : List A) → none p l ≡ true → last p f d l ≡ d
      last_none [] e = refl
      last_none (a ∷ l) e =
          let both = or_fails (p a) (any p l) (not-true (p a || any p l) e) in
          rw both.0 (last_none l (not_in both.1))

      pub last_at_lem : (s : List A) (a : A) (l : List A) → none p s ≡ true → p a ≡ true → last p f d (s ++ a ∷ l) ≡ f a
      last_at_lem [] a l e h = rw h
      last_at_lem (b ∷ s) a l e h =
          let both = or_fails (p b) (any p s) (not-true (p b || any p s) e) in
          rw both.0 (last_at_lem s a l (not_in both.1) h)

      pub last_means : {a : A} (l : List A) (m : Nearest p a l) → last p f d l ≡ f a
      last_means {a} l m =
          ap (last p f d) m.among.split ∙ last_at_lem m.among.front a m.among.back m.alone m.holds

module _ {A B : Type 0} (f : A → B) where
  map-append : (s l : List A) → map f (s ++ l) ≡ map f s ++ map f l
  map-append [] l = refl
  map-append (a ∷ s) l = ap (λ (r : List B). f a ∷ r) (map-append s l)

  pub among_map : {a : A} {l : List A} → Among a l → Among (f a) (map f l)
  among_map {a} m =
      record {
        front = map f m.front;
        back = map f m.back;
        split = ap (map f) m.split ∙ map-append m.front (a ∷ m.back);
      }

-- What stands in a list that a function made was made of something that stands there.
module _ {A B : Type 0} (g : A → B) where
  pub record Mapped (b : B) (l : List A) : Type 0 where
    pub from : A
    pub among : Among from l
    pub is : b ≡ g from

  pub among_mapped : {b : B} (l : List A) → Among b (map g l) → Mapped b l
  among_mapped {b} l m = go l m.front m.split
    where
      go : (l : List A) (front : List B) → map g l ≡ front ++ b ∷ m.back → Mapped b l
      go [] [] e = absurd (nil≢cons e)
      go [] (c ∷ front) e = absurd (nil≢cons e)
      go (a ∷ l) [] e = record { from = a; among = among_here a l; is = sym (head-eq_of_cons-eq e) }
      go (a ∷ l) (c ∷ front) e =
          let rest = go l front (tail-eq_of_cons-eq e) in
          record { from = rest.from; among = among_later a rest.among; is = rest.is }

module _ (k : ℕ) (all : List Received) where
  -- The test of one command against another, and of one against the whole list.
  abbrev against : Received → Received → Bool
  against a b = formed_for k b && breaks a.numbers b.numbers

  abbrev broken : Received → Bool
  broken a = formed_for k a && any (against a) all

  pub premise_means : (premise k all ≡ true) ↔ Ordered k all
  premise_means = (out, back)
    where
      out : premise k all ≡ true → Ordered k all
      out e a b m n h g c u =
          let alone : broken a ≡ false = (none_means broken all).0 e a m in
          let kept : any (against a) all ≡ false = sym (ap (λ (t : Bool). t && any (against a) all) h) ∙ alone in
          let one : against a b ≡ false = (none_means (against a) all).0 (not_in kept) b n in
          let low : not (ltb (update b.numbers).s (update a.numbers).s) ≡ false =
          sym
          (ap (λ (t : Bool). t && breaks a.numbers b.numbers) g
          ∙ rw (c, u)) ∙ one in
          ltb-true (update b.numbers).s (update a.numbers).s (not-false _ low)

      back : Ordered k all → premise k all ≡ true
      back h = (none_means broken all).1 each
        where
          pair : (a b : Received) → Among a all → Among b all → formed_for k a ≡ true → against a b ≡ true → ⊥
          pair a b m n g e =
              let c : Bool = carries a.numbers in
              let u : Bool = under (update a.numbers).x b.numbers in
              let over : Bool = ltb (update b.numbers).s (update a.numbers).s in
              let bad : (c && u && not over) ≡ true = and_right (formed_for k b) (c && u && not over) e in
              let both : (c && u) ≡ true = and_left (c && u) (not over) bad in
              never_both
              (lt-ltb _ _ (h a b m n g (and_left (formed_for k b) (c && u && not over) e) (and_left c u both) (and_right c u both)))
              (not-true over (and_right (c && u) (not over) bad))

          each : (a : Received) → Among a all → broken a ≡ false
          each a m = go (cases (broken a))
            where
              go : (broken a ≡ true) ⊎ (broken a ≡ false) → broken a ≡ false
              go (inr e) = e
              go (inl e) =
                  let found = (any_means (against a) all).0 (and_right (formed_for k a) (any (against a) all) e) in
                  absurd (pair a found.0 m found.1 (and_left (formed_for k a) (any (against a) all) e) found.2)

-- Commands of which each stands in a list that keeps the premise keep it.
pub premise_within : (k : ℕ) (all some : List Received) → ((r : Received) → Among r some → Among r all) → premise k all ≡ true → premise k some ≡ true
premise_within k all some within h =
    (premise_means k some).1 (λ a b ma mb. (premise_means k all).0 h a b (within a ma) (within b mb))

-- ---- the words on events

pub accepted_means : (k : ℕ) (e : Event) → (accepted k e ≡ true) ↔ ((e.answer.number ≡ 0) × ((command_of e).card ≡ k))
accepted_means k e = (
  λ h. (
    eqb-true e.answer.number 0 (and_left (eqb e.answer.number 0) (eqb (command_of e).card k) h),
    eqb-true (command_of e).card k (and_right (eqb e.answer.number 0) (eqb (command_of e).card k) h),
  ),
  λ h. and_in (eq-eqb e.answer.number 0 h.0) (eq-eqb (command_of e).card k h.1),
)

pub late_means : (before : List Event) (c : Command) → (late before c ≡ true) ↔ ((e : Event) × Among e before × Overtakes c e)
late_means before c = (out, λ h. back h.0 h.1 h.2 h.2.larger)
  where
    larger : (side : Pair → ℕ) → Event → Bool
    larger side e = accepted c.card e && ltb (side (verifier c)) (side (update (command_of e)))

    parts : (side : Pair → ℕ) (e : Event) → larger side e ≡ true
        → (e.answer.number ≡ 0) × ((command_of e).card ≡ c.card) × (side (verifier c) < side (update (command_of e)))
    parts side e h =
        let both = (accepted_means c.card e).0 (and_left (accepted c.card e) (ltb (side (verifier c)) (side (update (command_of e)))) h) in (
          both.0,
          both.1,
          ltb-true (side (verifier c)) (side (update (command_of e)))
              (and_right (accepted c.card e) (ltb (side (verifier c)) (side (update (command_of e)))) h),
        )

    out : late before c ≡ true → (e : Event) × Among e before × Overtakes c e
    out h = go (or_cases (any (larger_x c.card c) before) (eqb c.mode exclusive && any (larger_s c.card c) before) h)
      where
        go : (any (larger_x c.card c) before ≡ true) ⊎ ((eqb c.mode exclusive && any (larger_s c.card c) before) ≡ true)
            → (e : Event) × Among e before × Overtakes c e
        go (inl x) =
            let found = (any_means (larger_x c.card c) before).0 x in
            let known = parts (λ (p : Pair). p.x) found.0 found.2 in
            (found.0, found.1, record { accepted = known.0; card = known.1; larger = inl known.2 })
        go (inr y) =
            let s = and_right (eqb c.mode exclusive) (any (larger_s c.card c) before) y in
            let found = (any_means (larger_s c.card c) before).0 s in
            let known = parts (λ (p : Pair). p.s) found.0 found.2 in
            let mode = eqb-true c.mode exclusive (and_left (eqb c.mode exclusive) (any (larger_s c.card c) before) y) in
            (found.0, found.1, record { accepted = known.0; card = known.1; larger = inr (mode, known.2) })

    back : (e : Event) → Among e before → Overtakes c e
        → ((verifier c).x < (update (command_of e)).x) ⊎ ((c.mode ≡ exclusive) × ((verifier c).s < (update (command_of e)).s))
        → late before c ≡ true
    back e m o (inl x) =
        or_left (eqb c.mode exclusive && any (larger_s c.card c) before)
        (any_here (larger_x c.card c) m
        (and_in ((accepted_means c.card e).1 (o.accepted, o.card)) (lt-ltb (verifier c).x (update (command_of e)).x x)))
    back e m o (inr y) =
        or_right (any (larger_x c.card c) before)
        (and_in (eq-eqb c.mode exclusive y.0)
        (any_here (larger_s c.card c) m
        (and_in ((accepted_means c.card e).1 (o.accepted, o.card)) (lt-ltb (verifier c).s (update (command_of e)).s y.1))))

reach_means : (side : Pair → ℕ) (before : List Event) (c : Command) → (out_of_reach side before c ≡ true) ↔ Beyond side before c
reach_means side before c = (out, back)
  where
    near : Event → Bool
    near e = leb (stamp_t (side (update c))) (stamp_t (side (update (command_of e))) + most_ahead)

    out : out_of_reach side before c ≡ true → Beyond side before c
    out h =
        let far = ltb-true most_ahead (stamp_t (side (update c))) (and_left (ltb most_ahead (stamp_t (side (update c)))) (none (in_reach side c) before) h) in
        record {
          some = λ z. omega arith;
          nothing = far;
          each = λ e m number card.
              let unreached : in_reach side c e ≡ false =
              (none_means (in_reach side c) before).0 (and_right (ltb most_ahead (stamp_t (side (update c)))) (none (in_reach side c) before) h) e m in
              leb-false (stamp_t (side (update c))) (stamp_t (side (update (command_of e))) + most_ahead)
              (sym (ap (λ (b : Bool). b && near e) ((accepted_means c.card e).1 (number, card))) ∙ unreached);
        }

    back : Beyond side before c → out_of_reach side before c ≡ true
    back b = and_in (lt-ltb most_ahead (stamp_t (side (update c))) b.nothing) ((none_means (in_reach side c) before).1 unreached)
      where
        unreached : (e : Event) → Among e before → in_reach side c e ≡ false
        unreached e m = go (cases (accepted c.card e))
          where
            go : (accepted c.card e ≡ true) ⊎ (accepted c.card e ≡ false) → in_reach side c e ≡ false
            go (inl a) =
                let known = (accepted_means c.card e).0 a in
                rw a (lt-leb (stamp_t (side (update c))) (stamp_t (side (update (command_of e))) + most_ahead) (b.each e m known.0 known.1))
            go (inr a) = rw a

-- A command comes from too far ahead: by its s, or by its x.
pub far_means : (before : List Event) (c : Command) → (far_ahead before c ≡ true) ↔ (Beyond (λ (p : Pair). p.s) before c ⊎ Beyond (λ (p : Pair). p.x) before c)
far_means before c = (λ h. out (or_cases (out_of_reach (λ (p : Pair). p.s) before c) (out_of_reach (λ (p : Pair). p.x) before c) h), back)
  where
    out : (out_of_reach (λ (p : Pair). p.s) before c ≡ true) ⊎ (out_of_reach (λ (p : Pair). p.x) before c ≡ true)
        → Beyond (λ (p : Pair). p.s) before c ⊎ Beyond (λ (p : Pair). p.x) before c
    out (inl s) = inl ((reach_means (λ (p : Pair). p.s) before c).0 s)
    out (inr x) = inr ((reach_means (λ (p : Pair). p.x) before c).0 x)

    back : Beyond (λ (p : Pair). p.s) before c ⊎ Beyond (λ (p : Pair). p.x) before c → far_ahead before c ≡ true
    back (inl s) = or_left (out_of_reach (λ (p : Pair). p.x) before c) ((reach_means (λ (p : Pair). p.s) before c).1 s)
    back (inr x) = or_right (out_of_reach (λ (p : Pair). p.s) before c) ((reach_means (λ (p : Pair). p.x) before c).1 x)

-- Two stamps have one desk and start: the 16 bits of the desk and the 16 bits of the start are equal.
pub desk_and_start : (m n : ℕ) → (desk_start m ≡ desk_start n) ↔ ((desk_number m ≡ desk_number n) × (m % 65536 ≡ n % 65536))
desk_and_start m n = (λ e. omega arith, λ h. omega arith)

pub carries_means : (c : Command) → (carries c ≡ true) ↔ Carries c
carries_means c = (out, back)
  where
    is_shared : Bool
    is_shared = eqb c.mode shared

    some : Bool
    some = not (eqb (update c).x 0)

    other : Bool
    other = not (eqb (desk_start (update c).x) (desk_start (update c).s))

    out : carries c ≡ true → Carries c
    out h =
        let front = and_left (is_shared && some) other h in
        let apart = eqb-false (desk_start (update c).x) (desk_start (update c).s) (not-true (eqb (desk_start (update c).x) (desk_start (update c).s)) (and_right (is_shared && some) other h)) in
        record {
          mode = eqb-true c.mode shared (and_left is_shared some front);
          some = eqb-false (update c).x 0 (not-true (eqb (update c).x 0) (and_right is_shared some front));
          other = λ same. apart ((desk_and_start (update c).x (update c).s).1 same);
        }

    back : Carries c → carries c ≡ true
    back r =
        and_in (and_in (eq-eqb c.mode shared r.mode) (not_in (ne_eqb (update c).x 0 r.some)))
        (not_in (ne_eqb (desk_start (update c).x) (desk_start (update c).s) (λ e. r.other ((desk_and_start (update c).x (update c).s).0 e))))

pub intrudes_means : (k : ℕ) (b e : Event) → (intrudes k b e ≡ true) ↔ Intruder k b e
intrudes_means k b e = (out, back)
  where
    other : Bool
    other = not (eqb (desk_in e) (desk_in b))

    mixed : Bool
    mixed = eqb (command_of b).mode exclusive || eqb (command_of e).mode exclusive

    by_mode : (eqb (command_of b).mode exclusive ≡ true) ⊎ (eqb (command_of e).mode exclusive ≡ true)
        → ((command_of b).mode ≡ exclusive) ⊎ ((command_of e).mode ≡ exclusive)
    by_mode (inl h) = inl (eqb-true (command_of b).mode exclusive h)
    by_mode (inr h) = inr (eqb-true (command_of e).mode exclusive h)

    to_mixed : ((command_of b).mode ≡ exclusive) ⊎ ((command_of e).mode ≡ exclusive) → mixed ≡ true
    to_mixed (inl h) = or_left (eqb (command_of e).mode exclusive) (eq-eqb (command_of b).mode exclusive h)
    to_mixed (inr h) = or_right (eqb (command_of b).mode exclusive) (eq-eqb (command_of e).mode exclusive h)

    out : intrudes k b e ≡ true → Intruder k b e
    out h =
        let front = and_left (accepted k e && other) mixed h in
        let known = (accepted_means k e).0 (and_left (accepted k e) other front) in
        record {
          accepted = known.0;
          card = known.1;
          desk = eqb-false (desk_in e) (desk_in b) (not-true (eqb (desk_in e) (desk_in b)) (and_right (accepted k e) other front));
          mixed = by_mode (or_cases (eqb (command_of b).mode exclusive) (eqb (command_of e).mode exclusive) (and_right (accepted k e && other) mixed h));
        }

    back : Intruder k b e → intrudes k b e ≡ true
    back i =
        and_in (and_in ((accepted_means k e).1 (i.accepted, i.card)) (not_in (ne_eqb (desk_in e) (desk_in b) i.desk))) (to_mixed i.mixed)
