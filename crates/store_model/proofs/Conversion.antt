-- Demand 3 over a conversion, proved. Assumes nothing.
use Prim.Native.Nat.{ℕ, zero, suc, ◌%◌, ◌≤◌, ◌<◌}
use native.Mathlib.Omega.{arith}
use mathlib.Core.Path.{◌≡◌, refl, sym, ap, subst, ◌∙◌}
use mathlib.Core.List.{List, [], ◌∷◌, ◌++◌, map, map-append, reverse, reverse-append}
use mathlib.Core.Bool.{true}
use borrow.Author.Tests.{le-leb, eq-eqb}
use lib.Dec.{T, leb, eqb}
use lib.ListN.{length, get_or, length-map, get_or-eq_default}
use Rattle.lists.specs.Table.{all, all_from}
use Rattle.lists.proofs.Tests.{to_T, from_T}
use Rattle.commands.specs.Command.{Language, original, translation}
use Rattle.guard.specs.Judge.{behind}
use Rattle.formats.specs.Format.{V1, V2}
use Rattle.image.specs.Layout.{shape_ok, size_of, most_cards, least_room, most_room, room_step, most_bytes}
use Rattle.image.specs.Image.{
  Translation,
  Card,
  Cards,
  translation_of,
  no_translation,
  no_card,
  text,
  encode,
  decode,
  sound,
  fresh,
  fresh_cards,
  makes,
  GoodCards,
}
use Rattle.image.specs.Convert.{widened, widened_cards, converted, convert_number}
use Rattle.image.proofs.Shape.{shape}
use Rattle.image.proofs.Making.{made}
use Rattle.image.proofs.Cards.{count_back, room_back}
use Rattle.image_claims.proofs.Claims.{fresh_sound, good_encodes}
use Rattle.image_claims.proofs.Conversion.{get_d_map, good_cards}
use Rattle.store_model.specs.Words.{Sent, Event, image_after, fresh_after, trace_from, trace_of, last_text}
use Rattle.store_model.specs.Claims.{AllBytes}
use Rattle.store_model.specs.Conversion.{trace_across, Demand3Across}
use Rattle.store_model.proofs.Machine.{number_on, cards_by, cards_from, events_from, Tied, Ties}
use Rattle.store_model.proofs.Sentences.{Told}
use Rattle.store_model.proofs.Simulation.{all_good, same_images, same_events}
use Rattle.store_model.proofs.Demand.{Along, claim, count_all, told_all, fresh_told, fresh_ties, count_fresh, whole_history, bytes_reverse, same_log}

-- N and C within the limits of version 2 are within those of version 1.
narrower : (n c : ℕ) → T (shape_ok V2 n c) → T (shape_ok V1 n c)
unfolding shape_ok all all_from
narrower n c ok =
    let s = shape V2 n c (from_T (shape_ok V2 n c) ok) in
    let some : leb 1 n ≡ true = le-leb 1 n s.some in
    let cards : leb n most_cards ≡ true = le-leb n most_cards s.cards in
    let least : leb least_room c ≡ true = le-leb least_room c s.least in
    let most : leb c most_room ≡ true = le-leb c most_room s.most in
    let steps : eqb (c % room_step) 0 ≡ true = eq-eqb (c % room_step) 0 s.steps in
    let size : leb (size_of V1 n c) most_bytes ≡ true = le-leb (size_of V1 n c) most_bytes (omega (arith, s.size)) in
    let holds : shape_ok V1 n c ≡ true = rw (some, cards, least, most, steps, size) in
    to_T holds

-- A card that the events before tie to, widened: its one translation stays, and what it has no translation of has none then.
translations_kept : (card : Card) → length card.translated ≡ 1 → (t : ℕ) → translation_of t (widened card) ≡ translation_of t card
translations_kept card one zero = refl
translations_kept card one (suc t) = none t ∙ sym (get_or-eq_default card.translated no_translation (omega arith))
  where
    none : (t : ℕ) → translation_of (suc t) (widened card) ≡ no_translation
    none zero = refl
    none (suc zero) = refl
    none (suc (suc zero)) = refl
    none (suc (suc (suc t))) = refl

tied_widened : (before : List Event) (k : ℕ) (card : Card) → Tied V1 before k card → Tied V2 before k (widened card)
tied_widened before k card tied =
    record {
      s = tied.s;
      x = tied.x;
      mark = tied.mark;
      count = refl;
      texts = own;
      behindness = λ t. ap (λ (u : Translation). behind card.edition u.from) (kept t) ∙ tied.behindness t;
      source = λ t. subst (λ (u : Translation). u.from ≤ card.edition) (sym (kept t)) (tied.source t);
    }
  where
    kept : (t : ℕ) → translation_of t (widened card) ≡ translation_of t card
    kept = translations_kept card tied.count

    own : (l : Language) → text l (widened card) ≡ last_text l before k
    own original = tied.texts original
    own (translation t) = ap (λ (u : Translation). u.text) (kept t) ∙ tied.texts (translation t)

ties_widened : (cs : Cards) (before : List Event) → Ties V1 cs before → Ties V2 (widened_cards cs) before
ties_widened cs before ties k below =
    let there : k < length cs.cards = subst (λ (m : ℕ). k < m) (length-map cs.cards widened) below in
    subst (Tied V2 before k) (sym (get_d_map cs.cards k there)) (tied_widened before k (get_or cs.cards k (no_card V1)) (ties k there))

-- No command changes the room.
room_all : (start : Cards) (sent : List Sent) → (cards_from V1 start sent).room ≡ start.room
unfolding cards_from
room_all start [] = refl
room_all start (s ∷ earlier) = go (number_on V1 (cards_from V1 start earlier) s) ∙ room_all start earlier
  where
    go : (number : ℕ) → (cards_by V1 number (cards_from V1 start earlier) s).room ≡ (cards_from V1 start earlier).room
    go zero = refl
    go (suc j) = refl

module _ (n c : ℕ) (ok : T (shape_ok V2 n c)) (sent more : List Sent) (b : AllBytes sent) (m : AllBytes more) where
  old : T (shape_ok V1 n c)
  old = narrower n c ok

  -- The cards before the conversion, and after it.
  abbrev cs : Cards
  cs = cards_from V1 (fresh_cards V1 n c) (reverse sent)

  good : GoodCards V1 cs
  good = all_good V1 (fresh_cards V1 n c) (reverse sent) (fresh_sound V1 n c old).good (bytes_reverse sent [] b tt)

  image_is : fresh_after V1 n c sent ≡ encode V1 cs
  image_is =
      ap (λ (image : List ℕ). image_after V1 image (reverse sent)) (sym (fresh_sound V1 n c old).cards)
      ∙ same_images V1 (fresh_cards V1 n c) (reverse sent) (fresh_sound V1 n c old).good (bytes_reverse sent [] b tt)

  count_is : length cs.cards ≡ n
  count_is = count_all V1 (fresh_cards V1 n c) (reverse sent) ∙ count_fresh V1 n c

  room_is : cs.room ≡ c
  unfolding fresh_cards
  room_is = room_all (fresh_cards V1 n c) (reverse sent)

  -- The conversion, and the image that it leaves.
  new : GoodCards V2 (widened_cards cs)
  new = good_cards cs good (rw (count_is, room_is) ok)

  converted_is : converted (fresh_after V1 n c sent) ≡ encode V2 (widened_cards cs)
  unfolding converted
  converted_is = ap (λ (image : List ℕ). encode V2 (widened_cards (decode V1 image))) image_is ∙ ap (λ (l : Cards). encode V2 (widened_cards l)) (good_encodes V1 cs good).same

  converts : convert_number (fresh_after V1 n c sent) (size_of V2 n c) ≡ 0
  converts =
      let lies : makes V2 n c (size_of V2 n c) ≡ true = made V2 n c (size_of V2 n c) (from_T (shape_ok V2 n c) ok) refl in
      rw (image_is, from_T (sound V1 (encode V1 cs)) (good_encodes V1 cs good).sounds, count_back V1 cs good, room_back V1 cs good, count_is, room_is, lies)

  -- The trace on cards.
  trace_is : trace_across n c sent more ≡ events_from V2 (widened_cards cs) (reverse more) ++ events_from V1 (fresh_cards V1 n c) (reverse sent)
  unfolding trace_across
  trace_is =
      rw (converted_is, same_events V2 (widened_cards cs) (reverse more) new (bytes_reverse more [] m tt), same_log V1 n c old sent b)

  told_across : Along (Told n) (events_from V2 (widened_cards cs) (reverse more) ++ events_from V1 (fresh_cards V1 n c) (reverse sent))
  told_across =
      let size : length (widened_cards cs).cards ≡ n = length-map cs.cards widened ∙ count_is in
      let past = events_from V1 (fresh_cards V1 n c) (reverse sent) in
      subst (λ (k : ℕ). Along (Told k) (events_from V2 (widened_cards cs) (reverse more) ++ past)) size
      (told_all V2 (widened_cards cs) past (ties_widened cs past (fresh_ties V1 n c (reverse sent)))
      (subst (λ (k : ℕ). Along (Told k) past) (sym size) (fresh_told V1 n c (reverse sent))) (reverse more))

  whole_across : map (λ (e : Event). e.sent) (trace_across n c sent more) ≡ reverse (sent ++ more)
  unfolding trace_across trace_of
  whole_across =
      rw (
        map-append (λ (e : Event). e.sent) (trace_from V2 (converted (fresh_after V1 n c sent)) (reverse more)) (trace_from V1 (fresh V1 n c) (reverse sent)),
        whole_history V2 (converted (fresh_after V1 n c sent)) (reverse more),
        whole_history V1 (fresh V1 n c) (reverse sent),
        reverse-append sent more,
      )

pub demand3_across : Demand3Across
demand3_across n c ok sent more b m =
    record {
      converts = converts n c ok sent more b m;
      claim = claim n (sent ++ more) (trace_across n c sent more) (whole_across n c ok sent more b m)
          (subst (Along (Told n)) (sym (trace_is n c ok sent more b m)) (told_across n c ok sent more b m));
    }
