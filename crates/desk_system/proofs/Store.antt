-- The store among the desks: the cards that its bytes stand for, and the requests that left them, over a conversion
-- too. Nothing here asks for the rules. Assumes nothing.
use Prim.Native.Nat.{ℕ, zero, suc, ◌<◌}
use native.Mathlib.Omega.{arith}
use mathlib.Core.Path.{◌≡◌, refl, sym, ap, subst, ◌∙◌}
use mathlib.Core.Logic.{◌⊎◌, inl, inr}
use mathlib.Core.List.{List, [], ◌∷◌, ◌++◌}
use mathlib.Core.Bool.{Bool, true, false, cond}
use borrow.Author.Tests.{eqb-true, eqb-false, ltb-true, ltb-false, not-false}
use lib.Dec.{T, eqb, ltb}
use lib.ListN.{length, get_or, set, length-map, get_or-eq_default}
use lib.Seq.{get_or-set_same, get_or-set_other}
use Rattle.formats.specs.Format.{Format, V1, V2}
use Rattle.lists.proofs.Tests.{cases, to_T, and_left}
use Rattle.lists.proofs.Table.{none_applies, unapplied}
use Rattle.stamps.specs.Stamp.{larger_of_each, no_pair}
use Rattle.stamps.specs.declared.Pair.{Pair}
use Rattle.commands.specs.Command.{update}
use Rattle.commands.specs.declared.Command.{Command}
use Rattle.commands.specs.Bytes.{fields_of, payload}
use Rattle.guard.specs.Judge.{raise}
use Rattle.guard.specs.Replies.{blank_reply, replied}
use Rattle.image.specs.Layout.{shape_ok, size_of}
use Rattle.image.specs.Bytes.{count_of, room_of}
use Rattle.image.specs.Image.{Card, Cards, no_card, encode, fresh, fresh_cards, makes, GoodCards}
use Rattle.image.specs.Convert.{widened, widened_cards, converted, convert_number, convert_rows}
use Rattle.image.proofs.Cards.{count_back, room_back}
use Rattle.image_claims.proofs.Claims.{fresh_sound, good_encodes}
use Rattle.image_claims.proofs.Conversion.{good_cards, get_d_map}
use Rattle.store_model.specs.Serve.{stepped, serve}
use Rattle.store_model.specs.Words.{Sent, Event, event_of, image_after, trace_from}
use Rattle.store_model.specs.Claims.{SentBytes, AllBytes}
use Rattle.store_model.proofs.Machine.{number_on, event_by, cards_by, cards_from, passed}
use Rattle.store_model.proofs.Simulation.{good_more, same_image}
use Rattle.store_model.proofs.Demand.{count_all, count_fresh}

-- What was sent, latest first: to a store of one version, or before and after a conversion.
pub data Trace (v : Format) (n c : ℕ) (version : Format) (image : List ℕ) (log : List Event) : Type 0 where
  plain :
      (sent : List Sent) → AllBytes sent → version ≡ v → log ≡ trace_from v (fresh v n c) sent → image ≡ image_after v (fresh v n c) sent
      → Trace v n c version image log
  across :
      (sent more : List Sent) → AllBytes sent → AllBytes more → v ≡ V1 → version ≡ V2 → T (shape_ok V2 n c)
      → log ≡ trace_from V2 (converted (image_after V1 (fresh V1 n c) sent)) more ++ trace_from V1 (fresh V1 n c) sent
      → image ≡ image_after V2 (converted (image_after V1 (fresh V1 n c) sent)) more
      → Trace v n c version image log

pub record Held (v : Format) (n c : ℕ) (version : Format) (image : List ℕ) (log : List Event) : Type 0 where
  pub cards : Cards
  pub image_is : image ≡ encode version cards
  pub good : GoodCards version cards
  pub count : length cards.cards ≡ n
  pub room : cards.room ≡ c
  pub trace : Trace v n c version image log

unfoldable pub held_fresh : (v : Format) (n c : ℕ) → T (shape_ok v n c) → Held v n c v (fresh v n c) []
unfolding image_after trace_from fresh_cards
held_fresh v n c shape =
    record {
      cards = fresh_cards v n c;
      image_is = sym (fresh_sound v n c shape).cards;
      good = (fresh_sound v n c shape).good;
      count = count_fresh v n c;
      room = refl;
      trace = plain [] tt refl refl refl;
    }

-- ---- the stored pairs

-- What holds of each stored pair before a request and, where the request is accepted, of the raised pair of its card,
-- holds of each stored pair after it; and of the pair in the reply what holds of no pair, of the card's stored pair and
-- of the raised one.
module _ (f : Format) (cs : Cards) (s : Sent) where
  abbrev command : Command
  command = fields_of f s.command

  abbrev own_card : Card
  own_card = get_or cs.cards command.card (no_card f)

  abbrev raised_pair : Pair
  raised_pair = larger_of_each own_card.pair (update command)

  pub stored_pairs : (P : ℕ → Pair → Type 0) → ((j : ℕ) → P j (get_or cs.cards j (no_card f)).pair) → (number_on f cs s ≡ 0 → P command.card raised_pair)
      → (number : ℕ) → number_on f cs s ≡ number
      → (j : ℕ) → P j (get_or (cards_by f number cs s).cards j (no_card f)).pair
  unfolding stepped raise
  stored_pairs P old new (suc i) e j = old j
  stored_pairs P old new zero e j = go (cases (eqb command.card j))
    where
      there : command.card < length cs.cards
      there = ltb-true command.card (length cs.cards) (passed f cs s e).exists

      next : Card
      next = stepped own_card command (payload f s.command)

      go : (eqb command.card j ≡ true) ⊎ (eqb command.card j ≡ false) → P j (get_or (set cs.cards command.card next) j (no_card f)).pair
      go (inl same) =
          subst (λ (i : ℕ). P i (get_or (set cs.cards command.card next) i (no_card f)).pair) (eqb-true command.card j same)
          (subst (λ (d : Card). P command.card d.pair) (sym (get_or-set_same cs.cards command.card next (no_card f) there)) (new e))
      go (inr other) =
          subst (λ (d : Card). P j d.pair) (sym (get_or-set_other cs.cards command.card j next (no_card f) (λ z. eqb-false command.card j other (sym z)))) (old j)

  pub reply_pair_lem : (P : Pair → Type 0) → P no_pair → P own_card.pair → (number_on f cs s ≡ 0 → P raised_pair) → (number : ℕ) → number_on f cs s ≡ number
      → P (event_by f number cs s).answer.pair
  unfolding replied raise
  reply_pair_lem P none old new zero e = new e
  reply_pair_lem P none old new (suc i) e = go (blank_reply (suc i))
    where
      go : (b : Bool) → P (cond b no_pair own_card.pair)
      go true = none
      go false = old

-- The pairs that a conversion leaves are those that stood there.
pub widened_pairs : (P : ℕ → Pair → Type 0) → ((j : ℕ) → P j no_pair) → (cs : Cards) → ((j : ℕ) → P j (get_or cs.cards j (no_card V1)).pair) → (j : ℕ)
    → P j (get_or (widened_cards cs).cards j (no_card V2)).pair
widened_pairs P nothing cs b j = go (cases (ltb j (length cs.cards)))
  where
    go : (ltb j (length cs.cards) ≡ true) ⊎ (ltb j (length cs.cards) ≡ false) → P j (get_or (widened_cards cs).cards j (no_card V2)).pair
    go (inl h) = subst (λ (d : Card). P j d.pair) (sym (get_d_map cs.cards j (ltb-true j (length cs.cards) h))) (b j)
    go (inr h) =
        let past = ltb-false j (length cs.cards) h in
        let long = length-map cs.cards widened in
        subst (λ (d : Card). P j d.pair) (sym (get_or-eq_default (widened_cards cs).cards (no_card V2) (omega arith))) (nothing j)

-- ---- a request

abbrev pub cards_next : Format → Cards → Sent → Cards
cards_next v cs s = cards_by v (number_on v cs s) cs s

pub count_next : (f : Format) (cs : Cards) (s : Sent) → length (cards_next f cs s).cards ≡ length cs.cards
unfolding cards_from
count_next f cs s = count_all f cs (s ∷ [])

pub room_next : (f : Format) (cs : Cards) (s : Sent) (number : ℕ) → (cards_by f number cs s).room ≡ cs.room
room_next f cs s zero = refl
room_next f cs s (suc j) = refl

module _ (v : Format) (n c : ℕ) (version : Format) (image : List ℕ) (log : List Event) (s : Sent) (bytes : SentBytes s) where
  pub traced : Trace v n c version image log
      → Trace v n c version (serve version image s.command s.lent).image (event_of version s (serve version image s.command s.lent) ∷ log)
  unfolding trace_from image_after
  traced (plain sent b e l i) = plain (s ∷ sent) (bytes, b) e (rw (e, l, i)) (rw (e, i))
  traced (across sent more b m o e ok l i) = across sent (s ∷ more) b (bytes, m) o e ok (rw (e, l, i)) (rw (e, i))

  unfoldable pub held_send : Held v n c version image log
      → Held v n c version (serve version image s.command s.lent).image (event_of version s (serve version image s.command s.lent) ∷ log)
  held_send h =
      record {
        cards = cards_next version h.cards s;
        image_is =
            ap (λ (i : List ℕ). (serve version i s.command s.lent).image) h.image_is ∙ same_image version h.cards s h.good;
        good = good_more version h.cards s h.good bytes (number_on version h.cards s) refl;
        count = count_next version h.cards s ∙ h.count;
        room = room_next version h.cards s (number_on version h.cards s) ∙ h.room;
        trace = traced h.trace;
      }

-- ---- a conversion

-- A conversion that is answered 0 is of a shape that version 2 can have.
module _ (cs : Cards) (good : GoodCards V1 cs) (lent : ℕ) (e : convert_number (encode V1 cs) lent ≡ 0) where
  pub fits : makes V2 (count_of (encode V1 cs)) (room_of (encode V1 cs)) lent ≡ true
  fits =
      not-false (makes V2 (count_of (encode V1 cs)) (room_of (encode V1 cs)) lent)
      (none_applies (convert_rows (encode V1 cs) lent) ((unapplied (convert_rows (encode V1 cs) lent) tt).0 e) 14)

  pub wide_shape : T (shape_ok V2 (length cs.cards) cs.room)
  unfolding makes
  wide_shape =
      to_T (rw (count_back V1 cs good, room_back V1 cs good) at
      (and_left (shape_ok V2 (count_of (encode V1 cs)) (room_of (encode V1 cs))) (eqb lent (size_of V2 (count_of (encode V1 cs)) (room_of (encode V1 cs)))) fits))

  pub wide_image : converted (encode V1 cs) ≡ encode V2 (widened_cards cs)
  unfolding converted
  wide_image = ap (λ (l : Cards). encode V2 (widened_cards l)) (good_encodes V1 cs good).same

unfoldable pub held_convert : (v : Format) (n c : ℕ) (image : List ℕ) (log : List Event) (lent : ℕ) → Held v n c V1 image log → convert_number image lent ≡ 0
    → Held v n c V2 (converted image) log
unfolding image_after trace_from
held_convert v n c image log lent h e =
    record {
      cards = widened_cards cs;
      image_is = ap converted h.image_is ∙ wide_image cs h.good lent number;
      good = good_cards cs h.good wide;
      count = length-map cs.cards widened ∙ h.count;
      room = h.room;
      trace = go h.trace;
    }
  where
    cs : Cards
    cs = h.cards

    number : convert_number (encode V1 cs) lent ≡ 0
    number = subst (λ (i : List ℕ). convert_number i lent ≡ 0) h.image_is e

    wide : T (shape_ok V2 (length cs.cards) cs.room)
    wide = wide_shape cs h.good lent number

    ok : T (shape_ok V2 n c)
    ok = subst (λ (m : ℕ). T (shape_ok V2 n m)) h.room (subst (λ (m : ℕ). T (shape_ok V2 m cs.room)) h.count wide)

    go : Trace v n c V1 image log → Trace v n c V2 (converted image) log
    go (plain sent b same l i) = across sent [] b tt (sym same) refl ok (rw (← same) at l) (rw (← same) at (ap converted i))
    go (across sent more b m o old k l i) = other old
      where
        other : V1 ≡ V2 → Trace v n c V2 (converted image) log
        other z = let f : ◌≡◌ {A = ℕ} 0 1 = cc in absurd (omega arith)
