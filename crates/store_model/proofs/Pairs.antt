-- The pair that a reply shows. Assumes nothing.
use Prim.Native.Nat.{ℕ, zero, suc, ◌<◌}
use native.Mathlib.Omega.{arith}
use mathlib.Core.Path.{◌≡◌, refl, sym, ap, subst, ◌∙◌}
use mathlib.Core.Logic.{◌⊎◌, inl, inr}
use mathlib.Core.List.{List, [], ◌∷◌, reverse}
use mathlib.Core.Bool.{true, false, cond}
use borrow.Author.Tests.{eqb-true, eqb-false, eq-eqb, ltb-true, ltb-false, not-false}
use lib.Dec.{T, eqb, ltb}
use lib.ListN.{length, get_or, set, replicate, length-replicate, get_or-replicate, get_or-eq_default}
use lib.Seq.{get_or-set_same, get_or-set_other}
use Rattle.lists.proofs.Table.{none_applies}
use Rattle.lists.proofs.Tests.{cases}
use Rattle.stamps.specs.Stamp.{no_pair}
use Rattle.commands.specs.Bytes.{fields_of, payload, formed}
use Rattle.guard.specs.Judge.{raise}
use Rattle.guard.specs.Replies.{replied, blank_reply}
use Rattle.formats.specs.Format.{Format}
use Rattle.image.specs.Layout.{shape_ok}
use Rattle.image.specs.Image.{Card, Cards, no_card, fresh}
use Rattle.image.specs.Image.{fresh_cards}
use Rattle.image_claims.proofs.Claims.{fresh_sound}
use Rattle.store_model.specs.Serve.{card_of, entry_of, stepped, serve, store_rows}
use Rattle.store_model.specs.Words.{Sent, Event, trace_from, command_of, trace_of}
use Rattle.store_model.specs.Claims.{AllBytes}
use Rattle.store_model.specs.Pairs.{largest_pair, PairShown}
use Rattle.store_model.proofs.Demand.{Along, along_split, bytes_reverse}
use Rattle.store_model.proofs.Exact.{exactly}
use Rattle.store_model.proofs.Machine.{number_on, event_by, cards_by, cards_from, events_from, passed, refused_other, accepted_at}
use Rattle.store_model.proofs.Simulation.{same_events}

-- The stored pair of each card is the largest that was accepted for it.
abbrev Pairs : Format → Cards → List Event → Type 0
Pairs f cs before = (k : ℕ) → (get_or cs.cards k (no_card f)).pair ≡ largest_pair k before

pub no_card_lem : (f : Format) (n k : ℕ) → get_or (replicate n (no_card f)) k (no_card f) ≡ no_card f
no_card_lem f n k = go (cases (ltb k n))
  where
    go : (ltb k n ≡ true) ⊎ (ltb k n ≡ false) → get_or (replicate n (no_card f)) k (no_card f) ≡ no_card f
    go (inl h) = get_or-replicate n k (no_card f) (no_card f) (ltb-true k n h)
    go (inr h) = get_or-eq_default (replicate n (no_card f)) (no_card f) (omega (arith, ltb-false k n h, length-replicate n (no_card f)))

pairs_fresh : (f : Format) (n c : ℕ) → Pairs f (fresh_cards f n c) []
unfolding fresh_cards
pairs_fresh f n c k = ap (λ (card : Card). card.pair) (no_card_lem f n k)

-- An accepted command raises the pair of its card to the largest with its own.
raised_pair_lem : (f : Format) (cs : Cards) (s : Sent) (before : List Event) → Pairs f cs before
    → (raise (entry_of f cs (fields_of f s.command)) (fields_of f s.command)).pair
    ≡ largest_pair (fields_of f s.command).card (event_by f 0 cs s ∷ before)
unfolding raise
raised_pair_lem f cs s before p =
    let place : ℕ = (fields_of f s.command).card in
    rw (accepted_at f cs s place ∙ eq-eqb place place refl, p place)

pairs_more : (f : Format) (cs : Cards) (s : Sent) (before : List Event) → Pairs f cs before → (number : ℕ) → number_on f cs s ≡ number
    → Pairs f (cards_by f number cs s) (event_by f number cs s ∷ before)
unfolding stepped
pairs_more f cs s before p (suc j) e k = rw (refused_other f j cs s k) (p k)
pairs_more f cs s before p zero e k = go (cases (eqb (fields_of f s.command).card k))
  where
    place : ℕ
    place = (fields_of f s.command).card

    after : Card
    after = stepped (card_of f cs (fields_of f s.command)) (fields_of f s.command) (payload f s.command)

    there : place < length cs.cards
    there = ltb-true place (length cs.cards) (passed f cs s e).exists

    go : (eqb place k ≡ true) ⊎ (eqb place k ≡ false)
        → (get_or (set cs.cards place after) k (no_card f)).pair ≡ largest_pair k (event_by f 0 cs s ∷ before)
    go (inl h) =
        subst (λ (j : ℕ). (get_or (set cs.cards place after) j (no_card f)).pair ≡ largest_pair j (event_by f 0 cs s ∷ before)) (eqb-true place k h)
        (ap (λ (card : Card). card.pair) (get_or-set_same cs.cards place after (no_card f) there) ∙ raised_pair_lem f cs s before p)
    go (inr h) =
        ap (λ (card : Card). card.pair) (get_or-set_other cs.cards place k after (no_card f) (λ z. eqb-false place k h (sym z)))
        ∙ rw (accepted_at f cs s k ∙ h) (p k)

-- What an event of the trace shows.
abbrev pub Shows : Event → List Event → Type 0
Shows e before = e.answer.pair ≡ cond (blank_reply e.answer.number) no_pair (largest_pair (command_of e).card (e ∷ before))

shows_one : (f : Format) (cs : Cards) (s : Sent) (before : List Event) → Pairs f cs before → (number : ℕ) → number_on f cs s ≡ number
    → Shows (event_by f number cs s) before
unfolding replied
shows_one f cs s before p zero e = raised_pair_lem f cs s before p
shows_one f cs s before p (suc j) e = rw (refused_other f j cs s (fields_of f s.command).card, p (fields_of f s.command).card)

module _ (f : Format) (n c : ℕ) where
  pairs_all : (sent : List Sent) → Pairs f (cards_from f (fresh_cards f n c) sent) (events_from f (fresh_cards f n c) sent)
  unfolding cards_from events_from
  pairs_all [] = pairs_fresh f n c
  pairs_all (s ∷ earlier) =
      pairs_more f (cards_from f (fresh_cards f n c) earlier) s (events_from f (fresh_cards f n c) earlier) (pairs_all earlier) (number_on f (cards_from f (fresh_cards f n c) earlier) s) refl

  shows_all : (sent : List Sent) → Along Shows (events_from f (fresh_cards f n c) sent)
  unfolding events_from
  shows_all [] = tt
  shows_all (s ∷ earlier) = (
    shows_one f (cards_from f (fresh_cards f n c) earlier) s (events_from f (fresh_cards f n c) earlier) (pairs_all earlier) (number_on f (cards_from f (fresh_cards f n c) earlier) s) refl,
    shows_all earlier,
  )

-- Of requests, latest first, from a fresh image.
pub shows_history : (f : Format) (n c : ℕ) → T (shape_ok f n c) → (sent : List Sent) → AllBytes sent → Along Shows (trace_from f (fresh f n c) sent)
shows_history f n c shape sent b =
    subst (Along Shows)
    (sym (ap (λ (image : List ℕ). trace_from f image sent) (sym (fresh_sound f n c shape).cards)
    ∙ same_events f (fresh_cards f n c) sent (fresh_sound f n c shape).good b))
    (shows_all f n c sent)

pub pair_shown : PairShown
unfolding trace_of
pair_shown f n c shape sent b later e before split =
    along_split Shows (trace_of f n c sent) later e before (shows_history f n c shape (reverse sent) (bytes_reverse sent [] b tt)) split

-- An accepted command is well formed.
pub accepted_formed : (f : Format) (image command reply : List ℕ) → (serve f image command reply).answer.number ≡ 0 → formed f command ≡ true
accepted_formed f image command reply e =
    not-false (formed f command)
    (none_applies (store_rows f image command (length reply)) ((exactly f image command reply).accepts.0 e) 1)
