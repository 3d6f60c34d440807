-- The history engine keeps what it accepts, is equal to the guard until its first 22, and gives each number exactly when its row applies.
-- Assumes nothing.
use Prim.Native.Nat.{ℕ, zero, suc, ◌<◌}
use native.Mathlib.Omega.{arith}
use mathlib.Core.Path.{◌≡◌, refl, sym, ap, subst, ◌∙◌}
use mathlib.Core.List.{List, [], ◌∷◌, reverse}
use mathlib.Core.Bool.{Bool, false}
use borrow.Author.Tests.{eqb-true, ne_eqb}
use lib.Dec.{T}
use lib.ListN.{length}
use Rattle.formats.specs.Format.{V1}
use Rattle.lists.specs.Parts.{concat_map}
use Rattle.lists.specs.Table.{Row, first, listed}
use Rattle.lists.proofs.ConcatMap.{tabulate_is}
use Rattle.lists.proofs.Table.{given, unapplied, last_given, none_applies, first_all}
use Rattle.lists.proofs.Tests.{to_T, from_T}
use Rattle.commands.specs.Bytes.{fields_of}
use Rattle.guard.specs.Replies.{replied}
use Rattle.guard.specs.declared.Entry.{Entry}
use Rattle.image.specs.Layout.{shape_ok}
use Rattle.image.specs.Image.{Card, Cards, no_card, encode, decode, fresh}
use Rattle.image.specs.Image.{fresh_cards}
use Rattle.image_claims.proofs.Claims.{fresh_sound, good_encodes}
use Rattle.store_model.specs.Serve.{entry_of, serve}
use Rattle.store_model.specs.Words.{Sent, Event, image_after}
use Rattle.store_model.specs.Claims.{AllBytes}
use Rattle.store_model.proofs.Demand.{bytes_reverse, same_log}
use Rattle.store_model.proofs.Machine.{number_on, cards_from}
use Rattle.store_model.proofs.Simulation.{same_event, same_images, all_good}
use Rattle.history.specs.WorkedOut.{entry_from}
use Rattle.history.specs.Engine.{over_limits, guard_rows, engine_rows, deduced_by, deduced}
use Rattle.history_claims.specs.Claims.{card_from, cards_shown, kept_after, engine_events, engine_trace, Keeping, KeepsAccepted, EqualsGuard, FirstFull, EngineNumbers, history_numbers, EngineListed}
use Rattle.history_claims.proofs.Same.{Shows, shows_fresh, together, number_is, full_accepted, full_entry}
use Rattle.numbers.specs.Numbers.{HISTORY_FULL}

-- ---- what it keeps

none_over : over_limits [] ≡ false
unfolding concat_map
none_over = refl

pub keeps_accepted : KeepsAccepted
unfolding kept_after engine_events deduced deduced_by replied
keeps_accepted n c [] = record { those_accepted = refl; within_limits = none_over }
keeps_accepted n c (s ∷ earlier) = go (first rows) refl (keeps_accepted n c earlier)
  where
    kept : List (List ℕ)
    kept = kept_after n c earlier

    rows : List Row
    rows = engine_rows n c kept s.command (length s.lent)

    go : (m : ℕ) → first rows ≡ m → Keeping n c earlier → Keeping n c (s ∷ earlier)
    go zero e rest =
        record {
          those_accepted = rw e (ap (λ (l : List (List ℕ)). s.command ∷ l) rest.those_accepted);
          within_limits = rw e (none_applies rows ((unapplied rows tt).0 e) HISTORY_FULL);
        }
    go (suc m) e rest =
        record {
          those_accepted = rw (e, ne_eqb (suc m) 0 (λ z. omega arith)) rest.those_accepted;
          within_limits = rw e rest.within_limits;
        }

-- ---- equal to the guard

-- The cards that the engine works out are the cards that it shows.
shown : (n c : ℕ) (kept : List (List ℕ)) (cs : Cards) → Shows n c kept cs → cards_shown n c kept ≡ cs
unfolding cards_shown
shown n c kept cs s =
    rw (← s.count, ← s.room)
    (ap (λ (l : List Card). record { room = cs.room; cards = l })
    (tabulate_is (card_from kept) cs.cards (no_card V1) (λ i h. sym (s.each i (subst (λ (m : ℕ). i < m) s.count h)))))

module _ (n c : ℕ) (shape : T (shape_ok V1 n c)) (sent : List Sent) (b : AllBytes sent) where
  -- The requests, latest first, on the cards of a fresh store.
  abbrev sents : List Sent
  sents = reverse sent

  abbrev cards : Cards
  cards = cards_from V1 (fresh_cards V1 n c) sents

  image_is : image_after V1 (fresh V1 n c) sents ≡ encode V1 cards
  image_is =
      ap (λ (image : List ℕ). image_after V1 image sents) (sym (fresh_sound V1 n c shape).cards)
      ∙ same_images V1 (fresh_cards V1 n c) sents (fresh_sound V1 n c shape).good (bytes_reverse sent [] b tt)

  cards_are : decode V1 (image_after V1 (fresh V1 n c) sents) ≡ cards
  cards_are =
      ap (decode V1) image_is ∙ (good_encodes V1 cards (all_good V1 (fresh_cards V1 n c) sents (fresh_sound V1 n c shape).good (bytes_reverse sent [] b tt))).same

  number_there : (s : Sent) → (serve V1 (image_after V1 (fresh V1 n c) sents) s.command s.lent).answer.number ≡ number_on V1 cards s
  unfolding replied
  number_there s =
      ap (λ (image : List ℕ). (serve V1 image s.command s.lent).answer.number) image_is
      ∙ ap (λ (e : Event). e.answer.number)
      (same_event V1 cards s (all_good V1 (fresh_cards V1 n c) sents (fresh_sound V1 n c shape).good (bytes_reverse sent [] b tt)))

pub equals_guard : EqualsGuard
unfolding engine_trace
equals_guard n c shape sent b h =
    let t = together n c (fresh_cards V1 n c) (shows_fresh n c) (reverse sent) h in
    record {
      trace = t.trace ∙ sym (same_log V1 n c shape sent b);
      cards = shown n c (kept_after n c (reverse sent)) (cards n c shape sent b) t.cards ∙ sym (cards_are n c shape sent b);
    }

-- ---- the first 22

full_reply : (n c : ℕ) (kept : List (List ℕ)) (command reply : List ℕ) → first (engine_rows n c kept command (length reply)) ≡ HISTORY_FULL
    → (deduced n c kept command reply).answer ≡ replied HISTORY_FULL (entry_from kept (fields_of V1 command).card) (fields_of V1 command)
unfolding deduced deduced_by
full_reply n c kept command reply e = rw e

pub first_full : FirstFull
unfolding engine_trace
first_full n c shape sent b s h g =
    let kept : List (List ℕ) = kept_after n c (reverse sent) in
    let t = together n c (fresh_cards V1 n c) (shows_fresh n c) (reverse sent) h in
    let cs : Cards = cards n c shape sent b in
    let number : first (engine_rows n c kept s.command (length s.lent)) ≡ HISTORY_FULL =
    sym (number_is n c kept cs t.cards s) ∙ eqb-true _ HISTORY_FULL g in
    record {
      accepted_there = number_there n c shape sent b s ∙ full_accepted n c kept cs t.cards s number;
      replies_stored =
          full_reply n c kept s.command s.lent number
          ∙ ap (λ (e : Entry). replied HISTORY_FULL e (fields_of V1 s.command))
          (full_entry n c kept cs t.cards s number
          ∙ ap (λ (cs : Cards). entry_of V1 cs (fields_of V1 s.command)) (sym (cards_are n c shape sent b)));
    }

-- ---- each number

pub engine_numbers : EngineNumbers
unfolding deduced deduced_by replied
engine_numbers n c kept command reply =
    let rows : List Row = engine_rows n c kept command (length reply) in
    let guards : List Row = guard_rows n c kept command (length reply) in
    let over : Bool = over_limits (command ∷ kept) in
    let last = last_given guards over 21 tt refl in
    let passes = unapplied guards tt in
    record {
      refused = given rows tt;
      accepts = unapplied rows tt;
      full = (λ e. (passes.0 (last.0 e).0, to_T (last.0 e).1), λ h. last.1 (passes.1 h.0, from_T over h.1));
      stands = full_reply n c kept command reply;
      unchanged = λ m e. (rw e, rw e);
    }

pub engine_listed : EngineListed
unfolding deduced deduced_by replied
engine_listed n c kept command reply =
    first_all (listed history_numbers) (engine_rows n c kept command (length reply)) tt tt
