-- Two requests for different cards, on cards: neither sees the other, and both leave the same cards in either order. Assumes nothing.
use Prim.Native.Nat.{ℕ, zero, suc}
use mathlib.Core.Path.{◌≡◌, refl, sym, ap, ◌∙◌}
use mathlib.Core.Logic.{◌≢◌, ◌⊎◌, inl, inr}
use mathlib.Core.List.{List, [], ◌∷◌}
use mathlib.Core.Bool.{true, false}
use lib.ListN.{length, set, length-set}
use lib.Seq.{get_or-set_other}
use Rattle.formats.specs.Format.{Format}
use Rattle.lists.proofs.Tests.{cases}
use Rattle.commands.specs.Bytes.{fields_of, payload, formed}
use Rattle.guard.specs.Replies.{replied}
use Rattle.image.specs.Image.{Card, Cards, no_card}
use Rattle.store_model.specs.Serve.{card_of, stepped, cards_after}
use Rattle.store_model.specs.Words.{Sent}
use Rattle.store_model.proofs.Machine.{number_on, event_by, cards_by, passed}
use Rattle.history_claims.specs.Swaps.{Apart}

set_comm : {A : Type 0} (l : List A) (i j : ℕ) (a b : A) → i ≢ j → set (set l i a) j b ≡ set (set l j b) i a
set_comm [] i j a b h = refl
set_comm (x ∷ l) zero zero a b h = absurd (h refl)
set_comm (x ∷ l) zero (suc j) a b h = refl
set_comm (x ∷ l) (suc i) zero a b h = refl
set_comm {A} (x ∷ l) (suc i) (suc j) a b h = ap (λ (r : List A). x ∷ r) (set_comm l i j a b (λ e. h (ap suc e)))

module _ (v : Format) where
  -- Two stores look the same to a request: the card that it names, N and C.
  record Alike (cs ds : Cards) (s : Sent) : Type 0 where
    card : card_of v cs (fields_of v s.command) ≡ card_of v ds (fields_of v s.command)
    count : length cs.cards ≡ length ds.cards
    room : cs.room ≡ ds.room

  alike_number : {cs ds : Cards} {s : Sent} → Alike cs ds s → number_on v cs s ≡ number_on v ds s
  alike_number h = rw (h.card, h.count, h.room)

  alike_event : {cs ds : Cards} {s : Sent} → Alike cs ds s → event_by v (number_on v cs s) cs s ≡ event_by v (number_on v ds s) ds s
  alike_event h = rw (h.card, h.count, h.room)

  -- A malformed request gets 1 and zeros, whatever the cards are.
  module _ (cs : Cards) (s : Sent) (e : formed v s.command ≡ false) where
    malformed_number : number_on v cs s ≡ 1
    malformed_number = rw e

    malformed_event : (ds : Cards) → event_by v (number_on v cs s) cs s ≡ event_by v (number_on v ds s) ds s
    unfolding replied
    malformed_event ds = rw e

  -- The card after an accepted command.
  abbrev after : Cards → Sent → Card
  after cs s = stepped (card_of v cs (fields_of v s.command)) (fields_of v s.command) (payload v s.command)

  module _ (cs : Cards) (a b : Sent) (apart : Apart v a b) where
    -- What an accepted request leaves looks the same to a well-formed one for another card.
    alike_after : number_on v cs a ≡ 0 → formed v b.command ≡ true → Alike (cards_after v cs a.command) cs b
    alike_after e f =
        record {
          card =
              get_or-set_other cs.cards (fields_of v a.command).card (fields_of v b.command).card (after cs a) (no_card v)
              (λ z. apart (passed v cs a e).well_formed f (sym z));
          count = length-set cs.cards (fields_of v a.command).card (after cs a);
          room = refl;
        }

    module _ (m : ℕ) (e : number_on v cs a ≡ m) where
      -- The second request does not see the first.
      pub unseen_event : event_by v (number_on v (cards_by v m cs a) b) (cards_by v m cs a) b ≡ event_by v (number_on v cs b) cs b
      unseen_event = go m e (cases (formed v b.command))
        where
          go : (m : ℕ) → number_on v cs a ≡ m → (formed v b.command ≡ true) ⊎ (formed v b.command ≡ false)
              → event_by v (number_on v (cards_by v m cs a) b) (cards_by v m cs a) b ≡ event_by v (number_on v cs b) cs b
          go (suc j) e f = refl
          go zero e (inl f) = alike_event (alike_after e f)
          go zero e (inr f) = malformed_event (cards_after v cs a.command) b f cs

      pub unseen_number : number_on v (cards_by v m cs a) b ≡ number_on v cs b
      unseen_number = go m e (cases (formed v b.command))
        where
          go : (m : ℕ) → number_on v cs a ≡ m → (formed v b.command ≡ true) ⊎ (formed v b.command ≡ false)
              → number_on v (cards_by v m cs a) b ≡ number_on v cs b
          go (suc j) e f = refl
          go zero e (inl f) = alike_number (alike_after e f)
          go zero e (inr f) = malformed_number (cards_after v cs a.command) b f ∙ sym (malformed_number cs b f)

  -- The cards after both, in either order.
  pub same_cards : (cs : Cards) (a b : Sent) → Apart v a b → (m n : ℕ) → number_on v cs a ≡ m → number_on v cs b ≡ n
      → cards_by v n (cards_by v m cs a) b ≡ cards_by v m (cards_by v n cs b) a
  same_cards cs a b apart (suc j) n e f = refl
  same_cards cs a b apart zero (suc j) e f = refl
  same_cards cs a b apart zero zero e f =
      let fa = (passed v cs a e).well_formed in
      let fb = (passed v cs b f).well_formed in
      let other : Apart v b a = λ p q z. apart q p (sym z) in
      rw ((alike_after cs a b apart e fb).card, (alike_after cs b a other f fa).card)
      (ap (λ (l : List Card). record { room = cs.room; cards = l })
      (set_comm cs.cards (fields_of v a.command).card (fields_of v b.command).card (after cs a) (after cs b) (λ z. apart fa fb z)))
