-- Swapping two neighbouring commands for different cards. Assumes nothing.
use Prim.Native.Nat.{ℕ, zero, suc}
use mathlib.Core.Path.{◌≡◌, refl, sym, ap, subst, ◌∙◌}
use mathlib.Core.Logic.{◌⊎◌, inl, inr}
use mathlib.Core.List.{List, [], ◌∷◌}
use mathlib.Core.Bool.{true, false}
use Rattle.formats.specs.Format.{Format}
use Rattle.lists.specs.Parts.{Bytes}
use Rattle.lists.proofs.Tests.{cases, to_T}
use Rattle.image.specs.Image.{Cards, encode, decode, sound}
use Rattle.image.specs.Image.{GoodCards}
use Rattle.image_claims.proofs.Claims.{sound_reads_back}
use Rattle.store_model.specs.Serve.{serve}
use Rattle.store_model.specs.Words.{Sent, Event, event_of, image_after, trace_from}
use Rattle.store_model.specs.Claims.{SentBytes}
use Rattle.store_model.proofs.Machine.{number_on, cards_by}
use Rattle.store_model.proofs.Simulation.{good_more, same_event, same_image}
use Rattle.store_model.proofs.Sound.{bytes_all}
use Rattle.store_model.proofs.Versions.{turned}
use Rattle.history_claims.specs.Swaps.{swap, Apart, Swapping}
use Rattle.history_claims.proofs.Commute.{unseen_event, unseen_number, same_cards}

module _ (v : Format) where
  -- ---- one request on any image of bytes

  abbrev pub image_by : List ℕ → Sent → List ℕ
  image_by image s = (serve v image s.command s.lent).image

  abbrev pub event : List ℕ → Sent → Event
  event image s = event_of v s (serve v image s.command s.lent)

  -- An unsound image: nothing is written.
  pub unsound_image : (image : List ℕ) (s : Sent) → sound v image ≡ false → image_by image s ≡ image
  unsound_image image s e = (turned v image s.command s.lent e).kept

  -- ---- two requests

  -- b after a, against b before a.
  pub record Exchanged (image : List ℕ) (a b : Sent) : Type 0 where
    pub image_same : image_by (image_by image a) b ≡ image_by (image_by image b) a
    pub first : event (image_by image b) a ≡ event image a
    pub second : event (image_by image a) b ≡ event image b

  module _ (cs : Cards) (good : GoodCards v cs) (a b : Sent) (ba : SentBytes a) where
    abbrev na : ℕ
    na = number_on v cs a

    good_a : GoodCards v (cards_by v na cs a)
    good_a = good_more v cs a good ba na refl

    seen : Apart v a b → event (image_by (encode v cs) a) b ≡ event (encode v cs) b
    seen apart =
        ap (λ (i : List ℕ). event i b) (same_image v cs a good)
        ∙ same_event v (cards_by v na cs a) b good_a
        ∙ unseen_event v cs a b apart na refl
        ∙ sym (same_event v cs b good)

    both : Apart v a b → image_by (image_by (encode v cs) a) b ≡ encode v (cards_by v (number_on v cs b) (cards_by v na cs a) b)
    both apart =
        ap (λ (i : List ℕ). image_by i b) (same_image v cs a good)
        ∙ same_image v (cards_by v na cs a) b good_a
        ∙ ap (λ (n : ℕ). encode v (cards_by v n (cards_by v na cs a) b)) (unseen_number v cs a b apart na refl)

  exchanged_cards : (cs : Cards) → GoodCards v cs → (a b : Sent) → SentBytes a → SentBytes b → Apart v a b → Exchanged (encode v cs) a b
  exchanged_cards cs good a b ba bb apart =
      let other : Apart v b a = λ p q z. apart q p (sym z) in
      record {
        image_same =
            both cs good a b ba apart
            ∙ ap (encode v) (same_cards v cs a b apart (number_on v cs a) (number_on v cs b) refl refl)
            ∙ sym (both cs good b a bb other);
        first = seen cs good b a bb other;
        second = seen cs good a b ba apart;
      }

  exchanged : (image : List ℕ) → Bytes image → (a b : Sent) → SentBytes a → SentBytes b → Apart v a b → Exchanged image a b
  exchanged image bytes a b ba bb apart = go (cases (sound v image))
    where
      go : (sound v image ≡ true) ⊎ (sound v image ≡ false) → Exchanged image a b
      go (inl e) =
          let back = sound_reads_back v image bytes (to_T e) in
          subst (λ (i : List ℕ). Exchanged i a b) back.same (exchanged_cards (decode v image) back.good a b ba bb apart)
      go (inr e) =
          let at_a = unsound_image image a e in
          let at_b = unsound_image image b e in
          record {
            image_same = rw (at_a, at_b, at_a);
            first = ap (λ (i : List ℕ). event i a) at_b;
            second = ap (λ (i : List ℕ). event i b) at_a;
          }

-- ---- lists of requests

pub swapping : Swapping
unfolding image_after trace_from swap
swapping v start bs [] b zero apart = record { image = refl; trace = refl }
swapping v start bs [] b (suc i) apart = record { image = refl; trace = refl }
swapping v start bs (s ∷ []) b zero apart = record { image = refl; trace = refl }
swapping v start bs (s ∷ t ∷ earlier) b zero apart =
    let image : List ℕ = image_after v start earlier in
    let x = exchanged v image (bytes_all v start earlier bs b.1.1) s t b.0 b.1.0 apart in
    record {
      image = x.image_same;
      trace = rw (x.first, x.second);
    }
swapping v start bs (s ∷ earlier) b (suc i) apart =
    let rest = swapping v start bs earlier b.1 i apart in
    record {
      image = ap (λ (image : List ℕ). image_by v image s) rest.image;
      trace =
          ap (λ (image : List ℕ). event v image s ∷ trace_from v start (swap i earlier)) rest.image
          ∙ ap (λ (trace : List Event). event v (image_after v start earlier) s ∷ trace) rest.trace;
    }
