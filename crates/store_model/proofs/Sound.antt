-- A request keeps a sound image sound, and bytes bytes. Assumes nothing.
use mathlib.Core.Path.{◌≡◌, refl, sym, subst, ap, ◌∙◌}
use mathlib.Core.Logic.{◌⊎◌, inl, inr}
use mathlib.Core.List.{List, [], ◌∷◌}
use mathlib.Core.Bool.{true, false}
use Prim.Native.Nat.{ℕ}
use Rattle.formats.specs.Format.{Format}
use Rattle.lists.specs.Parts.{Bytes}
use Rattle.lists.proofs.Tests.{cases, to_T, from_T}
use Rattle.image.specs.Image.{Cards, GoodCards, encode, decode, sound}
use Rattle.image_claims.proofs.Claims.{sound_reads_back, good_encodes}
use Rattle.store_model.specs.Serve.{serve}
use Rattle.store_model.specs.Words.{Sent, image_after}
use Rattle.store_model.specs.Claims.{SentBytes, AllBytes, StaysSound}
use Rattle.store_model.proofs.Machine.{number_on, cards_by}
use Rattle.store_model.proofs.Simulation.{good_more, same_image}
use Rattle.store_model.proofs.Versions.{turned}

-- The image after a request on a sound one is the bytes of cards by the rules.
record Left (f : Format) (image : List ℕ) : Type 0 where
  cards : Cards
  good : GoodCards f cards
  same : image ≡ encode f cards

left : (f : Format) (image : List ℕ) (s : Sent) → Bytes image → SentBytes s → sound f image ≡ true → Left f (serve f image s.command s.lent).image
left f image s b bs e =
    let back = sound_reads_back f image b (to_T e) in
    let n : ℕ = number_on f (decode f image) s in
    let cards : Cards = cards_by f n (decode f image) s in
    record {
      cards = cards;
      good = good_more f (decode f image) s back.good bs n refl;
      same = subst (λ (i : List ℕ). (serve f i s.command s.lent).image ≡ encode f cards) back.same (same_image f (decode f image) s back.good);
    }

pub stays_sound : StaysSound
stays_sound f image command reply b bc br e =
    let l = left f image (record { command = command; lent = reply }) b (record { command = bc; lent = br }) e in
    ap (sound f) l.same ∙ from_T (sound f (encode f l.cards)) (good_encodes f l.cards l.good).sounds

-- Any image of bytes, sound or not.
pub bytes_after : (f : Format) (image : List ℕ) (s : Sent) → Bytes image → SentBytes s → Bytes (serve f image s.command s.lent).image
bytes_after f image s b bs = go (cases (sound f image))
  where
    go : (sound f image ≡ true) ⊎ (sound f image ≡ false) → Bytes (serve f image s.command s.lent).image
    go (inl e) = let l = left f image s b bs e in subst Bytes (sym l.same) (good_encodes f l.cards l.good).bytes
    go (inr e) = subst Bytes (sym (turned f image s.command s.lent e).kept) b

pub bytes_all : (f : Format) (start : List ℕ) (sent : List Sent) → Bytes start → AllBytes sent → Bytes (image_after f start sent)
unfolding image_after
bytes_all f start [] b bs = b
bytes_all f start (s ∷ earlier) b bs = bytes_after f (image_after f start earlier) s (bytes_all f start earlier b bs.1) bs.0
