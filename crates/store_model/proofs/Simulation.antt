-- The store on bytes does what the store on cards does: from cards by the rules, the image after each request is the bytes of the cards after it,
-- and the events are the same. Assumes nothing.
use Prim.Native.Nat.{ℕ, zero, suc, ◌<◌}
use mathlib.Core.Path.{◌≡◌, refl, sym, ap, subst, ◌∙◌}
use mathlib.Core.Logic.{◌⊎◌, inl, inr}
use mathlib.Core.List.{List, [], ◌∷◌}
use mathlib.Core.Bool.{Bool, true, false, cond}
use borrow.Author.Tests.{ltb-true}
use lib.Dec.{T}
use lib.ListN.{length}
use Rattle.lists.specs.Parts.{Bytes}
use Rattle.lists.proofs.Tests.{cases, from_T}
use Rattle.commands.specs.Command.{Language, original, translation, writes}
use Rattle.commands.specs.Bytes.{fields_of, payload}
use Rattle.lists.specs.Table.{settled}
use Rattle.commands.specs.declared.Command.{Command}
use Rattle.commands.proofs.Languages.{writes_named}
use Rattle.guard.specs.Entry.{entry_sound, FitsEntry}
use Rattle.guard.specs.Judge.{raise}
use Rattle.guard.specs.declared.Entry.{Entry}
use Rattle.guard.proofs.Raise.{raise_sound, raise_fits}
use Rattle.formats.specs.Format.{Format, translations}
use Rattle.image.specs.Image.{Card, Cards, view, side_text, text, encode, decode, sound}
use Rattle.image.specs.Image.{GoodCard, GoodCards}
use Rattle.image.proofs.Cards.{good_with}
use Rattle.image_claims.proofs.Claims.{good_encodes}
use Rattle.store_model.specs.Serve.{card_of, stepped, cards_after, serve_by, serve}
use Rattle.store_model.specs.Words.{Sent, event_of, image_after, trace_from}
use Rattle.store_model.specs.Claims.{SentBytes, AllBytes}
use Rattle.commands.proofs.CommandBytes.{length_payload, fits_fields, language_within, Bytes_payload}
use Rattle.store_model.proofs.Machine.{number_on, event_by, cards_by, cards_from, events_from, Passed, passed}
use Rattle.store_model.proofs.Stepped.{count_step, text_step, seen_named, seen_other, edition_kept}
use Rattle.image.proofs.Mixed.{mixed, mixed_fits, mixed_sound}

-- ---- cards stay by the rules

module _ (f : Format) (cs : Cards) (s : Sent) (good : GoodCards f cs) (bytes : SentBytes s) where
  abbrev c : Command
  c = fields_of f s.command

  abbrev place : ℕ
  place = c.card

  abbrev stored : Card
  stored = card_of f cs c

  abbrev after : Card
  after = stepped stored c (payload f s.command)

  -- The entry that judges, raised.
  abbrev lifted : Entry
  lifted = raise (view c.language stored) c

  module _ (known : Passed f cs s) where
    was : GoodCard f cs.room stored
    was = good.each place (ltb-true place (length cs.cards) known.exists)

    within : c.language < translations f
    within = language_within f s.command known.well_formed

    has : c.language < length stored.translated
    has = subst (λ (n : ℕ). c.language < n) (sym was.count) within

    long : length (payload f s.command) ≡ c.length
    long = length_payload f s.command known.well_formed

    -- What holds of the raised entry, and of it with any translation as it was, holds of the card in every translation.
    seen : (P : Entry → Type 0) → P lifted → ((t : ℕ) → t < translations f → P (mixed (view t stored) lifted)) → (t : ℕ) → t < translations f → P (view t after)
    seen P new old t h = go (cases (writes (translation t) c))
      where
        go : (writes (translation t) c ≡ true) ⊎ (writes (translation t) c ≡ false) → P (view t after)
        go (inl e) =
            subst (λ (j : ℕ). P (view j after)) (writes_named c t e)
            (subst P (sym (seen_named stored c (payload f s.command) has long)) new)
        go (inr e) = subst P (sym (seen_other stored c (payload f s.command) has long t e)) (old t h)

    picked : (l : Language) (b : Bool) → Bytes (text l stored) → Bytes (cond b (payload f s.command) (text l stored))
    picked l true h = Bytes_payload f s.command bytes.command
    picked l false h = h

    text_bytes : (l : Language) → Bytes (text l stored) → Bytes (text l after)
    text_bytes l h = subst Bytes (sym (text_step stored c (payload f s.command) has l)) (picked l (writes l c) h)

    side_bytes : (side : ℕ) → Bytes (side_text side after)
    side_bytes zero = text_bytes original (was.bytes 0)
    side_bytes (suc t) = text_bytes (translation t) (was.bytes (suc t))

    -- The card after an accepted command is by the rules.
    good_after : GoodCard f cs.room after
    good_after =
        let fit = raise_fits known.judged (was.fits c.language within) (fits_fields f s.command bytes.command) in
        let rule = raise_sound known.judged (was.rules c.language within) in
        record {
          count = count_step stored c (payload f s.command) ∙ was.count;
          fits = seen FitsEntry fit (λ t h. mixed_fits (was.fits t h) fit);
          rules =
              seen (λ (e : Entry). T (entry_sound cs.room e)) rule
              (λ t h. mixed_sound cs.room (view t stored) lifted (was.rules t h) rule (edition_kept (view c.language stored) c));
          bytes = side_bytes;
        }

  pub good_more : (number : ℕ) → number_on f cs s ≡ number → GoodCards f (cards_by f number cs s)
  good_more (suc j) e = good
  good_more zero e = good_with f cs place after good (good_after (passed f cs s e))

-- ---- the same events, and the bytes of the same cards

pub all_good : (f : Format) (start : Cards) (sent : List Sent) → GoodCards f start → AllBytes sent → GoodCards f (cards_from f start sent)
unfolding cards_from
all_good f start [] g b = g
all_good f start (s ∷ earlier) g b =
    good_more f (cards_from f start earlier) s (all_good f start earlier g b.1) b.0 (number_on f (cards_from f start earlier) s) refl

settled_encode : (f : Format) (number : ℕ) (new old : Cards) → settled number (encode f new) (encode f old) ≡ encode f (settled number new old)
settled_encode f zero new old = refl
settled_encode f (suc j) new old = refl

module _ (f : Format) (cs : Cards) (s : Sent) (good : GoodCards f cs) where
  is_sound : sound f (encode f cs) ≡ true
  is_sound = from_T (sound f (encode f cs)) (good_encodes f cs good).sounds

  reads_back : decode f (encode f cs) ≡ cs
  reads_back = (good_encodes f cs good).same

  pub same_event : event_of f s (serve f (encode f cs) s.command s.lent) ≡ event_by f (number_on f cs s) cs s
  unfolding serve serve_by
  same_event = rw (is_sound, reads_back)

  pub same_image : (serve f (encode f cs) s.command s.lent).image ≡ encode f (cards_by f (number_on f cs s) cs s)
  unfolding serve serve_by
  same_image = rw (is_sound, reads_back) (settled_encode f (number_on f cs s) (cards_after f cs s.command) cs)

pub same_images : (f : Format) (start : Cards) (sent : List Sent) → GoodCards f start → AllBytes sent → image_after f (encode f start) sent ≡ encode f (cards_from f start sent)
unfolding image_after cards_from
same_images f start [] g b = refl
same_images f start (s ∷ earlier) g b =
    ap (λ (image : List ℕ). (serve f image s.command s.lent).image) (same_images f start earlier g b.1)
    ∙ same_image f (cards_from f start earlier) s (all_good f start earlier g b.1)

pub same_events : (f : Format) (start : Cards) (sent : List Sent) → GoodCards f start → AllBytes sent → trace_from f (encode f start) sent ≡ events_from f start sent
unfolding trace_from events_from
same_events f start [] g b = refl
same_events f start (s ∷ earlier) g b =
    rw (same_images f start earlier g b.1, same_event f (cards_from f start earlier) s (all_good f start earlier g b.1), same_events f start earlier g b.1)
