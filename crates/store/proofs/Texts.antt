-- The text that a command reads on a sound image. Assumes nothing.
use Prim.Native.Nat.{ℕ, suc, ◌+◌, ◌≤◌, ◌<◌}
use native.Mathlib.Omega.{arith}
use native.Mathlib.Numerals.{add-one}
use mathlib.Core.Path.{◌≡◌, sym, ap, ◌∙◌}
use mathlib.Core.List.{List}
use mathlib.Core.Bool.{true, false}
use lib.ListN.{length}
use Rattle.lists.specs.Parts.{part, splice}
use Rattle.lists.proofs.Parts.{splice_nil}
use Rattle.lists.proofs.Tests.{to_T}
use Rattle.commands.specs.Command.{original, reads, reads_translation}
use Rattle.commands.specs.declared.Command.{Command}
use Rattle.guard.specs.declared.Entry.{Entry}
use Rattle.guard.specs.Replies.{read_length}
use Rattle.formats.specs.Format.{Format, translations}
use Rattle.image.specs.Layout.{most_room, body_place}
use Rattle.image.specs.Bytes.{count_of, room_of, read_entry, entry_at}
use Rattle.image.specs.Image.{Card, Translation, card_at, sound}
use Rattle.image.proofs.Decode.{side_fits, body_lies, places, translation_at_lem}
use Rattle.store_model.specs.Serve.{text_read}

module _ (f : Format) (image : List ℕ) (s : sound f image ≡ true) (c : Command) (below : c.card < count_of image) (known : c.language < translations f)
    {e : Entry} (p : e ≡ entry_at f image c.card c.language) where
  -- The original's length is the same in whatever language the entry is seen.
  pub one_original : e.original ≡ (entry_at f image c.card 0).original
  unfolding entry_at read_entry
  one_original = ap (λ (x : Entry). x.original) p

  pub one_translation : e.translation ≡ (entry_at f image c.card c.language).translation
  one_translation = ap (λ (x : Entry). x.translation) p

  module _ {at : ℕ} (r : reads original c ≡ true) (place : at ≡ body_place f (count_of image) (room_of image) c.card 0) where
    pub original_fits : {lent : ℕ} → read_length e c ≤ lent → (e.original ≤ most_room) × (at + e.original ≤ length image) × (e.original ≤ lent)
    original_fits fits =
        let most = side_fits f image (to_T s) c.card below 0 (omega arith) in
        let lies = body_lies f image (to_T s) c.card below 0 (omega arith) in
        let room = (places f image c.card (to_T s) below).shape.most in
        (omega (arith, most, room, one_original), omega (arith, most, lies, one_original, place), rw r at fits)

    pub shows_original : (reply : List ℕ) {after : List ℕ} → after ≡ splice 0 (part at e.original image) reply → after ≡ splice 0 (text_read (card_at f image c.card) c) reply
    unfolding card_at
    shows_original reply copied = rw (r, ← place, ← one_original) copied

  module _ {at : ℕ} (o : reads original c ≡ false) (r : reads_translation c ≡ true) (place : at ≡ body_place f (count_of image) (room_of image) c.card (c.language + 1)) where
    here : at ≡ body_place f (count_of image) (room_of image) c.card (suc c.language)
    here = place ∙ ap (body_place f (count_of image) (room_of image) c.card) (add-one c.language)

    pub translation_fits : {lent : ℕ} → read_length e c ≤ lent → (e.translation ≤ most_room) × (at + e.translation ≤ length image) × (e.translation ≤ lent)
    translation_fits fits =
        let most = side_fits f image (to_T s) c.card below (suc c.language) (omega arith) in
        let lies = body_lies f image (to_T s) c.card below (suc c.language) (omega arith) in
        let room = (places f image c.card (to_T s) below).shape.most in
        (omega (arith, most, room, one_translation), omega (arith, most, lies, one_translation, here), rw (o, r) at fits)

    pub shows_translation : (reply : List ℕ) {after : List ℕ} → after ≡ splice 0 (part at e.translation image) reply → after ≡ splice 0 (text_read (card_at f image c.card) c) reply
    shows_translation reply copied =
        rw (o, r, ap (λ (u : Translation). u.text) (translation_at_lem f image c.card c.language known), ← here, ← one_translation) copied

-- A command that reads no text shows none.
pub shows_none_lem : (card : Card) (c : Command) (reply : List ℕ) → reads original c ≡ false → reads_translation c ≡ false → reply ≡ splice 0 (text_read card c) reply
shows_none_lem card c reply h g = rw (h, g) (sym (splice_nil 0 reply))
