-- What the writes of an accepted command make of the bytes of cards. Assumes nothing.
use Prim.Native.Nat.{ℕ, zero, suc, ◌+◌, ◌*◌, ◌≤◌, ◌<◌}
use native.Mathlib.Omega.{arith}
use native.Mathlib.Nat.{mul-le-mul_right}
use native.Mathlib.Numerals.{add-one}
use mathlib.Core.Path.{◌≡◌, refl, sym, ap, subst, ◌∙◌}
use mathlib.Core.Logic.{◌⊎◌, inl, inr}
use mathlib.Core.List.{List}
use mathlib.Core.Bool.{Bool, true, false, cond, and-false}
use borrow.Author.Tests.{eqb-true, eqb-false, eq-eqb, ne_eqb}
use lib.Dec.{T, eqb}
use lib.ListN.{length}
use Rattle.lists.specs.Parts.{part, splice, concat_map, Bytes}
use Rattle.lists.proofs.ConcatMap.{tabulate_ext, length_tabulate}
use Rattle.lists.proofs.Parts.{splice_before, length_splice}
use Rattle.lists.proofs.Tests.{cases, to_T}
use Rattle.commands.specs.Command.{translation, original, writes_translation, writes}
use Rattle.commands.specs.declared.Command.{Command}
use Rattle.guard.specs.Judge.{raise}
use Rattle.guard.specs.declared.Entry.{Entry}
use Rattle.formats.specs.Format.{Format, translations, entry_size}
use Rattle.image.specs.Layout.{header_size, most_room, sides, entry_place, body_place}
use Rattle.image.specs.Bytes.{entry_bytes, pad, count_of, room_of, entry_at}
use Rattle.image.specs.Image.{Card, view, side_text, with_card, card_entry, bodies, translation_at, card_at, encode, decode, tail_zero, sound}
use Rattle.image.proofs.Encode.{length_pad}
use Rattle.image.proofs.Entry.{entry_bytes_ext}
use Rattle.image.proofs.Decode.{count_decode, room_decode, card_decode, view_at, entry_lies, body_lies, side_length, side_fits, side_tail, places, entry_back, long, encode_decode}
use Rattle.image.proofs.Put.{side_written, put_entry, put_text_entry}
use Rattle.image.specs.inner.Write.{stamps_with, original_with, translation_with, entry_with, over_old}
use Rattle.image.proofs.Written.{over_body}
use Rattle.image.proofs.EntryWritten.{seen_after, entry_written, stamps_enough, original_enough, translation_enough}
use Rattle.store_model.specs.Serve.{stepped}
use Rattle.store_model.proofs.Stepped.{text_step, seen_named, seen_other}
use Rattle.store.specs.inner.Carried.{body_written, text_written, act_written}
use Rattle.store.proofs.Texts.{one_original, one_translation}

-- ---- the card after an accepted command

module _ (f : Format) (card : Card) (c : Command) (t : List ℕ) (size : length t ≡ c.length) (known : c.language < length card.translated) where
  abbrev now : Card
  now = stepped card c t

  abbrev lifted : Entry
  lifted = raise (view c.language card) c

  -- In each language the card is seen as the raised entry says, or as it was.
  seen_own : seen_after c.language lifted (λ (i : ℕ). view i card) c.language ≡ view c.language now
  seen_own = rw (eq-eqb c.language c.language refl) (sym (seen_named card c t known size))

  pub seen_now : (j : ℕ) → seen_after c.language lifted (λ (i : ℕ). view i card) j ≡ view j now
  seen_now j = go (cases (eqb j c.language))
    where
      go : (eqb j c.language ≡ true) ⊎ (eqb j c.language ≡ false) → seen_after c.language lifted (λ (i : ℕ). view i card) j ≡ view j now
      go (inl e) = subst (λ (m : ℕ). seen_after c.language lifted (λ (i : ℕ). view i card) m ≡ view m now) (sym (eqb-true j c.language e)) seen_own
      go (inr e) =
          let apart : eqb c.language j ≡ false = ne_eqb c.language j (λ z. eqb-false j c.language e (sym z)) in
          let other : writes (translation j) c ≡ false = rw apart (and-false (writes_translation c)) in
          rw e (sym (seen_other card c t known size j other))

  -- The text of each side: the payload where the command writes that side, else as it was.
  abbrev writes_side : ℕ → Bool
  writes_side zero = writes original c
  writes_side (suc j) = writes (translation j) c

  text_of : (side : ℕ) → side_text side now ≡ cond (writes_side side) t (side_text side card)
  unfolding stepped
  text_of zero = refl
  text_of (suc j) = text_step card c t known (translation j)

  text_new : (side : ℕ) → writes_side side ≡ true → side_text side now ≡ t
  text_new side h = text_of side ∙ rw h

  text_kept : (side : ℕ) → writes_side side ≡ false → side_text side now ≡ side_text side card
  text_kept side h = text_of side ∙ rw h

  -- One side is written, or none.
  pub bodies_new : (room side : ℕ) → side < sides f → writes_side side ≡ true → ((j : ℕ) → (j ≡ side → ⊥) → writes_side j ≡ false)
      → bodies f room now ≡ splice (side * room) (pad room t) (bodies f room card)
  bodies_new room side h one others = side_written f room side t card now h (text_new side one) (λ j apart. text_kept j (others j apart))

  pub bodies_kept : (room : ℕ) → ((j : ℕ) → writes_side j ≡ false) → bodies f room now ≡ bodies f room card
  unfolding bodies
  bodies_kept room none = ap (concat_map (pad room)) (tabulate_ext (λ (s : ℕ). side_text s now) (λ (s : ℕ). side_text s card) (sides f) (λ j h. text_kept j (none j)))

-- ---- on a sound image

module _ (f : Format) (image : List ℕ) (b : Bytes image) (holds : T (sound f image)) (c : Command) (below : c.card < count_of image)
    (known : c.language < translations f) (t : List ℕ) (size : length t ≡ c.length) where
  abbrev k : ℕ
  k = c.card

  abbrev card : Card
  card = card_at f image k

  abbrev after : Card
  after = stepped card c t

  count : length card.translated ≡ translations f
  unfolding card_at
  count = length_tabulate (translation_at f image k) (translations f)

  listed : c.language < length card.translated
  listed = subst (λ (n : ℕ). c.language < n) (sym count) known

  exists : k < length (decode f image).cards
  exists = rw (count_decode f image) below

  module _ {e : Entry} (raised : e ≡ raise (entry_at f image k c.language) c) where
    raised_view : e ≡ raise (view c.language card) c
    raised_view = raised ∙ ap (λ (x : Entry). raise x c) (sym (view_at f image holds k below c.language known))

    -- The entry written into bytes that still have the old one.
    entry_now : (l : List ℕ) → length l ≡ length image → part (entry_place f k) (entry_size f) l ≡ part (entry_place f k) (entry_size f) image
        → entry_with f c.language e (entry_place f k) l ≡ splice (entry_place f k) (card_entry f after) l
    entry_now l same here =
        entry_written f c.language e (λ (i : ℕ). view i card) (entry_place f k) l known (rw same (entry_lies f image holds k below))
        (here ∙ sym (entry_back f image b holds k below))
        ∙ ap (λ (u : List ℕ). splice (entry_place f k) u l)
        (ap (λ (x : Entry). entry_bytes f (seen_after c.language x (λ (i : ℕ). view i card))) raised_view
        ∙ entry_bytes_ext f (seen_after c.language (raise (view c.language card) c) (λ (i : ℕ). view i card)) (λ (i : ℕ). view i after) (λ j h. seen_now f card c t size listed j))

    module _ (side : ℕ) (within : side < sides f) where
      abbrev place : ℕ
      place = body_place f (count_of image) (room_of image) k side

      behind_entries : entry_place f k + entry_size f ≤ place
      behind_entries =
          let more : (k + 1) * entry_size f ≤ count_of image * entry_size f = mul-le-mul_right (entry_size f) (omega arith) in
          omega arith

      inside : place + length (pad (room_of image) t) ≤ length image
      inside = rw (length_pad (room_of image) t) (body_lies f image holds k below side within)

      -- A text written, and then the entry.
      text_kept_entry : bodies f (room_of image) after ≡ splice (side * room_of image) (pad (room_of image) t) (bodies f (room_of image) card)
          → entry_with f c.language e (entry_place f k) (body_written f image k side t) ≡ encode f (with_card k after (decode f image))
      unfolding decode
      text_kept_entry changed =
          entry_now (body_written f image k side t) (length_splice place (pad (room_of image) t) image inside)
          (splice_before place (entry_place f k) (entry_size f) (pad (room_of image) t) image (omega (arith, inside)) behind_entries)
          ∙ (rw (encode_decode f image b holds, count_decode f image) at
          (put_text_entry f (decode f image) k exists after side t within (rw (card_decode f image k below) changed)))

    entry_alone : bodies f (room_of image) after ≡ bodies f (room_of image) card
        → entry_with f c.language e (entry_place f k) image ≡ encode f (with_card k after (decode f image))
    entry_alone same =
        entry_now image refl refl
        ∙ (rw (encode_decode f image b holds) at
        (put_entry f (decode f image) k exists after (rw (room_decode f image, card_decode f image k below) same)))

    keeps : entry_with f c.language e (entry_place f k) (text_written f image c t) ≡ encode f (with_card k after (decode f image))
    unfolding text_written
    keeps = go (writes original c) (writes_translation c) refl refl
      where
        only_original : writes original c ≡ true → (j : ℕ) → (j ≡ 0 → ⊥) → writes_side f card c t size listed j ≡ false
        only_original p zero apart = absurd (apart refl)
        only_original p (suc j) apart = let act = eqb-true c.act 3 p in rw act

        only_language : writes original c ≡ false → (j : ℕ) → (j ≡ suc c.language → ⊥) → writes_side f card c t size listed j ≡ false
        only_language p zero apart = p
        only_language p (suc j) apart =
            let other : eqb c.language j ≡ false = ne_eqb c.language j (λ z. apart (ap suc (sym z))) in
            rw other (and-false (writes_translation c))

        none : writes original c ≡ false → writes_translation c ≡ false → (j : ℕ) → writes_side f card c t size listed j ≡ false
        none p q zero = p
        none p q (suc j) = rw q

        go : (x y : Bool) → writes original c ≡ x → writes_translation c ≡ y →
            entry_with f c.language e (entry_place f k) (text_written f image c t) ≡ encode f (with_card k after (decode f image))
        go true y p q = rw p (text_kept_entry 0 (omega arith) (bodies_new f card c t size listed (room_of image) 0 (omega arith) p (only_original p)))
        go false true p q =
            let own : writes (translation c.language) c ≡ true = rw (q, eq-eqb c.language c.language refl) in
            rw (p, q) (text_kept_entry (suc c.language) (omega arith) (bodies_new f card c t size listed (room_of image) (suc c.language) (omega arith) own (only_language p)))
        go false false p q = rw (p, q) (entry_alone (bodies_kept f card c t size listed (room_of image) (none p q)))

    -- ---- the same where only what the command changes is written

    module _ (l : List ℕ) (same : length l ≡ length image) (here : part (entry_place f k) (entry_size f) l ≡ part (entry_place f k) (entry_size f) image) where
      stands : part (entry_place f k) (entry_size f) l ≡ entry_bytes f (λ (i : ℕ). view i card)
      stands = here ∙ sym (entry_back f image b holds k below)

      fits_in : entry_place f k + entry_size f ≤ length l
      fits_in = rw same (entry_lies f image holds k below)

      with_original : writes_translation c ≡ false → stamps_with e (entry_place f k) (original_with f e (entry_place f k) l) ≡ entry_with f c.language e (entry_place f k) l
      unfolding raise
      with_original q =
          original_enough f c.language e (λ (i : ℕ). view i card) (entry_place f k) l known fits_in stands
          (ap (λ (x : Entry). x.from) raised_view ∙ rw q)
          (ap (λ (x : Entry). x.translation) raised_view ∙ rw q)

      with_translation : writes original c ≡ false → stamps_with e (entry_place f k) (translation_with f c.language e (entry_place f k) l) ≡ entry_with f c.language e (entry_place f k) l
      unfolding raise
      with_translation p =
          translation_enough f c.language e (λ (i : ℕ). view i card) (entry_place f k) l known fits_in stands
          (ap (λ (x : Entry). x.edition) raised_view ∙ rw p)
          (ap (λ (x : Entry). x.original) raised_view ∙ rw p)

      with_none : writes original c ≡ false → writes_translation c ≡ false → stamps_with e (entry_place f k) l ≡ entry_with f c.language e (entry_place f k) l
      unfolding raise
      with_none p q =
          stamps_enough f c.language e (λ (i : ℕ). view i card) (entry_place f k) l known fits_in stands
          (ap (λ (x : Entry). x.edition) raised_view ∙ rw p)
          (ap (λ (x : Entry). x.original) raised_view ∙ rw p)
          (ap (λ (x : Entry). x.from) raised_view ∙ rw q)
          (ap (λ (x : Entry). x.translation) raised_view ∙ rw q)

    kept_long : (side : ℕ) → side < sides f → length (body_written f image k side t) ≡ length image
    kept_long side within = length_splice (place side within) (pad (room_of image) t) image (inside side within)

    kept_here : (side : ℕ) → side < sides f → part (entry_place f k) (entry_size f) (body_written f image k side t) ≡ part (entry_place f k) (entry_size f) image
    kept_here side within = splice_before (place side within) (entry_place f k) (entry_size f) (pad (room_of image) t) image (omega (arith, inside side within)) (behind_entries side within)

    pub keeps_parts : stamps_with e (entry_place f k) (act_written f image c e t) ≡ encode f (with_card k after (decode f image))
    unfolding act_written text_written
    keeps_parts = go (writes original c) (writes_translation c) refl refl ∙ keeps
      where
        go : (x y : Bool) → writes original c ≡ x → writes_translation c ≡ y →
            stamps_with e (entry_place f k) (act_written f image c e t) ≡ entry_with f c.language e (entry_place f k) (text_written f image c t)
        go true y p q =
            let act = eqb-true c.act 3 p in
            let none : writes_translation c ≡ false = rw act in
            rw p (with_original (body_written f image k 0 t) (kept_long 0 (omega arith)) (kept_here 0 (omega arith)) none)
        go false true p q = rw (p, q) (with_translation (body_written f image k (suc c.language) t) (kept_long (suc c.language) (omega arith)) (kept_here (suc c.language) (omega arith)) p)
        go false false p q = rw (p, q) (with_none image refl refl p q)

-- A sound image has a whole header.
pub header_in : (f : Format) (image : List ℕ) → sound f image ≡ true → header_size ≤ length image
header_in f image s = omega (arith, long f image (to_T s))

-- ---- the bytes with a command's payload written

module _ (f : Format) (image : List ℕ) (s : sound f image ≡ true) (c : Command) (below : c.card < count_of image) (known : c.language < translations f)
    {e : Entry} (p : e ≡ entry_at f image c.card c.language) (t : List ℕ) (fits : length t ≤ room_of image) where
  abbrev body_of : ℕ → ℕ
  body_of side = body_place f (count_of image) (room_of image) c.card side

  module _ (side : ℕ) (within : side < sides f) {at old : ℕ} (place : at ≡ body_of side) (same : old ≡ side_length f image (to_T s) c.card below side) where
    -- A payload fits the places that it is written to.
    side_room : (length t ≤ most_room) × (at + length t ≤ length image) × (at + old ≤ length image)
    side_room =
        let most = (places f image c.card (to_T s) below).shape.most in
        let lies = body_lies f image (to_T s) c.card below side within in
        let text = side_fits f image (to_T s) c.card below side within in
        (omega (arith, most, fits), omega (arith, lies, fits, place), omega (arith, lies, text, place, same))

    -- Over the old text it makes the whole body.
    side_over : {after : List ℕ} → after ≡ splice at (over_old old t) image → after ≡ body_written f image c.card side t
    unfolding tail_zero
    side_over done =
        done
        ∙ rw (place, same)
        (over_body (body_of side) (room_of image) (side_length f image (to_T s) c.card below side) t image fits
        (side_fits f image (to_T s) c.card below side within)
        (body_lies f image (to_T s) c.card below side within)
        (side_tail f image (to_T s) c.card below side within))

  module _ {at : ℕ} (place : at ≡ body_of 0) where
    pub original_room : (length t ≤ most_room) × (at + length t ≤ length image) × (at + e.original ≤ length image)
    original_room = side_room 0 (omega arith) place (one_original f image s c below known p)

    pub written_original : (r : Entry) {x : Entry} {after last : List ℕ} → x ≡ r → after ≡ splice at (over_old e.original t) image →
        last ≡ original_with f x (entry_place f c.card) after → writes original c ≡ true → last ≡ act_written f image c r t
    unfolding act_written
    written_original r {x} {after} same done more h =
        rw h (more ∙ ap (λ (y : Entry). original_with f y (entry_place f c.card) after) same ∙ ap (original_with f r (entry_place f c.card)) (side_over 0
        (omega arith) place (one_original f image s c below known p) done))

  module _ {at : ℕ} (place : at ≡ body_of (c.language + 1)) where
    here : at ≡ body_of (suc c.language)
    here = place ∙ ap body_of (add-one c.language)

    pub translation_room : (length t ≤ most_room) × (at + length t ≤ length image) × (at + e.translation ≤ length image)
    translation_room = side_room (suc c.language) (omega arith) here (one_translation f image s c below known p)

    pub written_translation : (r : Entry) {x : Entry} {after last : List ℕ} → x ≡ r → after ≡ splice at (over_old e.translation t) image →
        last ≡ translation_with f c.language x (entry_place f c.card) after → writes original c ≡ false → writes_translation c ≡ true → last ≡ act_written f image c r t
    unfolding act_written
    written_translation r {x} {after} same done more g h =
        rw (g, h) (more ∙ ap (λ (y : Entry). translation_with f c.language y (entry_place f c.card) after) same ∙ ap (translation_with f c.language r
        (entry_place f c.card)) (side_over (suc c.language) (omega arith) here (one_translation f image s c below known p) done))

pub written_none : (f : Format) (image : List ℕ) (c : Command) (r : Entry) (t : List ℕ) → writes original c ≡ false → writes_translation c ≡ false → image ≡ act_written f image c r t
unfolding act_written
written_none f image c r t h g = rw (h, g)
