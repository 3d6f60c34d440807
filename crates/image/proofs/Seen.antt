-- The rules of an entry in two: those of its card, and those that go by the translation that it is seen in. Assumes nothing.
use Prim.Native.Nat.{ℕ, ◌+◌, ◌*◌, ◌≤◌}
use native.Mathlib.Omega.{arith}
use mathlib.Core.Path.{◌≡◌, refl, sym, ap, ◌∙◌}
use mathlib.Core.List.{List, [], ◌∷◌}
use mathlib.Core.Bool.{Bool, true, false, not, ◌&&◌, ◌||◌}
use borrow.Author.Tests.{le-leb, leb-true}
use lib.Dec.{leb, eqb}
use lib.ListN.{length}
use Rattle.lists.specs.Parts.{part}
use Rattle.lists.specs.Le.{field}
use Rattle.lists.specs.Table.{all, all_from}
use Rattle.lists.proofs.Parts.{part_part}
use Rattle.lists.proofs.Tests.{and_left, and_right}
use Rattle.slices.proofs.Joined.{joined}
use Rattle.stamps.specs.Stamp.{stamp_valid, mark_whole}
use Rattle.guard.specs.Entry.{entry_sound}
use Rattle.guard.specs.declared.Entry.{Entry}
use Rattle.formats.specs.Format.{Format, entry_size}
use Rattle.formats.proofs.Numbers.{numbers}
use Rattle.image.specs.Layout.{entry_place}
use Rattle.image.specs.Bytes.{room_of, read_entry, entry_at}
use Rattle.image.specs.inner.Tests.{text_tests, front_tests, card_tests}

-- In the order of the rules the mark stands before the original.
in_two : (a b d o p t l q : Bool) →
    all (a ∷ b ∷ d ∷ o ∷ t ∷ l ∷ p ∷ q ∷ []) ≡ ((a && b && (o && true && p) && d) && (t && l && q))
unfolding all all_from
in_two true true true true true true true q = refl
in_two true true true true true true false q = refl
in_two true true true true true false l q = refl
in_two true true true true false true true q = refl
in_two true true true true false true false q = refl
in_two true true true true false false l q = refl
in_two true true true false p t l q = refl
in_two true true false true true t l q = refl
in_two true true false true false t l q = refl
in_two true true false false p t l q = refl
in_two true false d o p t l q = refl
in_two false b d o p t l q = refl

pub entry_in_two : (room : ℕ) (e : Entry) →
    entry_sound room e ≡ (card_tests room e && text_tests e.edition e.from e.translation room)
unfolding entry_sound
entry_in_two room e =
    rw (le-leb e.edition e.edition (omega arith))
    (in_two (stamp_valid e.pair.s) (stamp_valid e.pair.x) (mark_whole e.mark) (leb e.original room)
    (not (eqb e.edition 0) || eqb e.original 0) (leb e.translation room) (leb e.from e.edition)
    (not (eqb e.from 0) || eqb e.translation 0))

-- Where a card's entry keeps the rules of its card, only those of a text are left in each translation.
pub seen_too : (f : Format) (image : List ℕ) (k t room : ℕ) → card_tests room (entry_at f image k 0) ≡ true →
    text_tests (entry_at f image k 0).edition (entry_at f image k t).from (entry_at f image k t).translation room
    ≡ entry_sound room (entry_at f image k t)
unfolding entry_at read_entry
seen_too f image k t room h =
    let e = entry_at f image k t in
    let own : card_tests room e ≡ true = h in
    sym (entry_in_two room e ∙ ap (λ (b : Bool). b && text_tests e.edition e.from e.translation room) own)

-- The same by the numbers that were read.
pub seen_read : (f : Format) (image : List ℕ) (k t : ℕ) {edition from count room : ℕ} {r : Bool} →
    card_tests (room_of image) (entry_at f image k 0) ≡ true → edition ≡ (entry_at f image k 0).edition → from ≡ (entry_at f image k t).from →
    count ≡ (entry_at f image k t).translation → room ≡ room_of image → r ≡ text_tests edition from count room →
    r ≡ entry_sound (room_of image) (entry_at f image k t)
seen_read f image k t h p q s m e = e ∙ rw (p, q, s, m) (seen_too f image k t (room_of image) h)

-- Where those of its card fail, so do the entry's; where they hold, the original fits.
card_fails : (room : ℕ) (e : Entry) → card_tests room e ≡ false → entry_sound room e ≡ false
card_fails room e h = entry_in_two room e ∙ ap (λ (b : Bool). b && text_tests e.edition e.from e.translation room) h

pub front_fails : (room : ℕ) (e : Entry) → front_tests room e ≡ false → entry_sound room e ≡ false
front_fails room e h = card_fails room e (ap (λ (b : Bool). b && mark_whole e.mark) h)

pub mark_fails : (room : ℕ) (e : Entry) → front_tests room e ≡ true → mark_whole e.mark ≡ false → entry_sound room e ≡ false
mark_fails room e g h = card_fails room e (rw (g, h))

pub front_length : (room : ℕ) (e : Entry) → front_tests room e ≡ true → e.original ≤ room
front_length room e h =
    let text : text_tests e.edition e.edition e.original room ≡ true =
    and_right (stamp_valid e.pair.s && stamp_valid e.pair.x) (text_tests e.edition e.edition e.original room) h in
    let front : (leb e.original room && leb e.edition e.edition) ≡ true =
    and_left (leb e.original room && leb e.edition e.edition) (not (eqb e.edition 0) || eqb e.original 0) text in
    leb-true e.original room (and_left (leb e.original room) (leb e.edition e.edition) front)

-- Eight zero bytes are a mark that is none, with the zero between its numbers.
pub no_mark_lem : (bytes : List ℕ) → 24 ≤ length bytes → {a : ℕ} → a ≡ field 16 8 bytes → a ≡ 0 →
    true ≡ (mark_whole (record { desk = field 16 2 bytes; transaction = field 20 4 bytes }) && eqb (field 18 2 bytes) 0)
no_mark_lem bytes h p z =
    let none : field 16 8 bytes ≡ 0 = sym p ∙ z in
    let first : field 18 6 bytes * 65536 + field 16 2 bytes ≡ field 16 8 bytes = joined 16 2 6 bytes (omega (arith, h)) in
    let rest : field 20 4 bytes * 65536 + field 18 2 bytes ≡ field 18 6 bytes = joined 18 2 4 bytes (omega (arith, h)) in
    let one : field 16 2 bytes ≡ 0 = omega (arith, first, none) in
    let two : field 18 2 bytes ≡ 0 = omega (arith, first, none, rest) in
    let three : field 20 4 bytes ≡ 0 = omega (arith, first, none, rest) in
    rw (one, two, three)

-- The mark of an entry's bytes is the card's.
pub mark_there : (f : Format) (image : List ℕ) (k : ℕ) {at : ℕ} {r : Bool} → at ≡ entry_place f k →
    r ≡ (mark_whole (record { desk = field 16 2 (part at (entry_size f) image); transaction = field 20 4 (part at (entry_size f) image) })
    && eqb (field 18 2 (part at (entry_size f) image)) 0) →
    r ≡ (mark_whole (entry_at f image k 0).mark && eqb (field (entry_place f k + 18) 2 image) 0)
unfolding entry_at read_entry
mark_there f image k {at} p e =
    let n = numbers f in
    e ∙ rw (p, part_part (entry_place f k) (entry_size f) 18 2 image (omega (arith, n)))
