-- Each `return` by the tests that lead there. Assumes nothing.
use native.Mathlib.Omega.{arith}
use mathlib.Core.Path.{◌≡◌, sym, ap, ◌∙◌}
use Rattle.formats.specs.Format.{V1}
use Rattle.std.proofs.lemmas.Slice.{between_from_start}
use Rattle.image.specs.Image.{claimed, sound}
use Rattle.image.proofs.InFront.{front_short, front_cut, front_sound_lem, front_none, front_there}
use Rattle.image.proofs.front.Goals as goal

pub returns-then-bytes-lt-HEADER : goal.returns-then-bytes-lt-HEADER
returns-then-bytes-lt-HEADER c = front_none _ (front_short _ c.if-bytes-lt-HEADER.true)

pub returns-in_err-image : goal.returns-in_err-image
returns-in_err-image c =
    let is : c.size_of-size.result ≡ claimed
    c.args.bytes.now = c.size_of-size.ensures ∙ rw
    (c.room-room.ensures, c.count-cards.ensures) in
    let gone = c.in_err-image.ensures.lookup in
    rw c.from_residual.ensures (front_none _ (front_cut _ _ is (omega arith) (omega (arith, gone.0))))

pub returns-then-not-sound : goal.returns-then-not-sound
returns-then-not-sound c =
    let is : c.size_of-size.result ≡ claimed
    c.args.bytes.now =
    c.size_of-size.ensures ∙ rw
    (c.room-room.ensures, c.count-cards.ensures) in
    let there = c.in_ok-image.ensures.lookup in
    front_none _
    (front_sound_lem _ _ is (omega arith) (omega (arith, there.0)) ∙ ap (sound V1) (sym (there.0.2 ∙ between_from_start c.args.bytes.now _)) ∙ sym c.sound.ensures ∙ c.if-not-sound.true)

pub returns : goal.returns
returns c =
    let is : c.size_of-size.result ≡ claimed
    c.args.bytes.now =
    c.size_of-size.ensures ∙ rw
    (c.room-room.ensures, c.count-cards.ensures) in
    let there = c.in_ok-image.ensures.lookup in
    front_there _ _ _ _
    (front_sound_lem _ _ is (omega arith) (omega (arith, there.0)) ∙ ap (sound V1) (sym (there.0.2 ∙ between_from_start c.args.bytes.now _)) ∙ sym c.sound.ensures ∙ c.if-not-sound.false)
    is
    c.count-cards.ensures
    c.room-room.ensures
