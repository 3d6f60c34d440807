-- The entry, its blanks, the tail of the original, and the translations. Assumes nothing.
use Prim.Native.Nat.{◌+◌}
use native.Mathlib.Omega.{arith}
use mathlib.Core.Path.{sym, ◌∙◌}
use lib.Dec.{eqb}
use Rattle.lists.specs.Le.{field}
use Rattle.formats.specs.Format.{format_of}
use Rattle.stamps.specs.Stamp.{mark_whole}
use Rattle.lists.proofs.Tests.{to_T, and_in, and_left, and_right}
use Rattle.formats.proofs.Numbers.{numbers}
use Rattle.image.specs.Layout.{entry_place}
use Rattle.image.specs.Bytes.{entry_at}
use Rattle.image.specs.Image.{tail_zero}
use Rattle.image.proofs.Seen.{front_fails, front_length}
use Rattle.image.proofs.Bytes.{entry_fails, mark_decides, blank_fails, tail_fails, translations_decide, body_lies, entry_lies}
use Rattle.image.proofs.inner.rules.card_sound.Goals as goal

pub entry_at-e-requires : goal.entry_at-e-requires
entry_at-e-requires c =
    let given = c.requires in
    (entry_lies (format_of c.args.v) c.args.image.now given.0 given.1, (numbers (format_of c.args.v)).some)

pub returns-then-not-front_sound : goal.returns-then-not-front_sound
returns-then-not-front_sound c =
    let a = c.args in
    let fails = sym c.front_sound.ensures ∙ c.if-not-front_sound.true in
    sym (entry_fails (format_of a.v) a.image.now a.k
    (front_fails _ _ (rw (c.entry_at-e.ensures, c.room-c.ensures) at fails)))

pub mark_sound-requires : goal.mark_sound-requires
mark_sound-requires c = entry_lies (format_of c.args.v) c.args.image.now c.requires.0 c.requires.1

pub returns-then-not-mark_sound : goal.returns-then-not-mark_sound
returns-then-not-mark_sound c =
    let holds = sym c.front_sound.ensures ∙ c.if-not-front_sound.false in
    sym (mark_decides (format_of c.args.v) c.args.image.now c.args.k
    (rw (c.entry_at-e.ensures, c.room-c.ensures) at holds) (sym c.mark_sound.ensures ∙ c.if-not-mark_sound.true))

pub blank_zero-requires : goal.blank_zero-requires
blank_zero-requires c = entry_lies (format_of c.args.v) c.args.image.now c.requires.0 c.requires.1

pub returns-then-not-blank_zero : goal.returns-then-not-blank_zero
returns-then-not-blank_zero c = sym (blank_fails (format_of c.args.v) c.args.image.now c.args.k (sym c.blank_zero.ensures ∙ c.if-not-blank_zero.true))

pub tail_zero-requires : goal.tail_zero-requires
tail_zero-requires c =
    let a = c.args in
    let given = c.requires in
    let l = front_length c.room-c.result c.entry_at-e.result (sym c.front_sound.ensures ∙ c.if-not-front_sound.false) in
    (l, body_lies (format_of a.v) a.image.now c.body_place.ensures c.count-n.ensures c.room-c.ensures given.0 given.1 (omega arith))

pub returns-then-not-tail_zero : goal.returns-then-not-tail_zero
unfolding tail_zero
returns-then-not-tail_zero c =
    let a = c.args in
    let fails = sym c.tail_zero.ensures ∙ c.if-not-tail_zero.true in
    sym (tail_fails (format_of a.v) a.image.now a.k (rw (c.body_place.ensures, c.entry_at-e.ensures, c.room-c.ensures, c.count-n.ensures) at fails))

pub translations_sound-requires : goal.translations_sound-requires
translations_sound-requires c =
    let a = c.args in
    let front = sym c.front_sound.ensures ∙ c.if-not-front_sound.false in
    let mark = and_left (mark_whole (entry_at (format_of a.v) a.image.now a.k 0).mark) (eqb (field (entry_place (format_of a.v) a.k + 18) 2 a.image.now) 0)
    (sym c.mark_sound.ensures ∙ c.if-not-mark_sound.false) in
    (c.requires.0, c.requires.1, rw c.entry_at-e.ensures, to_T (and_in (rw (c.entry_at-e.ensures, c.room-c.ensures) at front) mark))

pub returns : goal.returns
unfolding tail_zero
returns c =
    let a = c.args in
    let tail = sym c.tail_zero.ensures ∙ c.if-not-tail_zero.false in
    c.translations_sound.ensures
    ∙ translations_decide (format_of a.v) a.image.now a.k
    (and_right (mark_whole (entry_at (format_of a.v) a.image.now a.k 0).mark) (eqb (field (entry_place (format_of a.v) a.k + 18) 2 a.image.now) 0)
    (sym c.mark_sound.ensures ∙ c.if-not-mark_sound.false))
    (sym c.blank_zero.ensures ∙ c.if-not-blank_zero.false)
    (rw (c.body_place.ensures, c.entry_at-e.ensures, c.room-c.ensures, c.count-n.ensures) at tail)
