-- The rules of the text, and its tail. Assumes nothing.
use Rattle.formats.specs.Format.{format_of}
use native.Mathlib.Numerals.{add-one}
use native.Mathlib.Omega.{arith}
use mathlib.Core.Path.{sym, ◌∙◌}
use Rattle.lists.proofs.Tests.{from_T}
use Rattle.formats.proofs.Numbers.{numbers}
use Rattle.image.specs.Bytes.{room_of, entry_at}
use Rattle.image.specs.Image.{tail_zero}
use Rattle.image.proofs.Bytes.{lengths, translation_fails, translation_holds, body_lies, entry_lies}
use Rattle.image.proofs.Seen.{seen_read}
use Rattle.image.proofs.inner.rules.translation_sound.Goals as goal

pub from_at-from-requires : goal.from_at-from-requires
from_at-from-requires c = let given = c.requires in (entry_lies (format_of c.args.v) c.args.image.now given.0 given.1, given.2)

pub length_at-count-requires : goal.length_at-count-requires
length_at-count-requires c = let given = c.requires in (entry_lies (format_of c.args.v) c.args.image.now given.0 given.1, given.2)

pub returns-then-not-text_sound : goal.returns-then-not-text_sound
returns-then-not-text_sound c =
    let a = c.args in
    let same = seen_read (format_of a.v) a.image.now a.k a.t (from_T _ c.requires.4) c.requires.3
    c.from_at-from.ensures c.length_at-count.ensures c.room-c.ensures
    c.text_sound.ensures in
    sym (translation_fails (format_of a.v) a.image.now a.k a.t (sym same ∙ c.if-not-text_sound.true))

pub overflow_add-t : goal.overflow_add-t
overflow_add-t c = let n = numbers (format_of c.args.v) in omega (arith, n, c.requires.2)

pub tail_zero-requires : goal.tail_zero-requires
tail_zero-requires c =
    let a = c.args in
    let given = c.requires in
    let same = seen_read (format_of a.v) a.image.now a.k a.t (from_T _ given.4) given.3
    c.from_at-from.ensures c.length_at-count.ensures c.room-c.ensures c.text_sound.ensures in
    let l = lengths (room_of a.image.now) (entry_at (format_of a.v) a.image.now a.k a.t) (sym same ∙ c.if-not-text_sound.false) in (
      rw (c.length_at-count.ensures, c.room-c.ensures) l.translation,
      body_lies (format_of a.v) a.image.now c.body_place.ensures
          c.count-n.ensures c.room-c.ensures given.0 given.1 (omega (arith, given.2)),
    )

pub returns : goal.returns
unfolding tail_zero
returns c =
    let a = c.args in
    let same = seen_read (format_of a.v) a.image.now a.k a.t (from_T _ c.requires.4) c.requires.3
    c.from_at-from.ensures c.length_at-count.ensures c.room-c.ensures
    c.text_sound.ensures in
    rw (
      c.tail_zero.ensures,
      c.body_place.ensures,
      add-one a.t,
      c.length_at-count.ensures,
      c.room-c.ensures,
      c.count-n.ensures,
    )
    (translation_holds (format_of a.v) a.image.now a.k a.t (sym same ∙ c.if-not-text_sound.false))
