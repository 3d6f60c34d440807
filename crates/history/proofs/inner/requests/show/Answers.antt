-- By the language that is read. Assumes nothing.
use native.Mathlib.Omega.{arith}
use mathlib.Core.Path.{sym, ap, ◌∙◌}
use lib.ListN.{length}
use Rattle.lists.proofs.Parts.{splice_nil}
use Rattle.history.proofs.Requests.{shows_original, shows_translation, shows_none_lem}
use Rattle.history.proofs.inner.requests.show.Goals as goal

pub put-requires : goal.put-requires
put-requires c = let same = ap length (shows_original _ c.args.c (sym c.reads_original.ensures ∙ c.if-reads_original.true) ∙ sym c.text_of.ensures.text) in omega (arith, same, c.requires)

pub returns-then-reads_original : goal.returns-then-reads_original
returns-then-reads_original c = rw (shows_original _ c.args.c (sym c.reads_original.ensures ∙ c.if-reads_original.true), ← c.text_of.ensures.text) c.put.ensures

pub put-requires-then-reads_translation : goal.put-requires-then-reads_translation
put-requires-then-reads_translation c =
    let same = ap length (shows_translation _ c.args.c (sym c.reads_original.ensures ∙ c.if-reads_original.false)
    (sym c.reads_translation.ensures ∙ c.if-reads_translation.true) ∙ sym c.text_of-then-reads_translation.ensures.text) in
    omega (arith, same, c.requires)

pub returns-then-reads_translation : goal.returns-then-reads_translation
returns-then-reads_translation c =
    rw (
      shows_translation _ c.args.c (sym c.reads_original.ensures ∙ c.if-reads_original.false) (sym c.reads_translation.ensures ∙ c.if-reads_translation.true),
      ← c.text_of-then-reads_translation.ensures.text,
    )
    c.put-then-reads_translation.ensures

pub returns-else-reads_translation : goal.returns-else-reads_translation
returns-else-reads_translation c =
    rw (shows_none_lem _ c.args.c (sym c.reads_original.ensures ∙ c.if-reads_original.false) (sym c.reads_translation.ensures ∙ c.if-reads_translation.false)) (sym (splice_nil 0 _))
