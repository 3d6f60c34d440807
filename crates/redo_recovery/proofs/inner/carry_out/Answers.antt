-- Malformed, no such card, or carried out: each as the bytes of the command are answered. Assumes nothing.
use native.Mathlib.Omega.{arith}
use mathlib.Core.Path.{sym, ap, ◌∙◌}
use Rattle.formats.specs.Format.{V1}
use Rattle.redo_recovery.proofs.Laws.{serve_bad, serve_none, serve_runs, kept_sound}
use Rattle.store.proofs.Kept.{header_in}
use Rattle.store_model.specs.Serve.{Outcome}
use Rattle.guard.specs.declared.Answer.{Answer}
use Rattle.image.specs.Image.{sound}
use Rattle.redo_recovery.proofs.inner.carry_out.Goals as goal

pub returns-then-not-well_formed : goal.returns-then-not-well_formed
returns-then-not-well_formed c =
    let o = serve_bad c.args.image.now c.args.c c.args.text.now c.requires.0 c.requires.2 c.requires.3 c.requires.1
    (sym c.well_formed-2.ensures ∙ c.if-not-well_formed.true) in
    record { number = ap (λ (u : Outcome). u.answer.number) (sym o); image = ap (λ (u : Outcome). u.image) (sym o); kept = c.requires.0 }

pub count-requires : goal.count-requires
count-requires c = header_in V1 _ c.requires.0

pub returns-then-count-c : goal.returns-then-count-c
returns-then-count-c c =
    let o = serve_none c.args.image.now c.args.c c.args.text.now c.requires.0 c.requires.2 c.requires.3 c.requires.1
    (sym c.well_formed-2.ensures ∙ c.if-not-well_formed.false)
    (omega (arith, c.count.ensures)) in
    record { number = ap (λ (u : Outcome). u.answer.number) (sym o); image = ap (λ (u : Outcome). u.image) (sym o); kept = c.requires.0 }

pub carry-a-requires : goal.carry-a-requires
carry-a-requires c = (
  c.requires.0,
  omega (arith, c.count.ensures),
  c.requires.3,
  c.requires.1,
  sym c.well_formed-2.ensures ∙ c.if-not-well_formed.false,
  c.update.ensures,
)

pub returns : goal.returns
returns c =
    let o = serve_runs c.args.image.now c.args.c c.args.text.now c.requires.0 c.requires.2 c.requires.3 c.requires.1
    (sym c.well_formed-2.ensures ∙ c.if-not-well_formed.false) (omega (arith, c.count.ensures, c.if-count-c.false)) in
    let done = c.carry-a.ensures in
    let image = done.image ∙ ap (λ (u : Outcome). u.image) (sym o) in record {
      number = ap (λ (a : Answer). a.number) done.answer ∙ ap (λ (u : Outcome). u.answer.number) (sym o);
      image = image;
      kept = ap (sound V1) image ∙ kept_sound c.args.image.now c.args.c c.args.text.now c.requires.0 c.requires.2
          c.requires.3 c.requires.1 (λ j. (c.slice_known-1.given j).fits) (λ j. (c.type_inv.text j).fits);
    }
