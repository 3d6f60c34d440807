-- The check that was made says which of the two cases it is. Assumes nothing.
use Rattle.formats.specs.Format.{format_of}
use mathlib.Core.Path.{refl, sym, ◌∙◌}
use Rattle.store.proofs.Step.{serves, serve_unsound}
use Rattle.store.proofs.inner.step.judge.Goals as goal

pub returns-then-not-checked : goal.returns-then-not-checked
returns-then-not-checked c =
    record {
      served = serves
          (serve_unsound (format_of c.args.v) c.args.image.now c.args.command.now c.args.reply.now
          (sym c.requires ∙ c.if-not-checked.true))
          c.refusal.ensures
          refl
          refl;
      kept = c.requires;
    }

pub serve-requires : goal.serve-requires
serve-requires c = sym c.requires ∙ c.if-not-checked.false

pub returns : goal.returns
returns c =
    let e = c.serve.ensures in
    record { served = e.served; kept = c.if-not-checked.false ∙ sym e.kept }
