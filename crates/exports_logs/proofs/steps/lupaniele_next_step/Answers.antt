-- What the call ensures, field by field. Assumes nothing.
use mathlib.Core.Path.{ap, ◌∙◌}
use Rattle.transaction_steps.specs.Steps.{ToldStep, next_of}
use Rattle.exports_logs.proofs.steps.lupaniele_next_step.Goals as goal

pub returns : goal.returns
returns c =
    let whole = c.next_step-next.ensures
    ∙ ap (next_of c.args.log.now c.args.desk c.args.card c.args.going) c.seen_in.ensures in
    record {
      step = c.told-number.ensures.step ∙ ap (λ (n : ToldStep). n.step) whole;
      line = c.told-number.ensures.line ∙ ap (λ (n : ToldStep). n.line) whole;
      transaction = c.told-number.ensures.transaction ∙ ap (λ (n : ToldStep). n.transaction) whole;
    }
