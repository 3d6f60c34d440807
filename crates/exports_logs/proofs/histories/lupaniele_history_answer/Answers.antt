-- Answered, the fields written, and how many bytes are used. Assumes nothing.
use mathlib.Core.Path.{ap, ◌∙◌}
use Rattle.guard.specs.declared.Answer.{Answer}
use Rattle.guard.specs.Replies.{reply_fields}
use Rattle.exports_logs.proofs.histories.lupaniele_history_answer.Goals as goal

pub returns : goal.returns
returns c =
    let served = c.answer-served.ensures in
    record {
      number = ap (λ (a : Answer). a.number) served.answer;
      fields = c.fields_of.ensures ∙ ap reply_fields served.answer;
      used = served.used;
      kept = served.kept;
      reply = served.reply;
    }
