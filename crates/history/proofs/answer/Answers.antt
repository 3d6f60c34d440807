-- Malformed, no such card, or carried. Assumes nothing.
use mathlib.Core.Path.{refl, sym, ◌∙◌}
use borrow.Author.Rules.{rules}
use borrow.Author.Tests.{le-ltb, lt-ltb}
use Rattle.formats.specs.Format.{V1}
use Rattle.history.proofs.Requests.{exits, serves_malformed, serves_no_card, serves_found}
use Rattle.commands.proofs.Parsing.{is_malformed, is_formed}
use Rattle.history.proofs.answer.Goals as goal

pub returns-in_default : goal.returns-in_default
returns-in_default c =
    let a = c.args in let all = exits (serves_malformed a.cards a.room a.kept.now a.used a.command.now a.reply.now
    (is_malformed V1 _ (sym c.in_default.is ∙ c.parse.ensures))) c.refusal.ensures refl refl refl in record { answer = all.0; used = all.1.0; kept = all.1.1.0; reply = all.1.1.1 }

pub returns-then-cards-c : goal.returns-then-cards-c
returns-then-cards-c c =
    let a = c.args in
    let whole = is_formed V1 a.command.now (sym c.in-Some.is ∙ c.parse.ensures) in let all = exits (serves_no_card a.cards a.room a.kept.now a.used a.command.now a.reply.now whole.0
    (rw (← whole.1) (le-ltb _ _ c.if-cards-c.true))) c.refusal-then-cards-c.ensures refl refl refl in record { answer = all.0; used = all.1.0; kept = all.1.1.0; reply = all.1.1.1 }

pub carry-requires : goal.carry-requires
carry-requires c =
    let a = c.args in
    let whole = is_formed V1 a.command.now (sym c.in-Some.is ∙ c.parse.ensures) in
    (search rules, whole.0, whole.1)

pub returns : goal.returns
returns c =
    let a = c.args in
    let whole = is_formed V1 a.command.now (sym c.in-Some.is ∙ c.parse.ensures) in
    let done = c.carry.ensures in
    let all = exits (serves_found a.cards a.room a.kept.now a.used a.command.now a.reply.now whole.0
    (rw (← whole.1) (lt-ltb _ _ c.if-cards-c.false)) _ whole.1) done.answer done.used done.kept
    done.reply in record { answer = all.0; used = all.1.0; kept = all.1.1.0; reply = all.1.1.1 }
