-- By the number, then by the limits. Assumes nothing.
use Rattle.history.proofs.Requests.{weigh_refused, weigh_full, weigh_accepted}
use Rattle.history.proofs.inner.requests.weigh.Goals as goal

pub returns-then-judged-ne-ACCEPTED : goal.returns-then-judged-ne-ACCEPTED
returns-then-judged-ne-ACCEPTED c =
    let all = weigh_refused c.args.kept.now c.args.c c.args.room c.args.lent c.entry_of-e.result c.totals_of-x.result
    c.judge-judged.result c.entry_of-e.ensures c.totals_of-x.ensures c.judge-judged.ensures c.if-judged-ne-ACCEPTED.true in record { judged = all.0; end = all.1.0; fits = all.1.1 }

pub returns-then-full : goal.returns-then-full
returns-then-full c =
    let all = weigh_full c.args.kept.now c.args.c c.args.room c.args.lent c.entry_of-e.result c.totals_of-x.result
    c.judge-judged.result c.entry_of-e.ensures c.totals_of-x.ensures c.judge-judged.ensures _ c.full.ensures c.if-full.true
    c.if-judged-ne-ACCEPTED.false in record { judged = all.0; end = all.1.0; fits = all.1.1 }

pub returns : goal.returns
returns c =
    let all = weigh_accepted c.args.kept.now c.args.c c.args.room c.args.lent c.entry_of-e.result c.totals_of-x.result
    c.judge-judged.result c.entry_of-e.ensures c.totals_of-x.ensures c.judge-judged.ensures _ c.full.ensures c.if-full.false
    c.if-judged-ne-ACCEPTED.false in record { judged = all.0; end = all.1.0; fits = all.1.1 }
