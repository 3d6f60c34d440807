-- Weighed, shown, kept. Assumes nothing.
use mathlib.Core.Path.{refl, sym, ap}
use native.Mathlib.Omega.{arith}
use lib.Seq.{length-take-le}
use Rattle.formats.specs.Format.{V1}
use Rattle.commands.proofs.CommandBytes.{formedness}
use Rattle.history.proofs.Requests.{exits, low, read_fits, carry_refused, carry_accepted, number_zero}
use Rattle.history.proofs.inner.requests.carry.Goals as goal

pub slice_bounds-weigh-end-2 : goal.slice_bounds-weigh-end-2
slice_bounds-weigh-end-2 c = sym (length-take-le _ c.args.kept.now (low c.args.used _ c.args.kept.now c.requires.0 c.min-count.ensures))

pub weigh-w-requires : goal.weigh-w-requires
weigh-w-requires c =
    let long = length-take-le _ c.args.kept.now (low c.args.used _ c.args.kept.now c.requires.0 c.min-count.ensures) in
    let short = low c.args.used _ c.args.kept.now c.requires.0 c.min-count.ensures in
    omega (arith, long, short, c.requires.0)

pub returns-then-judged-ne-ACCEPTED : goal.returns-then-judged-ne-ACCEPTED
returns-then-judged-ne-ACCEPTED c =
    let all = exits (carry_refused c.args.room c.args.kept.now c.args.used c.args.c c.args.command.now
    c.args.reply.now c.requires.0 _ c.min-count.ensures _ c.weigh-w.ensures.judged
    c.if-judged-ne-ACCEPTED.true) c.reply.ensures refl refl refl in record { answer = all.0; used = all.1.0; kept = all.1.1.0; reply = all.1.1.1 }

pub slice_bounds-show-end-2 : goal.slice_bounds-show-end-2
slice_bounds-show-end-2 c = sym (length-take-le _ c.args.kept.now (low c.args.used _ c.args.kept.now c.requires.0 c.min-count.ensures))

pub show-requires : goal.show-requires
show-requires c =
    read_fits _ _ _ _ (number_zero c.args.room c.args.kept.now c.args.used c.args.c c.args.command.now
    c.args.reply.now c.requires.0 _ c.min-count.ensures _ c.weigh-w.ensures.judged
    c.if-judged-ne-ACCEPTED.false)

pub put-requires : goal.put-requires
put-requires c =
    let fits = c.weigh-w.ensures.fits c.if-judged-ne-ACCEPTED.false in
    let whole = (formedness V1 c.args.command.now c.requires.1).whole in
    let same = ap (λ d. d.length) c.requires.2 in
    omega (arith, fits, whole, same, c.requires.0)

pub overflow_add-result : goal.overflow_add-result
overflow_add-result c =
    let fits = c.weigh-w.ensures.fits c.if-judged-ne-ACCEPTED.false in
    let whole = (formedness V1 c.args.command.now c.requires.1).whole in
    let same = ap (λ d. d.length) c.requires.2 in
    omega (arith, fits, whole, same, c.requires.0)

pub returns : goal.returns
returns c =
    let all = exits (carry_accepted c.args.room c.args.kept.now c.args.used c.args.c c.args.command.now
    c.args.reply.now c.requires.0 _ c.min-count.ensures _ c.weigh-w.ensures.judged c.if-judged-ne-ACCEPTED.false _
    c.weigh-w.ensures.end) c.reply-2.ensures refl c.put.ensures c.show.ensures in record { answer = all.0; used = all.1.0; kept = all.1.1.0; reply = all.1.1.1 }
