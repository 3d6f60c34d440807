-- Each entry's test, behind those before it. Assumes nothing.
use Rattle.std.proofs.Common.{◌∙◌, ℕ, rules, tests, take}
use Rattle.std.proofs.lemmas.Iterator.{YieldsList-from_slice}
use Rattle.std.proofs.lemmas.Iterator.Consumers.{YieldsList-from_enumerate}
use Rattle.std.proofs.lemmas.Iterator.Search.{all_from_yields_List}
use Rattle.lock_queue.specs.declared.Waiting.{Waiting}
use Rattle.lock_queue.specs.inner.Entries.{fits_behind}
use Rattle.lock_queue.proofs.Behind.{entries_all}
use Rattle.lock_queue.proofs.inner.rules.entries_good.Goals as goal

pub returns : goal.returns
returns c =
    let ws = c.args.standing.now in
    all_from_yields_List (λ (e : ℕ × Waiting). fits_behind c.args.largest (take e.0 ws) e.1) _ _ c.all.result c.all.ensures.ran
    (YieldsList-from_enumerate (YieldsList-from_slice _ (cc)) c.enumerate.ensures.count) (λ x b q k. search (rules, tests))
    ∙ entries_all c.args.largest ws
