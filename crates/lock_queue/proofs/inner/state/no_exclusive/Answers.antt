-- Each entry's test. Assumes nothing.
use Rattle.std.proofs.Common.{◌∙◌, rules, tests, eqb, not}
use Rattle.std.proofs.lemmas.Iterator.{YieldsList-from_slice}
use Rattle.std.proofs.lemmas.Iterator.Search.{all_from_yields_List}
use Rattle.stamps.specs.Stamp.{exclusive}
use Rattle.lock_queue.specs.declared.Waiting.{Waiting}
use Rattle.lock_queue.proofs.Standing.{no_exclusive_all}
use Rattle.lock_queue.proofs.inner.state.no_exclusive.Goals as goal

pub returns : goal.returns
returns c =
    all_from_yields_List (λ (w : Waiting). not (eqb w.mode exclusive)) _ _ c.all.result c.all.ensures.ran
    (YieldsList-from_slice _ c.iter.ensures.rest) (λ x b q k. search (rules, tests))
    ∙ no_exclusive_all c.args.entries.now
