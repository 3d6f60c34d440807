-- The search of the entries, and the place that it finds. Assumes nothing.
use Rattle.std.proofs.Common.{◌≡◌, ◌∙◌, rules, tests, eqb}
use Rattle.std.proofs.lemmas.Iterator.{YieldsList-from_slice}
use Rattle.std.proofs.lemmas.Iterator.Search.{position_from_yields_List}
use Rattle.std.specs.List.{position}
use Rattle.lock_queue.specs.Queue.{desk}
use Rattle.lock_queue.specs.declared.Waiting.{Waiting}
use Rattle.lock_queue.proofs.Standing.{place_position}
use Rattle.lock_queue.proofs.inner.state.place.Goals as goal

pub returns : goal.returns
returns c =
    let found : c.position.result ≡ position (λ (w : Waiting). eqb (desk w) c.args.desk) c.args.standing.now =
    position_from_yields_List (λ (w : Waiting). eqb (desk w) c.args.desk) _ _ c.position.result c.position.ensures.ran
    (YieldsList-from_slice _ c.iter.ensures.rest) (λ x b q k. search (rules, tests)) in
    found ∙ place_position c.args.desk c.args.standing.now
