-- The places written over the lent ones. Assumes nothing.
use borrow.Author.Rules.{rules}
use mathlib.Core.Path.{◌≡◌, refl, ◌∙◌}
use lib.ListN.{length}
use Rattle.lock_queue.specs.Queue.{most_places}
use Rattle.lock_queue.proofs.Array.{unmapped}
use Rattle.lock_queue_lent.proofs.Written.{written_all}
use Rattle.lock_queue_lent.proofs.inner.places.store.Goals as goal

pub returns : goal.returns
returns c =
    let long : length c.args.outcome.queue.places.at ≡ most_places = search (unmapped, rules) in
    (c.write_over.ensures ∙ written_all most_places c.args.outcome.queue.places.at c.args.places.now long, refl)
