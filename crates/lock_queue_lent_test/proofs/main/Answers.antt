-- What `expect` requires follows from what `numbers` ensures, since the numbers of these requests compute. Assumes nothing.
use mathlib.Core.Path.{◌≡◌, refl, ap, ◌∙◌}
use Prim.Native.Nat.{ℕ, ◌+◌, ◌*◌}
use borrow.Author.Tests.{eq-eqb}
use Rattle.lists.specs.Parts.{tabulate}
use Rattle.lists.specs.Table.{all, all_from}
use Rattle.lock_queue.specs.Queue.{most_places, waiting, stands}
use Rattle.lock_queue.specs.Good.{distinct, good}
use Rattle.lock_queue.specs.Requests.{joined, removed, without, upgrading, queue_joined, asks, leaves, number, after}
use Rattle.lock_queue_claims.specs.Trials.{guest, crowded}
use Rattle.lock_queue.specs.declared.Waiting.{Waiting}
use Rattle.lock_queue_lent_test.proofs.main.Goals as goal

abbrev both : ℕ → Waiting → ℕ
both d w = number most_places crowded (leaves d) * 100 + number most_places (after most_places crowded (leaves d)) (asks w)

-- no one leaves, and it is full
full : both 0 (guest 33) ≡ 1513
unfolding number upgrading queue_joined after good all all_from distinct stands joined without removed tabulate
full = refl

-- desk 7 leaves, and the next is accepted
afresh : both 458752 (guest 33) ≡ 0
unfolding number upgrading queue_joined after good all all_from distinct stands joined without removed tabulate
afresh = refl

-- or denied, where it is exclusive and its s too small
denied : both 458752 (waiting 2 4297195520 4297195520) ≡ 11
unfolding number upgrading queue_joined after good all all_from distinct stands joined without removed tabulate
denied = refl

pub expect-requires : goal.expect-requires
expect-requires c = eq-eqb c.numbers.result 1513 (c.numbers.ensures ∙ ap (both 0) c.guest.ensures ∙ full)

pub expect-requires-2 : goal.expect-requires-2
expect-requires-2 c = eq-eqb c.numbers-2.result 0 (c.numbers-2.ensures ∙ ap (both 458752) c.guest-2.ensures ∙ afresh)

pub expect-requires-3 : goal.expect-requires-3
expect-requires-3 c = eq-eqb c.numbers-3.result 11 (c.numbers-3.ensures ∙ denied)
