-- What a pass over the places of a queue computes: the three tests of rule 7.4 on the standing entries, and the same for one entry behind those before it.
-- Assumes nothing.
use Rattle.std.specs.Prelude.{List, map, Bool, not, ◌&&◌}
use Rattle.lists.specs.Table.{all}
use Rattle.stamps.specs.declared.Pair.{Pair}
use Rattle.lock_queue.specs.Queue.{desks, stands, desk}
use Rattle.lock_queue.specs.Good.{distinct, waiting_formed, within}
use Rattle.lock_queue.specs.declared.Waiting.{Waiting}

unfoldable pub entries_good : Pair → List Waiting → Bool
entries_good largest ws = all (map waiting_formed ws) && distinct (desks ws) && all (map (within largest) ws)

abbrev pub fits_behind : Pair → List Waiting → Waiting → Bool
fits_behind largest ws w = waiting_formed w && not (stands (desk w) (desks ws)) && within largest w
