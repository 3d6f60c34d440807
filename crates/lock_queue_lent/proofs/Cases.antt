-- The worked cases of arrays, by computation. Assumes nothing.
use mathlib.Core.Path.{refl}
use Rattle.lists.specs.Parts.{tabulate}
use Rattle.lists.specs.Table.{all, all_from}
use Rattle.lock_queue.specs.Queue.{stands, first_place, looked, no_exclusive, holds_at, holds}
use Rattle.lock_queue.specs.Good.{distinct, good}
use Rattle.lock_queue.specs.Requests.{joined, upgrading, queue_joined, answered, number, after, answer}
use Rattle.lock_queue_lent.specs.Arrays.{places_of}
use Rattle.lock_queue_lent.specs.Slice.{written}
use Rattle.lock_queue_lent.specs.Cases.{ArrayCases}

pub array_cases : ArrayCases
unfolding tabulate places_of written number after answer answered holds holds_at no_exclusive looked upgrading queue_joined first_place good all all_from distinct stands joined
array_cases =
    record {
      modes = refl;
      each_s = refl;
      each_x = refl;
      kept = refl;
      places = refl;
      count = refl;
      largest = refl;
      holding = refl;
      waits = refl;
      turn = refl;
      short = refl;
      long = refl;
    }
