-- The worked cases of whole answers, by computation. Assumes nothing.
use mathlib.Core.Path.{refl}
use lib.Ieee.{of_bits, of_int, add, sub, mul, div, neg, lt, le}
use Rattle.lists.specs.Table.{all, all_from}
use Rattle.floats.specs.Numbers.{whole_float, half}
use Rattle.lock_queue.specs.Queue.{stands, first_place, looked, no_exclusive, holds_at, holds}
use Rattle.lock_queue.specs.Good.{distinct, good}
use Rattle.lock_queue.specs.Requests.{joined, removed, without, upgrading, queue_joined, answered, number, after, answer}
use Rattle.lock_queue_claims.specs.Answers.{
  stages,
  TableUpgrade,
  TableOrder,
  TablePairs,
  TakesPlace,
  LeavesMiddle,
  WhoHolds,
  QueuesJudged,
  TableMalformed,
  TableLapses,
  LapsedLeaves,
  QueueAnswers,
}

tabulate_upgrade : TableUpgrade
unfolding stages number after answer answered holds holds_at no_exclusive looked upgrading queue_joined first_place good all all_from distinct stands joined without removed
tabulate_upgrade = refl

tabulate_order : TableOrder
unfolding number after answer answered holds holds_at no_exclusive looked upgrading queue_joined first_place good all all_from distinct stands joined without removed
tabulate_order = refl

tabulate_pairs : TablePairs
unfolding number after answer answered holds holds_at no_exclusive looked upgrading queue_joined first_place good all all_from distinct stands joined without removed
tabulate_pairs = refl

takes_place : TakesPlace
unfolding number after upgrading queue_joined first_place good all all_from distinct stands joined without removed
takes_place = refl

leaves_middle : LeavesMiddle
unfolding number after first_place good all all_from distinct stands without removed
leaves_middle = refl

who_holds : WhoHolds
unfolding number after holds holds_at no_exclusive first_place good all all_from distinct stands without removed
who_holds = refl

queues_judged : QueuesJudged
unfolding number after answer answered good all all_from distinct stands
queues_judged =
    record {
      asks_10 = refl;
      malformed_10 = refl;
      leaves_10 = refl;
      lapses_10 = refl;
      range_10 = refl;
      leaves_15 = refl;
    }

tabulate_malformed : TableMalformed
unfolding number upgrading first_place good all all_from distinct stands
tabulate_malformed = refl

tabulate_lapses : TableLapses
unfolding number after answer answered holds holds_at no_exclusive looked first_place good all all_from distinct stands without removed of_bits of_int whole_float half add sub mul div neg lt le
tabulate_lapses = refl

lapsed_leaves : LapsedLeaves
unfolding number after first_place good all all_from distinct stands without removed of_bits of_int whole_float half add sub mul div neg lt le
lapsed_leaves = refl

pub queue_answers : QueueAnswers
queue_answers =
    record {
      upgrade = tabulate_upgrade;
      order = tabulate_order;
      pairs = tabulate_pairs;
      place = takes_place;
      middle = leaves_middle;
      holders = who_holds;
      queues = queues_judged;
      malformed = tabulate_malformed;
      lapses = tabulate_lapses;
      lapsed = lapsed_leaves;
    }
