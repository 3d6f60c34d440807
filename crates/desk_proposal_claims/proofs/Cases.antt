-- The worked cases, by computation. Assumes nothing.
use mathlib.Core.Path.{refl}
use Rattle.lists.specs.Table.{all, all_from}
use Rattle.lock_queue.specs.Queue.{stands, first_place}
use Rattle.lock_queue.specs.Good.{distinct, good}
use Rattle.lock_queue.specs.Requests.{joined, removed, without, upgrading, queue_joined, answered, number, after, answer}
use Rattle.desk_proposals.specs.Propose.{learnt, next_t, pair_for, proposed}
use Rattle.lock_queue_claims.specs.Traces.{queue_after}
use Rattle.desk_proposal_claims.specs.Claims.{quiet}
use Rattle.desk_proposal_claims.specs.Cases.{ProposalCases, DenialCases, ProposalsWorked}

proposal_cases : ProposalCases
unfolding proposed learnt pair_for next_t
proposal_cases =
    record {
      first_shared = refl;
      first_exclusive = refl;
      next_shared = refl;
      same_exclusive = refl;
      later_start = refl;
      larger_desk = refl;
      smaller_desk = refl;
      last_one = refl;
      none_left = refl;
      other_side = refl;
      none_left_exclusive = refl;
      other_side_shared = refl;
      desk_zero = refl;
      desk_zero_first = refl;
      desk_zero_exclusive = refl;
      mode_zero = refl;
      no_mode = refl;
      both_sides = refl;
      both_sides_again = refl;
    }

denial_cases : DenialCases
unfolding queue_after quiet proposed learnt pair_for next_t answered number after answer upgrading queue_joined first_place good distinct stands joined removed without all all_from
denial_cases =
    record {
      denial = refl;
      shared_again = refl;
      exclusive_again = refl;
      left = refl;
      shared_in = refl;
      exclusive_in = refl;
      passed_by = refl;
      shared_out = refl;
      exclusive_out = refl;
    }

pub proposals_worked : ProposalsWorked
proposals_worked = (proposal_cases, denial_cases)
