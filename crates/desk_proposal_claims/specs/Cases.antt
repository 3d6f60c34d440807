-- Worked cases of proposals and of a denial that is answered by a new proposal. Proved by computation in proofs/Cases.antt.
-- Assumes nothing.
use Rattle.std.specs.Prelude.{ℕ, ◌≡◌, List, [], ◌∷◌, true, false, replicate}
use Rattle.stamps.specs.Stamp.{stamp, shared, exclusive}
use Rattle.lock_queue.specs.Queue.{State, no_waiting, waiting, empty_queue}
use Rattle.numbers.specs.Numbers.{PAIR_DENIED}
use Rattle.lock_queue.specs.Requests.{Request, asks, leaves, number, after, answer}
use Rattle.desk_proposals.specs.declared.Known.{Known}
use Rattle.desk_proposals.specs.declared.Proposed.{Proposed}
use Rattle.desk_proposals.specs.Propose.{learnt, proposed}
use Rattle.lock_queue_claims.specs.Traces.{queue_after}
use Rattle.desk_proposal_claims.specs.Claims.{quiet}

-- What a desk knows, and what a proposal gives, by their numbers.
abbrev pub knowing : ℕ → ℕ → ℕ → ℕ → Known
knowing desk start s x = record { desk = desk; start = start; pair = record { s = s; x = x } }

abbrev pub gets : ℕ → ℕ → ℕ → Known → Proposed
gets number s x known = record { number = number; pair = record { s = s; x = x }; known = known }

-- Desk 2 with start 5, mostly; the desk of rule 10.16 is among them.
pub record ProposalCases : Type 0 where
  -- its first proposals: T 0 is enough, as its desk is not 0
  pub first_shared : proposed (knowing 2 5 0 0) shared ≡ gets 0 (stamp 0 2 5) 0 (knowing 2 5 (stamp 0 2 5) 0)
  pub first_exclusive : proposed (knowing 2 5 0 0) exclusive ≡ gets 0 0 (stamp 0 2 5) (knowing 2 5 0 (stamp 0 2 5))
  -- above a stamp of its own: the next T
  pub next_shared :
      proposed (knowing 2 5 (stamp 7 2 5) (stamp 3 1 0)) shared
      ≡ gets 0 (stamp 8 2 5) (stamp 3 1 0) (knowing 2 5 (stamp 8 2 5) (stamp 3 1 0))
  -- above a stamp of a smaller desk: the same T
  pub same_exclusive :
      proposed (knowing 2 5 (stamp 7 2 5) (stamp 3 1 0)) exclusive
      ≡ gets 0 (stamp 7 2 5) (stamp 3 2 5) (knowing 2 5 (stamp 7 2 5) (stamp 3 2 5))
  -- above a stamp of the same desk with a later start: the next T
  pub later_start : proposed (knowing 2 5 0 (stamp 3 2 6)) exclusive ≡ gets 0 0 (stamp 4 2 5) (knowing 2 5 0 (stamp 4 2 5))
  -- above a stamp of a larger desk with an earlier start: the next T; of a smaller desk with a later start: the same T
  pub larger_desk : proposed (knowing 2 5 0 (stamp 3 3 0)) exclusive ≡ gets 0 0 (stamp 4 2 5) (knowing 2 5 0 (stamp 4 2 5))
  pub smaller_desk : proposed (knowing 2 5 (stamp 3 1 9) 0) shared ≡ gets 0 (stamp 3 2 5) 0 (knowing 2 5 (stamp 3 2 5) 0)
  -- the last stamp that there is, and none after it; the other side has its own
  pub last_one : proposed (knowing 2 5 (stamp 4294967295 2 4) 0) shared ≡ gets 0 (stamp 4294967295 2 5) 0 (knowing 2 5 (stamp 4294967295 2 5) 0)
  pub none_left : proposed (knowing 2 5 (stamp 4294967295 2 5) 0) shared ≡ gets 16 0 0 (knowing 2 5 (stamp 4294967295 2 5) 0)
  pub other_side :
      proposed (knowing 2 5 (stamp 4294967295 2 5) 0) exclusive
      ≡ gets 0 (stamp 4294967295 2 5) (stamp 0 2 5) (knowing 2 5 (stamp 4294967295 2 5) (stamp 0 2 5))
  pub none_left_exclusive :
      proposed (knowing 2 5 (stamp 8 2 5) (stamp 4294967295 9 0)) exclusive ≡ gets 16 0 0 (knowing 2 5 (stamp 8 2 5) (stamp 4294967295 9 0))
  pub other_side_shared :
      proposed (knowing 2 5 (stamp 8 2 5) (stamp 4294967295 9 0)) shared
      ≡ gets 0 (stamp 9 2 5) (stamp 4294967295 9 0) (knowing 2 5 (stamp 9 2 5) (stamp 4294967295 9 0))
  -- desk 0 in both modes, also where no stamp is left; modes that are none, below and above
  pub desk_zero : proposed (knowing 0 5 0 0) shared ≡ gets 1 0 0 (knowing 0 5 0 0)
  pub desk_zero_first : proposed (knowing 0 5 (stamp 4294967295 2 5) 0) shared ≡ gets 1 0 0 (knowing 0 5 (stamp 4294967295 2 5) 0)
  pub desk_zero_exclusive : proposed (knowing 0 5 7 3) exclusive ≡ gets 1 0 0 (knowing 0 5 7 3)
  pub mode_zero : proposed (knowing 2 5 7 3) 0 ≡ gets 1 0 0 (knowing 2 5 7 3)
  pub no_mode : proposed (knowing 2 5 0 0) 3 ≡ gets 1 0 0 (knowing 2 5 0 0)
  -- learning: the larger of each, whichever pair it comes from
  pub both_sides : learnt (knowing 2 5 7 3) (record { s = 4; x = 9 }) ≡ knowing 2 5 7 9
  pub both_sides_again : learnt (knowing 2 5 4 9) (record { s = 7; x = 3 }) ≡ knowing 2 5 7 9

-- ---- a denial, and a new proposal

-- An empty queue of three places, in which desk 1 with start 0 then stands exclusive under (0, 5.1.0).
abbrev pub ask_for : ℕ → ℕ → ℕ → Request
ask_for mode s x = asks (waiting mode s x)

abbrev pub held_by_one : State
held_by_one =
    after 3 (empty_queue (replicate 3 no_waiting)) (ask_for exclusive 0 (stamp 5 1 0))

-- What desk 2 with start 0 proposes, from nothing, when it has learnt the pair of the denial of its shared ask under (0.2.0, 0).
abbrev pub afresh : ℕ → Proposed
afresh mode = proposed (learnt (knowing 2 0 0 0) (answer 3 held_by_one (ask_for shared (stamp 0 2 0) 0)).largest) mode

-- Meanwhile desk 1 leaves, an ask of desk 3 is denied and one is malformed: none enters.
abbrev pub calm : List Request
calm = leaves (stamp 0 1 0) ∷ ask_for exclusive 0 (stamp 0 3 0) ∷ ask_for 3 0 0 ∷ []

-- Or desk 3 asks under (0, 6.3.0) and enters.
abbrev pub busy : List Request
busy = leaves (stamp 0 1 0) ∷ ask_for exclusive 0 (stamp 6 3 0) ∷ []

pub record DenialCases : Type 0 where
  pub denial : number 3 held_by_one (ask_for shared (stamp 0 2 0) 0) ≡ PAIR_DENIED
  pub shared_again : afresh shared ≡ gets 0 (stamp 0 2 0) (stamp 5 1 0) (knowing 2 0 (stamp 0 2 0) (stamp 5 1 0))
  pub exclusive_again : afresh exclusive ≡ gets 0 0 (stamp 5 2 0) (knowing 2 0 0 (stamp 5 2 0))
  pub left : quiet 3 held_by_one calm ≡ true
  pub shared_in : number 3 (queue_after 3 held_by_one calm) (asks (record { mode = shared; pair = (afresh shared).pair })) ≡ 0
  pub exclusive_in : number 3 (queue_after 3 held_by_one calm) (asks (record { mode = exclusive; pair = (afresh exclusive).pair })) ≡ 0
  pub passed_by : quiet 3 held_by_one busy ≡ false
  pub shared_out : number 3 (queue_after 3 held_by_one busy) (asks (record { mode = shared; pair = (afresh shared).pair })) ≡ PAIR_DENIED
  pub exclusive_out : number 3 (queue_after 3 held_by_one busy) (asks (record { mode = exclusive; pair = (afresh exclusive).pair })) ≡ PAIR_DENIED

-- The worked cases of proposals and of a denial, as one table.
abbrev pub ProposalsWorked : Type 0
ProposalsWorked = ProposalCases × DenialCases
