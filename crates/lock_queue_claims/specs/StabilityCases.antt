-- Worked cases of the lock over time: requests of others leave it where it is, and a desk's own upgrade, leave and lapse
-- do not. Proved by computation in proofs/StabilityCases.antt.
-- Assumes nothing.
use Rattle.std.specs.Prelude.{◌≡◌, List, [], ◌∷◌, true, false}
use Rattle.stamps.specs.Stamp.{stamp, shared, exclusive}
use Rattle.lock_queue.specs.Queue.{State, no_waiting, waiting, standing, holds}
use Rattle.lock_queue.specs.Requests.{Request, asks, leaves, lapses}
use Rattle.lock_queue.specs.declared.LeaseExpiry.{LeaseExpiry}
use Rattle.lock_queue_claims.specs.Traces.{queue_after}
use Rattle.lock_queue_claims.specs.Trials.{guest, two_shared, numbers}
use Rattle.lock_queue_claims.specs.LeaseCases.{silent}
use Rattle.lock_queue_claims.specs.Stability.{untouched, in_front}

-- Desk 1 stands shared and holds, desk 2 waits for exclusive, desk 3 waits shared behind it, in four places.
abbrev pub three_stand : State
three_stand =
    record {
      places = guest 1 ∷ waiting exclusive (stamp 1 1 0) (stamp 2 2 0) ∷ waiting shared (stamp 3 3 0) (stamp 2 2 0) ∷ no_waiting ∷ [];
      count = 3;
      largest = record { s = stamp 3 3 0; x = stamp 2 2 0 };
    }

-- A lease of 1 that has run out, of desk 2 and of desk 1.
abbrev pub two_lapses : LeaseExpiry
two_lapses =
    let r = silent 0x3ff0_0000_0000_0000 0x0 0x0 0x3ff0_0000_0000_0000 in
    record { desk = stamp 0 2 0; lease = r.lease; begin = r.begin; now = r.now }

abbrev pub one_lapses : LeaseExpiry
one_lapses = silent 0x3ff0_0000_0000_0000 0x0 0x0 0x3ff0_0000_0000_0000

-- Desk 4 asks, desk 5 is denied, desk 1 asks again and is told that it stands, desk 3 leaves and comes again, and desk 2
-- lapses.
abbrev pub others : List Request
others =
    asks (waiting shared (stamp 4 4 0) (stamp 2 2 0))
    ∷ asks (guest 5)
    ∷ asks (waiting shared (stamp 5 1 0) (stamp 2 2 0))
    ∷ leaves (stamp 0 3 0)
    ∷ asks (waiting shared (stamp 6 3 0) (stamp 2 2 0))
    ∷ lapses two_lapses
    ∷ []

pub record LockCases : Type 0 where
  -- those of others: desk 1 holds through all of them, and desk 3, behind it, from the lapse of desk 2 on
  pub answers : numbers 4 three_stand others ≡ 0 ∷ 11 ∷ 12 ∷ 0 ∷ 0 ∷ 0 ∷ []
  pub alone : untouched (stamp 0 1 0) 4 three_stand others ≡ true
  pub keeps : holds (stamp 0 1 0) (standing (queue_after 4 three_stand others)) ≡ true
  pub follows : holds (stamp 0 3 0) (standing (queue_after 4 three_stand others)) ≡ true
  -- desk 4, which came between, now stands in front of desk 3
  pub passed : in_front (stamp 0 4 0) (stamp 0 3 0) (standing (queue_after 4 three_stand others)) ≡ true
  -- a desk's own: its upgrade puts desk 1 behind desk 2, which then holds alone
  pub ahead : in_front (stamp 0 1 0) (stamp 0 2 0) (standing two_shared) ≡ true
  pub touched : untouched (stamp 0 1 0) 2 two_shared (asks (waiting exclusive (stamp 2 2 0) (stamp 1 1 0)) ∷ []) ≡ false
  pub overtaken : holds (stamp 0 2 0) (standing (queue_after 2 two_shared (asks (waiting exclusive (stamp 2 2 0) (stamp 1 1 0)) ∷ []))) ≡ true
  pub upgraded : holds (stamp 0 1 0) (standing (queue_after 2 two_shared (asks (waiting exclusive (stamp 2 2 0) (stamp 1 1 0)) ∷ []))) ≡ false
  -- and its lapse takes the lock from it
  pub lapsed : holds (stamp 0 1 0) (standing (queue_after 4 three_stand (lapses one_lapses ∷ []))) ≡ false
  pub next : holds (stamp 0 2 0) (standing (queue_after 4 three_stand (lapses one_lapses ∷ []))) ≡ true
