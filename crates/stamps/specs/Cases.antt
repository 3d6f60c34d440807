-- Worked cases of pairs that are too far ahead (rule 4.9), as one table: the stored pair, the pair of a command, and whether it is too far ahead.
-- Assumes nothing.
use Rattle.std.specs.Prelude.{ℕ, ◌≡◌, List, [], ◌∷◌, map, Bool, true, false}
use Rattle.stamps.specs.Stamp.{stamp, no_pair, too_far}
use Rattle.stamps.specs.declared.Pair.{Pair}

pub record Distance : Type 0 where
  pub stored : Pair
  pub sent : Pair
  pub far : Bool

abbrev pub distance : Pair → ℕ → ℕ → Bool → Distance
distance stored s x far = record { stored = stored; sent = record { s = s; x = x }; far = far }

-- Stored pairs: T 7 on the side of s and 9 on the side of x; the same x with an s that is 2,000,000 above it.
abbrev pub low_pair : Pair
low_pair = record { s = stamp 7 1 0; x = stamp 9 1 0 }

abbrev pub split_pair : Pair
split_pair = record { s = stamp 2000009 1 0; x = stamp 9 1 0 }

abbrev pub distances : List Distance
distances =
    -- with nothing stored T 1,000,000 is in reach, and one more is not, on either side
    distance no_pair (stamp 1000000 1 0) 0 false
    ∷ distance no_pair (stamp 1000001 1 0) 0 true
    ∷ distance no_pair 0 (stamp 1000000 1 0) false
    ∷ distance no_pair 0 (stamp 1000001 1 0) true
    -- exactly 1,000,000 above on both sides; one more on s alone, on x alone
    ∷ distance low_pair (stamp 1000007 1 0) (stamp 1000009 1 0) false
    ∷ distance low_pair (stamp 1000008 1 0) (stamp 1000009 1 0) true
    ∷ distance low_pair (stamp 1000007 1 0) (stamp 1000010 1 0) true
    -- T alone is compared: the largest stamp of the last T in reach; the smallest of the T after it, where the largest stamp of T 7 is stored
    ∷ distance low_pair (stamp 1000007 65535 65535) (stamp 9 1 0) false
    ∷ distance (record { s = stamp 7 65535 65535; x = 0 }) (stamp 1000008 1 0) 0 true
    -- each stamp against the stored one of its own side
    ∷ distance split_pair (stamp 2000009 1 0) (stamp 1000010 1 0) true
    ∷ distance split_pair (stamp 3000009 1 0) (stamp 9 1 0) false
    -- no stamp, and stamps below the stored ones
    ∷ distance split_pair 0 0 false
    ∷ distance split_pair (stamp 1 1 0) (stamp 8 1 0) false
    ∷ []

-- The claim: each row is as it says.
abbrev pub Distances : Type 0
Distances = map (λ (d : Distance). too_far d.stored d.sent) distances ≡ map (λ (d : Distance). d.far) distances
