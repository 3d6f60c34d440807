-- Worked cases of leaving by lease: values of f64 by their bit patterns, near every limit. Proved by computation in proofs/LeaseCases.antt.
-- Assumes nothing.
use Rattle.std.specs.Prelude.{ℕ, ◌≡◌, List, [], ◌∷◌, map, true, false, Float}
use Rattle.std.specs.Float.{binary64}
use Rattle.std.specs.Float.Ieee.{of_bits}
use Rattle.stamps.specs.Stamp.{stamp}
use Rattle.lock_queue.specs.Queue.{State}
use Rattle.lock_queue.specs.Lease.{wait, expired}
use Rattle.lock_queue.specs.Requests.{lapses, number}
use Rattle.lock_queue.specs.declared.Lease.{Lease}
use Rattle.lock_queue.specs.declared.LeaseExpiry.{LeaseExpiry}
use Rattle.lock_queue_claims.specs.Trials.{guest}

-- Desk 1 stands alone.
abbrev pub one_stands : State
one_stands = record { places = guest 1 ∷ []; count = 1; largest = record { s = stamp 1 1 0; x = 0 } }

-- Desk 1 fell silent: period, drift, begin and now by their bits.
abbrev pub silent : ℕ → ℕ → ℕ → ℕ → LeaseExpiry
silent period drift begin now =
    record {
      desk = stamp 0 1 0;
      lease = record { period = of_bits binary64 period; drift = of_bits binary64 drift };
      begin = of_bits binary64 begin;
      now = of_bits binary64 now;
    }

abbrev pub answers : List LeaseExpiry → List ℕ
answers rs = map (λ r. number 1 one_stands (lapses r)) rs

-- A period of 30 and a drift of 0.5 make a wait of 45 (rules 13.3, 13.4 and 13.8).
abbrev pub LeaseEnds : Type 0
LeaseEnds =
    answers
    -- since 100, at 145: over; one step of f64 sooner: not yet; one step later: over
    (silent 0x403e_0000_0000_0000 0x3fe0_0000_0000_0000 0x4059_0000_0000_0000 0x4062_2000_0000_0000
    ∷ silent 0x403e_0000_0000_0000 0x3fe0_0000_0000_0000 0x4059_0000_0000_0000 0x4062_1fff_ffff_ffff
    ∷ silent 0x403e_0000_0000_0000 0x3fe0_0000_0000_0000 0x4059_0000_0000_0000 0x4062_2000_0000_0001
    -- the clock went back from 145 to 100
    ∷ silent 0x403e_0000_0000_0000 0x3fe0_0000_0000_0000 0x4062_2000_0000_0000 0x4059_0000_0000_0000
    -- since 2^-60, at 45: the difference is below 45, and rounds to it
    ∷ silent 0x403e_0000_0000_0000 0x3fe0_0000_0000_0000 0x3c30_0000_0000_0000 0x4046_8000_0000_0000
    -- a period of 0.1, since 0.4, at 0.5: 0.5 less 0.4 is below 0.1, though 0.4 and 0.1 add up to 0.5
    ∷ silent 0x3fb9_9999_9999_999a 0x0 0x3fd9_9999_9999_999a 0x3fe0_0000_0000_0000
    -- drift 2^-53: 1 and the drift round to 1, so that the wait is 30; one step more, and they round up
    ∷ silent 0x403e_0000_0000_0000 0x3ca0_0000_0000_0000 0x0 0x403e_0000_0000_0000
    ∷ silent 0x403e_0000_0000_0000 0x3ca0_0000_0000_0001 0x0 0x403e_0000_0000_0000
    -- the smallest period above zero, since 0: at 0 not yet, at that number over
    ∷ silent 0x1 0x0 0x0 0x0
    ∷ silent 0x1 0x0 0x0 0x1
    -- the largest subnormal period, lengthened by a half, at the smallest normal number
    ∷ silent 0xf_ffff_ffff_ffff 0x3fe0_0000_0000_0000 0x0 0x10_0000_0000_0000
    -- a whole day lengthened by a half, since 0: 129,600, and one step sooner
    ∷ silent 0x40f5_1800_0000_0000 0x3fe0_0000_0000_0000 0x0 0x40ff_a400_0000_0000
    ∷ silent 0x40f5_1800_0000_0000 0x3fe0_0000_0000_0000 0x0 0x40ff_a3ff_ffff_ffff
    ∷ [])
    ≡ 0 ∷ 25 ∷ 0 ∷ 25 ∷ 0 ∷ 25 ∷ 0 ∷ 25 ∷ 25 ∷ 0 ∷ 25 ∷ 0 ∷ 25 ∷ []

-- The limits of the lease term and their neighbours (rule 13.2), with times at which the wait is over.
abbrev pub LeaseLimits : Type 0
LeaseLimits =
    answers
    -- period 0, -0, the smallest below 0
    (silent 0x0 0x0 0x0 0x41cd_cd65_0000_0000
    ∷ silent 0x8000_0000_0000_0000 0x0 0x0 0x41cd_cd65_0000_0000
    ∷ silent 0x8000_0000_0000_0001 0x0 0x0 0x41cd_cd65_0000_0000
    -- period 86,400, one step below, one above
    ∷ silent 0x40f5_1800_0000_0000 0x0 0x0 0x41cd_cd65_0000_0000
    ∷ silent 0x40f5_17ff_ffff_ffff 0x0 0x0 0x41cd_cd65_0000_0000
    ∷ silent 0x40f5_1800_0000_0001 0x0 0x0 0x41cd_cd65_0000_0000
    -- drift -0, the smallest below 0, the smallest above
    ∷ silent 0x403e_0000_0000_0000 0x8000_0000_0000_0000 0x0 0x403e_0000_0000_0000
    ∷ silent 0x403e_0000_0000_0000 0x8000_0000_0000_0001 0x0 0x403e_0000_0000_0000
    ∷ silent 0x403e_0000_0000_0000 0x1 0x0 0x403e_0000_0000_0000
    -- drift 0.5, one step below, one above
    ∷ silent 0x403e_0000_0000_0000 0x3fe0_0000_0000_0000 0x0 0x41cd_cd65_0000_0000
    ∷ silent 0x403e_0000_0000_0000 0x3fdf_ffff_ffff_ffff 0x0 0x41cd_cd65_0000_0000
    ∷ silent 0x403e_0000_0000_0000 0x3fe0_0000_0000_0001 0x0 0x41cd_cd65_0000_0000
    ∷ [])
    ≡ 21 ∷ 21 ∷ 21 ∷ 0 ∷ 0 ∷ 21 ∷ 0 ∷ 21 ∷ 0 ∷ 0 ∷ 0 ∷ 21 ∷ []

-- The limits of the two times and their neighbours (rule 13.2), with a period of 1 and no drift.
abbrev pub TimeLimits : Type 0
TimeLimits =
    answers
    -- begin -0, the smallest below 0
    (silent 0x3ff0_0000_0000_0000 0x0 0x8000_0000_0000_0000 0x3ff0_0000_0000_0000
    ∷ silent 0x3ff0_0000_0000_0000 0x0 0x8000_0000_0000_0001 0x3ff0_0000_0000_0000
    -- begin 1,000,000,000, one step below, one above
    ∷ silent 0x3ff0_0000_0000_0000 0x0 0x41cd_cd65_0000_0000 0x41cd_cd65_0000_0000
    ∷ silent 0x3ff0_0000_0000_0000 0x0 0x41cd_cd64_ffff_ffff 0x41cd_cd65_0000_0000
    ∷ silent 0x3ff0_0000_0000_0000 0x0 0x41cd_cd65_0000_0001 0x41cd_cd65_0000_0000
    -- now -0, the smallest below 0
    ∷ silent 0x3ff0_0000_0000_0000 0x0 0x0 0x8000_0000_0000_0000
    ∷ silent 0x3ff0_0000_0000_0000 0x0 0x0 0x8000_0000_0000_0001
    -- now 1,000,000,000, one step below, one above
    ∷ silent 0x3ff0_0000_0000_0000 0x0 0x0 0x41cd_cd65_0000_0000
    ∷ silent 0x3ff0_0000_0000_0000 0x0 0x0 0x41cd_cd64_ffff_ffff
    ∷ silent 0x3ff0_0000_0000_0000 0x0 0x0 0x41cd_cd65_0000_0001
    ∷ [])
    ≡ 0 ∷ 21 ∷ 25 ∷ 25 ∷ 21 ∷ 25 ∷ 21 ∷ 0 ∷ 0 ∷ 21 ∷ []

-- No number (quiet, signalling, with a sign) and the infinities, in each of the four places (rule 13.2).
abbrev pub LeaseSpecials : Type 0
LeaseSpecials =
    answers
    (silent 0x7ff8_0000_0000_0000 0x0 0x0 0x3ff0_0000_0000_0000
    ∷ silent 0x3ff0_0000_0000_0000 0x7ff0_0000_0000_0001 0x0 0x3ff0_0000_0000_0000
    ∷ silent 0x3ff0_0000_0000_0000 0x0 0xfff8_0000_0000_0000 0x3ff0_0000_0000_0000
    ∷ silent 0x3ff0_0000_0000_0000 0x0 0x0 0x7fff_ffff_ffff_ffff
    ∷ silent 0x7ff0_0000_0000_0000 0x0 0x0 0x3ff0_0000_0000_0000
    ∷ silent 0x3ff0_0000_0000_0000 0x7ff0_0000_0000_0000 0x0 0x3ff0_0000_0000_0000
    ∷ silent 0x3ff0_0000_0000_0000 0x0 0xfff0_0000_0000_0000 0x3ff0_0000_0000_0000
    ∷ silent 0x3ff0_0000_0000_0000 0x0 0x0 0x7ff0_0000_0000_0000
    -- the same places with numbers in all of them
    ∷ silent 0x3ff0_0000_0000_0000 0x0 0x0 0x3ff0_0000_0000_0000
    ∷ [])
    ≡ 21 ∷ 21 ∷ 21 ∷ 21 ∷ 21 ∷ 21 ∷ 21 ∷ 21 ∷ 0 ∷ []

-- A desk that does not stand, desk 2, in place of desk 1.
abbrev pub absent : LeaseExpiry → LeaseExpiry
absent r = record { desk = stamp 0 2 0; lease = r.lease; begin = r.begin; now = r.now }

-- The order 10, 21, 15, 25 (rule 13.5): where a row applies, those behind it make no difference.
abbrev pub LeaseOrder : Type 0
LeaseOrder =
    answers
    (absent (silent 0x3ff0_0000_0000_0000 0x0 0x0 0x3ff0_0000_0000_0000)
    ∷ absent (silent 0x3ff0_0000_0000_0000 0x0 0x0 0x0)
    ∷ absent (silent 0x0 0x0 0x0 0x0)
    ∷ silent 0x0 0x0 0x0 0x0
    ∷ [])
    ≡ 15 ∷ 15 ∷ 21 ∷ 21 ∷ []

-- A lease of 30 with a drift of 0.5, and with the smallest drift; a time by its bits.
abbrev pub drifting : Lease
drifting = (silent 0x403e_0000_0000_0000 0x3fe0_0000_0000_0000 0x0 0x0).lease

abbrev pub steady : Lease
steady = (silent 0x403e_0000_0000_0000 0x1 0x0 0x0).lease

abbrev pub clock : ℕ → Float
clock bits = of_bits binary64 bits

-- Since 100: the first is over at 145, not at 144, and over at the last time of the range. Its wait is 45; that of the
-- second is the period.
pub record LeaseTimes : Type 0 where
  pub over : expired drifting (clock 0x4059_0000_0000_0000) (clock 0x4062_2000_0000_0000) ≡ true
  pub sooner : expired drifting (clock 0x4059_0000_0000_0000) (clock 0x4062_0000_0000_0000) ≡ false
  pub last : expired drifting (clock 0x4059_0000_0000_0000) (clock 0x41cd_cd65_0000_0000) ≡ true
  pub waits_45 : wait drifting ≡ clock 0x4046_8000_0000_0000
  pub waits_30 : wait steady ≡ clock 0x403e_0000_0000_0000

-- All of them: the end of a wait, the limits of the term and of the times, what is no number, the order of the rows, and the wait itself.
pub record LeaseCases : Type 0 where
  pub ends : LeaseEnds
  pub terms : LeaseLimits
  pub times : TimeLimits
  pub specials : LeaseSpecials
  pub order : LeaseOrder
  pub waits : LeaseTimes
