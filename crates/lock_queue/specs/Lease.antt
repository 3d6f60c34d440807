-- Lease terms, in the library's account of f64 (IEEE 754, binary64): each operation is rounded once, to the nearest, ties to even. A comparison with
-- a value that is no number fails, so such a value passes no test below. After 002, section 3: the lease period and the rate by which two clocks may
-- differ. No demand rests on leases (the end of section 13).
-- Assumes nothing.
use Rattle.std.specs.Prelude.{Bool, ◌&&◌, Float}
use Rattle.std.specs.Float.{binary64}
use Rattle.std.specs.Float.Ieee.{add, sub, mul, lt, le}
use Rattle.floats.specs.Numbers.{whole_float, half}
use Rattle.lock_queue.specs.declared.Lease.{Lease}
use Rattle.lock_queue.specs.declared.LeaseExpiry.{LeaseExpiry}

-- Rule 13.2: a period above 0 and up to a day of 86,400 seconds, a drift from 0 to a half.
abbrev pub valid_term : Lease → Bool
valid_term l = lt (whole_float 0) l.period && le l.period (whole_float 86400) && le (whole_float 0) l.drift && le l.drift half

-- Rule 13.2: a time from 0 to 1,000,000,000.
abbrev pub valid_time : Float → Bool
valid_time t = le (whole_float 0) t && le t (whole_float 1_000_000_000)

-- Rule 13.3: the period, lengthened by the drift. 1 and the drift are added first.
abbrev pub wait : Lease → Float
wait l = mul binary64 l.period (add binary64 (whole_float 1) l.drift)

-- Rule 13.4: as much time as the wait has passed.
abbrev pub expired : Lease → Float → Float → Bool
expired l begin now = le (wait l) (sub binary64 now begin)

-- Rule 13.2, of the whole request.
abbrev pub in_range : LeaseExpiry → Bool
in_range r = valid_term r.lease && valid_time r.begin && valid_time r.now
