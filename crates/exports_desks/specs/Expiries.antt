-- A silent desk by its five numbers.
-- Assumes nothing.
use Rattle.std.specs.Prelude.{ℕ, Float}
use Rattle.lock_queue.specs.declared.LeaseExpiry.{LeaseExpiry}

-- The desk and start, the lease's period and drift, the time since which it is held failed, and the time now.
abbrev pub expiry_of : ℕ → Float → Float → Float → Float → LeaseExpiry
expiry_of desk period drift begin time = record { desk = desk; lease = record { period = period; drift = drift }; begin = begin; now = time }
