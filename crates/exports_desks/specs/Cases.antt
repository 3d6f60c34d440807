-- Worked cases of what stands where in the arrays and numbers that callers in C hand over. Proved by computation in
-- proofs/Cases.antt.
-- Assumes nothing.
use Rattle.std.specs.Prelude.{◌≡◌, [], ◌∷◌}
use Rattle.std.specs.Float.{binary64}
use Rattle.std.specs.Float.Ieee.{of_bits}
use Rattle.exports_desks.specs.Desks.{pair_in, stamps_of, known_in}
use Rattle.exports_desks.specs.Expiries.{expiry_of}

pub record NumberCases : Type 0 where
  -- a pair is s, then x, read and written; what a desk knows has its desk, its start and that pair
  pub pair_read : pair_in (7 ∷ 8 ∷ []) ≡ record { s = 7; x = 8 }
  pub pair_written : stamps_of (record { s = 7; x = 8 }) ≡ 7 ∷ 8 ∷ []
  pub known : known_in 1 2 (7 ∷ 8 ∷ []) ≡ record { desk = 1; start = 2; pair = record { s = 7; x = 8 } }
  -- a lease expiry is the desk and start, period, drift, begin, now: here 30, a half, 100 and 145
  pub expiry :
      expiry_of 65536 (of_bits binary64 0x403e_0000_0000_0000) (of_bits binary64 0x3fe0_0000_0000_0000) (of_bits binary64 0x4059_0000_0000_0000) (of_bits binary64 0x4062_2000_0000_0000)
      ≡ record {
        desk = 65536;
        lease = record { period = of_bits binary64 0x403e_0000_0000_0000; drift = of_bits binary64 0x3fe0_0000_0000_0000 };
        begin = of_bits binary64 0x4059_0000_0000_0000;
        now = of_bits binary64 0x4062_2000_0000_0000;
      }
