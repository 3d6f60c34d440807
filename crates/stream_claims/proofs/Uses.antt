-- Theorems on streams, and on the numbers in them, used where their hypotheses only just hold: no bytes, a place beyond the end, no commands in
-- front of a rest, the largest byte. A stricter hypothesis or a sentence left out is noticed here. Assumes nothing.
use Prim.Native.Nat.{◌^◌, ◌≤◌, ◌<◌}
use native.Mathlib.Omega.{arith}
use mathlib.Core.Path.{◌≡◌, refl}
use mathlib.Core.List.{[], ◌∷◌, ◌++◌}
use lib.ListN.{drop, replicate}
use Rattle.std.specs.Prelude.{None}
use Rattle.lists.specs.Le.{le, to_le}
use Rattle.lists.proofs.Bytes.{Bytes_nil, Bytes_cons}
use Rattle.lists.proofs.Claims.{number_comes_back, bytes_come_back, number_fits}
use Rattle.formats.specs.Format.{V1, V2}
use Rattle.stream.specs.Stream.{end_to_end, whole, commands, end_of, next_at}
use Rattle.stream_claims.proofs.Claims.{claims}

-- No bytes at all, in either version.
joined_none : end_to_end (commands V1 []) ++ drop (end_of V1 []) [] ≡ []
joined_none = (claims.parts V1 []).joined

within_none : end_of V2 [] ≤ 0
within_none = (claims.parts V2 []).within

stops_none : next_at V2 [] (end_of V2 []) ≡ None
stops_none = (claims.visits V2 []).stops

-- 51 and 67 bytes begin no whole command, also with none in front of them.
rest51 : commands V1 (end_to_end [] ++ replicate 51 0) ≡ []
unfolding whole
rest51 = claims.back V1 [] (replicate 51 0) (λ i h. absurd (omega (arith, h))) refl

rest67 : commands V2 (end_to_end [] ++ replicate 67 0) ≡ []
unfolding whole
rest67 = claims.back V2 [] (replicate 67 0) (λ i h. absurd (omega (arith, h))) refl

-- A place beyond the end is a cut, and nothing is read from there on.
beyond : next_at V1 [] 99 ≡ None → commands V1 (drop 99 []) ≡ []
beyond = (claims.stepping V1 [] 99).stops

-- ---- little-endian numbers, of no bytes and of one, at its largest

number_none : le (to_le 0 0) ≡ 0
number_none = number_comes_back 0 0 (omega arith)

number_largest : le (to_le 1 255) ≡ 255
number_largest = number_comes_back 1 255 (omega arith)

digits_none : to_le 0 (le []) ≡ []
digits_none = bytes_come_back [] Bytes_nil

digits_largest : to_le 1 (le (255 ∷ [])) ≡ 255 ∷ []
digits_largest = bytes_come_back (255 ∷ []) (Bytes_cons [] (omega arith) Bytes_nil)

fits_none : le [] < 256 ^ 0
fits_none = number_fits [] Bytes_nil

fits_largest : le (255 ∷ []) < 256 ^ 1
fits_largest = number_fits (255 ∷ []) (Bytes_cons [] (omega arith) Bytes_nil)
