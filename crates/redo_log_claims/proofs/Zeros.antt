-- A log of zeros is good and empty. Assumes nothing.
use Prim.Native.Nat.{ℕ, zero, suc}
use mathlib.Core.Path.{◌≡◌, refl, ◌∙◌}
use mathlib.Core.Bool.{true, ◌&&◌, and-true}
use lib.Dec.{leb}
use lib.ListN.{replicate, length-replicate}
use Rattle.lists.specs.Parts.{tabulate, every}
use Rattle.redo_log.specs.Log.{bodies_from, most_log, record_count, good_log, records}
use Rattle.redo_log_claims.specs.Claims.{ZeroLogs}

none_counted : (n : ℕ) → record_count (replicate n 0) ≡ 0
none_counted zero = refl
none_counted (suc n) = refl

pub zero_logs : ZeroLogs
unfolding good_log records tabulate every
zero_logs n =
    record {
      good = rw (none_counted n, length-replicate {A = ℕ} n 0) (and-true (leb bodies_from n && leb n most_log && true) ∙ and-true (leb bodies_from n && leb n most_log));
      empty = rw (none_counted n);
    }
