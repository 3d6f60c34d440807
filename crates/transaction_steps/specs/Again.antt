-- A log that begins again (docs/RULES.md, rules 16.18 and 16.27).
-- Assumes nothing.
use Rattle.std.specs.Prelude.{ℕ, List, Bool, cond, ◌&&◌}
use Rattle.redo_log.specs.Log.{good_log, records}
use Rattle.redo_log_claims.specs.Life.{renewed}
use Rattle.transactions.specs.System.{nothing_due}

-- Rule 16.27: a good log in which nothing is due begins again; any other bytes stay as they are.
abbrev pub begins_again : List ℕ → Bool
begins_again log = good_log log && nothing_due (records log)

abbrev pub begun_again : List ℕ → List ℕ
begun_again log = cond (begins_again log) (renewed log) log
