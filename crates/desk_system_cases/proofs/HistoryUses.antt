-- The one theorem used, on a log that is cut and begins again. Assumes nothing.
use mathlib.Core.Path.{◌≡◌, refl}
use mathlib.Core.List.{List, [], ◌∷◌}
use Rattle.formats.specs.Format.{V1}
use Rattle.lists.specs.Parts.{every}
use Rattle.lists.specs.Le.{to_le}
use Rattle.lists.specs.Table.{all, all_from}
use Rattle.lists.specs.Runs.{every_along}
use Rattle.stamps.specs.Stamp.{stamp}
use Rattle.commands.specs.Bytes.{command_bytes}
use Rattle.image.specs.Layout.{shape_ok}
use Rattle.redo_log.specs.Log.{good_log, records}
use Rattle.store_model.proofs.ByTest.{bytes_by_lem, sent_bytes}
use Rattle.redo_log_claims.specs.Cases.{begin_of, empty_log}
use Rattle.desk_system.specs.System.{Move, send, append_to, renew_log, AllFit}
use Rattle.desk_system.specs.Claims.{ByRules, finally}
use Rattle.desk_system.specs.OneHistory.{GoodLog}
use Rattle.desk_system_cases.specs.Trials.{two_places, blank_logs, read_under}
use Rattle.desk_system.proofs.OneHistory.{one_history, logs_follow}

-- ---- the theorem, used: a log that is cut and then begins again

few : List Move
few = append_to 3 5 (begin_of 1) ∷ renew_log 3 ∷ []

few_rules : ByRules V1 1 16 two_places blank_logs few
unfolding every_along shape_ok all all_from few to_le
few_rules = record { shape = tt; fits = (bytes_by_lem (begin_of 1).body tt, (tt, tt)); rules = refl }

blank_log : GoodLog (empty_log 64)
unfolding good_log every
blank_log = record { good = refl; bytes = bytes_by_lem (empty_log 64) tt }

few_read : records ((finally V1 1 16 two_places blank_logs few).logs 3).bytes ≡ ((finally V1 1 16 two_places blank_logs few).logs 3).whole
few_read = (one_history V1 1 16 two_places blank_logs few few_rules (λ d. blank_log)).read_back 3

-- Against the rules, too: a request that nobody proposed anything for comes first.
abbrev unruled : List Move
unruled = send (read_under (stamp 0 1 0) 0) ∷ few

unruled_fits : AllFit unruled
unfolding command_bytes to_le
unruled_fits = (sent_bytes (read_under (stamp 0 1 0) 0) tt tt, few_rules.fits)

unruled_read : records ((finally V1 1 16 two_places blank_logs unruled).logs 3).bytes ≡ ((finally V1 1 16 two_places blank_logs unruled).logs 3).whole
unruled_read = (logs_follow V1 1 16 two_places blank_logs unruled unruled_fits (λ d. blank_log) 3).1
