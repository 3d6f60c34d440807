-- The premise, used where no story is needed and the hypotheses only just hold: 33 places, and a leave of a desk that never
-- started, by a manager that has heard of nobody. A stricter rule is noticed here.
-- Assumes nothing.
use Prim.Native.Nat.{ℕ}
use mathlib.Core.Path.{◌≡◌, refl}
use mathlib.Core.List.{List, [], ◌∷◌}
use mathlib.Core.Bool.{true}
use lib.ListN.{replicate}
use Rattle.formats.specs.Format.{V1}
use Rattle.lists.specs.Table.{all, all_from}
use Rattle.lists.specs.Runs.{every_along}
use Rattle.stamps.specs.Stamp.{stamp}
use Rattle.image.specs.Layout.{shape_ok}
use Rattle.store_model.specs.Words.{premise, commands_in}
use Rattle.lock_queue.specs.Queue.{no_waiting}
use Rattle.lock_queue.specs.Requests.{leaves}
use Rattle.lock_queue.specs.declared.Waiting.{Waiting}
use Rattle.desk_system.specs.System.{Move, at_queue}
use Rattle.desk_system.specs.Claims.{ByRules, finally}
use Rattle.desk_system.proofs.Claims.{premise_kept}

abbrev many : ℕ → ℕ → List Waiting
many k m = replicate 33 no_waiting

abbrev no_logs : ℕ → List ℕ
no_logs desk = []

abbrev stranger : List Move
stranger = at_queue 0 7 33 (leaves (stamp 0 3 0)) ∷ []

strange : ByRules V1 1 16 many no_logs stranger
unfolding every_along shape_ok all all_from
strange = record { shape = tt; fits = (tt, tt); rules = refl }

strange_premise : premise 0 (commands_in (finally V1 1 16 many no_logs stranger).store.trace) ≡ true
strange_premise = premise_kept V1 1 16 many no_logs stranger strange 0
