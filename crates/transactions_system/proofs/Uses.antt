-- Theorems on desks that propose and have transactions, used on the worked run and where their hypotheses only just
-- hold: no deal at all and nobody under the rules, the last desk and start, an order that comes at once. A stricter
-- hypothesis or a sentence left out is noticed here.
-- Assumes nothing.
use Prim.Native.Nat.{ℕ}
use native.Mathlib.Omega.{arith}
use mathlib.Core.Path.{◌≡◌, refl}
use mathlib.Core.List.{List, [], ◌∷◌}
use mathlib.Core.Bool.{Bool, true, false}
use lib.Dec.{T}
use Rattle.formats.specs.Format.{V1}
use Rattle.lists.specs.Parts.{part}
use Rattle.lists.specs.Le.{le, to_le}
use Rattle.lists.specs.Table.{all, all_from}
use Rattle.lists.specs.Runs.{foldl, every_along}
use Rattle.stamps.specs.Stamp.{stamp, exclusive, no_mark}
use Rattle.commands.specs.Command.{original}
use Rattle.commands.specs.Bytes.{fields_of, command_bytes}
use Rattle.image.specs.Layout.{shape_ok}
use Rattle.image.specs.Image.{fresh}
use Rattle.store_model.specs.Words.{Sent, premise, commands_in}
use Rattle.store_model.specs.Cases.{pair}
use Rattle.redo_log_claims.specs.Cases.{empty_log}
use Rattle.redo_recovery_model.specs.Claims.{text_in}
use Rattle.desk_proposals.specs.Propose.{learnt, next_t, pair_for, proposed}
use Rattle.desk_system.specs.System.{System, propose, learn, send, opening, allowed, step_to, system_after}
use Rattle.desk_system.specs.Claims.{ByRules, finally}
use Rattle.desk_system_cases.specs.Trials.{two_places}
use Rattle.transactions.specs.System.{command_in, opens_above, mark_in}
use Rattle.transactions.specs.Desks.{Desks, desks_opening, after_desk_steps, DesksMoment}
use Rattle.transactions.proofs.Claims.{zeros_blank}
use Rattle.transactions_cases.specs.Cases.{command, ours}
use Rattle.transactions_system.specs.Together.{moves_in, steps_in, sends_along, ByBoth, OneRun, Proposes, MayOrder}
use Rattle.transactions_system.specs.Cases.{five_ruled, dealt}
use Rattle.transactions_system.proofs.Together.{both_are_one, proposals_order}
use Rattle.transactions_system.proofs.Cases.{dealt_by_both}

-- ---- the worked run, each sentence (rule 16.16)

abbrev logs : ℕ → List ℕ
logs d = empty_log 64

abbrev dealt_end : Desks
dealt_end = after_desk_steps (desks_opening (fresh V1 1 16) logs) (steps_in dealt)

one_run : OneRun 1 16 two_places five_ruled logs dealt
one_run = both_are_one 1 16 two_places five_ruled logs dealt dealt_by_both.rules

dealt_store : (finally V1 1 16 two_places logs (moves_in (desks_opening (fresh V1 1 16) logs) dealt)).store.image ≡ dealt_end.image
dealt_store = one_run.store

dealt_rules : ByRules V1 1 16 two_places logs (moves_in (desks_opening (fresh V1 1 16) logs) dealt)
dealt_rules = one_run.conduct

dealt_moment : DesksMoment five_ruled dealt_end
dealt_moment = one_run.moment

-- Of a card that is not there, too.
dealt_premised : premise 9 (commands_in (finally V1 1 16 two_places logs (moves_in (desks_opening (fresh V1 1 16) logs) dealt)).store.trace) ≡ true
dealt_premised = one_run.premised 9

dealt_refines : five_ruled (mark_in dealt_end.image 0).desk ≡ false → text_in dealt_end.image original 0 ≡ dealt_end.meant 0 original
dealt_refines = one_run.refines.plain 0 original

-- ---- nothing happens, and nobody is under the rules

abbrev nobody : ℕ → Bool
nobody d = false

shape_one : T (shape_ok V1 1 16)
unfolding shape_ok all all_from
shape_one = tt

idle : ByBoth 1 16 two_places nobody (λ d. empty_log 0) []
unfolding moves_in steps_in sends_along every_along
idle = record { shape = shape_one; nobody = refl; blank = λ d. zeros_blank 2201 (omega arith) (omega arith); bytes = tt; sends = refl; moves = refl; steps = refl }

idle_moment : DesksMoment nobody (after_desk_steps (desks_opening (fresh V1 1 16) (λ d. empty_log 0)) (steps_in []))
idle_moment = (both_are_one 1 16 two_places nobody (λ d. empty_log 0) [] idle).moment

-- ---- an order by a proposal (rule 16.17): desk 65535 with start 65535, for a card that is not there

abbrev last : ℕ
last = stamp 0 65535 65535

abbrev start : System
start = opening V1 1 16 two_places logs

abbrev prepares7 : Sent
prepares7 = command 5 7 0 last no_mark ours [] []

proposes7 : Proposes start last 7 (pair 0 0) prepares7
unfolding proposed pair_for next_t learnt fields_of command_bytes le to_le part
proposes7 = record { used = omega arith; number = refl; card_is = refl; mode_is = refl; relies = refl; opens = refl }

may_order : MayOrder start last 7 (pair 0 0) prepares7
may_order = proposals_order start last 7 (pair 0 0) prepares7 proposes7

ordered7 : opens_above (command_in prepares7) (record { card = 7; x = 0; reach = 3 }) ≡ true
ordered7 = may_order.ordered (record { card = 7; x = 0; reach = 3 }) refl refl

arrives7 : allowed (system_after start (learn last 7 (pair 0 0) ∷ propose last 7 exclusive ∷ [])) (send prepares7) ≡ true
unfolding foldl step_to proposed pair_for next_t learnt
arrives7 = may_order.arrives [] refl
