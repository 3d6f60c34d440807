-- A run by the rules of both sections, by computation on bytes: every stamp in it is proposed, and desk 5 finishes its
-- transaction by a recovery. Proved in proofs/Cases.antt.
-- Assumes nothing.
use Rattle.std.specs.Prelude.{ℕ, ◌≡◌, List, [], ◌∷◌, Bool, eqb}
use Rattle.formats.specs.Format.{V1}
use Rattle.stamps.specs.Stamp.{exclusive, no_mark}
use Rattle.commands.specs.Command.{original}
use Rattle.image.specs.Image.{fresh}
use Rattle.store_model.specs.Cases.{pair, text205}
use Rattle.redo_log_claims.specs.Cases.{begin_of, update_of, commit_of, synced_of, empty_log}
use Rattle.redo_recovery_model.specs.Claims.{text_in}
use Rattle.desk_system.specs.System.{begin, propose, learn}
use Rattle.desk_system_cases.specs.Trials.{two_places}
use Rattle.transactions.specs.System.{order, arrive, recover, mark_in}
use Rattle.transactions.specs.Desks.{outside, by_desk, desks_opening, after_desk_steps}
use Rattle.transactions_cases.specs.Cases.{text190, one, five, command, prepare, release, logs, both_under}
use Rattle.transactions_system.specs.Together.{Deal, beside, along, steps_in, ByBoth}

abbrev pub five_ruled : ℕ → Bool
five_ruled d = eqb d 5

-- Desk 1 writes card 0 under its first proposal. Desk 5 logs a transaction, learns the x of the answer, proposes, and
-- prepares the card; it commits, and recovers and releases under its next two proposals.
abbrev pub dealt : List Deal
dealt =
    beside (begin (one 0))
    ∷ beside (propose (one 0) 0 exclusive)
    ∷ along (outside (command 3 0 0 (one 0) no_mark no_mark text190 []))
    ∷ beside (begin (five 0))
    ∷ along (by_desk 5 (logs (begin_of 1)))
    ∷ along (by_desk 5 (logs (update_of 0 1 text205)))
    ∷ beside (learn (five 0) 0 (pair 0 (one 0)))
    ∷ beside (propose (five 0) 0 exclusive)
    ∷ along (by_desk 5 (order (prepare 0 (one 0) (five 0)) 0 0))
    ∷ along (by_desk 5 (arrive 0))
    ∷ along (by_desk 5 (logs (commit_of 1)))
    ∷ beside (propose (five 0) 0 exclusive)
    ∷ along (by_desk 5 (recover (both_under (five 1)) 3))
    ∷ beside (propose (five 0) 0 exclusive)
    ∷ along (by_desk 5 (order (release 0 (five 1) (five 2)) 0 0))
    ∷ along (by_desk 5 (arrive 0))
    ∷ along (by_desk 5 (logs (synced_of 0 1)))
    ∷ []

pub record Dealt : Type 0 where
  -- it is a run of which the claim speaks
  pub rules : ByBoth 1 16 two_places five_ruled (λ d. empty_log 64) dealt
  pub shows : text_in (after_desk_steps (desks_opening (fresh V1 1 16) (λ d. empty_log 64)) (steps_in dealt)).image original 0 ≡ text205
  pub released : mark_in (after_desk_steps (desks_opening (fresh V1 1 16) (λ d. empty_log 64)) (steps_in dealt)).image 0 ≡ no_mark
