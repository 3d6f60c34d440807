-- Next steps row by row, and a desk that follows them through the hazard; with logs that begin again, one table. Proved
-- in proofs/Cases.antt.
-- Assumes nothing.
use Rattle.std.specs.Prelude.{ℕ, ◌≡◌, List, [], ◌∷◌, ◌++◌, map, Bool, true, false}
use Rattle.formats.specs.Format.{V1}
use Rattle.lists.specs.Table.{all}
use Rattle.image.specs.Image.{decode, fresh}
use Rattle.store_model.specs.Cases.{text205, text401}
use Rattle.redo_log.specs.Log.{LogRecord}
use Rattle.redo_log_claims.specs.Cases.{begin_of, update_of, commit_of, synced_of, empty_log}
use Rattle.transactions.specs.System.{Step, other, order, arrive, append, crash, recover, renew, after_steps}
use Rattle.transactions_cases.specs.Cases.{
  text210,
  one,
  five,
  at_first,
  prepare,
  writes1,
  begins,
  prepares_both,
  commits,
  writes_out0,
  releases0,
  syncs0,
  finishes1,
  overtaken,
  notes,
}
use Rattle.transaction_steps.specs.declared.LastSeen.{LastSeen}
use Rattle.transaction_steps.specs.Steps.{
  ToldStep,
  plain_step,
  nothing_step,
  look_step,
  prepare_step,
  ready_step,
  write_step,
  release_step,
  note_step,
  wait_step,
  bad_step,
  next_step,
  next_of,
  seen_upon,
}
use Rattle.transaction_steps_claims.specs.AgainCases.{AgainCases}
use Rattle.transaction_steps_claims.specs.Ends.{nobody_between}
use Rattle.transaction_steps_claims.specs.Follower.{Doing, incoming, arriving, sending, logging, renewing, falling, follower_opening, all_as_told}

-- ---- the rows, of desk 5

abbrev pub saw_mark : ℕ → Bool → ℕ → LastSeen
saw_mark mark held reach = record { known = true; held = held; mark = mark; reach = reach }

abbrev pub saw_nothing : LastSeen
saw_nothing = record { known = false; held = true; mark = 5; reach = 9 }

-- A transaction of two updates of card 0 and one of card 1, open; and committed.
abbrev pub open_one : List LogRecord
open_one = begin_of 1 ∷ update_of 0 1 text205 ∷ update_of 1 1 text205 ∷ update_of 0 2 text401 ∷ []

abbrev pub committed_one : List LogRecord
committed_one = open_one ++ (commit_of 1 ∷ [])

-- Two committed transactions of card 0, the first one noted and a third one open.
abbrev pub third_open : List LogRecord
third_open =
    committed_one
    ++ (synced_of 0 1 ∷ begin_of 2 ∷ update_of 0 1 text401 ∷ commit_of 2 ∷ begin_of 3 ∷ update_of 1 1 text401 ∷ [])

abbrev pub to_write : ℕ → ToldStep
to_write line = record { step = write_step; line = line; transaction = 0 }

abbrev pub to_note : ℕ → ToldStep
to_note transaction = record { step = note_step; line = 0; transaction = transaction }

pub record StepRows : Type 0 where
  -- open: no mark, another desk's, its own by an accepted prepare, its own otherwise; given up; a card that it does not update
  pub opening :
      map (next_step 5 open_one 0 true) (saw_mark 0 false 0 ∷ saw_mark 6 false 0 ∷ saw_mark 5 true 0 ∷ saw_mark 5 false 0 ∷ saw_nothing ∷ [])
      ≡ plain_step prepare_step ∷ plain_step wait_step ∷ plain_step ready_step ∷ plain_step release_step ∷ plain_step look_step ∷ []
  pub given_up : map (next_step 5 open_one 0 false) (saw_mark 0 false 0 ∷ saw_mark 5 true 0 ∷ []) ≡ plain_step nothing_step ∷ plain_step release_step ∷ []
  pub another : map (next_step 5 open_one 2 true) (saw_mark 0 false 0 ∷ saw_mark 5 true 0 ∷ []) ≡ plain_step nothing_step ∷ plain_step release_step ∷ []
  -- committed: the first line, the next one behind it, none left; and the hazard: without the mark no line is written
  pub writing :
      map (next_step 5 committed_one 0 true) (saw_mark 5 true 0 ∷ saw_mark 5 false 2 ∷ saw_mark 5 false 4 ∷ [])
      ≡ to_write 1 ∷ to_write 3 ∷ plain_step release_step ∷ []
  pub hazard : map (next_step 5 committed_one 0 true) (saw_mark 0 false 0 ∷ saw_mark 6 false 2 ∷ []) ≡ to_note 1 ∷ to_note 1 ∷ []
  -- what is noted is not written again, and the last transaction is the one that is noted
  pub second : map (next_step 5 third_open 0 true) (saw_mark 5 false 0 ∷ saw_mark 0 false 0 ∷ []) ≡ to_write 7 ∷ to_note 2 ∷ []
  -- a card with something due and in the open transaction is finished first
  pub third : map (next_step 5 third_open 1 true) (saw_mark 0 false 0 ∷ saw_mark 5 true 0 ∷ []) ≡ to_note 1 ∷ to_write 2 ∷ []
  -- in bytes: an empty log, the same of desk 0, and no log
  pub bytes :
      next_of (empty_log 64) 5 0 true (saw_mark 0 false 0) ∷ next_of (empty_log 64) 0 0 true (saw_mark 0 false 0) ∷ next_of [] 5 0 true (saw_mark 0 false 0) ∷ []
      ≡ plain_step nothing_step ∷ plain_step bad_step ∷ plain_step bad_step ∷ []
  -- answers: a prepare and a write that are accepted, a write that is stale, a look that no card answers
  pub answers :
      seen_upon prepare_step 0 0 5 ∷ seen_upon write_step 3 0 5 ∷ seen_upon write_step 3 3 5 ∷ []
      ≡ saw_mark 5 true 0 ∷ saw_mark 5 false 4 ∷ saw_mark 5 false 0 ∷ []
  pub no_entry_lem : map (λ n. (seen_upon look_step 0 n 0).known) (0 ∷ 1 ∷ 2 ∷ 3 ∷ 4 ∷ 9 ∷ 17 ∷ []) ≡ true ∷ false ∷ false ∷ true ∷ true ∷ false ∷ true ∷ []

-- ---- runs of a desk that follows

-- A step of the system as a thing that the desk does; it hears every answer.
abbrev pub done_as_told : Step → Doing
done_as_told (other s) = incoming s true
done_as_told (order s line from) = sending s true line from
done_as_told (arrive i) = arriving i true
done_as_told (append budget r) = logging budget r
done_as_told crash = falling
done_as_told (recover pairs lines) = falling
done_as_told renew = renewing

-- The same, and it hears of nothing.
abbrev pub unheard : Step → Doing
unheard (other s) = incoming s false
unheard (order s line from) = sending s true line from
unheard (arrive i) = arriving i false
unheard (append budget r) = logging budget r
unheard crash = falling
unheard (recover pairs lines) = falling
unheard renew = renewing

abbrev pub from_fresh : List Doing → Bool
from_fresh doings = all_as_told 5 (follower_opening (fresh V1 2 16) (empty_log 64)) doings

pub record FollowerRuns : Type 0 where
  -- through the hazard: card 0 is released and not noted, the desk goes down, another one writes the card
  pub told : from_fresh (map done_as_told (begins ++ prepares_both ++ commits ++ writes_out0 ++ releases0 ++ overtaken ++ notes)) ≡ true
  -- an ordinary run to its end, and the log begins again
  pub whole : from_fresh (map done_as_told (begins ++ prepares_both ++ commits ++ writes_out0 ++ releases0 ++ syncs0 ++ finishes1) ++ (renewing ∷ [])) ≡ true
  -- a commit whose prepares were not heard of is not as told, though they were accepted
  pub deaf : from_fresh (map done_as_told begins ++ map unheard prepares_both ++ map done_as_told commits) ≡ false
  -- the first prepare relies on what stands there; once another desk has written the card, it does not
  pub still :
      map (λ (steps : List Step). all (nobody_between (decode V1 (after_steps 5 at_first steps).image) (prepare 0 (one 1) (five 2))))
      (begins ∷ (begins ++ (writes1 0 (one 9) text210 ∷ [])) ∷ [])
      ≡ true ∷ false ∷ []

-- ---- all of them

-- One table: the rows, the runs, and logs that begin again.
abbrev pub NextStepCases : Type 0
NextStepCases = StepRows × (FollowerRuns × AgainCases)
