-- The hazard, finished: card 0 has lost the mark and another desk has written it, card 1 bears the mark, and of both something is
-- due. With the bytes for two notes the desk comes to an end, with one byte less it does not. Proved in proofs/Cases.antt.
-- Assumes nothing.
use Rattle.std.specs.Prelude.{ℕ, ◌≡◌, List, [], ◌∷◌, ◌++◌, Bool, true, false}
use Rattle.formats.specs.Format.{V1}
use Rattle.commands.specs.Command.{original}
use Rattle.image.specs.Image.{fresh}
use Rattle.store_model.specs.Cases.{text401}
use Rattle.redo_log.specs.Log.{records}
use Rattle.redo_log_claims.specs.Cases.{synced_of, empty_log}
use Rattle.redo_recovery_model.specs.Claims.{text_in}
use Rattle.transactions.specs.System.{OneDesk, Step, one_desk_opening, mark_in, nothing_due, after_steps}
use Rattle.transactions.specs.Claims.{Moment}
use Rattle.transactions_cases.specs.Cases.{text210, one, five, restarted, reading, write_out, release, begins, prepares_both, commits, writes_out0, releases0, overtaken}
use Rattle.transaction_steps_claims.specs.Follower.{Doing, incoming, arriving, sending, logging, after_doings, all_as_told}
use Rattle.transactions_finish.specs.Finish.{room_to_finish, own_doings, starts_again}

-- Card 0 is written out and released, and not noted; the desk goes down, and desk 1 writes the card.
abbrev pub half_done : List Step
half_done = begins ++ (prepares_both ++ (commits ++ (writes_out0 ++ (releases0 ++ overtaken))))

-- The same with so many bytes for bodies in the log, of which it takes 20.
abbrev pub half_done_in : ℕ → OneDesk
half_done_in bytes = after_steps 5 (one_desk_opening (fresh V1 2 16) (empty_log bytes)) half_done

-- The desk looks at card 0, and notes it; it looks at card 1, writes it out, releases it, and notes it.
abbrev pub the_rest : List Doing
the_rest =
    incoming (reading 0 (one 9)) true
    ∷ logging 18 (synced_of 0 1)
    ∷ incoming (reading 1 (five 2)) true
    ∷ sending (write_out 1 (five 2) (restarted 3) text401) false 2 0
    ∷ arriving 0 true
    ∷ sending (release 1 (restarted 3) (restarted 4)) false 0 0
    ∷ arriving 0 true
    ∷ logging 18 (synced_of 1 1)
    ∷ []

-- Whether there is room (rule 16.30); whether the steps are the desk's own, and as it is told; then the marks and the texts of
-- both cards, and whether nothing is due.
pub record Outlook : Type 0 where
  pub room : Bool
  pub own : Bool
  pub told : Bool
  pub marks : List ℕ
  pub texts : List (List ℕ)
  pub done : Bool

abbrev pub outlook_of : OneDesk → OneDesk → Outlook
outlook_of y end =
    record {
      room = room_to_finish 5 y;
      own = own_doings the_rest;
      told = all_as_told 5 (starts_again y) the_rest;
      marks = (mark_in end.image 0).desk ∷ (mark_in end.image 1).desk ∷ [];
      texts = text_in end.image original 0 ∷ text_in end.image original 1 ∷ [];
      done = nothing_due (records end.log);
    }

abbrev pub outlook_in : OneDesk → Outlook
outlook_in y = outlook_of y (after_doings 5 (starts_again y) the_rest).desk

abbrev pub outlook : Bool → Outlook
outlook enough = record { room = enough; own = true; told = true; marks = 0 ∷ 0 ∷ []; texts = text210 ∷ text401 ∷ []; done = enough }

pub record FinishRuns : Type 0 where
  -- 12 bytes are left, for two notes; and 11
  pub enough : outlook_in (half_done_in 32) ≡ outlook true
  pub short : outlook_in (half_done_in 31) ≡ outlook false
  -- it is a moment of which the claim speaks
  pub met : Moment 5 (half_done_in 32)
