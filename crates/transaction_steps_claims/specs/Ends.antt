-- The steps for a card end (docs/RULES.md, rule 16.28): where each order is accepted and each record is appended, a desk
-- that goes on with no transaction has soon nothing left to do, the card does not bear its mark, and nothing of it is
-- due. And an order is accepted where nobody came between (rule 16.29). The theorems stand in proofs/.
-- Assumes nothing.
use Rattle.std.specs.Prelude.{ℕ, zero, suc, ◌+◌, ◌≤◌, ◌≡◌, List, [], ◌∷◌, ◌++◌, Bool, true, false, cond, not, length, ltb, leb, eqb}
use Rattle.formats.specs.Format.{V1}
use Rattle.lists.specs.Table.{all}
use Rattle.stamps.specs.Stamp.{too_far}
use Rattle.commands.specs.Command.{verifier, update}
use Rattle.commands.specs.Bytes.{formed}
use Rattle.guard.specs.Judge.{wrong_edition, editions_spent, reply_short}
use Rattle.image.specs.Image.{Cards, decode}
use Rattle.store_model.specs.Serve.{entry_of}
use Rattle.store_model.specs.Words.{Sent}
use Rattle.redo_log.specs.Log.{LogRecord, synced_kind, record_card, record_transaction, records}
use Rattle.transactions.specs.System.{OneDesk, command_in, mark_in, written_out, outcome}
use Rattle.transactions.specs.Claims.{Moment}
use Rattle.transaction_steps.specs.declared.LastSeen.{LastSeen}
use Rattle.transaction_steps.specs.Steps.{ToldStep, plain_step, nothing_step, look_step, write_step, release_step, note_step, seen_upon, next_step}
use Rattle.transaction_steps_claims.specs.Follower.{no_mind}

-- The records of the log, the desk in the mark that the card bears, and what the desk has seen of it.
pub record Course : Type 0 where
  pub lines : List LogRecord
  pub bears : ℕ
  pub seen : LastSeen

-- A synced record for each card and transaction.
pub record Notes (note : ℕ → ℕ → LogRecord) : Type 0 where
  pub kind : (k t : ℕ) → (note k t).kind ≡ synced_kind
  pub card : (k t : ℕ) → record_card (note k t) ≡ k
  pub transaction : (k t : ℕ) → record_transaction (note k t) ≡ t

-- One step is taken, and its order accepted.
abbrev pub taking : (ℕ → ℕ → LogRecord) → ℕ → ℕ → Course → ToldStep → Course
taking note d k c n =
    cond (eqb n.step look_step) (record { lines = c.lines; bears = c.bears; seen = seen_upon look_step 0 0 c.bears })
    (cond (eqb n.step write_step) (record { lines = c.lines; bears = c.bears; seen = seen_upon write_step n.line 0 c.bears })
    (cond (eqb n.step release_step) (record { lines = c.lines; bears = 0; seen = seen_upon release_step 0 0 0 })
    (cond (eqb n.step note_step) (record { lines = c.lines ++ (note k n.transaction ∷ []); bears = c.bears; seen = c.seen }) c)))

unfoldable pub course_after : (ℕ → ℕ → LogRecord) → ℕ → ℕ → ℕ → Course → Course
course_after note d k zero c = c
course_after note d k (suc n) c = course_after note d k n (taking note d k c (next_step d c.lines k false c.seen))

-- Nothing is left to do, and nothing is left undone.
pub record Ended (d k : ℕ) (c : Course) : Type 0 where
  pub rests : next_step d c.lines k false c.seen ≡ plain_step nothing_step
  pub unmarked : eqb c.bears d ≡ false
  pub done : written_out c.lines k 0 (length c.lines) ≡ true

-- Rule 16.28: from every moment of a run by the rules, with nothing seen of the card, after a look, a write for each
-- line at most, a release and a note.
pub record EndsSoon (note : ℕ → ℕ → LogRecord) (d k : ℕ) (y : OneDesk) : Type 0 where
  pub steps : ℕ
  pub few : steps ≤ length (records y.log) + 3
  pub ended : Ended d k (course_after note d k steps (record { lines = records y.log; bears = (mark_in y.image k).desk; seen = no_mind.seen }))

abbrev pub StepsEnd : Type 0
StepsEnd = (note : ℕ → ℕ → LogRecord) → Notes note → (d k : ℕ) (y : OneDesk) → Moment d y → EndsSoon note d k y

-- ---- that an order is accepted

-- Rule 16.29, as tests: the command is well formed and its card is there; it relies on the pair and expects the mark
-- that stand there; its update pair is not too far ahead; and what it writes or reads has room, and the edition.
abbrev pub nobody_between : Cards → Sent → List Bool
nobody_between cs s =
    formed V1 s.command
    ∷ ltb (command_in s).card (length cs.cards)
    ∷ eqb (verifier (command_in s)).s (entry_of V1 cs (command_in s)).pair.s
    ∷ eqb (verifier (command_in s)).x (entry_of V1 cs (command_in s)).pair.x
    ∷ not (too_far (entry_of V1 cs (command_in s)).pair (update (command_in s)))
    ∷ eqb (command_in s).expected.desk (entry_of V1 cs (command_in s)).mark.desk
    ∷ eqb (command_in s).expected.transaction (entry_of V1 cs (command_in s)).mark.transaction
    ∷ leb (command_in s).length cs.room
    ∷ not (wrong_edition (entry_of V1 cs (command_in s)) (command_in s))
    ∷ not (editions_spent (entry_of V1 cs (command_in s)) (command_in s))
    ∷ not (reply_short (entry_of V1 cs (command_in s)) (command_in s) (length s.lent))
    ∷ []

-- Rule 16.29: at every moment of a run by the rules such a command is accepted.
abbrev pub OrdersTaken : Type 0
OrdersTaken =
    (d : ℕ) (y : OneDesk) (s : Sent) → Moment d y → all (nobody_between (decode V1 y.image) s) ≡ true → (outcome y s).answer.number ≡ 0
