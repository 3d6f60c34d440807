-- Desks that propose, ask and learn by section 10, and have transactions by section 16, over one store. Such a run is a
-- run of both systems, and what is claimed of either holds of it (docs/RULES.md, rules 16.16 and 16.17). Of version 1.
-- Assumes nothing.
use Rattle.std.specs.Prelude.{ℕ, ◌<◌, ◌≡◌, List, [], ◌∷◌, ◌++◌, map, reverse, Bool, true, false, ◌&&◌, get_or, T}
use Rattle.formats.specs.Format.{V1}
use Rattle.stamps.specs.Stamp.{exclusive}
use Rattle.stamps.specs.declared.Pair.{Pair}
use Rattle.commands.specs.Command.{verifier, update}
use Rattle.image.specs.Layout.{shape_ok}
use Rattle.image.specs.Image.{fresh}
use Rattle.store_model.specs.Words.{Sent, premise, commands_in}
use Rattle.lock_queue.specs.declared.Waiting.{Waiting}
use Rattle.redo_log.specs.Log.{records}
use Rattle.redo_recovery_model.specs.Recovery.{recovering}
use Rattle.desk_proposals.specs.Propose.{learnt, proposed}
use Rattle.desk_system.specs.System.{System, Move, begin, propose, at_queue, lose, send, recover_with, convert, learn, append_to, renew_log, opening, allowed, knows, system_after, by_rules}
use Rattle.desk_system.specs.Claims.{ByRules, finally}
use Rattle.transactions.specs.System.{Shown, other, order, arrive, append, crash, recover, renew, no_order, command_in, opens_above}
use Rattle.transactions.specs.Claims.{Blank}
use Rattle.transactions.specs.Desks.{Desks, DeskStep, outside, by_desk, desks_opening, after_desk_step, after_desk_steps, lawful_desk_steps, AllDeskSteps, DesksMoment, DesksRefine}

-- ---- one run

pub data Deal : Type 0 where
  -- a move of section 10 beside the store: a start, a proposal, a request to a queue, a lost queue, a pair that is
  -- learnt
  beside : (m : Move) → Deal
  -- a step of section 16
  along : (m : DeskStep) → Deal

-- What a step sends to the store, as moves of section 10: an order when it arrives, recovery's writes one behind the
-- other.
abbrev pub send_each : List Sent → List Move
send_each = map send

abbrev pub moves_of : Desks → DeskStep → List Move
moves_of z (outside s) = send s ∷ []
moves_of z (by_desk d (other s)) = []
moves_of z (by_desk d (order s line from)) = []
moves_of z (by_desk d (arrive i)) = send (get_or (z.part d).orders i no_order).sent ∷ []
moves_of z (by_desk d (append budget r)) = []
moves_of z (by_desk d crash) = []
moves_of z (by_desk d renew) = []
moves_of z (by_desk d (recover pairs lines)) = send_each (reverse (recovering pairs (records (z.part d).log) z.image lines).sent)

-- The run as moves of section 10, and as steps of section 16.
unfoldable pub moves_in : Desks → List Deal → List Move
moves_in z [] = []
moves_in z (beside m ∷ deals) = m ∷ moves_in z deals
moves_in z (along m ∷ deals) = moves_of z m ++ moves_in (after_desk_step z m) deals

unfoldable pub steps_in : List Deal → List DeskStep
steps_in [] = []
steps_in (beside m ∷ deals) = steps_in deals
steps_in (along m ∷ deals) = m ∷ steps_in deals

abbrev pub sends_none : Move → Bool
sends_none (send s) = false
sends_none (recover_with pairs log unsent) = false
sends_none (convert lent) = false
sends_none (begin who) = true
sends_none (propose who card mode) = true
sends_none (at_queue card manager lent r) = true
sends_none (lose card manager places) = true
sends_none (learn who card pair) = true
sends_none (append_to desk budget r) = false
sends_none (renew_log desk) = false

-- Whatever reaches the store or a log reaches it by a step of section 16, and the store stays of version 1.
unfoldable pub sends_along : List Deal → Bool
sends_along [] = true
sends_along (beside m ∷ deals) = sends_none m && sends_along deals
sends_along (along m ∷ deals) = sends_along deals

-- ---- by the rules of both

-- A run from a fresh store of any N and C that can be made, empty queues over any places, nothing known and empty logs:
-- its moves are by section 10, its steps by section 16.
pub record ByBoth (n c : ℕ) (places : ℕ → ℕ → List Waiting) (ruled : ℕ → Bool) (logs : ℕ → List ℕ) (deals : List Deal) : Type 0 where
  pub shape : T (shape_ok V1 n c)
  pub nobody : ruled 0 ≡ false
  pub blank : (d : ℕ) → Blank (logs d)
  pub bytes : AllDeskSteps (steps_in deals)
  pub sends : sends_along deals ≡ true
  pub moves : by_rules (opening V1 n c places logs) (moves_in (desks_opening (fresh V1 n c) logs) deals) ≡ true
  pub steps : lawful_desk_steps ruled (desks_opening (fresh V1 n c) logs) (steps_in deals) ≡ true

-- Rule 16.16: it is a run of section 10 and a moment of section 16 over one store, so all claims of both hold of it:
-- demand 3's premise is kept, and a commit is one step.
pub record OneRun (n c : ℕ) (places : ℕ → ℕ → List Waiting) (ruled : ℕ → Bool) (logs : ℕ → List ℕ) (deals : List Deal) : Type 0 where
  pub store :
      (finally V1 n c places logs (moves_in (desks_opening (fresh V1 n c) logs) deals)).store.image
      ≡ (after_desk_steps (desks_opening (fresh V1 n c) logs) (steps_in deals)).image
  pub conduct : ByRules V1 n c places logs (moves_in (desks_opening (fresh V1 n c) logs) deals)
  pub moment : DesksMoment ruled (after_desk_steps (desks_opening (fresh V1 n c) logs) (steps_in deals))
  pub premised : (k : ℕ) → premise k (commands_in (finally V1 n c places logs (moves_in (desks_opening (fresh V1 n c) logs) deals)).store.trace) ≡ true
  pub refines : DesksRefine ruled (after_desk_steps (desks_opening (fresh V1 n c) logs) (steps_in deals))

abbrev pub BothAreOne : Type 0
BothAreOne =
    (n c : ℕ) (places : ℕ → ℕ → List Waiting) (ruled : ℕ → Bool) (logs : ℕ → List ℕ) (deals : List Deal)
    → ByBoth n c places ruled logs deals → OneRun n c places ruled logs deals

-- ---- an order by a proposal

-- A command for the card that relies on the x of a pair, and opens the session that a desk proposes, exclusive, once it
-- has learnt that pair.
pub record Proposes (y : System) (who card : ℕ) (pair : Pair) (s : Sent) : Type 0 where
  pub used : who < 4294967296
  pub number : (proposed (learnt (knows y who card) pair) exclusive).number ≡ 0
  pub card_is : (command_in s).card ≡ card
  pub mode_is : (command_in s).mode ≡ exclusive
  pub relies : (verifier (command_in s)).x ≡ pair.x
  pub opens : update (command_in s) ≡ (proposed (learnt (knows y who card) pair) exclusive).pair

-- Rule 16.17: it keeps rule 16.4, on the word of the answer with that pair; and, once it is proposed, rule 10.8,
-- whenever and however often it reaches the store, while that is of version 1.
pub record MayOrder (y : System) (who card : ℕ) (pair : Pair) (s : Sent) : Type 0 where
  pub ordered : (v : Shown) → v.card ≡ card → v.x ≡ pair.x → opens_above (command_in s) v ≡ true
  pub arrives :
      (later : List Move) → (system_after y (learn who card pair ∷ propose who card exclusive ∷ later)).store.version ≡ V1
      → allowed (system_after y (learn who card pair ∷ propose who card exclusive ∷ later)) (send s) ≡ true

abbrev pub ProposalsOrder : Type 0
ProposalsOrder =
    (y : System) (who card : ℕ) (pair : Pair) (s : Sent)
    → Proposes y who card pair s → MayOrder y who card pair s
