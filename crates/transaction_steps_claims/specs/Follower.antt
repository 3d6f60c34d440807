-- A desk that takes the steps it is told keeps the rules of transactions (docs/RULES.md, rule 16.26): what it has in
-- mind of each card, what it does by that, and that every run of it is a run by section 16. The theorem stands in
-- proofs/.
-- Assumes nothing.
use Rattle.std.specs.Prelude.{ℕ, ◌≡◌, List, [], ◌∷◌, Bool, true, false, cond, not, ◌&&◌, ◌||◌, length, get_or, ltb, eqb}
use Rattle.lists.specs.Parts.{every}
use Rattle.lists.specs.Runs.{foldl, every_along}
use Rattle.commands.specs.Command.{is_write}
use Rattle.guard.specs.declared.Answer.{Answer}
use Rattle.store_model.specs.Words.{Sent}
use Rattle.redo_log.specs.Log.{LogRecord, commit_kind, synced_kind, record_card, record_transaction, records}
use Rattle.redo_recovery_model.specs.Recovery.{record_in}
use Rattle.transactions.specs.System.{
  OneDesk,
  Order,
  Shown,
  no_order,
  no_shown,
  other,
  order,
  arrive,
  append,
  crash,
  renew,
  one_desk_opening,
  command_in,
  prepares,
  writes_out,
  releases,
  writes_line,
  opens_above,
  update_in,
  nothing_due,
  lawful,
  outcome,
  after_step,
}
use Rattle.transactions.specs.Claims.{StepBytes, Clean, Blank, Moment}
use Rattle.transaction_steps.specs.declared.LastSeen.{LastSeen}
use Rattle.transaction_steps.specs.Steps.{ToldStep, look_step, prepare_step, ready_step, write_step, release_step, note_step, seen_upon, next_step}

-- ---- what there is

-- What the desk has in mind of a card: what it has seen of it (rule 16.24), and the x that the same answer shows.
pub record Mind : Type 0 where
  pub seen : LastSeen
  pub x : ℕ

-- The system of one desk, and what the desk has in mind of each card.
pub record Follower : Type 0 where
  pub desk : OneDesk
  pub minds : ℕ → Mind

abbrev pub no_mind : Mind
no_mind = record { seen = record { known = false; held = false; mark = 0; reach = 0 }; x = 0 }

abbrev pub follower_opening : List ℕ → List ℕ → Follower
follower_opening image log = record { desk = one_desk_opening image log; minds = λ k. no_mind }

-- ---- what can happen

pub data Doing : Type 0 where
  -- a request of somebody else, or a look of the desk, reaches the store; the desk hears the answer, or does not
  incoming : (s : Sent) (hears : Bool) → Doing
  -- an order reaches the store, perhaps not for the first time, and the same
  arriving : (i : ℕ) (hears : Bool) → Doing
  -- the desk sends the order that is the next step for its card, on the word of the answer with this number
  sending : (s : Sent) (going : Bool) (line from : ℕ) → Doing
  -- it appends a record to its log, and the power may fail after so many stores
  logging : (budget : ℕ) (r : LogRecord) → Doing
  -- it lets its log begin again
  renewing : Doing
  -- it forgets what it has in mind of a card: it sends a look, or waits for an answer no longer
  dropping : (k : ℕ) → Doing
  -- it goes down and starts again
  falling : Doing

-- ---- when it is as rule 16.26 has it

-- The answer that the mind is of.
abbrev pub is_seen : Shown → ℕ → Mind → Bool
is_seen v k mind = eqb v.card k && eqb v.x mind.x && eqb v.reach mind.seen.reach

-- The command is the order of a step, with its line.
abbrev pub carries_out : ℕ → List LogRecord → Sent → ToldStep → ℕ → Bool
carries_out d rs s n line =
    eqb n.step prepare_step && prepares d (command_in s)
    || eqb n.step release_step && releases d (command_in s)
    || eqb n.step write_step && eqb n.line line && writes_out d (command_in s) && writes_line s (record_in rs line)

-- A commit: for each card that its transaction updates the next step is to wait for it. A synced record: it is the next
-- step for its card. A begin and an update may be appended at any time.
abbrev pub logs_as_told : ℕ → List LogRecord → (ℕ → Mind) → LogRecord → Bool
logs_as_told d rs minds r =
    cond (eqb r.kind commit_kind)
    (every (λ i. not (update_in rs (record_transaction r) i)
    || eqb (next_step d rs (record_card (record_in rs i)) true (minds (record_card (record_in rs i))).seen).step ready_step) (length rs))
    (cond (eqb r.kind synced_kind)
    (eqb (next_step d rs (record_card r) true (minds (record_card r)).seen).step note_step
    && eqb (next_step d rs (record_card r) true (minds (record_card r)).seen).transaction (record_transaction r))
    true)

-- Rule 16.26. Nobody else breaks rule 16.3.
abbrev pub as_told : ℕ → Follower → Doing → Bool
as_told d z (incoming s hears) = lawful d z.desk (other s)
as_told d z (arriving i hears) = ltb i (length z.desk.orders)
as_told d z (sending s going line from) =
    ltb from (length z.desk.shown)
    && is_seen (get_or z.desk.shown from no_shown) (command_in s).card (z.minds (command_in s).card)
    && opens_above (command_in s) (get_or z.desk.shown from no_shown)
    && carries_out d (records z.desk.log) s
    (next_step d (records z.desk.log) (command_in s).card going (z.minds (command_in s).card).seen) line
as_told d z (logging budget r) = logs_as_told d (records z.desk.log) z.minds r
as_told d z renewing = nothing_due (records z.desk.log)
as_told d z (dropping k) = true
as_told d z falling = true

-- ---- what it changes

-- The step that an order is, by its command.
abbrev pub step_of : ℕ → Sent → ℕ
step_of d s = cond (prepares d (command_in s)) prepare_step (cond (is_write (command_in s)) write_step release_step)

-- What an answer leaves in mind.
abbrev pub mind_of : ℕ → ℕ → Answer → Mind
mind_of step line a = record { seen = seen_upon step line a.number a.mark.desk; x = a.pair.x }

abbrev pub with_mind : ℕ → Mind → (ℕ → Mind) → ℕ → Mind
with_mind k mind minds j = cond (eqb j k) mind (minds j)

abbrev pub order_by : OneDesk → ℕ → Order
order_by y i = get_or y.orders i no_order

unfoldable pub after_doing : ℕ → Follower → Doing → Follower
after_doing d z (incoming s hears) =
    record {
      desk = after_step d z.desk (other s);
      minds = cond hears (with_mind (command_in s).card (mind_of look_step 0 (outcome z.desk s).answer) z.minds) z.minds;
    }
after_doing d z (arriving i hears) =
    record {
      desk = after_step d z.desk (arrive i);
      minds = cond hears
          (with_mind (command_in (order_by z.desk i).sent).card
          (mind_of (step_of d (order_by z.desk i).sent) (order_by z.desk i).line (outcome z.desk (order_by z.desk i).sent).answer) z.minds)
          z.minds;
    }
after_doing d z (sending s going line from) =
    record { desk = after_step d z.desk (order s line from); minds = with_mind (command_in s).card no_mind z.minds }
after_doing d z (logging budget r) = record { desk = after_step d z.desk (append budget r); minds = z.minds }
after_doing d z renewing = record { desk = after_step d z.desk renew; minds = z.minds }
after_doing d z (dropping k) = record { desk = z.desk; minds = with_mind k no_mind z.minds }
after_doing d z falling = record { desk = after_step d z.desk crash; minds = λ k. no_mind }

abbrev pub after_doings : ℕ → Follower → List Doing → Follower
after_doings d z doings = foldl (after_doing d) z doings

abbrev pub all_as_told : ℕ → Follower → List Doing → Bool
all_as_told d z doings = every_along (as_told d) (after_doing d) z doings

-- ---- what is claimed

abbrev pub DoingBytes : Doing → Type 0
DoingBytes (incoming s hears) = StepBytes (other s)
DoingBytes (arriving i hears) = Unit {0}
DoingBytes (sending s going line from) = StepBytes (order s line from)
DoingBytes (logging budget r) = StepBytes (append budget r)
DoingBytes renewing = Unit {0}
DoingBytes (dropping k) = Unit {0}
DoingBytes falling = Unit {0}

abbrev pub AllDoings : List Doing → Type 0
AllDoings [] = Unit {0}
AllDoings (a ∷ doings) = DoingBytes a × AllDoings doings

-- Rule 16.26: at every moment of such a run the desk is at a moment of a run by the rules of transactions. So all that
-- is claimed of those holds.
abbrev pub FollowersKeepTheRules : Type 0
FollowersKeepTheRules =
    (d : ℕ) (image log : List ℕ) (doings : List Doing) → Clean (λ e. eqb e d) image → Blank log → AllDoings doings
    → all_as_told d (follower_opening image log) doings ≡ true
    → Moment d (after_doings d (follower_opening image log) doings).desk
