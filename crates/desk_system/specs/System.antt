-- Desks by the rules, lock queues for each card, and the store (docs/RULES.md, section 10): what there is, what can
-- happen, and when it is by the rules. Minuet: clients, lock managers and a disk with its guard. A card may have any
-- number of queues, each with a manager of its own (003, section 3.5), and a desk may ask any of them or none. A
-- request may be late, lost or repeated: a step is the moment at which it arrives, if ever and however often; an answer
-- is learnt by a step of its own. Appends to redo logs, recoveries and a conversion are steps too, cut anywhere.
-- Assumes nothing.
use Rattle.std.specs.Prelude.{ℕ, ◌/◌, ◌%◌, List, [], ◌∷◌, ◌++◌, Bool, true, cond, not, ◌&&◌, ◌||◌, ltb, eqb, drop}
use Rattle.lists.specs.Parts.{Bytes}
use Rattle.lists.specs.Search.{any}
use Rattle.lists.specs.Table.{settled}
use Rattle.lists.specs.Runs.{foldl, every_along}
use Rattle.stamps.specs.Stamp.{no_pair}
use Rattle.stamps.specs.declared.Pair.{Pair}
use Rattle.commands.specs.Command.{update}
use Rattle.commands.specs.Bytes.{fields_of, formed}
use Rattle.formats.specs.Format.{Format, V1, V2}
use Rattle.image.specs.Image.{fresh}
use Rattle.image.specs.Convert.{converted, convert_number}
use Rattle.store_model.specs.Serve.{Outcome, serve}
use Rattle.store_model.specs.Words.{Sent, Event, event_of}
use Rattle.store_model.specs.Claims.{SentBytes}
use Rattle.redo_log.specs.Log.{LogRecord, records}
use Rattle.redo_log.specs.Append.{append_number, appended}
use Rattle.redo_log_claims.specs.Life.{renewed}
use Rattle.redo_recovery_model.specs.Recovery.{Pairs, FitsPairs, recovered}
use Rattle.lock_queue.specs.Queue.{State, empty_queue}
use Rattle.lock_queue.specs.declared.Waiting.{Waiting}
use Rattle.lock_queue.specs.Good.{waiting_formed}
use Rattle.lock_queue.specs.Requests.{Request, asks, leaves, lapses, after, answer}
use Rattle.desk_proposals.specs.declared.Known.{Known}
use Rattle.desk_proposals.specs.Propose.{learnt, proposed}

-- ---- what there is

-- A proposal that was made for a card. Whose it is stands in it: the desk and start of s if it is shared, of x if it
-- is exclusive (`WellProposed`).
pub record Made : Type 0 where
  pub card : ℕ
  pub mode : ℕ
  pub pair : Pair

-- An answer that was given for a card, by its queue (a denial, a grant) or by the guard: its number and its pair.
pub record Told : Type 0 where
  pub card : ℕ
  pub number : ℕ
  pub pair : Pair

-- The store: its version, its bytes, and demand 3's trace, the events of all that reached it, latest first.
pub record TracedStore : Type 0 where
  pub version : Format
  pub image : List ℕ
  pub trace : List Event

-- The desks: each desk and start (a number of 32 bits, as in a stamp) that was ever used; what each of them knows of
-- each card; all proposals and answers so far, latest first.
pub record AllDesks : Type 0 where
  pub started : List ℕ
  pub known : ℕ → ℕ → Pair
  pub made : List Made
  pub told : List Told

-- A desk's redo log: its bytes, and the records that were wholly appended to it since it last began.
pub record DeskLog : Type 0 where
  pub bytes : List ℕ
  pub whole : List LogRecord

-- The queues go by card and manager, the redo logs by the number of the desk.
pub record System : Type 0 where
  pub store : TracedStore
  pub queues : ℕ → ℕ → State
  pub desks : AllDesks
  pub logs : ℕ → DeskLog

-- Rule 10.11: a fresh store of a version, of n cards with room c, empty queues over any places, nothing known, and these
-- bytes as redo logs.
abbrev pub opening : Format → ℕ → ℕ → (ℕ → ℕ → List Waiting) → (ℕ → List ℕ) → System
opening v n c places logs =
    record {
      store = record { version = v; image = fresh v n c; trace = [] };
      queues = λ k m. empty_queue (places k m);
      desks = record { started = []; known = λ who k. no_pair; made = []; told = [] };
      logs = λ d. record { bytes = logs d; whole = records (logs d) };
    }

-- ---- what can happen

pub data Move : Type 0 where
  -- a desk starts, or starts again, under this desk and start
  begin : (who : ℕ) → Move
  -- a desk proposes
  propose : (who card mode : ℕ) → Move
  -- a request reaches a manager's queue of a card, who lends so many places for it: an ask, a leave or a lapse, whoever
  -- sent it
  at_queue : (card manager lent : ℕ) (r : Request) → Move
  -- a manager loses its queue of a card: it is empty again, over whatever places it now has
  lose : (card manager : ℕ) (places : List Waiting) → Move
  -- lent bytes, with a reply buffer, reach the store
  send : (s : Sent) → Move
  -- a recovery from a log, a desk's own or a copy of it or any bytes, with a pair for each card; the power fails before
  -- the last so many of its writes
  recover_with : (pairs : Pairs) (log : List ℕ) (unsent : ℕ) → Move
  -- a conversion of the store, into so many lent bytes
  convert : (lent : ℕ) → Move
  -- a desk learns a pair of a card
  learn : (who card : ℕ) (pair : Pair) → Move
  -- a desk appends a record to its log, and the power may fail after so many stores
  append_to : (desk budget : ℕ) (r : LogRecord) → Move
  -- a desk's log begins again
  renew_log : (desk : ℕ) → Move

-- ---- when it is by the rules

abbrev pub same_pair : Pair → Pair → Bool
same_pair p q = eqb p.s q.s && eqb p.x q.x

abbrev pub in_use : System → ℕ → Bool
in_use y who = any (λ w. eqb w who) y.desks.started

-- This pair was proposed for that card in that mode.
abbrev pub is_made : List Made → ℕ → ℕ → Pair → Bool
is_made made card mode pair = any (λ m. eqb m.card card && eqb m.mode mode && same_pair m.pair pair) made

-- This pair was in an answer for that card, to whomever it was given.
abbrev pub was_told : List Told → ℕ → Pair → Bool
was_told told card pair = any (λ t. eqb t.card card && same_pair t.pair pair) told

-- Rule 10.8: an ask carries a pair that was proposed for the card, in the mode in which it was proposed; a malformed
-- one may carry anything. Who leaves carries no pair.
abbrev pub asks_made : List Made → ℕ → Request → Bool
asks_made made card (asks new) = not (waiting_formed new) || is_made made card new.mode new.pair
asks_made made card (leaves desk) = true
asks_made made card (lapses expiry) = true

-- Rule 10.8: so does a command, in its update pair.
abbrev pub sends_made : Format → List Made → Sent → Bool
sends_made v made s =
    not (formed v s.command) || is_made made (fields_of v s.command).card (fields_of v s.command).mode (update (fields_of v s.command))

abbrev pub all_made : Format → List Made → List Sent → Bool
all_made v made [] = true
all_made v made (s ∷ sent) = sends_made v made s && all_made v made sent

-- The requests of a recovery, latest first, but for the last `unsent` of them. It is for version 1: an image of version 2
-- it leaves as it is.
abbrev pub recovery_sends : Format → Pairs → List ℕ → ℕ → List ℕ → List Sent
recovery_sends V1 pairs log unsent image = drop unsent (recovered pairs log image).sent
recovery_sends V2 pairs log unsent image = []

abbrev pub allowed : System → Move → Bool
-- rule 10.9: a desk and start is used once
allowed y (begin who) = ltb who 4294967296 && not (in_use y who)
allowed y (propose who card mode) = in_use y who
allowed y (at_queue card manager lent r) = asks_made y.desks.made card r
allowed y (lose card manager places) = true
allowed y (send s) = sends_made y.store.version y.desks.made s
-- rule 10.8: recovery's writes are commands like others
allowed y (recover_with pairs log unsent) = all_made y.store.version y.desks.made (recovery_sends y.store.version pairs log unsent y.store.image)
allowed y (convert lent) = true
-- rule 10.1: what a desk learns of a card was in an answer for that card, s and x together
allowed y (learn who card pair) = in_use y who && was_told y.desks.told card pair
allowed y (append_to desk budget r) = true
allowed y (renew_log desk) = true

-- ---- what it changes

module _ {A : Type 0} where
  -- f, but a at place k.
  abbrev pub with : ℕ → A → (ℕ → A) → ℕ → A
  with k a f j = cond (eqb j k) a (f j)

-- A system with one thing changed, the others as they were.
abbrev pub with_store : Format → List ℕ → List Event → System → System
with_store version image trace y =
    record { store = record { version = version; image = image; trace = trace }; queues = y.queues; desks = y.desks; logs = y.logs }

abbrev pub with_queue : ℕ → ℕ → State → System → System
with_queue card manager q y =
    record { store = y.store; queues = with card (with manager q (y.queues card)) y.queues; desks = y.desks; logs = y.logs }

abbrev pub with_desks : List ℕ → (ℕ → ℕ → Pair) → List Made → List Told → System → System
with_desks started known made told y =
    record { store = y.store; queues = y.queues; desks = record { started = started; known = known; made = made; told = told }; logs = y.logs }

abbrev pub with_start : ℕ → System → System
with_start who y = with_desks (who ∷ y.desks.started) y.desks.known y.desks.made y.desks.told y

abbrev pub with_known : ℕ → (ℕ → Pair) → System → System
with_known who pairs y = with_desks y.desks.started (with who pairs y.desks.known) y.desks.made y.desks.told y

abbrev pub with_made : Made → System → System
with_made m y = with_desks y.desks.started y.desks.known (m ∷ y.desks.made) y.desks.told y

abbrev pub with_told : Told → System → System
with_told t y = with_desks y.desks.started y.desks.known y.desks.made (t ∷ y.desks.told) y

abbrev pub with_log : ℕ → List ℕ → List LogRecord → System → System
with_log desk bytes whole y =
    record { store = y.store; queues = y.queues; desks = y.desks; logs = with desk (record { bytes = bytes; whole = whole }) y.logs }

-- What a desk and start knows of a card, as the operations `learn` and `propose` take it; and that it now knows this
-- pair of the card.
abbrev pub knows : System → ℕ → ℕ → Known
knows y who card = record { desk = who / 65536; start = who % 65536; pair = y.desks.known who card }

abbrev pub now_knows : ℕ → ℕ → Pair → System → System
now_knows who card pair y = with_known who (with card pair (y.desks.known who)) y

-- A request reaches a manager's queue of a card, which answers as a queue of `lent` places does.
abbrev pub queue_step : ℕ → System → ℕ → ℕ → Request → System
queue_step lent y card manager r =
    with_told (record { card = card; number = (answer lent (y.queues card manager) r).number; pair = (answer lent (y.queues card manager) r).largest })
    (with_queue card manager (after lent (y.queues card manager) r) y)

-- What the store answers to a request: what `serve` answers, and that is what the operation `answer` does.
abbrev pub served : System → Sent → Outcome
served y s = serve y.store.version y.store.image s.command s.lent

-- A request reaches the store. Its event joins the trace.
abbrev pub send_step : System → Sent → System
send_step y s =
    with_told (record { card = (fields_of y.store.version s.command).card; number = (served y s).answer.number; pair = (served y s).answer.pair })
    (with_store y.store.version (served y s).image (event_of y.store.version s (served y s) ∷ y.store.trace) y)

-- Requests, latest first, reach it one after the other.
unfoldable pub send_steps : System → List Sent → System
send_steps y [] = y
send_steps y (s ∷ earlier) = send_step (send_steps y earlier) s

-- A conversion (rule 15.10): what is refused changes nothing, and version 2 is converted no more.
abbrev pub convert_step : Format → ℕ → System → System
convert_step V1 lent y = settled (convert_number y.store.image lent) (with_store V2 (converted y.store.image) y.store.trace y) y
convert_step V2 lent y = y

unfoldable pub step_to : System → Move → System
-- rule 10.9: a desk and start begins with nothing known
step_to y (begin who) = with_start who (with_known who (λ k. no_pair) y)
-- rules 10.4 to 10.7: a refusal changes nothing; else the pair is proposed, and known
step_to y (propose who card mode) =
    settled (proposed (knows y who card) mode).number
    (with_made (record { card = card; mode = mode; pair = (proposed (knows y who card) mode).pair })
    (now_knows who card (proposed (knows y who card) mode).known.pair y))
    y
step_to y (at_queue card manager lent r) = queue_step lent y card manager r
step_to y (lose card manager places) = with_queue card manager (empty_queue places) y
step_to y (send s) = send_step y s
-- rule 11.18
step_to y (recover_with pairs log unsent) = send_steps y (recovery_sends y.store.version pairs log unsent y.store.image)
step_to y (convert lent) = convert_step y.store.version lent y
-- rule 10.2
step_to y (learn who card pair) = now_knows who card (learnt (knows y who card) pair).pair y
-- rules 11.11 and 11.12: the stores that are made; the record is wholly appended if the answer is 0
step_to y (append_to desk budget r) =
    with_log desk (appended budget (y.logs desk).bytes r) (settled (append_number budget (y.logs desk).bytes r) ((y.logs desk).whole ++ r ∷ []) (y.logs desk).whole) y
-- rule 11.27
step_to y (renew_log desk) = with_log desk (renewed (y.logs desk).bytes) [] y

-- ---- runs: steps in the order in which they happen

abbrev pub system_after : System → List Move → System
system_after y moves = foldl step_to y moves

-- Each step is by the rules, in the system as the steps before it left it.
abbrev pub by_rules : System → List Move → Bool
by_rules y moves = every_along allowed step_to y moves

-- What is sent and appended is bytes, and stamps that a recovery is given fit in 64 bits.
abbrev pub Fits : Move → Type 0
Fits (send s) = SentBytes s
Fits (recover_with pairs log unsent) = FitsPairs pairs × Bytes log
Fits (append_to desk budget r) = Bytes r.body
Fits (renew_log desk) = Unit {0}
Fits (begin who) = Unit {0}
Fits (propose who card mode) = Unit {0}
Fits (at_queue card manager lent r) = Unit {0}
Fits (lose card manager places) = Unit {0}
Fits (convert lent) = Unit {0}
Fits (learn who card pair) = Unit {0}

abbrev pub AllFit : List Move → Type 0
AllFit [] = Unit {0}
AllFit (s ∷ steps) = Fits s × AllFit steps
