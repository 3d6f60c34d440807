-- One desk that changes several cards at once, by its log and its commit marks, over one store that everybody uses:
-- what there is, what can happen, and when it is by the rules (docs/RULES.md, section 16; 003, section 3.4.2: Prepare,
-- Commit, syncing, recovery). Of version 1. The desk is told by its number d, that of its marks (rule 16.1). A command
-- of the desk may be late, lost or repeated, those of its earlier starts too: it is sent by one step, and arrives by a
-- step of its own, if ever and however often. An answer that is given may be heard at once, later or never: the rules
-- say what an answer allows, not that it is heard.
-- Assumes nothing.
use Rattle.std.specs.Prelude.{ℕ, zero, suc, List, [], ◌∷◌, Bool, true, false, cond, not, ◌&&◌, ◌||◌, length, get_or, ltb, leb, eqb}
use Rattle.formats.specs.Format.{V1}
use Rattle.lists.specs.Parts.{every}
use Rattle.lists.specs.Search.{any}
use Rattle.lists.specs.Table.{settled}
use Rattle.lists.specs.Runs.{foldl, every_along}
use Rattle.stamps.specs.declared.Mark.{Mark}
use Rattle.commands.specs.declared.Command.{Command}
use Rattle.commands.specs.Command.{Language, is_write, writes, verifier, update}
use Rattle.commands.specs.Bytes.{fields_of, payload, formed}
use Rattle.guard.specs.declared.Answer.{Answer}
use Rattle.image.specs.Image.{no_card, decode}
use Rattle.store_model.specs.Serve.{Outcome, serve}
use Rattle.store_model.specs.Words.{Sent}
use Rattle.redo_log.specs.Log.{LogRecord, update_kind, commit_kind, synced_kind, record_card, record_side, record_text, record_transaction, records}
use Rattle.redo_log.specs.Append.{append_number, appended}
use Rattle.redo_log_claims.specs.Life.{renewed}
use Rattle.redo_recovery_model.specs.Recovery.{Pairs, record_in, transaction_in, commits_to, due, recovery_pair, recovering}
use Rattle.redo_recovery_model.specs.Claims.{text_in, side_is}

-- ---- what there is

-- Rule 16.3: a command that the desk sent under its own mark; where it writes, with the line of the log that it writes
-- out.
pub record Order : Type 0 where
  pub sent : Sent
  pub line : ℕ

-- What an answer for a card shows of it: the stored x, and how many lines of the log are written out there (0: nothing
-- is known of it).
pub record Shown : Type 0 where
  pub card : ℕ
  pub x : ℕ
  pub reach : ℕ

-- What the desk may know of a card (rules 16.8 and 16.9), from the answers that were given since it last sent an order
-- for that card: nothing; it was prepared; it does not bear the desk's mark.
pub data Holding : Type 0 where
  unknown : Holding
  held : Holding
  free : Holding

-- The bytes of the store and of the desk's log; the text that is meant to stand on each card in each language, which is
-- the atomic store's whole state (rule 16.2); every order sent so far and what every answer has shown, latest first;
-- and what the desk knows of each card.
pub record OneDesk : Type 0 where
  pub image : List ℕ
  pub log : List ℕ
  pub meant : ℕ → Language → List ℕ
  pub orders : List Order
  pub shown : List Shown
  pub holds : ℕ → Holding

-- The beginning: the texts that stand are meant, nothing was sent, nothing is known.
abbrev pub one_desk_opening : List ℕ → List ℕ → OneDesk
one_desk_opening image log =
    record { image = image; log = log; meant = λ k l. text_in image l k; orders = []; shown = []; holds = λ k. unknown }

-- ---- what can happen

pub data Step : Type 0 where
  -- lent bytes of somebody else, or of the desk under no mark of its own, reach the store
  other : (s : Sent) → Step
  -- the desk sends an order, on the word of the answer with this number; where it writes, it writes out this line of
  -- the log
  order : (s : Sent) (line from : ℕ) → Step
  -- the order with this number reaches the store, perhaps not for the first time
  arrive : (i : ℕ) → Step
  -- the desk appends a record to its log, and the power may fail after so many stores
  append : (budget : ℕ) (r : LogRecord) → Step
  -- rule 16.10: the desk goes down and starts again, and no card is held or free to it; answers that were given are
  -- still under way
  crash : Step
  -- rule 16.13: recovery (rule 11.18) goes through the first so many lines of the log, under these pairs; it may be cut
  -- behind any of them
  recover : (pairs : Pairs) (lines : ℕ) → Step
  -- rule 16.18: the desk's log begins again (rule 11.27)
  renew : Step

-- One of three, by who does a step: somebody else, the post that brings an order of the desk, the desk itself.
abbrev pub by_doer : Bool → Bool → Bool → Step → Bool
by_doer else post desk (other s) = else
by_doer else post desk (order s line from) = desk
by_doer else post desk (arrive i) = post
by_doer else post desk (append budget r) = desk
by_doer else post desk crash = desk
by_doer else post desk (recover pairs lines) = desk
by_doer else post desk renew = desk

-- ---- words of the rules

abbrev pub command_in : Sent → Command
command_in s = fields_of V1 s.command

abbrev pub mark_in : List ℕ → ℕ → Mark
mark_in image k = (get_or (decode V1 image).cards k (no_card V1)).mark

abbrev pub stored_x : List ℕ → ℕ → ℕ
stored_x image k = (get_or (decode V1 image).cards k (no_card V1)).pair.x

-- A command expects, or leaves, a mark of desk d.
abbrev pub expects_mark : ℕ → Command → Bool
expects_mark d c = eqb c.expected.desk d

abbrev pub leaves_mark : ℕ → Command → Bool
leaves_mark d c = eqb c.next.desk d

-- Rule 16.3, the three kinds of orders: one prepares a card that bears no mark, one writes to a card under the desk's
-- mark, one takes the mark off.
abbrev pub prepares : ℕ → Command → Bool
prepares d c = not (is_write c) && eqb c.expected.desk 0 && leaves_mark d c

abbrev pub writes_out : ℕ → Command → Bool
writes_out d c = is_write c && expects_mark d c && leaves_mark d c

abbrev pub releases : ℕ → Command → Bool
releases d c = not (is_write c) && expects_mark d c && eqb c.next.desk 0

-- Line i of the log is an update of card k that is due.
abbrev pub due_for : List LogRecord → ℕ → ℕ → Bool
due_for rs k i = due rs i && eqb (record_card (record_in rs i)) k

-- Of the first i lines none from line n on is due for card k: where the first n are written out, the first i are.
abbrev pub written_out : List LogRecord → ℕ → ℕ → ℕ → Bool
written_out rs k n i = every (λ j. ltb j n || not (due_for rs k j)) i

abbrev pub same_bytes : List ℕ → List ℕ → Bool
same_bytes [] [] = true
same_bytes [] (b ∷ m) = false
same_bytes (a ∷ l) [] = false
same_bytes (a ∷ l) (b ∷ m) = eqb a b && same_bytes l m

-- The command writes what the record says, where it says.
abbrev pub writes_line : Sent → LogRecord → Bool
writes_line s r = eqb (command_in s).act (cond (eqb (record_side r) 1) 3 4) && same_bytes (payload V1 s.command) (record_text r)

-- Line i is an update of transaction t, whatever became of t; and one of card k in language l.
abbrev pub update_in : List LogRecord → ℕ → ℕ → Bool
update_in rs t i = eqb (record_in rs i).kind update_kind && eqb (transaction_in rs i) t

abbrev pub changes_text : List LogRecord → ℕ → Language → ℕ → ℕ → Bool
changes_text rs t l k i = update_in rs t i && (eqb (record_card (record_in rs i)) k && side_is l (record_side (record_in rs i)))

-- The text of card k in language l after those of transaction t's updates that stand in the first i lines, in order.
unfoldable pub with_updates : List LogRecord → ℕ → Language → ℕ → ℕ → List ℕ → List ℕ
with_updates rs t l k zero start = start
with_updates rs t l k (suc i) start = cond (changes_text rs t l k i) (record_text (record_in rs i)) (with_updates rs t l k i start)

abbrev pub is_held : Holding → Bool
is_held unknown = false
is_held held = true
is_held free = false

abbrev pub is_free : Holding → Bool
is_free unknown = false
is_free held = false
is_free free = true

abbrev pub no_order : Order
no_order = record { sent = record { command = []; lent = [] }; line = 0 }

abbrev pub no_shown : Shown
no_shown = record { card = 0; x = 0; reach = 0 }

-- ---- when it is by the rules

-- Rule 16.4: every order opens a session of its own: its verifier has the x that an answer for its card has shown, and
-- its update pair has a larger one.
abbrev pub opens_above : Command → Shown → Bool
opens_above c v = eqb v.card c.card && eqb (verifier c).x v.x && ltb v.x (update c).x

-- Rules 16.5, 16.7 and 16.6: a card is prepared when nothing is due for it. It is released when all is written out. A
-- line that is due is written when those before it are written out.
abbrev pub orderly : ℕ → List LogRecord → Sent → ℕ → ℕ → Bool
orderly d rs s line reach =
    prepares d (command_in s) && written_out rs (command_in s).card 0 (length rs)
    || releases d (command_in s) && written_out rs (command_in s).card reach (length rs)
    || writes_out d (command_in s)
    && (due_for rs (command_in s).card line && written_out rs (command_in s).card reach line && writes_line s (record_in rs line))

-- Rules 16.8 and 16.9: a commit is appended when every card that its transaction updates is held; a synced record when
-- its card is free or nothing of it is due, for a transaction that is committed. A begin and an update may be appended
-- at any time.
abbrev pub appendable : (ℕ → Holding) → List LogRecord → LogRecord → Bool
appendable holds rs r =
    cond (eqb r.kind commit_kind)
    (every (λ i. not (update_in rs (record_transaction r) i) || is_held (holds (record_card (record_in rs i)))) (length rs))
    (cond (eqb r.kind synced_kind)
    ((is_free (holds (record_card r)) || written_out rs (record_card r) 0 (length rs)) && any (commits_to (record_transaction r)) rs)
    true)

-- Rule 16.13: where line i is due, its card bears the desk's mark, and the x that recovery is given for the card is
-- larger than the stored one.
abbrev pub rewritable : ℕ → List ℕ → List LogRecord → Pairs → ℕ → Bool
rewritable d image rs pairs i =
    not (due rs i)
    || eqb (mark_in image (record_card (record_in rs i))).desk d
    && ltb (stored_x image (record_card (record_in rs i))) (recovery_pair pairs (record_card (record_in rs i))).x

abbrev pub recoverable : ℕ → List ℕ → List LogRecord → Pairs → ℕ → Bool
recoverable d image rs pairs lines = leb lines (length rs) && every (rewritable d image rs pairs) (length rs)

-- Rule 16.18: no line is due.
abbrev pub nothing_due : List LogRecord → Bool
nothing_due rs = every (λ i. not (due rs i)) (length rs)

abbrev pub lawful : ℕ → OneDesk → Step → Bool
-- rule 16.3: nobody else names the desk in a mark; malformed bytes may be any
lawful d y (other s) = not (formed V1 s.command) || not (expects_mark d (command_in s)) && not (leaves_mark d (command_in s))
lawful d y (order s line from) =
    ltb from (length y.shown)
    && opens_above (command_in s) (get_or y.shown from no_shown)
    && orderly d (records y.log) s line (get_or y.shown from no_shown).reach
lawful d y (arrive i) = ltb i (length y.orders)
lawful d y (append budget r) = appendable y.holds (records y.log) r
lawful d y crash = true
lawful d y (recover pairs lines) = recoverable d y.image (records y.log) pairs lines
lawful d y renew = nothing_due (records y.log)

-- ---- what it changes

-- The image after a request, and its answer.
abbrev pub outcome : OneDesk → Sent → Outcome
outcome y s = serve V1 y.image s.command s.lent

-- Rule 16.2, the text that is meant, after somebody else's request: an accepted write changes it.
abbrev pub meant_after : ℕ → Sent → (ℕ → Language → List ℕ) → ℕ → Language → List ℕ
meant_after number s meant k l =
    cond (eqb number 0 && eqb (command_in s).card k && writes l (command_in s)) (payload V1 s.command) (meant k l)

-- And after an append: a commit that counts changes it, by all updates of its transaction at once.
abbrev pub meant_logged : ℕ → List LogRecord → LogRecord → (ℕ → Language → List ℕ) → ℕ → Language → List ℕ
meant_logged number rs r meant k l =
    cond (eqb number 0 && eqb r.kind commit_kind) (with_updates rs (record_transaction r) l k (length rs) (meant k l)) (meant k l)

-- What an answer tells the desk of its card: another mark than the desk's is shown, or a prepare is accepted.
abbrev pub heard_of : ℕ → Sent → Answer → Holding → Holding
heard_of d s a old =
    cond (formed V1 s.command && not (eqb a.mark.desk d)) free (cond (prepares d (command_in s)) (settled a.number held old) old)

abbrev pub noting : ℕ → Holding → (ℕ → Holding) → ℕ → Holding
noting k h holds j = cond (eqb j k) h (holds j)

-- The reach that an answer shows: an accepted write leaves its line and all before it written out.
abbrev pub reach_of : Order → Answer → ℕ
reach_of o a = cond (is_write (command_in o.sent)) (settled a.number (suc o.line) 0) 0

-- What a recovery shows that answers 0: each card that it wrote has the x that it was given, and all lines that it went
-- through are written out.
unfoldable pub shown_by : Pairs → List LogRecord → ℕ → ℕ → List Shown → List Shown
shown_by pairs rs reach zero shown = shown
shown_by pairs rs reach (suc i) shown =
    cond (due rs i)
    (record { card = record_card (record_in rs i); x = (recovery_pair pairs (record_card (record_in rs i))).x; reach = reach }
    ∷ shown_by pairs rs reach i shown)
    (shown_by pairs rs reach i shown)

-- And of a card with a line that is due the desk knows nothing else from then on.
abbrev pub forgetting : List LogRecord → (ℕ → Holding) → ℕ → Holding
forgetting rs holds k = cond (written_out rs k 0 (length rs)) (holds k) unknown

-- The same, but for what the desk knows of the cards.
abbrev pub with_holds : (ℕ → Holding) → OneDesk → OneDesk
with_holds holds y = record { image = y.image; log = y.log; meant = y.meant; orders = y.orders; shown = y.shown; holds = holds }

unfoldable pub after_step : ℕ → OneDesk → Step → OneDesk
after_step d y (other s) =
    record {
      image = (outcome y s).image;
      log = y.log;
      meant = meant_after (outcome y s).answer.number s y.meant;
      orders = y.orders;
      shown = record { card = (command_in s).card; x = (outcome y s).answer.pair.x; reach = 0 } ∷ y.shown;
      holds = noting (command_in s).card (heard_of d s (outcome y s).answer (y.holds (command_in s).card)) y.holds;
    }
after_step d y (order s line from) =
    record {
      image = y.image;
      log = y.log;
      meant = y.meant;
      orders = record { sent = s; line = line } ∷ y.orders;
      shown = y.shown;
      holds = noting (command_in s).card unknown y.holds;
    }
after_step d y (arrive i) =
    let o = get_or y.orders i no_order in
    let a = (outcome y o.sent).answer in
    record {
      image = (outcome y o.sent).image;
      log = y.log;
      meant = y.meant;
      orders = y.orders;
      shown = record { card = (command_in o.sent).card; x = a.pair.x; reach = reach_of o a } ∷ y.shown;
      holds = noting (command_in o.sent).card (heard_of d o.sent a (y.holds (command_in o.sent).card)) y.holds;
    }
after_step d y (append budget r) =
    record {
      image = y.image;
      log = appended budget y.log r;
      meant = meant_logged (append_number budget y.log r) (records y.log) r y.meant;
      orders = y.orders;
      shown = y.shown;
      holds = y.holds;
    }
after_step d y crash = with_holds (λ k. unknown) y
after_step d y (recover pairs lines) =
    let r = recovering pairs (records y.log) y.image lines in
    record {
      image = r.image;
      log = y.log;
      meant = y.meant;
      orders = y.orders;
      shown = settled r.number (shown_by pairs (records y.log) lines lines y.shown) y.shown;
      holds = forgetting (records y.log) y.holds;
    }
after_step d y renew =
    record { image = y.image; log = renewed y.log; meant = y.meant; orders = y.orders; shown = y.shown; holds = y.holds }

-- ---- runs: steps in the order in which they happen

abbrev pub after_steps : ℕ → OneDesk → List Step → OneDesk
after_steps d y steps = foldl (after_step d) y steps

-- Each step is by the rules, in the system as the steps before it left it.
abbrev pub lawful_all : ℕ → OneDesk → List Step → Bool
lawful_all d y steps = every_along (lawful d) (after_step d) y steps
