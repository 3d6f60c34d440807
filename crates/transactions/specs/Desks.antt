-- Many desks, each with a log and marks of its own, over one store: every one of them is somebody else to the others. A
-- commit of any of them is one step.
-- Assumes nothing.
use Rattle.std.specs.Prelude.{ℕ, suc, ◌≡◌, List, [], ◌∷◌, Bool, true, false, cond, not, ◌&&◌, ◌||◌, get_or, take, eqb}
use Rattle.lists.specs.Runs.{foldl, every_along}
use Rattle.formats.specs.Format.{V1}
use Rattle.commands.specs.Command.{Language, is_write, reads}
use Rattle.commands.specs.Bytes.{formed}
use Rattle.image.specs.Image.{sound}
use Rattle.store_model.specs.Serve.{serve}
use Rattle.store_model.specs.Words.{Sent}
use Rattle.store_model.specs.Claims.{SentBytes}
use Rattle.redo_log.specs.Log.{LogRecord, commit_kind, good_log, records}
use Rattle.redo_log.specs.Append.{append_number}
use Rattle.redo_recovery_model.specs.Recovery.{Pairs}
use Rattle.redo_recovery_model.specs.Claims.{text_in, text_of}
use Rattle.transactions.specs.System.{OneDesk, Order, Shown, Holding, unknown, Step, other, order, arrive, append, crash, recover, renew, by_doer, no_order, command_in, mark_in, lawful, after_step}
use Rattle.transactions.specs.Claims.{StepBytes, Clean, Blank}

-- ---- what there is

-- What belongs to one desk: its log, its orders, what answers have shown, and what it knows.
pub record Part : Type 0 where
  pub log : List ℕ
  pub orders : List Order
  pub shown : List Shown
  pub holds : ℕ → Holding

-- The bytes of the store, the texts that are meant, and each desk's part, by its number.
pub record Desks : Type 0 where
  pub image : List ℕ
  pub meant : ℕ → Language → List ℕ
  pub part : ℕ → Part

-- The system of desk d: what is not its own is somebody else's.
abbrev pub seen_by : ℕ → Desks → OneDesk
seen_by d y =
    record {
      image = y.image;
      log = (y.part d).log;
      meant = y.meant;
      orders = (y.part d).orders;
      shown = (y.part d).shown;
      holds = (y.part d).holds;
    }

abbrev pub part_of : OneDesk → Part
part_of y = record { log = y.log; orders = y.orders; shown = y.shown; holds = y.holds }

abbrev pub desks_opening : List ℕ → (ℕ → List ℕ) → Desks
desks_opening image logs =
    record { image = image; meant = λ k l. text_in image l k; part = λ d. record { log = logs d; orders = []; shown = []; holds = λ k. unknown } }

-- ---- what can happen, and when it is by the rules

pub data DeskStep : Type 0 where
  -- lent bytes of somebody who is under no rules, or of a desk under no mark, reach the store
  outside : (s : Sent) → DeskStep
  -- a step of desk d: it sends an order, one arrives, it appends to its log, it goes down
  by_desk : (d : ℕ) (m : Step) → DeskStep

-- Rule 16.1: what desk d does itself, and what the post brings of it.
abbrev pub own_step : Step → Bool
own_step m = by_doer false true true m

-- Rule 16.1: some desks are under the rules. Who is not names none of them in a mark.
abbrev pub lawful_desk_step : (ℕ → Bool) → Desks → DeskStep → Bool
lawful_desk_step ruled y (outside s) =
    not (formed V1 s.command) || not (ruled (command_in s).expected.desk) && not (ruled (command_in s).next.desk)
lawful_desk_step ruled y (by_desk d m) = ruled d && own_step m && lawful d (seen_by d y) m

-- ---- what it changes

-- A step of desk d for another desk e: an order that arrives is somebody else's request.
abbrev pub met_by : ℕ → Desks → ℕ → Step → Part
met_by e y d (other s) = y.part e
met_by e y d (order s line from) = y.part e
met_by e y d (arrive i) = part_of (after_step e (seen_by e y) (other (get_or (y.part d).orders i no_order).sent))
met_by e y d (append budget r) = y.part e
met_by e y d crash = y.part e
-- of a recovery another desk hears nothing
met_by e y d (recover pairs lines) = y.part e
met_by e y d renew = y.part e

unfoldable pub after_desk_step : Desks → DeskStep → Desks
after_desk_step y (outside s) =
    record {
      image = (after_step 0 (seen_by 0 y) (other s)).image;
      meant = (after_step 0 (seen_by 0 y) (other s)).meant;
      part = λ e. part_of (after_step e (seen_by e y) (other s));
    }
after_desk_step y (by_desk d m) =
    record {
      image = (after_step d (seen_by d y) m).image;
      meant = (after_step d (seen_by d y) m).meant;
      part = λ e. cond (eqb e d) (part_of (after_step d (seen_by d y) m)) (met_by e y d m);
    }

abbrev pub after_desk_steps : Desks → List DeskStep → Desks
after_desk_steps y steps = foldl after_desk_step y steps

abbrev pub lawful_desk_steps : (ℕ → Bool) → Desks → List DeskStep → Bool
lawful_desk_steps ruled y steps = every_along (lawful_desk_step ruled) after_desk_step y steps

-- ---- what is claimed

abbrev pub DeskStepBytes : DeskStep → Type 0
DeskStepBytes (outside s) = SentBytes s
DeskStepBytes (by_desk d m) = StepBytes m

abbrev pub AllDeskSteps : List DeskStep → Type 0
AllDeskSteps [] = Unit {0}
AllDeskSteps (m ∷ steps) = DeskStepBytes m × AllDeskSteps steps

-- A moment of a run by the rules, in which these desks are under them.
pub record DesksMoment (ruled : ℕ → Bool) (y : Desks) : Type 0 where
  pub image : List ℕ
  pub logs : ℕ → List ℕ
  pub steps : List DeskStep
  pub store : Clean ruled image
  pub blank : (d : ℕ) → Blank (logs d)
  pub sent : AllDeskSteps steps
  pub rules : lawful_desk_steps ruled (desks_opening image logs) steps ≡ true
  pub led : after_desk_steps (desks_opening image logs) steps ≡ y

-- Rule 16.11, the texts that stand by the texts that are meant: on a card with the mark of a desk under the rules, with
-- what is due by that desk's log applied.
pub record DesksRefine (ruled : ℕ → Bool) (y : Desks) : Type 0 where
  pub sounds : sound V1 y.image ≡ true
  pub good : (d : ℕ) → ruled d ≡ true → good_log (y.part d).log ≡ true
  pub plain : (k : ℕ) (l : Language) → ruled (mark_in y.image k).desk ≡ false → text_in y.image l k ≡ y.meant k l
  pub marked :
      (k : ℕ) (l : Language) → ruled (mark_in y.image k).desk ≡ true
      → text_of (records (y.part (mark_in y.image k).desk).log) l k (text_in y.image l k) ≡ y.meant k l

abbrev pub DesksCommitAtOnce : Type 0
DesksCommitAtOnce = (ruled : ℕ → Bool) (y : Desks) → DesksMoment ruled y → DesksRefine ruled y

-- Rule 16.2: what is meant changes by an accepted write from outside and by a commit whose last byte is stored,
-- whichever desk's it is, and by nothing else.
pub record DesksOnlyThen (y : Desks) : Type 0 where
  pub refused : (s : Sent) (n : ℕ) → (serve V1 y.image s.command s.lent).answer.number ≡ suc n → (after_desk_step y (outside s)).meant ≡ y.meant
  pub unwritten : (s : Sent) → is_write (command_in s) ≡ false → (after_desk_step y (outside s)).meant ≡ y.meant
  pub ordered : (d : ℕ) (s : Sent) (line from : ℕ) → (after_desk_step y (by_desk d (order s line from))).meant ≡ y.meant
  pub arrived : (d i : ℕ) → (after_desk_step y (by_desk d (arrive i))).meant ≡ y.meant
  pub uncounted :
      (d budget : ℕ) (r : LogRecord) (n : ℕ) → append_number budget (y.part d).log r ≡ suc n
      → (after_desk_step y (by_desk d (append budget r))).meant ≡ y.meant
  pub uncommitted :
      (d budget : ℕ) (r : LogRecord) → eqb r.kind commit_kind ≡ false → (after_desk_step y (by_desk d (append budget r))).meant ≡ y.meant
  pub crashed : (d : ℕ) → (after_desk_step y (by_desk d crash)).meant ≡ y.meant
  pub recovered : (d : ℕ) (pairs : Pairs) (lines : ℕ) → (after_desk_step y (by_desk d (recover pairs lines))).meant ≡ y.meant
  pub renews : (d : ℕ) → (after_desk_step y (by_desk d renew)).meant ≡ y.meant

abbrev pub DesksMeantOnlyThen : Type 0
DesksMeantOnlyThen = (y : Desks) → DesksOnlyThen y

-- Rule 16.12: every accepted read that expects no mark of a desk under the rules shows the text that is meant.
abbrev pub DesksReadsMeant : Type 0
DesksReadsMeant =
    (ruled : ℕ → Bool) (y : Desks) → DesksMoment ruled y → (s : Sent) (l : Language)
    → (serve V1 y.image s.command s.lent).answer.number ≡ 0
    → reads l (command_in s) ≡ true
    → ruled (command_in s).expected.desk ≡ false
    → take (serve V1 y.image s.command s.lent).answer.length (serve V1 y.image s.command s.lent).reply
    ≡ y.meant (command_in s).card l
