-- What is claimed of a desk's transactions. The theorems stand in proofs/.
-- Assumes nothing.
use Rattle.std.specs.Prelude.{ℕ, suc, ◌≤◌, ◌<◌, ◌≡◌, List, [], ◌∷◌, Bool, true, false, length, get_or, take, replicate, T, eqb}
use Rattle.formats.specs.Format.{V1}
use Rattle.lists.specs.Parts.{Bytes}
use Rattle.commands.specs.Command.{Language, is_write, reads}
use Rattle.image.specs.Layout.{shape_ok}
use Rattle.image.specs.Image.{sound, fresh}
use Rattle.store_model.specs.Words.{Sent}
use Rattle.store_model.specs.Claims.{SentBytes}
use Rattle.redo_log.specs.Log.{LogRecord, bodies_from, most_log, commit_kind, record_transaction, good_log, records}
use Rattle.redo_log.specs.Append.{append_number}
use Rattle.redo_recovery_model.specs.Recovery.{Pairs, FitsPairs, recovered}
use Rattle.redo_recovery_model.specs.Claims.{text_in, text_of}
use Rattle.transactions.specs.System.{
  OneDesk,
  Step,
  other,
  order,
  arrive,
  append,
  crash,
  recover,
  renew,
  no_order,
  one_desk_opening,
  command_in,
  mark_in,
  expects_mark,
  written_out,
  with_updates,
  outcome,
  after_step,
  after_steps,
  lawful_all,
}

-- ---- runs by the rules

-- What is sent and what is appended is bytes, and the stamps that recovery is given fit in 64 bits.
abbrev pub StepBytes : Step → Type 0
StepBytes (other s) = SentBytes s
StepBytes (order s line from) = SentBytes s
StepBytes (arrive i) = Unit {0}
StepBytes (append budget r) = Bytes r.body
StepBytes crash = Unit {0}
StepBytes (recover pairs lines) = FitsPairs pairs
StepBytes renew = Unit {0}

abbrev pub AllSteps : List Step → Type 0
AllSteps [] = Unit {0}
AllSteps (m ∷ steps) = StepBytes m × AllSteps steps

-- A store to begin with: a sound image, whatever stands there, on which no card bears a mark of a desk that is under
-- the rules. Desk 0, which is none, is not.
pub record Clean (ruled : ℕ → Bool) (image : List ℕ) : Type 0 where
  pub nobody : ruled 0 ≡ false
  pub sounds : sound V1 image ≡ true
  pub bytes : Bytes image
  pub unmarked : (k : ℕ) → ruled (mark_in image k).desk ≡ false

-- A log to begin with: it is good, and nothing is read back of it.
pub record Blank (log : List ℕ) : Type 0 where
  pub good : good_log log ≡ true
  pub bytes : Bytes log
  pub empty : records log ≡ []

-- A fresh image and a log of zeros are such.
abbrev pub FreshClean : Type 0
FreshClean = (ruled : ℕ → Bool) → ruled 0 ≡ false → (n c : ℕ) → T (shape_ok V1 n c) → Clean ruled (fresh V1 n c)

abbrev pub ZerosBlank : Type 0
ZerosBlank = (size : ℕ) → bodies_from ≤ size → size ≤ most_log → Blank (replicate size 0)

-- A moment of a run by the rules, in which desk d is under them: from such a beginning the steps have led here.
pub record Moment (d : ℕ) (y : OneDesk) : Type 0 where
  pub image : List ℕ
  pub log : List ℕ
  pub steps : List Step
  pub store : Clean (λ e. eqb e d) image
  pub blank : Blank log
  pub sent : AllSteps steps
  pub rules : lawful_all d (one_desk_opening image log) steps ≡ true
  pub led : after_steps d (one_desk_opening image log) steps ≡ y

-- ---- the store with marks and a log is a store in which a commit is one step

-- Rule 16.11, the texts that stand by the texts that are meant: the same on a card that does not bear the desk's mark;
-- on one that does, the same once the updates that are due are applied.
pub record Refines (d : ℕ) (y : OneDesk) : Type 0 where
  pub sounds : sound V1 y.image ≡ true
  pub good : good_log y.log ≡ true
  pub plain : (k : ℕ) (l : Language) → eqb (mark_in y.image k).desk d ≡ false → text_in y.image l k ≡ y.meant k l
  pub marked :
      (k : ℕ) (l : Language) → eqb (mark_in y.image k).desk d ≡ true
      → text_of (records y.log) l k (text_in y.image l k) ≡ y.meant k l

abbrev pub CommitsAtOnce : Type 0
CommitsAtOnce = (d : ℕ) (y : OneDesk) → Moment d y → Refines d y

-- Rule 16.2: what is meant changes by somebody else's accepted write and by a commit whose last byte is stored, and by
-- nothing else: not by an order, when it is sent or when it arrives, not by an append that is cut or of another kind,
-- not by a crash, a recovery or a log that begins again.
pub record OnlyThen (d : ℕ) (y : OneDesk) : Type 0 where
  pub refused : (s : Sent) (n : ℕ) → (outcome y s).answer.number ≡ suc n → (after_step d y (other s)).meant ≡ y.meant
  pub unwritten : (s : Sent) → is_write (command_in s) ≡ false → (after_step d y (other s)).meant ≡ y.meant
  pub ordered : (s : Sent) (line from : ℕ) → (after_step d y (order s line from)).meant ≡ y.meant
  pub arrived : (i : ℕ) → (after_step d y (arrive i)).meant ≡ y.meant
  pub uncounted : (budget : ℕ) (r : LogRecord) (n : ℕ) → append_number budget y.log r ≡ suc n → (after_step d y (append budget r)).meant ≡ y.meant
  pub uncommitted : (budget : ℕ) (r : LogRecord) → eqb r.kind commit_kind ≡ false → (after_step d y (append budget r)).meant ≡ y.meant
  pub crashed : (after_step d y crash).meant ≡ y.meant
  pub recovered : (pairs : Pairs) (lines : ℕ) → (after_step d y (recover pairs lines)).meant ≡ y.meant
  pub renews : (after_step d y renew).meant ≡ y.meant

abbrev pub MeantOnlyThen : Type 0
MeantOnlyThen = (d : ℕ) (y : OneDesk) → OnlyThen d y

-- Rule 16.4: once an order is accepted, no order for its card that was sent before is accepted, that one itself
-- included, however late or often it comes.
abbrev pub OrdersOnce : Type 0
OrdersOnce =
    (d : ℕ) (y : OneDesk) (i j : ℕ) → Moment d y
    → i < length y.orders
    → j < length y.orders
    → (command_in (get_or y.orders j no_order).sent).card ≡ (command_in (get_or y.orders i no_order).sent).card
    → (outcome y (get_or y.orders i no_order).sent).answer.number ≡ 0
    → (outcome (after_step d y (arrive i)) (get_or y.orders j no_order).sent).answer.number ≡ 0 → ⊥

-- ---- recovery

-- Rule 16.13: recovery (rules 11.15 to 11.19), run on the store at any moment at which every card with an update due
-- bears the desk's mark, leaves on each card the text that is meant, if no write of it is refused.
abbrev pub RecoversMeant : Type 0
RecoversMeant =
    (d : ℕ) (y : OneDesk) → Moment d y → (pairs : Pairs) → FitsPairs pairs
    → ((k : ℕ) → eqb (mark_in y.image k).desk d ≡ false → written_out (records y.log) k 0 (length (records y.log)) ≡ true)
    → (recovered pairs y.log y.image).number ≡ 0
    → (k : ℕ) (l : Language)
    → text_in (recovered pairs y.log y.image).image l k ≡ y.meant k l

-- ---- what a reader sees

-- Rule 16.12: every accepted read that expects no mark of the desk's shows, of its card and language, these texts.
abbrev pub ShowsAll : ℕ → OneDesk → (ℕ → Language → List ℕ) → Type 0
ShowsAll d y texts =
    (s : Sent) (l : Language) → (outcome y s).answer.number ≡ 0 → reads l (command_in s) ≡ true → expects_mark d (command_in s) ≡ false
    → take (outcome y s).answer.length (outcome y s).reply ≡ texts (command_in s).card l

-- It shows the text that is meant.
abbrev pub ReadsMeant : Type 0
ReadsMeant = (d : ℕ) (y : OneDesk) → Moment d y → ShowsAll d y y.meant

-- Rule 16.12: a transaction is seen whole or not at all: up to the store that makes its commit count, reads show the
-- texts before it, on all cards; after it, until another change is accepted, they show these texts with all its updates
-- applied, on all cards.
abbrev pub NeverHalf : Type 0
NeverHalf =
    (d : ℕ) (y : OneDesk) (budget : ℕ) (r : LogRecord) (later : List Step) → Moment d y
    → append_number budget y.log r ≡ 0
    → eqb r.kind commit_kind ≡ true
    → lawful_all d y (append budget r ∷ later) ≡ true
    → AllSteps (append budget r ∷ later)
    → (after_steps d y (append budget r ∷ later)).meant ≡ (after_step d y (append budget r)).meant
    → ShowsAll d y y.meant
    × ShowsAll d (after_steps d y (append budget r ∷ later)) (λ k l. with_updates (records y.log) (record_transaction r) l k (length (records y.log)) (y.meant k l))
