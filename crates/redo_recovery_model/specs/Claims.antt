-- What is claimed of recovery. Proved in proofs/.
-- Assumes nothing.
use Rattle.std.specs.Prelude.{ℕ, zero, suc, ◌≤◌, ◌<◌, ◌≡◌, ◌⊎◌, ◌↔◌, List, [], ◌∷◌, ◌++◌, reverse, Bool, true, false, cond, not, ◌&&◌, length, get_or, T, eqb}
use Rattle.formats.specs.Format.{V1, version}
use Rattle.lists.specs.Parts.{Bytes}
use Rattle.lists.specs.Search.{none}
use Rattle.image.specs.Layout.{shape_ok}
use Rattle.image.specs.Bytes.{version_of}
use Rattle.commands.specs.Command.{Language, original, translation}
use Rattle.image.specs.Image.{fresh, text, no_card, decode, sound}
use Rattle.store_model.specs.Serve.{serve}
use Rattle.store_model.specs.Words.{Sent, Event, image_after, trace_from, trace_of}
use Rattle.store_model.specs.Claims.{SentBytes, Claim}
use Rattle.redo_log.specs.Log.{LogRecord, record_card, record_side, record_text, good_log, records}
use Rattle.redo_log.specs.Append.{append_number, appended}
use Rattle.redo_log_claims.specs.Claims.{admitted_of, wholly, cut_after, BytesOfRecords}
use Rattle.stamps.specs.Stamp.{exclusive}
use Rattle.commands.specs.Command.{verifier, update}
use Rattle.commands.specs.Bytes.{fields_of}
use Rattle.redo_recovery_model.specs.Recovery.{Pairs, FitsPairs, Recovery, record_in, due, recovery_pair, recovery_sent, recovered}
use Rattle.numbers.specs.Numbers.{MARK_DIFFERS, EDITION_WRONG, REPLY_SHORT, UNSOUND, TOO_FAR, BAD_LOG, APPEND_CUT}

-- ---- recovery's requests and its answer (rules 11.18 and 11.19)

-- Every event was answered with 0.
abbrev pub AllTaken : List Event → Type 0
AllTaken [] = Unit {0}
AllTaken (e ∷ log) = (e.answer.number ≡ 0) × AllTaken log

-- Events, latest first: the latest was answered with the number, all before it with 0.
abbrev pub StopsWith : ℕ → List Event → Type 0
StopsWith number [] = Unit {0}
StopsWith number (e ∷ log) = (e.answer.number ≡ number) × AllTaken log

-- The lines of the updates that are due among the first i records, latest first.
unfoldable pub due_below : List LogRecord → ℕ → List ℕ
due_below rs zero = []
due_below rs (suc i) = cond (due rs i) (i ∷ due_below rs i) (due_below rs i)

-- Requests, latest first, are the writes of the records at these lines: one for each, made for the image that those before it leave.
abbrev pub WritesOf : Pairs → List LogRecord → List ℕ → List ℕ → List Sent → Type 0
WritesOf pairs rs image [] [] = Unit {0}
WritesOf pairs rs image [] (s ∷ sent) = ⊥
WritesOf pairs rs image (i ∷ lines) [] = ⊥
WritesOf pairs rs image (i ∷ lines) (s ∷ sent) =
    (s ≡ recovery_sent pairs (image_after V1 image sent) (record_in rs i)) × WritesOf pairs rs image lines sent

-- A recovery that stopped: its line is that of an update that is due, the write of that update was sent last, and before it the writes of all updates above it that
-- are due.
pub record RefusedAt (pairs : Pairs) (rs : List LogRecord) (image : List ℕ) (r : Recovery) : Type 0 where
  pub within : r.line < length rs
  pub is_due_lem : due rs r.line ≡ true
  pub writes : WritesOf pairs rs image (r.line ∷ due_below rs r.line) r.sent

-- Rules 11.18 and 11.19, of any pairs, any bytes as a log and any as an image.
pub record Recovers (pairs : Pairs) (log image : List ℕ) : Type 0 where
  -- the image is the one after its requests, each a request by itself, and nothing else
  pub sends : (recovered pairs log image).image ≡ image_after V1 image (recovered pairs log image).sent
  -- it stops at the first request that is refused, and answers its number
  pub stops : StopsWith (recovered pairs log image).number (trace_from V1 image (recovered pairs log image).sent)
  -- 23 comes exactly for a bad log, and then nothing is sent
  pub bad : ((recovered pairs log image).number ≡ BAD_LOG) ↔ (good_log log ≡ false)
  pub silent : good_log log ≡ false → (recovered pairs log image).sent ≡ []
  -- line 0 is never that of a refused write: it comes exactly with 0 and with 23
  pub line : ((recovered pairs log image).line ≡ 0) ↔ (((recovered pairs log image).number ≡ 0) ⊎ ((recovered pairs log image).number ≡ BAD_LOG))
  -- from a good log 0 comes exactly when no request was refused, and then every update that is due was written
  pub accepts : good_log log ≡ true → ((recovered pairs log image).number ≡ 0) ↔ AllTaken (trace_from V1 image (recovered pairs log image).sent)
  pub all_due : (recovered pairs log image).number ≡ 0 → WritesOf pairs (records log) image (due_below (records log) (length (records log))) (recovered pairs log image).sent
  -- else the line is that of the refused update
  pub refused : good_log log ≡ true → ((recovered pairs log image).number ≡ 0 → ⊥) → RefusedAt pairs (records log) image (recovered pairs log image)

abbrev pub RecoversAll : Type 0
RecoversAll = (pairs : Pairs) (log image : List ℕ) → Recovers pairs log image

-- Rule 5.1: recovery answers a number of the store or 23.
abbrev pub FromRecovery : ℕ → Type 0
FromRecovery number = ((number ≤ UNSOUND) ⊎ (number ≡ TOO_FAR)) ⊎ (number ≡ BAD_LOG)

abbrev pub RecoveryListed : Type 0
RecoveryListed = (pairs : Pairs) (log image : List ℕ) → FromRecovery (recovered pairs log image).number

-- ---- recovery's requests stand in demand 3's list (rule 11.20)

-- What is done to a store: one request, or a recovery with some pairs from some log.
pub data Deed : Type 0 where
  one_request : Sent → Deed
  one_recovery : Pairs → List ℕ → Deed

-- The image after deeds, latest first, and all the requests that were sent, latest first.
unfoldable pub image_after_deeds : List ℕ → List Deed → List ℕ
image_after_deeds start [] = start
image_after_deeds start (one_request s ∷ before) = (serve V1 (image_after_deeds start before) s.command s.lent).image
image_after_deeds start (one_recovery pairs log ∷ before) = (recovered pairs log (image_after_deeds start before)).image

unfoldable pub requests_of_deeds : List ℕ → List Deed → List Sent
requests_of_deeds start [] = []
requests_of_deeds start (one_request s ∷ before) = s ∷ requests_of_deeds start before
requests_of_deeds start (one_recovery pairs log ∷ before) = (recovered pairs log (image_after_deeds start before)).sent ++ requests_of_deeds start before

-- Deeds of bytes, and of stamps that fit.
abbrev pub FitsDeeds : List Deed → Type 0
FitsDeeds [] = Unit {0}
FitsDeeds (one_request s ∷ before) = SentBytes s × FitsDeeds before
FitsDeeds (one_recovery pairs log ∷ before) = (FitsPairs pairs × Bytes log) × FitsDeeds before

-- Rule 11.20: requests and recoveries in any mixture, begun on a fresh image, make one list of requests, and demand 3 holds of it.
pub record Mixed (n c : ℕ) (deeds : List Deed) : Type 0 where
  pub same : image_after_deeds (fresh V1 n c) deeds ≡ image_after V1 (fresh V1 n c) (requests_of_deeds (fresh V1 n c) deeds)
  pub demand3 : Claim n (reverse (requests_of_deeds (fresh V1 n c) deeds)) (trace_of V1 n c (reverse (requests_of_deeds (fresh V1 n c) deeds)))

abbrev pub Demand3Mixed : Type 0
Demand3Mixed = (n c : ℕ) → T (shape_ok V1 n c) → (deeds : List Deed) → FitsDeeds deeds → Mixed n c deeds

-- Rules 11.16 and 11.17: every request is exclusive and under the pair given for its card, as verifier and as update pair.
abbrev pub AllUnder : Pairs → List Sent → Type 0
AllUnder pairs [] = Unit {0}
AllUnder pairs (s ∷ sent) =
    (((fields_of V1 s.command).mode ≡ exclusive)
    × (verifier (fields_of V1 s.command) ≡ recovery_pair pairs (fields_of V1 s.command).card)
    × (update (fields_of V1 s.command) ≡ recovery_pair pairs (fields_of V1 s.command).card))
    × AllUnder pairs sent

abbrev pub Under : Type 0
Under =
    (pairs : Pairs) (log image : List ℕ) → FitsPairs pairs → Bytes log → Bytes image → AllUnder pairs (recovered pairs log image).sent

-- Rule 11.22: the mark that a write of recovery expects is the stored one, a translation names the stored edition, and no write reads. So recovery does not answer
-- these.
abbrev pub never_answered : List ℕ
never_answered = MARK_DIFFERS ∷ EDITION_WRONG ∷ REPLY_SHORT ∷ []

abbrev pub RecoveryNever : Type 0
RecoveryNever =
    (pairs : Pairs) (log image : List ℕ) → FitsPairs pairs → Bytes log → Bytes image
    → none (eqb (recovered pairs log image).number) never_answered ≡ true

-- ---- the texts that recovery leaves (rule 11.21)

abbrev pub text_in : List ℕ → Language → ℕ → List ℕ
text_in image l k = text l (get_or (decode V1 image).cards k (no_card V1))

-- The side of an update that is of a language.
abbrev pub side_is : Language → ℕ → Bool
side_is original side = eqb side 1
side_is (translation zero) side = not (eqb side 1)
side_is (translation (suc t)) side = false

-- Record i is due and of card k and language l.
abbrev pub rewrites : List LogRecord → Language → ℕ → ℕ → Bool
rewrites rs l k i = due rs i && (eqb (record_card (record_in rs i)) k && side_is l (record_side (record_in rs i)))

-- The text of card k in language l after the first i records: that of the last such update, else as it was.
unfoldable pub rewritten : List LogRecord → Language → ℕ → ℕ → List ℕ → List ℕ
rewritten rs l k zero start = start
rewritten rs l k (suc i) start = cond (rewrites rs l k i) (record_text (record_in rs i)) (rewritten rs l k i start)

-- The text that records leave of one that stood there: the last update of it that is due, so of a committed transaction alone.
abbrev pub text_of : List LogRecord → Language → ℕ → List ℕ → List ℕ
text_of rs l k start = rewritten rs l k (length rs) start

-- Rules 11.14 and 11.21: appends to a good log, the power failing after the first `stores` of all their stores, and then a recovery that answers 0: each text is that which
-- the records leave that stood in the log or were wholly appended.
abbrev pub CutAnywhere : Type 0
CutAnywhere =
    (stores : ℕ) (log : List ℕ) (rs : List LogRecord) → good_log log ≡ true
    → (pairs : Pairs) (image : List ℕ) → FitsPairs pairs → Bytes log → BytesOfRecords rs → Bytes image
    → (recovered pairs (cut_after stores log rs) image).number ≡ 0
    → (l : Language) (k : ℕ)
    → text_in (recovered pairs (cut_after stores log rs) image).image l k ≡ text_of (records log ++ wholly stores (admitted_of log rs)) l k (text_in image l k)

-- Rule 11.13: recovery from a log whose append was cut is recovery from the log before it.
abbrev pub CutRecovers : Type 0
CutRecovers =
    (budget : ℕ) (log : List ℕ) (r : LogRecord) → append_number budget log r ≡ APPEND_CUT
    → (pairs : Pairs) (image : List ℕ) → recovered pairs (appended budget log r) image ≡ recovered pairs log image

-- Rule 11.21: a recovery that answers 0 leaves each text as the updates that are due leave it; one that stopped, as those do that stand above its line. Whether the
-- image is sound makes no difference.
abbrev pub RecoveredTexts : Type 0
RecoveredTexts =
    (pairs : Pairs) (log image : List ℕ) → FitsPairs pairs → Bytes log → Bytes image → (recovered pairs log image).number ≡ 0
    → (l : Language) (k : ℕ)
    → text_in (recovered pairs log image).image l k ≡ text_of (records log) l k (text_in image l k)

abbrev pub StoppedTexts : Type 0
StoppedTexts =
    (pairs : Pairs) (log image : List ℕ) → FitsPairs pairs → Bytes log → Bytes image → good_log log ≡ true → ((recovered pairs log image).number ≡ 0 → ⊥)
    → (l : Language) (k : ℕ)
    → text_in (recovered pairs log image).image l k ≡ rewritten (records log) l k (recovered pairs log image).line (text_in image l k)

-- Rule 11.23: the power fails after any of recovery's writes, so that of its requests only `earlier` were made. A second recovery from the same log, under other pairs if need be,
-- that answers 0 leaves the texts of one whole run.
abbrev pub CutRecovery : Type 0
CutRecovery =
    (pairs again : Pairs) (log image : List ℕ) → FitsPairs pairs → FitsPairs again → Bytes log → Bytes image
    → (later earlier : List Sent) → (recovered pairs log image).sent ≡ later ++ earlier
    → (recovered again log (image_after V1 image earlier)).number ≡ 0
    → (l : Language) (k : ℕ)
    → text_in (recovered again log (image_after V1 image earlier)).image l k ≡ text_of (records log) l k (text_in image l k)

-- Rule 11.21: a second run, under other pairs if need be, leaves the texts as the first did, where neither has a write refused; whatever the log and the image are.
abbrev pub NoneRefused : List ℕ → Recovery → Type 0
NoneRefused image r = AllTaken (trace_from V1 image r.sent)

abbrev pub Twice : Type 0
Twice =
    (pairs again : Pairs) (log image : List ℕ) → FitsPairs pairs → FitsPairs again → Bytes log → Bytes image
    → NoneRefused image (recovered pairs log image)
    → NoneRefused (recovered pairs log image).image (recovered again log (recovered pairs log image).image)
    → (l : Language) (k : ℕ)
    → text_in (recovered again log (recovered pairs log image).image).image l k ≡ text_in (recovered pairs log image).image l k

-- ---- what is no sound image of version 1 (rule 11.22)

-- The image stays. A bad log is told by 23; else the first update that is due is refused with 9, at its line; else the answer is 0.
pub record Untouched (log image : List ℕ) (r : Recovery) : Type 0 where
  pub kept : r.image ≡ image
  pub bad : good_log log ≡ false → (r.number ≡ BAD_LOG) × (r.line ≡ 0)
  pub first :
      good_log log ≡ true → (i : ℕ) → i < length (records log) → due (records log) i ≡ true → due_below (records log) i ≡ []
      → (r.number ≡ UNSOUND) × (r.line ≡ i)
  pub idle : good_log log ≡ true → due_below (records log) (length (records log)) ≡ [] → (r.number ≡ 0) × (r.line ≡ 0)

abbrev pub UnsoundRecovery : Type 0
UnsoundRecovery = (pairs : Pairs) (log image : List ℕ) → sound V1 image ≡ false → Untouched log image (recovered pairs log image)

-- So of bytes whose header has not the number 1: recovery is of version 1.
abbrev pub NoRecovery2 : Type 0
NoRecovery2 = (pairs : Pairs) (log image : List ℕ) → (version_of image ≡ version V1 → ⊥) → Untouched log image (recovered pairs log image)
