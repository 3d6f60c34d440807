-- Why a request is refused, by its number (docs/RULES.md, section 5), and the number of an outcome.
-- Assumes nothing.
use Rattle.std.specs.Prelude.{ℕ, Result, Ok, Err}
use Rattle.numbers.specs.declared.Refusal.{Refusal}
use Rattle.numbers.specs.declared.Refusal.TheVariants.{
  Malformed,
  NoCard,
  Stale,
  MarkDiffers,
  PayloadLong,
  EditionWrong,
  EditionsSpent,
  ReplyShort,
  Unsound,
  BadQueue,
  PairDenied,
  StandsAlready,
  QueueFull,
  NotMade,
  NotStanding,
  NoStampLeft,
  TooFar,
  FirstIll,
  SecondIll,
  Unmatched,
  LeaseOutOfRange,
  HistoryFull,
  BadLog,
  LogFull,
  LeaseRuns,
  AppendCut,
}
use Rattle.numbers.specs.Numbers.{
  ACCEPTED,
  MALFORMED,
  NO_CARD,
  STALE,
  MARK_DIFFERS,
  PAYLOAD_LONG,
  EDITION_WRONG,
  EDITIONS_SPENT,
  REPLY_SHORT,
  UNSOUND,
  BAD_QUEUE,
  PAIR_DENIED,
  STANDS_ALREADY,
  QUEUE_FULL,
  NOT_MADE,
  NOT_STANDING,
  NO_STAMP_LEFT,
  TOO_FAR,
  FIRST_ILL,
  SECOND_ILL,
  UNMATCHED,
  LEASE_OUT_OF_RANGE,
  HISTORY_FULL,
  BAD_LOG,
  LOG_FULL,
  LEASE_RUNS,
  APPEND_CUT,
}

-- The number of a refusal.
abbrev pub code : Refusal → ℕ
code Malformed = MALFORMED
code NoCard = NO_CARD
code Stale = STALE
code MarkDiffers = MARK_DIFFERS
code PayloadLong = PAYLOAD_LONG
code EditionWrong = EDITION_WRONG
code EditionsSpent = EDITIONS_SPENT
code ReplyShort = REPLY_SHORT
code Unsound = UNSOUND
code BadQueue = BAD_QUEUE
code PairDenied = PAIR_DENIED
code StandsAlready = STANDS_ALREADY
code QueueFull = QUEUE_FULL
code NotMade = NOT_MADE
code NotStanding = NOT_STANDING
code NoStampLeft = NO_STAMP_LEFT
code TooFar = TOO_FAR
code FirstIll = FIRST_ILL
code SecondIll = SECOND_ILL
code Unmatched = UNMATCHED
code LeaseOutOfRange = LEASE_OUT_OF_RANGE
code HistoryFull = HISTORY_FULL
code BadLog = BAD_LOG
code LogFull = LOG_FULL
code LeaseRuns = LEASE_RUNS
code AppendCut = APPEND_CUT

-- The number of an outcome: that of its refusal, and that of acceptance where nothing is refused (rule 5.1).
abbrev pub number_of : {T : Type 0} → Result T Refusal → ℕ
number_of (Ok value) = ACCEPTED
number_of (Err refusal) = code refusal
