-- The numbers that the store answers with, each named once (docs/RULES.md, section 5), with the rule that says when. The code has them under the same names.
-- Assumes nothing.
use Rattle.std.specs.Prelude.{ℕ}

-- Accepted (rule 5.1).
abbrev pub ACCEPTED : ℕ
ACCEPTED = 0

-- A command, an ask or a proposal breaks its rules (rule 3.3).
abbrev pub MALFORMED : ℕ
MALFORMED = 1

-- There is no such card (rule 4.1).
abbrev pub NO_CARD : ℕ
NO_CARD = 2

-- A later session was accepted for the card. Minuet: EBADSESSION (rule 4.2).
abbrev pub STALE : ℕ
STALE = 3

-- The expected commit mark does not pass the stored one (rule 4.3).
abbrev pub MARK_DIFFERS : ℕ
MARK_DIFFERS = 4

-- The payload is longer than the room for a text (rule 4.1).
abbrev pub PAYLOAD_LONG : ℕ
PAYLOAD_LONG = 5

-- The translation is behind, or the edition that is named is not the stored one (rule 4.6).
abbrev pub EDITION_WRONG : ℕ
EDITION_WRONG = 6

-- The original has its last edition (rule 4.1).
abbrev pub EDITIONS_SPENT : ℕ
EDITIONS_SPENT = 7

-- The text is longer than the buffer for it (rule 4.1).
abbrev pub REPLY_SHORT : ℕ
REPLY_SHORT = 8

-- The image is not sound, or of another version (rule 2.6).
abbrev pub UNSOUND : ℕ
UNSOUND = 9

-- The queue itself breaks its rules, whatever is sent to it (rule 7.4).
abbrev pub BAD_QUEUE : ℕ
BAD_QUEUE = 10

-- The pair that is asked with is too small. Minuet: UpgradeDenied (rule 7.7).
abbrev pub PAIR_DENIED : ℕ
PAIR_DENIED = 11

-- The desk and start stands, and what it asks for is no upgrade (rule 7.9).
abbrev pub STANDS_ALREADY : ℕ
STANDS_ALREADY = 12

-- Every lent place is taken, and what is asked for is no upgrade (rule 7.6).
abbrev pub QUEUE_FULL : ℕ
QUEUE_FULL = 13

-- No such image can be made in the lent bytes (rule 2.7).
abbrev pub NOT_MADE : ℕ
NOT_MADE = 14

-- The desk and start that is to leave does not stand (rule 7.12).
abbrev pub NOT_STANDING : ℕ
NOT_STANDING = 15

-- The desk has no larger stamp of its own for the card (rule 10.6).
abbrev pub NO_STAMP_LEFT : ℕ
NO_STAMP_LEFT = 16

-- A stamp is too far ahead of the stored one (rule 4.9).
abbrev pub TOO_FAR : ℕ
TOO_FAR = 17

-- The first text is ill formed (rule 12.1).
abbrev pub FIRST_ILL : ℕ
FIRST_ILL = 18

-- The second text is ill formed (rule 12.1).
abbrev pub SECOND_ILL : ℕ
SECOND_ILL = 19

-- The texts part at a step (rule 12.10).
abbrev pub UNMATCHED : ℕ
UNMATCHED = 20

-- A lease term or a time is outside its limits, or is no number (rule 13.2).
abbrev pub LEASE_OUT_OF_RANGE : ℕ
LEASE_OUT_OF_RANGE = 21

-- One more accepted command would pass a limit of the history engine (rule 14.2).
abbrev pub HISTORY_FULL : ℕ
HISTORY_FULL = 22

-- The log or the record breaks its layout or its order (rule 11.6).
abbrev pub BAD_LOG : ℕ
BAD_LOG = 23

-- The log has no line or no room left for the record (rule 11.11).
abbrev pub LOG_FULL : ℕ
LOG_FULL = 24

-- The wait for a silent desk is not over (rule 13.4).
abbrev pub LEASE_RUNS : ℕ
LEASE_RUNS = 25

-- The append had too few stores of one byte (rule 11.11).
abbrev pub APPEND_CUT : ℕ
APPEND_CUT = 26
