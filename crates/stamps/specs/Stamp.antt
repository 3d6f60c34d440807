-- Stamps, pairs, modes, desks and commit marks (rules 1.1 to 1.7), and what the numbers 3, 17 and 4 compare (rules 4.2, 4.9 and 4.3).
-- Assumes nothing.
use Rattle.std.specs.Prelude.{ℕ, ◌+◌, ◌*◌, ◌/◌, ◌%◌, ◌<◌, max, List, [], ◌∷◌, Bool, cond, not, ◌&&◌, ◌||◌, ltb, leb, eqb}
use Rattle.std.specs.Bool.{beq}
use Rattle.stamps.specs.declared.Mark.{Mark}
use Rattle.stamps.specs.declared.Pair.{Pair}

-- A stamp of its three parts (rule 1.1). Minuet: a timestamp T.cliID.incNum.
abbrev pub stamp : ℕ → ℕ → ℕ → ℕ
stamp t desk start = t * 4294967296 + desk * 65536 + start

-- The T of a stamp, its high 32 bits (rule 1.1).
abbrev pub stamp_t : ℕ → ℕ
stamp_t n = n / 4294967296

-- The desk of a stamp: Minuet's client identifier.
abbrev pub desk_number : ℕ → ℕ
desk_number n = n / 65536 % 65536

-- The desk and the start of a stamp, its low 32 bits: Minuet's client identifier with its incarnation number.
abbrev pub desk_start : ℕ → ℕ
desk_start n = n % 4294967296

-- Rule 1.2: none, or with a desk.
abbrev pub stamp_valid : ℕ → Bool
stamp_valid n = eqb n 0 || not (eqb (desk_number n) 0)

-- The modes (rule 1.4).
abbrev pub shared : ℕ
shared = 1

abbrev pub exclusive : ℕ
exclusive = 2

-- The mode's own stamp of a pair (rules 1.3 and 1.4): s if shared, x if exclusive.
abbrev pub own : ℕ → Pair → ℕ
own mode pair = cond (eqb mode exclusive) pair.x pair.s

-- Rule 1.5: the desk and start of the mode's own stamp.
abbrev pub desk_of : ℕ → Pair → ℕ
desk_of mode pair = desk_start (own mode pair)

-- The rules for a mode and a pair, of a command and of an entry in the lock queue alike (rule 1.4): one of the two modes, valid stamps,
-- and an own stamp.
abbrev pub session_checks : ℕ → Pair → List Bool
session_checks mode pair =
    (eqb mode shared || eqb mode exclusive)
    ∷ stamp_valid pair.s
    ∷ stamp_valid pair.x
    ∷ not (eqb (own mode pair) 0)
    ∷ []

-- Rule 4.2: stale by x, and, if exclusive, by s; equal stamps are not.
-- Minuet: EBADSESSION.
abbrev pub stale : ℕ → Pair → Pair → Bool
stale mode stored new = ltb new.x stored.x || eqb mode exclusive && ltb new.s stored.s

-- Rule 4.9: the most by which the T of a stamp may be above the T of the stored one.
abbrev pub most_ahead : ℕ
most_ahead = 1000000

-- A stamp is too far ahead of the stored one: its T is above the stored T by more than that. Zero, no stamp, has T 0 and is never too far ahead.
abbrev pub stamp_too_far : ℕ → ℕ → Bool
stamp_too_far stored new = ltb (stamp_t stored + most_ahead) (stamp_t new)

-- A pair is too far ahead (rule 4.9): one of its stamps is, of the stored one on its own side, whatever the mode.
abbrev pub too_far : Pair → Pair → Bool
too_far stored new = stamp_too_far stored.s new.s || stamp_too_far stored.x new.x

-- The larger of each stamp (rule 4.4): what an accepted command makes of the stored pair, in an entry and in the lock queue.
abbrev pub larger_of_each : Pair → Pair → Pair
larger_of_each old new = record { s = max old.s new.s; x = max old.x new.x }

-- A commit mark (Minuet: commit session identifier) is whole (rule 1.7).
abbrev pub mark_whole : Mark → Bool
mark_whole m = beq (eqb m.desk 0) (eqb m.transaction 0)

-- Rule 4.3: the expected mark passes the stored one, by the same desk and a transaction that is not lower. (003, section 3.4.2: a request is rejected whose commit
-- session identifier names another client or an older transaction.)
abbrev pub mark_fits : Mark → Mark → Bool
mark_fits stored expected = eqb expected.desk stored.desk && leb stored.transaction expected.transaction

-- No stamps and no mark: zero means none.
abbrev pub no_pair : Pair
no_pair = record { s = 0; x = 0 }

abbrev pub no_mark : Mark
no_mark = record { desk = 0; transaction = 0 }

-- Each number within its field's width.
pub record FitsPair (p : Pair) : Type 0 where
  pub s : p.s < 18446744073709551616
  pub x : p.x < 18446744073709551616

pub record FitsMark (m : Mark) : Type 0 where
  pub desk : m.desk < 65536
  pub transaction : m.transaction < 4294967296
