-- The number of an outcome tells whether something was refused. Assumes nothing.
use native.Mathlib.Omega.{arith}
use mathlib.Core.Path.{◌≡◌, refl}
use mathlib.Core.Bool.{true, false}
use Rattle.std.specs.Prelude.{Result, Ok, Err, is_ok}
use Rattle.numbers.specs.declared.Refusal.{Refusal}
use Rattle.numbers.specs.declared.Refusal.TheVariants.{
  Malformed,
  NoCard,
  Stale,
  MarkDiffers,
  PayloadLong,
  EditionWrong,
  EditionsSpent,
  ReplyShort,
  Unsound,
  BadQueue,
  PairDenied,
  StandsAlready,
  QueueFull,
  NotMade,
  NotStanding,
  NoStampLeft,
  TooFar,
  FirstIll,
  SecondIll,
  Unmatched,
  LeaseOutOfRange,
  HistoryFull,
  BadLog,
  LogFull,
  LeaseRuns,
  AppendCut,
}
use Rattle.numbers.specs.Refusals.{code, number_of}

-- The number of a refusal is not that of acceptance.
pub refused : (r : Refusal) → code r ≡ 0 → ⊥
refused Malformed e = absurd (omega arith)
refused NoCard e = absurd (omega arith)
refused Stale e = absurd (omega arith)
refused MarkDiffers e = absurd (omega arith)
refused PayloadLong e = absurd (omega arith)
refused EditionWrong e = absurd (omega arith)
refused EditionsSpent e = absurd (omega arith)
refused ReplyShort e = absurd (omega arith)
refused Unsound e = absurd (omega arith)
refused BadQueue e = absurd (omega arith)
refused PairDenied e = absurd (omega arith)
refused StandsAlready e = absurd (omega arith)
refused QueueFull e = absurd (omega arith)
refused NotMade e = absurd (omega arith)
refused NotStanding e = absurd (omega arith)
refused NoStampLeft e = absurd (omega arith)
refused TooFar e = absurd (omega arith)
refused FirstIll e = absurd (omega arith)
refused SecondIll e = absurd (omega arith)
refused Unmatched e = absurd (omega arith)
refused LeaseOutOfRange e = absurd (omega arith)
refused HistoryFull e = absurd (omega arith)
refused BadLog e = absurd (omega arith)
refused LogFull e = absurd (omega arith)
refused LeaseRuns e = absurd (omega arith)
refused AppendCut e = absurd (omega arith)

module _ {T : Type 0} where
  pub of_ok : (o : Result T Refusal) → is_ok o ≡ true → number_of o ≡ 0
  of_ok (Ok value) h = refl
  of_ok (Err r) h = cc

  pub of_err : (o : Result T Refusal) → is_ok o ≡ false → number_of o ≡ 0 → ⊥
  of_err (Ok value) h e = absurd cc
  of_err (Err r) h e = refused r e
