-- By the room that is lent. Assumes nothing.
use Rattle.program.proofs.Answered.{too_short, long_enough}
use Rattle.program.proofs.output.Goals as goal

pub returns-then-out-lt-MOST_OUTPUT : goal.returns-then-out-lt-MOST_OUTPUT
returns-then-out-lt-MOST_OUTPUT c = let all = too_short _ _ c.if-out-lt-MOST_OUTPUT.true in record { count = all.0; out = all.1 }

pub returns : goal.returns
returns c = let all = long_enough _ _ c.if-out-lt-MOST_OUTPUT.false c.write.ensures in record { count = all.0; out = all.1 }
