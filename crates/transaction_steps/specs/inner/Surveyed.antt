-- What the first lines of a log say of a card, in the terms of the code.
-- Assumes nothing.
use Rattle.std.specs.Prelude.{ℕ, List, not}
use Rattle.redo_log.specs.Log.{LogRecord}
use Rattle.transactions.specs.System.{written_out}
use Rattle.transaction_steps.specs.Steps.{first_due, last_due, updates_card}
use Rattle.transaction_steps.specs.declared.inner.Survey.{Survey}

unfoldable pub surveyed : List LogRecord → ℕ → ℕ → ℕ → ℕ → Survey
surveyed rs k reach t n =
    record {
      due = not (written_out rs k 0 n);
      line = first_due rs k reach n;
      transaction = last_due rs k n;
      changed = updates_card rs t k n;
    }
