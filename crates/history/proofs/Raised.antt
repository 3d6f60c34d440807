-- What one more kept command makes of an entry and a text that are worked out from the kept commands: what the guard makes of stored ones.
-- Assumes nothing.
use Prim.Native.Nat.{ℕ}
use mathlib.Core.Path.{◌≡◌, refl}
use mathlib.Core.List.{List, ◌∷◌}
use mathlib.Core.Bool.{true, false, cond}
use Rattle.formats.specs.Format.{V1}
use Rattle.commands.specs.Command.{Language, translation, writes_translation, writes}
use Rattle.commands.proofs.Languages.{writes_own}
use Rattle.commands.specs.Bytes.{fields_of, payload}
use Rattle.guard.specs.Judge.{raise}
use Rattle.history.specs.WorkedOut.{concerns, highest, times_written, text_from, entry_from}

-- A command of version 1 names translation 0.
pub names_one : (command : List ℕ) → (fields_of V1 command).language ≡ 0
unfolding fields_of
names_one command = refl

-- A command of version 1 writes translation 0 exactly if it writes a translation.
pub one_translation : (command : List ℕ) → writes (translation 0) (fields_of V1 command) ≡ writes_translation (fields_of V1 command)
unfolding fields_of
one_translation command = writes_own (fields_of V1 command)

module _ (kept : List (List ℕ)) (command : List ℕ) (k : ℕ) where
  pub entry_here : concerns k command ≡ true → entry_from (command ∷ kept) k ≡ raise (entry_from kept k) (fields_of V1 command)
  unfolding entry_from highest times_written raise
  entry_here h = rw (h, one_translation command)

  pub entry_other : concerns k command ≡ false → entry_from (command ∷ kept) k ≡ entry_from kept k
  unfolding entry_from highest times_written
  entry_other h = rw h

  pub text_here : (l : Language) → concerns k command ≡ true
      → text_from l (command ∷ kept) k ≡ cond (writes l (fields_of V1 command)) (payload V1 command) (text_from l kept k)
  unfolding text_from
  text_here l h = rw h

  pub text_other : (l : Language) → concerns k command ≡ false → text_from l (command ∷ kept) k ≡ text_from l kept k
  unfolding text_from
  text_other l h = rw h
