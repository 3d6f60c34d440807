-- What one more kept command makes of a card that is worked out from the kept commands. Assumes nothing.
use Prim.Native.Nat.{ℕ}
use mathlib.Core.Path.{◌≡◌, refl}
use mathlib.Core.List.{List, [], ◌∷◌}
use mathlib.Core.Bool.{Bool, true, false}
use Rattle.formats.specs.Format.{V1}
use Rattle.commands.specs.Command.{original, translation, writes}
use Rattle.commands.specs.Bytes.{fields_of, payload}
use Rattle.guard.specs.Judge.{raise}
use Rattle.image.specs.Image.{view, no_card}
use Rattle.store_model.specs.Serve.{stepped}
use Rattle.history.specs.WorkedOut.{concerns, highest, times_written, text_from, entry_from}
use Rattle.history.proofs.Raised.{names_one, one_translation, entry_here, entry_other, text_here, text_other}
use Rattle.history_claims.specs.Claims.{card_from}

module _ (kept : List (List ℕ)) (command : List ℕ) (k : ℕ) where
  pub card_here : concerns k command ≡ true → card_from (command ∷ kept) k ≡ stepped (card_from kept k) (fields_of V1 command) (payload V1 command)
  unfolding stepped raise
  card_here h = go (writes (translation 0) (fields_of V1 command)) refl
    where
      go : (b : Bool) → writes (translation 0) (fields_of V1 command) ≡ b
          → card_from (command ∷ kept) k ≡ stepped (card_from kept k) (fields_of V1 command) (payload V1 command)
      go true w = rw (entry_here kept command k h, names_one command, ← one_translation command, text_here kept command k original h, text_here kept command k (translation 0) h, w)
      go false w = rw (entry_here kept command k h, names_one command, ← one_translation command, text_here kept command k original h, text_here kept command k (translation 0) h, w)

  pub card_other : concerns k command ≡ false → card_from (command ∷ kept) k ≡ card_from kept k
  card_other h = rw (entry_other kept command k h, text_other kept command k _ h, text_other kept command k _ h)

pub card_none : (k : ℕ) → card_from [] k ≡ no_card V1
unfolding entry_from text_from highest times_written
card_none k = refl

pub entry_none : (k : ℕ) → view 0 (no_card V1) ≡ entry_from [] k
unfolding entry_from highest times_written
entry_none k = refl
