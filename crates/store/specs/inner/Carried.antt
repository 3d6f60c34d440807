-- The bytes of a sound image while an accepted command is carried out.
-- Assumes nothing.
use Rattle.std.specs.Prelude.{ℕ, suc, List, cond, length}
use Rattle.lists.specs.Parts.{splice}
use Rattle.commands.specs.Command.{original, writes_translation, writes}
use Rattle.commands.specs.declared.Command.{Command}
use Rattle.formats.specs.Format.{Format}
use Rattle.image.specs.Layout.{entry_place, body_place}
use Rattle.image.specs.inner.Write.{original_with, translation_with}
use Rattle.guard.specs.declared.Entry.{Entry}
use Rattle.image.specs.Bytes.{count_of, room_of, pad, entry_at}
use Rattle.guard.specs.Judge.{judged}
use Rattle.guard.specs.Replies.{replied}
use Rattle.lists.specs.Table.{settled}
use Rattle.guard.specs.declared.Judged.{Judged}
use Rattle.image.specs.Image.{card_at, with_card, encode, decode}
use Rattle.store_model.specs.Serve.{Outcome, text_read, stepped}

-- An image with a text in a body of card k, and zeros behind it (rule 4.5).
abbrev pub body_written : Format → List ℕ → ℕ → ℕ → List ℕ → List ℕ
body_written f image k side text = splice (body_place f (count_of image) (room_of image) k side) (pad (room_of image) text) image

-- An image with a command's payload in place of the text that it writes, if it writes one.
unfoldable pub text_written : Format → List ℕ → Command → List ℕ → List ℕ
text_written f image c text =
    cond
    (writes original c)
    (body_written f image c.card 0 text)
    (cond (writes_translation c) (body_written f image c.card (suc c.language) text) image)

-- The same with what the entry e, the raised one, says of that text.
unfoldable pub act_written : Format → List ℕ → Command → Entry → List ℕ → List ℕ
act_written f image c e text =
    cond
    (writes original c)
    (original_with f e (entry_place f c.card) (body_written f image c.card 0 text))
    (cond
    (writes_translation c)
    (translation_with f c.language e (entry_place f c.card) (body_written f image c.card (suc c.language) text))
    image)

-- ---- One well-formed command for an existing card, on a sound image, in the terms of the step's own functions: the judging entry, and what is
-- left. A request as a whole is `serve`.

-- The entry of the card that a command names, as seen in the translation that it names, judges it.
abbrev pub judged_at : Format → List ℕ → Command → ℕ → Judged
judged_at f image c lent = judged (entry_at f image c.card c.language) c (room_of image) lent

-- What a command with its payload leaves.
unfoldable pub carried : Format → List ℕ → Command → List ℕ → List ℕ → Outcome
carried f image c text reply =
    record {
      answer = replied (judged_at f image c (length reply)).number (judged_at f image c (length reply)).entry c;
      image =
          settled (judged_at f image c (length reply)).number
          (encode f (with_card c.card (stepped (card_at f image c.card) c text) (decode f image)))
          image;
      reply = settled (judged_at f image c (length reply)).number (splice 0 (text_read (card_at f image c.card) c) reply) reply;
    }
