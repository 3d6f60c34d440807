-- One request on an image: the table, the reply fields, the image after and the reply buffer after (rules 4.1 to 4.9).
-- Assumes nothing.
use Rattle.std.specs.Prelude.{ℕ, List, [], ◌∷◌, cond, not, length, get_or, set, ltb}
use Rattle.lists.specs.Parts.{splice}
use Rattle.commands.specs.Command.{original, translation, reads_translation, writes_translation, reads, writes}
use Rattle.commands.specs.Bytes.{fields_of, payload, formed}
use Rattle.lists.specs.Table.{Row, row, first, settled}
use Rattle.numbers.specs.Numbers.{MALFORMED, NO_CARD, UNSOUND}
use Rattle.guard.specs.Judge.{entry_rows, raise}
use Rattle.guard.specs.Replies.{replied}
use Rattle.guard.specs.declared.Answer.{Answer}
use Rattle.guard.specs.declared.Entry.{Entry}
use Rattle.commands.specs.declared.Command.{Command}
use Rattle.formats.specs.Format.{Format}
use Rattle.image.specs.Image.{Card, Cards, view, text, with_card, no_card, encode, decode, sound}

-- The card that a command names; an empty one where there is none.
abbrev pub card_of : Format → Cards → Command → Card
card_of f cs c = get_or cs.cards c.card (no_card f)

-- The entry that judges a command: its card's, as seen in the translation that the command names (rule 15.8).
abbrev pub entry_of : Format → Cards → Command → Entry
entry_of f cs c = view c.language (card_of f cs c)

-- The rows of the table but the first, on a store's cards, a command's lent bytes and the length of the lent reply buffer.
abbrev pub request_rows : Format → Cards → List ℕ → ℕ → List Row
request_rows f cs command lent =
    row (not (formed f command)) MALFORMED
    ∷ row (not (ltb (fields_of f command).card (length cs.cards))) NO_CARD
    -- 3, 17, then 4 to 8
    ∷ entry_rows (entry_of f cs (fields_of f command)) (fields_of f command) cs.room lent

-- The whole table.
abbrev pub store_rows : Format → List ℕ → List ℕ → ℕ → List Row
store_rows f image command lent =
    row (not (sound f image)) UNSOUND
    ∷ request_rows f (decode f image) command lent

-- The text that a command reads.
abbrev pub text_read : Card → Command → List ℕ
text_read card c =
    cond (reads original c) (text original card)
    (cond (reads_translation c) (text (translation c.language) card) [])

-- The card after an accepted command: the pair, the mark and the edition of the raised entry, and the payload in place of the text that it writes;
-- a translation keeps the edition that the command names (rule 4.5).
unfoldable pub stepped : Card → Command → List ℕ → Card
stepped card c written =
    record {
      pair = (raise (view c.language card) c).pair;
      mark = (raise (view c.language card) c).mark;
      edition = (raise (view c.language card) c).edition;
      original = cond (writes original c) written card.original;
      translated =
          cond (writes_translation c)
          (set card.translated c.language (record { from = c.edition; text = written }))
          card.translated;
    }

-- The cards after an accepted command: its card alone changes.
abbrev pub cards_after : Format → Cards → List ℕ → Cards
cards_after f cs command =
    with_card (fields_of f command).card (stepped (card_of f cs (fields_of f command)) (fields_of f command) (payload f command)) cs

-- What a request leaves: its answer, the image and the reply buffer.
pub record Outcome : Type 0 where
  pub answer : Answer
  pub image : List ℕ
  pub reply : List ℕ

-- What a number makes of a request on a store's cards: the reply fields are the entry's as it now is; an accepted read alone writes to the reply
-- buffer, in front (rule 4.7), and a refusal leaves the image as it was (rule 4.1).
abbrev pub answer_by : Format → ℕ → Cards → List ℕ → Answer
answer_by f number cs command =
    replied number
    (settled number (raise (entry_of f cs (fields_of f command)) (fields_of f command)) (entry_of f cs (fields_of f command)))
    (fields_of f command)

abbrev pub reply_by : Format → ℕ → Cards → List ℕ → List ℕ → List ℕ
reply_by f number cs command reply = settled number (splice 0 (text_read (card_of f cs (fields_of f command)) (fields_of f command)) reply) reply

unfoldable pub serve_by : Format → ℕ → List ℕ → List ℕ → List ℕ → Outcome
serve_by f number image command reply =
    record {
      answer = answer_by f number (decode f image) command;
      image = settled number (encode f (cards_after f (decode f image) command)) image;
      reply = reply_by f number (decode f image) command reply;
    }

-- One request: the first row that applies gives its number.
unfoldable pub serve : Format → List ℕ → List ℕ → List ℕ → Outcome
serve f image command reply = serve_by f (first (store_rows f image command (length reply))) image command reply
