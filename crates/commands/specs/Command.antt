-- A command: its numbers, its two pairs and its rules (rules 3.2 to 3.4).
-- Assumes nothing.
use Rattle.std.specs.Prelude.{ℕ, ◌<◌, List, [], ◌∷◌, ◌++◌, Bool, cond, not, ◌&&◌, ◌||◌, leb, eqb}
use Rattle.std.specs.Bool.{beq}
use Rattle.lists.specs.Table.{all}
use Rattle.stamps.specs.Stamp.{desk_of, exclusive, stamp_valid, session_checks, mark_whole, FitsPair, FitsMark}
use Rattle.commands.specs.declared.Command.{Command}
use Rattle.stamps.specs.declared.Pair.{Pair}

-- The language of a text: the original or a translation, by its number.
pub data Language : Type 0 where
  original : Language
  translation : ℕ → Language

-- The command reads, or writes, a translation (rule 3.2): the one that it names.
abbrev pub reads_translation : Command → Bool
reads_translation c = eqb c.act 2

abbrev pub writes_translation : Command → Bool
writes_translation c = eqb c.act 4

-- The command reads, or writes, the text of a language (rule 3.2).
abbrev pub reads : Language → Command → Bool
reads original c = eqb c.act 1
reads (translation t) c = reads_translation c && eqb c.language t

abbrev pub writes : Language → Command → Bool
writes original c = eqb c.act 3
writes (translation t) c = writes_translation c && eqb c.language t

-- The command writes a text.
abbrev pub is_write : Command → Bool
is_write c = writes original c || writes_translation c

-- A translation is named by a number up to 3, and only by a command that reads or writes one; every other command has 0 there (rule 15.7).
abbrev pub language_named : Command → Bool
language_named c = leb c.language 3 && (reads_translation c || writes_translation c || eqb c.language 0)

-- The two pairs of a command (rule 3.4). Staleness judges the verifier. The update pair raises the stored pair and names the session; it is the
-- verifier where the bytes for it are all zero. Minuet (003, section 3.2): session verifier and session update.
abbrev pub verifier : Command → Pair
verifier c = c.verifier

abbrev pub opens_none : Command → Bool
opens_none c = eqb c.opened.s 0 && eqb c.opened.x 0

abbrev pub update : Command → Pair
update c = cond (opens_none c) c.verifier c.opened

-- The rules of a verifier (rule 3.3): valid stamps, zero or not, and none above the update pair's.
abbrev pub verifier_checks : Command → List Bool
verifier_checks c =
    stamp_valid (verifier c).s
    ∷ stamp_valid (verifier c).x
    ∷ leb (verifier c).s (update c).s
    ∷ leb (verifier c).x (update c).x
    ∷ []

-- Rule 1.6.
pub record Session : Type 0 where
  pub card : ℕ
  pub desk : ℕ
  pub mode : ℕ
  pub pair : Pair

abbrev pub session : Command → Session
session c = record { card = c.card; desk = desk_of c.mode (update c); mode = c.mode; pair = update c }

-- The rules of a command's numbers, one test for each part of rule 3.3: those that go by the act,
abbrev pub act_checks : Command → List Bool
act_checks c =
    -- acts are 1 to 5
    (leb 1 c.act && leb c.act 5)
    -- a write is exclusive
    ∷ (not (is_write c) || eqb c.mode exclusive)
    -- act 4 names an edition, and no other act does
    ∷ beq (eqb c.act 4) (not (eqb c.edition 0))
    -- only a write has a payload
    ∷ (eqb c.length 0 || is_write c)
    -- the language
    ∷ language_named c
    ∷ []

-- those of the mode and the update pair (rule 1.4) and of the verifier,
abbrev pub pair_checks : Command → List Bool
pair_checks c = session_checks c.mode (update c) ++ verifier_checks c

-- and those of both marks (rule 1.7).
abbrev pub checks : Command → List Bool
checks c = act_checks c ++ (pair_checks c ++ (mark_whole c.expected ∷ mark_whole c.next ∷ []))

unfoldable pub well_formed : Command → Bool
well_formed c = all (checks c)

-- Each number within its field's width.
pub record FitsCommand (c : Command) : Type 0 where
  pub act : c.act < 256
  pub mode : c.mode < 256
  pub language : c.language < 256
  pub card : c.card < 65536
  pub verifier : FitsPair c.verifier
  pub opened : FitsPair c.opened
  pub expected : FitsMark c.expected
  pub next : FitsMark c.next
  pub edition : c.edition < 65536
  pub length : c.length < 65536
