-- An original and its translation changed by one transaction, and an original alone: what a reader of the translation
-- gets after each part, by computation on bytes. Proved in proofs/Cases.antt.
-- Assumes nothing.
use Rattle.std.specs.Prelude.{ℕ, ◌≡◌, List, [], ◌∷◌, ◌++◌, Bool, true, false, take}
use Rattle.stamps.specs.Stamp.{exclusive, no_mark}
use Rattle.store_model.specs.Cases.{pair, with_pairs, sends, text205, text401, long}
use Rattle.redo_log.specs.Log.{LogRecord}
use Rattle.redo_log_claims.specs.Cases.{begin_of, update_of, commit_of, synced_of}
use Rattle.transactions.specs.System.{OneDesk, Step, other, order, arrive, outcome, after_steps}
use Rattle.transactions.specs.Desks.{Desks, DeskStep, outside, by_desk, seen_by, after_desk_steps, lawful_desk_steps}
use Rattle.transactions_cases.specs.Cases.{
  at_first,
  text190,
  text380,
  text210,
  one,
  five,
  six,
  theirs,
  both_ruled,
  two_desks,
  command,
  writes1,
  ours,
  prepare,
  write_out,
  release,
  logs,
  logs_all,
  in_order,
  Shows,
  both,
  single,
}
use Rattle.transactions_editions.specs.Editions.{current_in, current_along}
use Rattle.transactions_editions.specs.Desks.{desks_current_along}

-- Desk 1 writes card 0 in both languages.
abbrev pub written_twice : List Step
written_twice = writes1 0 (one 1) text190 ∷ other (sends (with_pairs 4 exclusive 0 (pair 0 (one 1)) (pair 0 (one 1)) no_mark no_mark 1 3) text380 []) ∷ []

-- Desk 5 logs these updates and prepares the card; it commits; it writes the original out, and the translation, and
-- releases the card.
abbrev pub makes_ready : List LogRecord → List Step
makes_ready us = logs (begin_of 1) ∷ logs_all us ++ (order (prepare 0 (one 1) (five 2)) 0 0 ∷ arrive 0 ∷ [])

abbrev pub commits_it : List Step
commits_it = logs (commit_of 1) ∷ []

abbrev pub original_out : List Step
original_out = order (write_out 0 (five 2) (five 3) text205) 1 0 ∷ arrive 0 ∷ []

abbrev pub translation_out : List Step
translation_out = order (sends (with_pairs 4 exclusive 0 (pair 0 (five 3)) (pair 0 (five 4)) ours ours 2 3) text401 []) 2 0 ∷ arrive 0 ∷ []

abbrev pub released_at : ℕ → List Step
released_at x = order (release 0 x (five 5)) 0 0 ∷ arrive 0 ∷ []

-- A read of the translation, and what it gets after each part.
abbrev pub read_it : OneDesk → Shows
read_it y =
    let r = outcome y (command 2 0 (five 9) (five 9) no_mark no_mark [] (long 3)) in
    record { number = r.answer.number; text = take r.answer.length r.reply }

abbrev pub translation_after : OneDesk → List (List Step) → List Shows
translation_after y [] = []
translation_after y (part ∷ parts) = read_it (after_steps 5 y part) ∷ translation_after (after_steps 5 y part) parts

abbrev pub reader_gets : ℕ → List ℕ → Shows
reader_gets number text = record { number = number; text = text }

abbrev pub together : List (List Step)
together = written_twice ∷ makes_ready both ∷ commits_it ∷ original_out ∷ translation_out ∷ released_at (five 4) ∷ []

abbrev pub original_alone : List (List Step)
original_alone = written_twice ∷ makes_ready single ∷ commits_it ∷ original_out ∷ released_at (five 3) ∷ []

-- Two desks, one after the other: desk 6 changes the original alone, and then desk 5 both languages.
abbrev pub one_after_the_other : List (List DeskStep)
one_after_the_other =
    (outside (command 3 0 (one 1) (one 1) no_mark no_mark text190 [])
    ∷ outside (sends (with_pairs 4 exclusive 0 (pair 0 (one 1)) (pair 0 (one 1)) no_mark no_mark 1 3) text380 [])
    ∷ [])
    ∷ (by_desk 6 (logs (begin_of 7))
    ∷ by_desk 6 (logs (update_of 0 1 text210))
    ∷ by_desk 6 (order (command 5 0 (one 1) (six 2) no_mark theirs [] []) 0 0)
    ∷ by_desk 6 (arrive 0)
    ∷ by_desk 6 (logs (commit_of 7))
    ∷ [])
    ∷ (by_desk 6 (order (command 3 0 (six 2) (six 3) theirs theirs text210 []) 1 0)
    ∷ by_desk 6 (arrive 0)
    ∷ by_desk 6 (order (command 5 0 (six 3) (six 4) theirs no_mark [] []) 0 0)
    ∷ by_desk 6 (arrive 0)
    ∷ by_desk 6 (logs (synced_of 0 7))
    ∷ [])
    ∷ (by_desk 5 (logs (begin_of 1))
    ∷ by_desk 5 (logs (update_of 0 1 text205))
    ∷ by_desk 5 (logs (update_of 0 2 text401))
    ∷ by_desk 5 (order (prepare 0 (six 4) (five 5)) 0 0)
    ∷ by_desk 5 (arrive 0)
    ∷ by_desk 5 (logs (commit_of 1))
    ∷ [])
    ∷ (by_desk 5 (order (write_out 0 (five 5) (five 6) text205) 1 0)
    ∷ by_desk 5 (arrive 0)
    ∷ by_desk 5 (order (sends (with_pairs 4 exclusive 0 (pair 0 (five 6)) (pair 0 (five 7)) ours ours 3 3) text401 []) 2 0)
    ∷ by_desk 5 (arrive 0)
    ∷ by_desk 5 (order (release 0 (five 7) (five 8)) 0 0)
    ∷ by_desk 5 (arrive 0)
    ∷ [])
    ∷ []

-- What a reader of the translation gets, whether it is meant to be current, and whether all was by the rules.
pub record Turn : Type 0 where
  pub gets : Shows
  pub current : Bool
  pub lawfully : Bool

abbrev pub turn : ℕ → List ℕ → Bool → Turn
turn number text current = record { gets = reader_gets number text; current = current; lawfully = true }

abbrev pub turns_of : Desks → (ℕ → Bool) → List (List DeskStep) → List Turn
turns_of y c [] = []
turns_of y c (part ∷ parts) =
    record {
      gets = read_it (seen_by 5 (after_desk_steps y part));
      current = desks_current_along y c part 0;
      lawfully = lawful_desk_steps both_ruled y part;
    }
    ∷ turns_of (after_desk_steps y part) (desks_current_along y c part) parts

pub record DropsChanged : Type 0 where
  pub rules : in_order at_first together ≡ true
  -- the old one, nothing while the card is marked, the new one
  pub reads : translation_after at_first together ≡ reader_gets 0 text380 ∷ reader_gets 4 [] ∷ reader_gets 4 [] ∷ reader_gets 4 [] ∷ reader_gets 4 [] ∷ reader_gets 0 text401 ∷ []
  pub current : current_along 5 at_first (current_in at_first.image) (written_twice ++ (makes_ready both ++ commits_it)) 0 ≡ true
  -- the original alone: the translation is behind from the commit on, and no reader is shown it
  pub rules_alone : in_order at_first original_alone ≡ true
  pub reads_alone : translation_after at_first original_alone ≡ reader_gets 0 text380 ∷ reader_gets 4 [] ∷ reader_gets 4 [] ∷ reader_gets 4 [] ∷ reader_gets 6 [] ∷ []
  pub behind : current_along 5 at_first (current_in at_first.image) (written_twice ++ (makes_ready single ++ commits_it)) 0 ≡ false
  -- two desks: the old one; nothing while the card is marked, then 6, since the original is newer; the new one
  pub two_desks_lem :
      turns_of two_desks (current_in two_desks.image) one_after_the_other
      ≡ turn 0 text380 true ∷ turn 4 [] false ∷ turn 6 [] false ∷ turn 4 [] true ∷ turn 0 text401 true ∷ []
