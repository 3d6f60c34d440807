-- Which pair a reply shows, over the list of what was sent (docs/RULES.md, rule 10.14). Proved in proofs/Pairs.antt.
-- Assumes nothing.
use Rattle.std.specs.Prelude.{ℕ, ◌≡◌, List, [], ◌∷◌, ◌++◌, cond, T}
use Rattle.stamps.specs.Stamp.{larger_of_each, no_pair}
use Rattle.stamps.specs.declared.Pair.{Pair}
use Rattle.commands.specs.Command.{update}
use Rattle.guard.specs.Replies.{blank_reply}
use Rattle.formats.specs.Format.{Format}
use Rattle.image.specs.Layout.{shape_ok}
use Rattle.store_model.specs.Words.{Sent, Event, command_of, accepted, trace_of}
use Rattle.store_model.specs.Claims.{AllBytes}

-- The largest s and the largest x of the accepted commands for card k (latest first), each by itself; zeros where there is none.
abbrev pub largest_pair : ℕ → List Event → Pair
largest_pair k [] = no_pair
largest_pair k (e ∷ before) =
    cond (accepted k e) (larger_of_each (largest_pair k before) (update (command_of e))) (largest_pair k before)

-- Rule 10.14: a reply shows the largest pair accepted for its card so far, its own command counted, or zeros with 9, 1 and 2. So a desk that learns from replies
-- learns nothing but what accepted commands carried.
abbrev pub PairShown : Type 0
PairShown =
    (f : Format) (n c : ℕ) → T (shape_ok f n c) → (sent : List Sent) → AllBytes sent →
    (later : List Event) (e : Event) (before : List Event) → trace_of f n c sent ≡ later ++ e ∷ before →
    e.answer.pair ≡ cond (blank_reply e.answer.number) no_pair (largest_pair (command_of e).card (e ∷ before))
