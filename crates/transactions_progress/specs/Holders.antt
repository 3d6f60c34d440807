-- Another desk for one that is down (docs/RULES.md, rule 16.23; 003, section 3.4: lazy recovery). Whoever holds a desk's
-- log acts for it, one at a time; each has its own mind on which cards are held and free, and a log that is taken over
-- comes with none. What is claimed of a desk holds of its holders. The theorem stands in proofs/.
-- Assumes nothing.
use Rattle.std.specs.Prelude.{ℕ, ◌≡◌, List, [], ◌∷◌, Bool, true, false, cond, not, ◌&&◌, eqb}
use Rattle.lists.specs.Runs.{foldl, every_along}
use Rattle.transactions.specs.System.{OneDesk, Holding, unknown, Step, by_doer, one_desk_opening, lawful, with_holds, after_step}
use Rattle.transactions.specs.Claims.{StepBytes, Clean, Blank, Moment}

-- ---- what there is

-- The desk's log, its orders and what answers have shown, which are there for whoever holds the log; who holds it; and
-- what each of them knows of each card.
pub record Holders : Type 0 where
  pub desk : OneDesk
  pub holder : ℕ
  pub minds : ℕ → ℕ → Holding

-- The system of the desk, as one of them sees it.
abbrev pub seen_as : ℕ → Holders → OneDesk
seen_as who y = with_holds (y.minds who) y.desk

-- ---- what can happen

pub data Acting : Type 0 where
  -- somebody takes the log over, and has it from then on
  takes : (who : ℕ) → Acting
  -- somebody sends an order, appends to the log, recovers, begins the log again, or goes down
  acts : (who : ℕ) (m : Step) → Acting
  -- an order arrives, or somebody else's request
  comes : (m : Step) → Acting

-- Rule 16.23: what somebody does for the desk, and the post does not.
abbrev pub is_act : Step → Bool
is_act m = by_doer false false true m

-- Rule 16.23: only the holder acts, by the rules of the desk and by its own mind.
abbrev pub lawful_acting : ℕ → Holders → Acting → Bool
lawful_acting d y (takes who) = true
lawful_acting d y (acts who m) = eqb who y.holder && is_act m && lawful d (seen_as who y) m
lawful_acting d y (comes m) = not (is_act m) && lawful d (seen_as y.holder y) m

-- ---- what it changes

abbrev pub minding : ℕ → (ℕ → Holding) → (ℕ → ℕ → Holding) → ℕ → ℕ → Holding
minding who mind minds e k = cond (eqb e who) (mind k) (minds e k)

unfoldable pub after_acting : ℕ → Holders → Acting → Holders
after_acting d y (takes who) = record { desk = y.desk; holder = who; minds = minding who (λ k. unknown) y.minds }
after_acting d y (acts who m) =
    record {
      desk = after_step d (seen_as who y) m;
      holder = y.holder;
      minds = minding who (after_step d (seen_as who y) m).holds y.minds;
    }
-- an answer may be heard by each of them
after_acting d y (comes m) =
    record {
      desk = after_step d (seen_as y.holder y) m;
      holder = y.holder;
      minds = λ e. (after_step d (seen_as e y) m).holds;
    }

abbrev pub after_actings : ℕ → Holders → List Acting → Holders
after_actings d y actings = foldl (after_acting d) y actings

abbrev pub lawful_actings : ℕ → Holders → List Acting → Bool
lawful_actings d y actings = every_along (lawful_acting d) (after_acting d) y actings

-- ---- what is claimed

abbrev pub ActingBytes : List Acting → Type 0
ActingBytes [] = Unit {0}
ActingBytes (takes who ∷ actings) = ActingBytes actings
ActingBytes (acts who m ∷ actings) = StepBytes m × ActingBytes actings
ActingBytes (comes m ∷ actings) = StepBytes m × ActingBytes actings

abbrev pub holders_opening : ℕ → List ℕ → List ℕ → Holders
holders_opening first image log = record { desk = one_desk_opening image log; holder = first; minds = λ e k. unknown }

-- Rule 16.23: at every moment of such a run the desk, as its holder sees it, is at a moment of a run by the rules of one
-- desk. So everything that is claimed of a desk holds.
abbrev pub HoldersAreOne : Type 0
HoldersAreOne =
    (d first : ℕ) (image log : List ℕ) (actings : List Acting) → Clean (λ e. eqb e d) image → Blank log → ActingBytes actings
    → lawful_actings d (holders_opening first image log) actings ≡ true
    → Moment d (seen_as (after_actings d (holders_opening first image log) actings).holder (after_actings d (holders_opening first image log) actings))
