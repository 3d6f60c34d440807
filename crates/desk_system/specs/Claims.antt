-- What is claimed of desks by the rules (docs/RULES.md, rules 10.8, 10.11 to 10.13 and 10.17). The theorems stand in
-- proofs/.
-- Assumes nothing.
use Rattle.std.specs.Prelude.{ℕ, ◌≡◌, ◌⊎◌, List, ◌∷◌, ◌++◌, true, T}
use Rattle.formats.specs.Format.{Format, V1, V2}
use Rattle.lists.specs.Parts.{Bytes}
use Rattle.lists.specs.Search.{none}
use Rattle.stamps.specs.Stamp.{exclusive, stamp_valid}
use Rattle.image.specs.Layout.{shape_ok}
use Rattle.store_model.specs.Words.{Sent, Event, fresh_after, trace_of, accepted, premise, commands_in, OneSession, intrudes}
use Rattle.store_model.specs.Conversion.{image_across, trace_across}
use Rattle.lock_queue.specs.declared.Waiting.{Waiting}
use Rattle.desk_proposals.specs.Propose.{proposed}
use Rattle.desk_proposal_claims.specs.Claims.{Fine}
use Rattle.redo_recovery_model.specs.Recovery.{Pairs, FitsPairs, recovery_pair, recovered}
use Rattle.desk_system.specs.System.{TracedStore, System, Move, Made, recover_with, opening, is_made, in_use, knows, allowed, step_to, system_after, by_rules, AllFit}

-- Steps by the rules from the opening, over a store of a version and of any N and C that can be made, queues by card
-- and manager, over any places (rule 10.23), and any bytes as redo logs.
pub record ByRules (v : Format) (n c : ℕ) (places : ℕ → ℕ → List Waiting) (logs : ℕ → List ℕ) (steps : List Move) : Type 0 where
  pub shape : T (shape_ok v n c)
  pub fits : AllFit steps
  pub rules : by_rules (opening v n c places logs) steps ≡ true

-- The system that a run leaves.
abbrev pub finally : Format → ℕ → ℕ → (ℕ → ℕ → List Waiting) → (ℕ → List ℕ) → List Move → System
finally v n c places logs steps = system_after (opening v n c places logs) steps

-- Rule 10.11: whatever happens, the commands of the log keep demand 3's premise, of every card, over a conversion too.
abbrev pub PremiseKept : Type 0
PremiseKept =
    (v : Format) (n c : ℕ) (places : ℕ → ℕ → List Waiting) (logs : ℕ → List ℕ) (steps : List Move) → ByRules v n c places logs steps → (k : ℕ)
    → premise k (commands_in (finally v n c places logs steps).store.trace) ≡ true

-- Rule 10.12: so demand 3's sentence on isolation holds of these desks with no premise. No accepted command of another
-- desk for the card stands between two accepted ones of a session, unless both are shared, whether a conversion came
-- in between or not.
abbrev pub Isolated : List Event → Type 0
Isolated log =
    (k : ℕ) (later : List Event) (b : Event) (between : List Event) (a : Event) (before : List Event) →
    log ≡ later ++ b ∷ (between ++ a ∷ before) →
    accepted k a ≡ true →
    accepted k b ≡ true →
    OneSession a b →
    none (intrudes k b) between ≡ true

abbrev pub DesksIsolated : Type 0
DesksIsolated =
    (v : Format) (n c : ℕ) (places : ℕ → ℕ → List Waiting) (logs : ℕ → List ℕ) (steps : List Move) → ByRules v n c places logs steps →
    Isolated (finally v n c places logs steps).store.trace

-- The store among the desks is demand 3's: its trace is that of a list of requests to a fresh store, or of two lists
-- with a conversion between them, and its bytes are as they leave them.
pub data StoreOf (v : Format) (n c : ℕ) (y : TracedStore) : Type 0 where
  one_version :
      (sent : List Sent) → y.version ≡ v → y.trace ≡ trace_of v n c sent → y.image ≡ fresh_after v n c sent
      → StoreOf v n c y
  converted_once :
      (sent more : List Sent) → v ≡ V1 → y.version ≡ V2 → T (shape_ok V2 n c) → y.trace ≡ trace_across n c sent more
      → y.image ≡ image_across n c sent more
      → StoreOf v n c y

abbrev pub StoreFollows : Type 0
StoreFollows =
    (v : Format) (n c : ℕ) (places : ℕ → ℕ → List Waiting) (logs : ℕ → List ℕ) (steps : List Move) → T (shape_ok v n c) → AllFit steps
    → StoreOf v n c (finally v n c places logs steps).store

-- Rule 10.13: no x stands in two exclusive proposals for a card, whichever desks make them.
abbrev pub StampsOnce : Type 0
StampsOnce =
    (v : Format) (n c : ℕ) (places : ℕ → ℕ → List Waiting) (logs : ℕ → List ℕ) (steps : List Move) → ByRules v n c places logs steps →
    (later : List Made) (p : Made) (between : List Made) (q : Made) (before : List Made) →
    (finally v n c places logs steps).desks.made ≡ later ++ p ∷ (between ++ q ∷ before) →
    p.card ≡ q.card →
    p.mode ≡ exclusive →
    q.mode ≡ exclusive →
    p.pair.x ≡ q.pair.x → ⊥

-- Rule 10.17: desks by the rules know only valid stamps, so that what one of them proposes keeps a session's rules and
-- names the desk and start that makes it.
pub record KnowsValid (y : System) : Type 0 where
  pub known_s : (who card : ℕ) → stamp_valid (y.desks.known who card).s ≡ true
  pub known_x : (who card : ℕ) → stamp_valid (y.desks.known who card).x ≡ true
  pub proposes : (who card mode : ℕ) → in_use y who ≡ true → (proposed (knows y who card) mode).number ≡ 0 → Fine (knows y who card) mode

abbrev pub DesksValid : Type 0
DesksValid =
    (v : Format) (n c : ℕ) (places : ℕ → ℕ → List Waiting) (logs : ℕ → List ℕ) (steps : List Move) → ByRules v n c places logs steps → KnowsValid (finally v n c places logs steps)

-- Rule 10.8: a recovery whose pairs were proposed exclusive, each for its card, is by the rules; cards without an x
-- there have none. It may be cut before any of its writes; where it is not, it leaves the store as a recovery does.
pub record RecoversByRules (y : System) (pairs : Pairs) (log : List ℕ) : Type 0 where
  pub allows : (unsent : ℕ) → allowed y (recover_with pairs log unsent) ≡ true
  pub leaves : (step_to y (recover_with pairs log 0)).store.image ≡ (recovered pairs log y.store.image).image

abbrev pub RecoveryAllowed : Type 0
RecoveryAllowed =
    (v : Format) (n c : ℕ) (places : ℕ → ℕ → List Waiting) (logs : ℕ → List ℕ) (steps : List Move) → ByRules v n c places logs steps →
    (pairs : Pairs) (log : List ℕ) → FitsPairs pairs → Bytes log →
    (finally v n c places logs steps).store.version ≡ V1 →
    ((k : ℕ) → ((recovery_pair pairs k).x ≡ 0) ⊎ (is_made (finally v n c places logs steps).desks.made k exclusive (recovery_pair pairs k) ≡ true)) →
    RecoversByRules (finally v n c places logs steps) pairs log
