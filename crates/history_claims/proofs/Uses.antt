-- Theorems on the history engine, used where their hypotheses only just hold: no card, no room, nothing sent, more
-- said to be used than is lent. A stricter hypothesis or a sentence left out is noticed here. (Cases uses the rest.)
-- Assumes nothing.
use Prim.Native.Nat.{ℕ}
use mathlib.Core.Path.{◌≡◌}
use mathlib.Core.List.{List, [], ◌∷◌, map}
use mathlib.Core.Bool.{false}
use lib.Dec.{T}
use lib.ListN.{length, replicate, length-replicate}
use Rattle.lists.specs.Search.{filter}
use Rattle.lists.specs.Table.{listed}
use Rattle.store_model.specs.Words.{Event}
use Rattle.history.specs.Engine.{over_limits, deduced}
use Rattle.history.specs.Lent.{history_size, kept_in, history_serve}
use Rattle.history_claims.specs.Claims.{kept_after, engine_events, was_accepted, EngineNumber, history_numbers}
use Rattle.history_claims.specs.Cases.{again, malformed}
use Rattle.history_claims.specs.Lent.{held_after, events_over}
use Rattle.history_claims.proofs.Bytes.{bytes_kept}
use Rattle.history_claims.proofs.Claims.{keeps_accepted, engine_numbers, engine_listed}
use Rattle.history_claims.proofs.Lent.{engine_over_bytes}

-- No shape is asked for: with no card and no room, and with one malformed request, the engine keeps what it accepted
-- and is within its limits.
accepted_none : kept_after 0 0 [] ≡ map (λ (e : Event). e.sent.command) (filter was_accepted (engine_events 0 0 []))
accepted_none = (keeps_accepted 0 0 []).those_accepted

accepted_malformed : kept_after 0 0 (malformed ∷ []) ≡ map (λ (e : Event). e.sent.command) (filter was_accepted (engine_events 0 0 (malformed ∷ [])))
accepted_malformed = (keeps_accepted 0 0 (malformed ∷ [])).those_accepted

within_none : over_limits (kept_after 0 0 []) ≡ false
within_none = (keeps_accepted 0 0 []).within_limits

-- Numbers, for anything kept: 300 commands, which no engine keeps.
numbers : EngineNumber 0 0 (replicate 300 again.command) again.command []
numbers = engine_numbers 0 0 (replicate 300 again.command) again.command []

-- Lent bytes of exactly the size, that hold anything, with more of them said to be used than there are.
abbrev sevens : List ℕ
sevens = replicate history_size 7

sevens_long : length sevens ≡ history_size
sevens_long = length-replicate {A = ℕ} history_size 7

held : kept_in (history_serve 1 16 sevens 99999 again.command []).bytes (history_serve 1 16 sevens 99999 again.command []).used ≡ (deduced 1 16 (kept_in sevens 99999) again.command []).kept
held = (bytes_kept 1 16 sevens 99999 again.command [] sevens_long).holds

held_long : length (history_serve 1 16 sevens 99999 again.command []).bytes ≡ history_size
held_long = (bytes_kept 1 16 sevens 99999 again.command [] sevens_long).long

-- From such bytes, none of them used, with no card at all.
over_events : events_over 0 0 sevens (again ∷ []) ≡ engine_events 0 0 (again ∷ [])
over_events = (engine_over_bytes 0 0 sevens sevens_long (again ∷ [])).events

over_kept : kept_in (held_after 0 0 sevens (again ∷ [])).bytes (held_after 0 0 sevens (again ∷ [])).used ≡ kept_after 0 0 (again ∷ [])
over_kept = (engine_over_bytes 0 0 sevens sevens_long (again ∷ [])).kept

-- And no bytes at all as a command.
listed_numbers : T (listed history_numbers (deduced 0 0 (replicate 300 again.command) [] []).answer.number)
listed_numbers = engine_listed 0 0 (replicate 300 again.command) [] []
