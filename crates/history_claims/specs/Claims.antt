-- What is claimed of the history engine on lists of kept commands. The theorems stand in proofs/.
-- Assumes nothing.
use Rattle.std.specs.Prelude.{ℕ, suc, ◌≡◌, ◌↔◌, List, [], ◌∷◌, map, reverse, Bool, true, false, length, T, eqb}
use Rattle.formats.specs.Format.{V1}
use Rattle.lists.specs.Parts.{tabulate}
use Rattle.lists.specs.Search.{none, filter}
use Rattle.lists.specs.Table.{applies, earlier, no_row, listed}
use Rattle.commands.specs.Command.{original, translation}
use Rattle.commands.specs.Bytes.{fields_of}
use Rattle.guard.specs.Replies.{replied}
use Rattle.image.specs.Layout.{shape_ok}
use Rattle.image.specs.Image.{Card, Cards, decode}
use Rattle.store_model.specs.Serve.{entry_of, serve}
use Rattle.store_model.specs.Words.{Sent, Event, fresh_after, trace_of, received}
use Rattle.store_model.specs.Claims.{AllBytes}
use Rattle.history.specs.WorkedOut.{entry_from, text_from}
use Rattle.history.specs.Engine.{over_limits, Deduced, guard_rows, engine_rows, deduced}
use Rattle.numbers.specs.Numbers.{MALFORMED, NO_CARD, STALE, MARK_DIFFERS, PAYLOAD_LONG, EDITION_WRONG, EDITIONS_SPENT, REPLY_SHORT, TOO_FAR, HISTORY_FULL}

-- ---- the engine over a list of requests, at first with nothing kept

-- What is kept after requests, latest first.
unfoldable pub kept_after : ℕ → ℕ → List Sent → List (List ℕ)
kept_after n c [] = []
kept_after n c (s ∷ earlier) = (deduced n c (kept_after n c earlier) s.command s.lent).kept

-- What a sender sees of a request to the engine.
abbrev pub engine_event : Sent → Deduced → Event
engine_event s d = record { sent = s; read = received V1 s; answer = d.answer; reply = d.reply }

-- The events of requests, both latest first.
unfoldable pub engine_events : ℕ → ℕ → List Sent → List Event
engine_events n c [] = []
engine_events n c (s ∷ earlier) =
    engine_event s (deduced n c (kept_after n c earlier) s.command s.lent) ∷ engine_events n c earlier

-- The trace of requests in the order in which they are sent.
unfoldable pub engine_trace : ℕ → ℕ → List Sent → List Event
engine_trace n c sent = engine_events n c (reverse sent)

-- An event was accepted; one found the history full.
abbrev pub was_accepted : Event → Bool
was_accepted e = eqb e.answer.number 0

abbrev pub gave22 : Event → Bool
gave22 e = eqb e.answer.number HISTORY_FULL

-- The cards as the engine works them out.
abbrev pub card_from : List (List ℕ) → ℕ → Card
card_from kept k =
    record {
      pair = (entry_from kept k).pair;
      mark = (entry_from kept k).mark;
      edition = (entry_from kept k).edition;
      original = text_from original kept k;
      translated = record { from = (entry_from kept k).from; text = text_from (translation 0) kept k } ∷ [];
    }

unfoldable pub cards_shown : ℕ → ℕ → List (List ℕ) → Cards
cards_shown n c kept = record { room = c; cards = tabulate (card_from kept) n }

-- ---- what it keeps (rules 14.1 and 14.2)

-- It keeps the commands that it accepted, each once and in order, and never passes a limit.
pub record Keeping (n c : ℕ) (sent : List Sent) : Type 0 where
  pub those_accepted : kept_after n c sent ≡ map (λ (e : Event). e.sent.command) (filter was_accepted (engine_events n c sent))
  pub within_limits : over_limits (kept_after n c sent) ≡ false

abbrev pub KeepsAccepted : Type 0
KeepsAccepted = (n c : ℕ) (sent : List Sent) → Keeping n c sent

-- ---- equal to the guard until the first 22 (rule 14.10)

-- Requests to a fresh store and to the engine: one trace, with every number, field and reply buffer, and one set of cards, with every text.
pub record EqualSoFar (n c : ℕ) (sent : List Sent) : Type 0 where
  pub trace : engine_trace n c sent ≡ trace_of V1 n c sent
  pub cards : cards_shown n c (kept_after n c (reverse sent)) ≡ decode V1 (fresh_after V1 n c sent)

abbrev pub EqualsGuard : Type 0
EqualsGuard =
    (n c : ℕ) → T (shape_ok V1 n c) → (sent : List Sent) → AllBytes sent → none gave22 (engine_trace n c sent) ≡ true → EqualSoFar n c sent

-- ---- the first 22 (rule 14.11)

-- A request that is the first to get 22: the store, sent the same, accepts it, and 22 replies the entry that the store has for its card.
pub record FirstRefusal (n c : ℕ) (sent : List Sent) (s : Sent) : Type 0 where
  pub accepted_there : (serve V1 (fresh_after V1 n c sent) s.command s.lent).answer.number ≡ 0
  pub replies_stored :
      (deduced n c (kept_after n c (reverse sent)) s.command s.lent).answer
      ≡ replied HISTORY_FULL (entry_of V1 (decode V1 (fresh_after V1 n c sent)) (fields_of V1 s.command)) (fields_of V1 s.command)

abbrev pub FirstFull : Type 0
FirstFull =
    (n c : ℕ) → T (shape_ok V1 n c) → (sent : List Sent) → AllBytes sent → (s : Sent)
    → none gave22 (engine_trace n c sent) ≡ true
    → gave22 (engine_event s (deduced n c (kept_after n c (reverse sent)) s.command s.lent)) ≡ true
    → FirstRefusal n c sent s

-- ---- each number (rules 14.7 and 14.9), for whatever is kept

pub record EngineNumber (n c : ℕ) (kept : List (List ℕ)) (command reply : List ℕ) : Type 0 where
  -- a refusal's number exactly when its row applies and none before it does; 0 exactly when none applies
  pub refused :
      (m : ℕ) → ((deduced n c kept command reply).answer.number ≡ suc m)
      ↔ (T (applies (suc m) (engine_rows n c kept command (length reply))) × T (no_row (earlier (suc m) (engine_rows n c kept command (length reply)))))
  pub accepts : ((deduced n c kept command reply).answer.number ≡ 0) ↔ T (no_row (engine_rows n c kept command (length reply)))
  -- 22 exactly when the guard's rows let the command pass and with it a limit would be passed
  pub full :
      ((deduced n c kept command reply).answer.number ≡ HISTORY_FULL)
      ↔ (T (no_row (guard_rows n c kept command (length reply))) × T (over_limits (command ∷ kept)))
  -- 22 replies the entry as it stands
  pub stands :
      (deduced n c kept command reply).answer.number ≡ HISTORY_FULL
      → (deduced n c kept command reply).answer ≡ replied HISTORY_FULL (entry_from kept (fields_of V1 command).card) (fields_of V1 command)
  -- no refusal, 22 neither, changes anything
  pub unchanged :
      (m : ℕ) → (deduced n c kept command reply).answer.number ≡ suc m
      → ((deduced n c kept command reply).kept ≡ kept) × ((deduced n c kept command reply).reply ≡ reply)

abbrev pub EngineNumbers : Type 0
EngineNumbers = (n c : ℕ) (kept : List (List ℕ)) (command reply : List ℕ) → EngineNumber n c kept command reply

-- Rule 5.1: what the engine may answer, besides 0.
abbrev pub history_numbers : List ℕ
history_numbers = MALFORMED ∷ NO_CARD ∷ STALE ∷ MARK_DIFFERS ∷ PAYLOAD_LONG ∷ EDITION_WRONG ∷ EDITIONS_SPENT ∷ REPLY_SHORT ∷ TOO_FAR ∷ HISTORY_FULL ∷ []

abbrev pub EngineListed : Type 0
EngineListed =
    (n c : ℕ) (kept : List (List ℕ)) (command reply : List ℕ)
    → T (listed history_numbers (deduced n c kept command reply).answer.number)
