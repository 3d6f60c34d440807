-- What is claimed of the history engine over lent bytes. The theorems stand in proofs/.
-- Assumes nothing.
use Rattle.std.specs.Prelude.{ℕ, ◌≡◌, List, [], ◌∷◌, reverse, true, T, length}
use Rattle.formats.specs.Format.{V1}
use Rattle.lists.specs.Search.{none}
use Rattle.image.specs.Layout.{shape_ok}
use Rattle.image.specs.Image.{decode}
use Rattle.store_model.specs.Words.{Sent, Event, fresh_after, trace_of, received}
use Rattle.store_model.specs.Claims.{AllBytes}
use Rattle.history.specs.Engine.{deduced}
use Rattle.history.specs.Lent.{history_size, kept_in, HistoryOutcome, history_serve}
use Rattle.history_claims.specs.Claims.{kept_after, engine_events, gave22, cards_shown}

-- One request: the bytes that it leaves keep what the engine keeps, whatever they held before. Rule 14.8.
pub record BytesKeep (n c : ℕ) (bytes : List ℕ) (used : ℕ) (command reply : List ℕ) : Type 0 where
  pub holds :
      kept_in (history_serve n c bytes used command reply).bytes (history_serve n c bytes used command reply).used
      ≡ (deduced n c (kept_in bytes used) command reply).kept
  pub long : length (history_serve n c bytes used command reply).bytes ≡ history_size

abbrev pub BytesKept : Type 0
BytesKept = (n c : ℕ) (bytes : List ℕ) (used : ℕ) (command reply : List ℕ) → length bytes ≡ history_size → BytesKeep n c bytes used command reply

-- Lent bytes and how many of them are used, after requests, latest first; at first none are.
pub record HistoryHeld : Type 0 where
  pub bytes : List ℕ
  pub used : ℕ

abbrev pub served_from : ℕ → ℕ → HistoryHeld → Sent → HistoryOutcome
served_from n c h s = history_serve n c h.bytes h.used s.command s.lent

unfoldable pub held_after : ℕ → ℕ → List ℕ → List Sent → HistoryHeld
held_after n c bytes [] = record { bytes = bytes; used = 0 }
held_after n c bytes (s ∷ earlier) =
    record {
      bytes = (served_from n c (held_after n c bytes earlier) s).bytes;
      used = (served_from n c (held_after n c bytes earlier) s).used;
    }

-- Their events, latest first.
unfoldable pub events_over : ℕ → ℕ → List ℕ → List Sent → List Event
events_over n c bytes [] = []
events_over n c bytes (s ∷ earlier) =
    record {
      sent = s;
      read = received V1 s;
      answer = (served_from n c (held_after n c bytes earlier) s).answer;
      reply = (served_from n c (held_after n c bytes earlier) s).reply;
    }
    ∷ events_over n c bytes earlier

-- Requests from any bytes of which none is used: what is seen and what is kept are the engine's. Rules 14.3 and 14.8.
pub record OverBytes (n c : ℕ) (bytes : List ℕ) (sent : List Sent) : Type 0 where
  pub events : events_over n c bytes sent ≡ engine_events n c sent
  pub kept : kept_in (held_after n c bytes sent).bytes (held_after n c bytes sent).used ≡ kept_after n c sent
  pub long : length (held_after n c bytes sent).bytes ≡ history_size

abbrev pub EngineOverBytes : Type 0
EngineOverBytes = (n c : ℕ) (bytes : List ℕ) → length bytes ≡ history_size → (sent : List Sent) → OverBytes n c bytes sent

-- Equal to the guard until the first 22, in the terms of the exported operation. Rule 14.10.
pub record LentEqual (n c : ℕ) (bytes : List ℕ) (sent : List Sent) : Type 0 where
  pub trace : events_over n c bytes (reverse sent) ≡ trace_of V1 n c sent
  pub cards :
      cards_shown n c (kept_in (held_after n c bytes (reverse sent)).bytes (held_after n c bytes (reverse sent)).used)
      ≡ decode V1 (fresh_after V1 n c sent)

abbrev pub LentEqualsGuard : Type 0
LentEqualsGuard =
    (n c : ℕ) → T (shape_ok V1 n c) → (bytes : List ℕ) → length bytes ≡ history_size → (sent : List Sent) → AllBytes sent
    → none gave22 (events_over n c bytes (reverse sent)) ≡ true
    → LentEqual n c bytes sent
