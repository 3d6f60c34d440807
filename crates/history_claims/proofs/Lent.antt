-- The history engine over lent bytes, whole. Assumes nothing.
use Prim.Native.Nat.{ℕ}
use mathlib.Core.Path.{◌≡◌, refl, sym, ap, ◌∙◌}
use mathlib.Core.List.{List, [], ◌∷◌, reverse}
use Rattle.formats.specs.Format.{V1}
use Rattle.store_model.specs.Words.{Sent, Event, received}
use Rattle.lists.specs.Search.{none}
use Rattle.stream.proofs.Place.{cut_short}
use Rattle.stream.proofs.Commands.{commands_cut}
use Rattle.history.specs.Engine.{deduced}
use Rattle.history_claims.specs.Claims.{kept_after, engine_event, engine_events, engine_trace, gave22, cards_shown}
use Rattle.history_claims.proofs.Claims.{equals_guard}
use Rattle.history.specs.Lent.{kept_in, history_serve}
use Rattle.history_claims.specs.Lent.{held_after, events_over, EngineOverBytes, LentEqualsGuard}
use Rattle.history_claims.proofs.Bytes.{bytes_kept}

none_kept : (bytes : List ℕ) → kept_in bytes 0 ≡ []
unfolding kept_in
none_kept bytes = rw (commands_cut V1 [] (cut_short V1 [] (lib.Dec.lit< tt)))

-- What a request over bytes shows is what the engine shows.
event_is : (n c : ℕ) (bytes : List ℕ) (used : ℕ) (kept : List (List ℕ)) (s : Sent) → kept_in bytes used ≡ kept
    → ◌≡◌ {A = Event}
    (record {
      sent = s;
      read = received V1 s;
      answer = (history_serve n c bytes used s.command s.lent).answer;
      reply = (history_serve n c bytes used s.command s.lent).reply;
    })
    (engine_event s (deduced n c kept s.command s.lent))
unfolding history_serve
event_is n c bytes used kept s e = rw e

pub engine_over_bytes : EngineOverBytes
unfolding held_after events_over engine_events kept_after
engine_over_bytes n c bytes long [] = record { events = refl; kept = none_kept bytes; long = long }
engine_over_bytes n c bytes long (s ∷ earlier) =
    let rest = engine_over_bytes n c bytes long earlier in
    let b : List ℕ = (held_after n c bytes earlier).bytes in
    let u : ℕ = (held_after n c bytes earlier).used in
    let next = bytes_kept n c b u s.command s.lent rest.long in
    record {
      events =
          ap (λ (e : Event). e ∷ events_over n c bytes earlier) (event_is n c b u (kept_after n c earlier) s rest.kept)
          ∙ ap (λ (l : List Event). engine_event s (deduced n c (kept_after n c earlier) s.command s.lent) ∷ l) rest.events;
      kept = next.holds ∙ ap (λ (k : List (List ℕ)). (deduced n c k s.command s.lent).kept) rest.kept;
      long = next.long;
    }

pub lent_equals_guard : LentEqualsGuard
unfolding engine_trace
lent_equals_guard n c shape bytes long sent b h =
    let over = engine_over_bytes n c bytes long (reverse sent) in
    let both = equals_guard n c shape sent b (ap (none gave22) (sym over.events) ∙ h) in
    record {
      trace = over.events ∙ both.trace;
      cards = ap (cards_shown n c) over.kept ∙ both.cards;
    }
