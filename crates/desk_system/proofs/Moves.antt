-- What is kept by each request and each conversion is kept by every move, by the rules or not. Assumes nothing.
use Prim.Native.Nat.{ℕ, zero, suc}
use mathlib.Core.Path.{◌≡◌, refl}
use mathlib.Core.List.{List, [], ◌∷◌}
use Rattle.formats.specs.Format.{Format, V1, V2}
use Rattle.lists.specs.Table.{settled}
use Rattle.lists.specs.Runs.{foldl}
use Rattle.image.specs.Convert.{converted, convert_number}
use Rattle.store_model.specs.Serve.{serve}
use Rattle.store_model.specs.Words.{Sent, Event, event_of}
use Rattle.store_model.specs.Claims.{SentBytes, AllBytes}
use Rattle.desk_proposals.specs.Propose.{proposed}
use Rattle.desk_system.specs.System.{
  System,
  Move,
  begin,
  propose,
  at_queue,
  lose,
  send,
  recover_with,
  convert,
  learn,
  append_to,
  renew_log,
  recovery_sends,
  knows,
  now_knows,
  with_store,
  with_made,
  send_steps,
  convert_step,
  step_to,
  system_after,
  Fits,
  AllFit,
}
use Rattle.desk_system.proofs.Store.{Held}
use Rattle.desk_system.proofs.Kept.{recovery_bytes}

-- Of the store's version, bytes and log.
pub record Carried (v : Format) (n c : ℕ) (P : Format → List ℕ → List Event → Type 0) : Type 0 where
  pub is_held : (f : Format) (image : List ℕ) (log : List Event) → P f image log → Held v n c f image log
  pub sends :
      (f : Format) (image : List ℕ) (log : List Event) (s : Sent) → SentBytes s → P f image log
      → P f (serve f image s.command s.lent).image (event_of f s (serve f image s.command s.lent) ∷ log)
  pub converts : (image : List ℕ) (log : List Event) (lent : ℕ) → P V1 image log → convert_number image lent ≡ 0 → P V2 (converted image) log

module _ (v : Format) (n c : ℕ) (P : Format → List ℕ → List Event → Type 0) (k : Carried v n c P) where
  abbrev Of : System → Type 0
  Of y = P y.store.version y.store.image y.store.trace

  carried_sends : (y : System) (sent : List Sent) → AllBytes sent → Of y → Of (send_steps y sent)
  unfolding send_steps
  carried_sends y [] b h = h
  carried_sends y (s ∷ earlier) b h =
      k.sends (send_steps y earlier).store.version (send_steps y earlier).store.image (send_steps y earlier).store.trace s b.0 (carried_sends y earlier b.1 h)

  carried_next : (y : System) (s : Move) → Fits s → Of y → Of (step_to y s)
  unfolding step_to
  carried_next y (begin who) f h = h
  carried_next y (propose who card mode) f h = go (proposed (knows y who card) mode).number
    where
      next : System
      next = with_made (record { card = card; mode = mode; pair = (proposed (knows y who card) mode).pair }) (now_knows who card (proposed (knows y who card) mode).known.pair y)

      go : (number : ℕ) → Of (settled number next y)
      go zero = h
      go (suc j) = h
  carried_next y (at_queue card manager lent r) f h = h
  carried_next y (lose card manager places) f h = h
  carried_next y (send s) f h = k.sends y.store.version y.store.image y.store.trace s f h
  carried_next y (recover_with pairs log unsent) f h =
      let d = k.is_held y.store.version y.store.image y.store.trace h in
      carried_sends y (recovery_sends y.store.version pairs log unsent y.store.image)
      (recovery_bytes y.store.version y.store.image d.cards d.image_is d.good pairs log unsent f.0 f.1) h
  carried_next y (convert lent) f h = go y.store.version h
    where
      go : (g : Format) → P g y.store.image y.store.trace → Of (convert_step g lent y)
      go V2 d = h
      go V1 d = by_number (convert_number y.store.image lent) refl
        where
          by_number : (number : ℕ) → convert_number y.store.image lent ≡ number → Of (settled number (with_store V2 (converted y.store.image) y.store.trace y) y)
          by_number zero e = k.converts y.store.image y.store.trace lent d e
          by_number (suc j) e = h
  carried_next y (learn who card pair) f h = h
  carried_next y (append_to desk budget r) f h = h
  carried_next y (renew_log desk) f h = h

  pub carried_run : (y : System) (steps : List Move) → AllFit steps → Of y → Of (system_after y steps)
  unfolding foldl
  carried_run y [] f h = h
  carried_run y (s ∷ steps) f h = carried_run (step_to y s) steps f.1 (carried_next y s f.0 h)
