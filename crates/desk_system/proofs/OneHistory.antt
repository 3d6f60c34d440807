-- The one theorem, from its parts: the store and demand 3, isolation, the logs, recovery. Assumes nothing.
use Prim.Native.Nat.{ℕ, zero, suc}
use mathlib.Core.Path.{◌≡◌, refl, sym, ap, subst, ◌∙◌}
use mathlib.Core.List.{List, [], ◌∷◌, ◌++◌}
use mathlib.Core.Bool.{true}
use Rattle.formats.specs.Format.{Format, V1, V2}
use Rattle.lists.specs.Parts.{Bytes}
use Rattle.lists.specs.Table.{settled}
use Rattle.lists.specs.Runs.{foldl}
use Rattle.commands.specs.Command.{Language}
use Rattle.image.specs.Convert.{converted, convert_number}
use Rattle.image_claims.proofs.Claims.{good_encodes}
use Rattle.store_model.specs.Words.{Sent}
use Rattle.store_model.specs.Claims.{Claim}
use Rattle.redo_log.specs.Log.{LogRecord, good_log, records}
use Rattle.redo_log.specs.Append.{append_number, appended}
use Rattle.redo_log_claims.specs.Life.{renewed}
use Rattle.redo_log_claims.proofs.Claims.{appends, read_after_lem}
use Rattle.redo_log_claims.proofs.Life.{renews}
use Rattle.redo_recovery_model.specs.Recovery.{Pairs, FitsPairs, recovered}
use Rattle.redo_recovery_model.specs.Claims.{text_in, text_of}
use Rattle.redo_recovery_model.proofs.Texts.{recovered_texts}
use Rattle.lock_queue.specs.declared.Waiting.{Waiting}
use Rattle.desk_proposals.specs.Propose.{proposed}
use Rattle.desk_system.specs.System.{
  DeskLog,
  System,
  Move,
  begin,
  propose,
  at_queue,
  lose,
  send,
  recover_with,
  convert,
  learn,
  append_to,
  renew_log,
  opening,
  recovery_sends,
  knows,
  now_knows,
  with_store,
  with_made,
  with_log,
  send_steps,
  convert_step,
  step_to,
  system_after,
  Fits,
  AllFit,
}
use Rattle.desk_system.specs.Claims.{finally}
use Rattle.desk_system.specs.OneHistory.{GoodLog, OneHistory, LogsFollow}
use Rattle.desk_system.proofs.Backing.{with_all}
use Rattle.desk_system.proofs.Store.{Held}
use Rattle.desk_system.proofs.Claims.{store_follows, held_finally, claimed, desks_isolated}

-- ---- the logs, whatever the moves are

-- A log of bytes that is good and reads back as these records.
record ReadsAs (log : List ℕ) (rs : List LogRecord) : Type 0 where
  good : good_log log ≡ true
  bytes : Bytes log
  back : records log ≡ rs

abbrev Logs : System → Type 0
Logs y = (d : ℕ) → ReadsAs (y.logs d).bytes (y.logs d).whole

-- One desk's log is another.
logs_with : (y : System) → Logs y → (desk : ℕ) (bytes : List ℕ) (whole : List LogRecord) → ReadsAs bytes whole → Logs (with_log desk bytes whole y)
logs_with y h desk bytes whole w = with_all (λ (d : ℕ) (l : DeskLog). ReadsAs l.bytes l.whole) desk (record { bytes = bytes; whole = whole }) y.logs w h

appended_reads : (budget : ℕ) (log : List ℕ) (rs : List LogRecord) (r : LogRecord) → Bytes r.body → ReadsAs log rs
    → ReadsAs (appended budget log r) (settled (append_number budget log r) (rs ++ r ∷ []) rs)
appended_reads budget log rs r b w =
    let after = read_after_lem budget log r w.good in
    record {
      good = after.0;
      bytes = (appends budget log r).bytes w.bytes b;
      back = after.1 ∙ ap (λ (l : List LogRecord). settled (append_number budget log r) (l ++ r ∷ []) l) w.back;
    }

renewed_reads : (log : List ℕ) (rs : List LogRecord) → ReadsAs log rs → ReadsAs (renewed log) []
renewed_reads log rs w = let r = renews log w.good in record { good = r.good; bytes = r.bytes w.bytes; back = r.empty }

logs_sends : (y : System) (sent : List Sent) → Logs y → Logs (send_steps y sent)
unfolding send_steps
logs_sends y [] h = h
logs_sends y (s ∷ earlier) h = logs_sends y earlier h

logs_next : (y : System) (s : Move) → Fits s → Logs y → Logs (step_to y s)
unfolding step_to
logs_next y (begin who) f h = h
logs_next y (propose who card mode) f h = go (proposed (knows y who card) mode).number
  where
    next : System
    next = with_made (record { card = card; mode = mode; pair = (proposed (knows y who card) mode).pair }) (now_knows who card (proposed (knows y who card) mode).known.pair y)

    go : (number : ℕ) → Logs (settled number next y)
    go zero = h
    go (suc j) = h
logs_next y (at_queue card manager lent r) f h = h
logs_next y (lose card manager places) f h = h
logs_next y (send s) f h = h
logs_next y (recover_with pairs log unsent) f h = logs_sends y (recovery_sends y.store.version pairs log unsent y.store.image) h
logs_next y (convert lent) f h = go y.store.version
  where
    go : (g : Format) → Logs (convert_step g lent y)
    go V2 = h
    go V1 = by_number (convert_number y.store.image lent)
      where
        by_number : (number : ℕ) → Logs (settled number (with_store V2 (converted y.store.image) y.store.trace y) y)
        by_number zero = h
        by_number (suc j) = h
logs_next y (learn who card pair) f h = h
logs_next y (append_to desk budget r) f h =
    logs_with y h desk (appended budget (y.logs desk).bytes r) (settled (append_number budget (y.logs desk).bytes r) ((y.logs desk).whole ++ r ∷ []) (y.logs desk).whole)
    (appended_reads budget (y.logs desk).bytes (y.logs desk).whole r f (h desk))
logs_next y (renew_log desk) f h = logs_with y h desk (renewed (y.logs desk).bytes) [] (renewed_reads (y.logs desk).bytes (y.logs desk).whole (h desk))

logs_run : (y : System) (steps : List Move) → AllFit steps → Logs y → Logs (system_after y steps)
unfolding foldl
logs_run y [] f h = h
logs_run y (s ∷ steps) f h = logs_run (step_to y s) steps f.1 (logs_next y s f.0 h)

logs_finally : (v : Format) (n c : ℕ) (places : ℕ → ℕ → List Waiting) (logs : ℕ → List ℕ) (steps : List Move) → AllFit steps → ((d : ℕ) → GoodLog (logs d))
    → Logs (finally v n c places logs steps)
logs_finally v n c places logs steps fits good =
    logs_run (opening v n c places logs) steps fits (λ d. record { good = (good d).good; bytes = (good d).bytes; back = refl })

pub logs_follow : LogsFollow
logs_follow v n c places logs steps fits good d = let now = logs_finally v n c places logs steps fits good d in (now.good, now.back)

-- ---- the theorem

pub one_history : OneHistory
one_history v n c places logs steps r good =
    record {
      store = store_follows v n c places logs steps r.shape r.fits;
      requests = found.0;
      demand3 = found.1;
      isolated = desks_isolated v n c places logs steps r;
      good_logs = λ d. (logs_now d).good;
      read_back = λ d. (logs_now d).back;
      recovers = λ one d pairs fit zero_is l k. texts one d pairs fit zero_is l k;
    }
  where
    y : System
    y = finally v n c places logs steps

    held : Held v n c y.store.version y.store.image y.store.trace
    held = held_finally v n c places logs steps r.shape r.fits

    found : (sent : List Sent) × Claim n sent y.store.trace
    found = claimed v n c r.shape y.store.version y.store.image y.store.trace held.trace

    logs_now : Logs y
    logs_now = logs_finally v n c places logs steps r.fits good

    image_bytes : Bytes y.store.image
    image_bytes = subst Bytes (sym held.image_is) (good_encodes y.store.version held.cards held.good).bytes

    texts : y.store.version ≡ V1 → (d : ℕ) (pairs : Pairs) → FitsPairs pairs → (recovered pairs (y.logs d).bytes y.store.image).number ≡ 0 → (l : Language) (k : ℕ)
        → text_in (recovered pairs (y.logs d).bytes y.store.image).image l k ≡ text_of (y.logs d).whole l k (text_in y.store.image l k)
    texts one d pairs fit zero_is l k =
        recovered_texts pairs (y.logs d).bytes y.store.image fit (logs_now d).bytes image_bytes zero_is l k
        ∙ ap (λ (rs : List LogRecord). text_of rs l k (text_in y.store.image l k)) (logs_now d).back
