-- The pairs of recovery's writes. Assumes nothing.
use Prim.Native.Nat.{ℕ, zero, suc, ◌≤◌}
use native.Mathlib.Omega.{arith}
use mathlib.Core.Path.{◌≡◌, refl, sym, ap, ◌∙◌, subst}
use mathlib.Core.Logic.{◌⊎◌, inl, inr}
use mathlib.Core.List.{List}
use mathlib.Core.Bool.{Bool, true, false}
use lib.Dec.{lit<}
use lib.ListN.{length}
use Rattle.formats.specs.Format.{V1}
use Rattle.lists.specs.Parts.{Bytes}
use Rattle.commands.specs.Command.{verifier, update, FitsCommand}
use Rattle.commands.specs.declared.Command.{Command}
use Rattle.commands.proofs.CommandBytes.{fields_command}
use Rattle.redo_log.specs.Log.{LogRecord, record_text, good_log, records}
use Rattle.redo_recovery_model.specs.Recovery.{Pairs, FitsPairs, Recovery, record_in, recovery_pair, write_of, recovery_sent, recovery_step, recovering, recovered}
use Rattle.redo_recovery_model.specs.Claims.{AllUnder, Under}
use Rattle.redo_recovery_model.proofs.Steps.{R, Idle, Sends, next}
use Rattle.redo_recovery_model.proofs.Sending.{FitsRecords, fits_here, fits_log}

under_one : (pairs : Pairs) (image : List ℕ) (r : LogRecord) → FitsCommand (write_of pairs image r) → (i : ℕ) (q : Recovery) → AllUnder pairs q.sent
    → AllUnder pairs (recovery_step i (recovery_sent pairs image r) q).sent
unfolding recovery_step recovery_sent
under_one pairs image r f i q u =
    let e = fields_command (write_of pairs image r) (record_text r) V1 f (lit< tt) in
    let given = sym (ap (λ (c : Command). recovery_pair pairs c.card) e) in (
      (ap (λ (c : Command). c.mode) e, ap verifier e ∙ given, ap update e ∙ given),
      u,
    )

module _ (pairs : Pairs) (rs : List LogRecord) (image : List ℕ) (ib : Bytes image) (fp : FitsPairs pairs) (fit : FitsRecords rs) where
  under_all : (i : ℕ) → i ≤ length rs → AllUnder pairs (R pairs rs image i).sent
  unfolding recovering
  under_all zero h = tt
  under_all (suc i) h = go (next pairs rs image i) (under_all i (omega arith))
    where
      go : Idle pairs rs image i ⊎ Sends pairs rs image i → AllUnder pairs (R pairs rs image i).sent → AllUnder pairs (R pairs rs image (suc i)).sent
      go (inl idle) u = subst (λ (r : Recovery). AllUnder pairs r.sent) (sym idle.same) u
      go (inr s) u =
          subst (λ (r : Recovery). AllUnder pairs r.sent) (sym s.now)
          (under_one pairs (R pairs rs image i).image (record_in rs i) (fits_here pairs rs image ib fp fit i h) i (R pairs rs image i) u)

pub under : Under
unfolding recovered
under pairs log image fp lb ib = go (good_log log) refl
  where
    go : (g : Bool) → good_log log ≡ g → AllUnder pairs (recovered pairs log image).sent
    go true e = rw e (under_all pairs (records log) image ib fp (fits_log log lb e) (length (records log)) (omega arith))
    go false e = rw e tt
