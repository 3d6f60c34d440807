-- The numbers that recovery's writes never get. Assumes nothing.
use Prim.Native.Nat.{ℕ, zero, suc, ◌≤◌}
use native.Mathlib.Omega.{arith}
use mathlib.Core.Path.{◌≡◌, refl, sym, subst}
use mathlib.Core.Logic.{◌⊎◌, inl, inr}
use mathlib.Core.List.{List, []}
use mathlib.Core.Bool.{Bool, true, false, cond, not}
use borrow.Author.Tests.{eq-eqb, ne_eqb, le-leb}
use lib.Dec.{T, eqb, lit<, T_not}
use lib.ListN.{length}
use Rattle.formats.specs.Format.{V1}
use Rattle.lists.specs.Parts.{Bytes}
use Rattle.lists.specs.Search.{none}
use Rattle.lists.proofs.Tests.{to_T, and_in}
use Rattle.stamps.specs.Stamp.{mark_fits}
use Rattle.stamps.specs.declared.Mark.{Mark}
use Rattle.commands.specs.Command.{FitsCommand}
use Rattle.commands.specs.Bytes.{fields_of, command_bytes}
use Rattle.commands.specs.declared.Command.{Command}
use Rattle.commands.proofs.CommandBytes.{fields_command}
use Rattle.guard.specs.Judge.{wrong_edition, reply_short}
use Rattle.guard.specs.declared.Entry.{Entry}
use Rattle.image.specs.Image.{decode}
use Rattle.store_model.specs.Serve.{entry_of, serve}
use Rattle.store_model.proofs.Exact.{exactly}
use Rattle.redo_log.specs.Log.{LogRecord, record_card, record_side, record_text, good_log, records}
use Rattle.redo_recovery_model.specs.Recovery.{Pairs, FitsPairs, Recovery, record_in, entry_for, write_of, recovery_sent, recovery_step, recovering, recovered}
use Rattle.redo_recovery_model.specs.Claims.{never_answered, RecoveryNever}
use Rattle.redo_recovery_model.proofs.Steps.{R, Idle, Sends, next}
use Rattle.redo_recovery_model.proofs.Sending.{FitsRecords, fits_here, fits_log}

abbrev Apart : ℕ → Type 0
Apart n = none (eqb n) never_answered ≡ true

apart : (n : ℕ) → (n ≡ 4 → ⊥) → (n ≡ 6 → ⊥) → (n ≡ 8 → ⊥) → Apart n
apart n a b c = rw (ne_eqb n 4 a, ne_eqb n 6 b, ne_eqb n 8 c)

-- A mark passes itself.
pub fits_itself : (m : Mark) → mark_fits m m ≡ true
fits_itself m = and_in (eq-eqb m.desk m.desk refl) (le-leb m.transaction m.transaction (omega arith))

-- A write of the original, or of a translation that names the stored edition, is of no wrong edition, and needs no reply buffer.
pub right_edition : (original : Bool) (e : Entry) (c : Command) → c.act ≡ cond original 3 4 → c.edition ≡ cond original 0 e.edition → wrong_edition e c ≡ false
right_edition true e c a n = rw a
right_edition false e c a n = rw (a, n, eq-eqb e.edition e.edition refl)

pub no_reply : (original : Bool) (e : Entry) (c : Command) (lent : ℕ) → c.act ≡ cond original 3 4 → reply_short e c lent ≡ false
no_reply true e c lent a = rw a
no_reply false e c lent a = rw a

module _ (pairs : Pairs) (image : List ℕ) (r : LogRecord) (fit : FitsCommand (write_of pairs image r)) where
  abbrev w : Command
  w = write_of pairs image r

  abbrev b : List ℕ
  b = command_bytes V1 w (record_text r)

  same : fields_of V1 b ≡ w
  same = fields_command w (record_text r) V1 fit (lit< tt)

  never_4 : (serve V1 image b []).answer.number ≡ 4 → ⊥
  never_4 e =
      let t : T (not (mark_fits (entry_of V1 (decode V1 image) (fields_of V1 b)).mark (fields_of V1 b).expected)) = (((exactly V1 image b []).refused 3).0 e).0 in
      T_not (mark_fits (entry_for image (record_card r)).mark (entry_for image (record_card r)).mark)
      (subst (λ (c : Command). T (not (mark_fits (entry_of V1 (decode V1 image) c).mark c.expected))) same t)
      (to_T (fits_itself (entry_for image (record_card r)).mark))

  never_6 : (serve V1 image b []).answer.number ≡ 6 → ⊥
  never_6 e =
      let t : T (wrong_edition (entry_of V1 (decode V1 image) (fields_of V1 b)) (fields_of V1 b)) = (((exactly V1 image b []).refused 5).0 e).0 in
      subst T (right_edition (eqb (record_side r) 1) (entry_for image (record_card r)) w refl refl)
      (subst (λ (c : Command). T (wrong_edition (entry_of V1 (decode V1 image) c) c)) same t)

  never_8 : (serve V1 image b []).answer.number ≡ 8 → ⊥
  never_8 e =
      let t : T (reply_short (entry_of V1 (decode V1 image) (fields_of V1 b)) (fields_of V1 b) 0) = (((exactly V1 image b []).refused 7).0 e).0 in
      subst T (no_reply (eqb (record_side r) 1) (entry_for image (record_card r)) w 0 refl)
      (subst (λ (c : Command). T (reply_short (entry_of V1 (decode V1 image) c) c 0)) same t)

never_one : (pairs : Pairs) (i : ℕ) (q : Recovery) (r : LogRecord) → FitsCommand (write_of pairs q.image r)
    → Apart (recovery_step i (recovery_sent pairs q.image r) q).number
unfolding recovery_step recovery_sent
never_one pairs i q r f =
    apart (serve V1 q.image (command_bytes V1 (write_of pairs q.image r) (record_text r)) []).answer.number
    (never_4 pairs q.image r f) (never_6 pairs q.image r f) (never_8 pairs q.image r f)

module _ (pairs : Pairs) (rs : List LogRecord) (image : List ℕ) (ib : Bytes image) (fp : FitsPairs pairs) (fit : FitsRecords rs) where
  never_all : (i : ℕ) → i ≤ length rs → Apart (R pairs rs image i).number
  unfolding recovering
  never_all zero h = refl
  never_all (suc i) h = go (next pairs rs image i) (never_all i (omega arith))
    where
      go : Idle pairs rs image i ⊎ Sends pairs rs image i → Apart (R pairs rs image i).number → Apart (R pairs rs image (suc i)).number
      go (inl idle) u = subst (λ (q : Recovery). Apart q.number) (sym idle.same) u
      go (inr s) u =
          subst (λ (q : Recovery). Apart q.number) (sym s.now)
          (never_one pairs i (R pairs rs image i) (record_in rs i) (fits_here pairs rs image ib fp fit i h))

pub recovery_never : RecoveryNever
unfolding recovered
recovery_never pairs log image fp lb ib = go (good_log log) refl
  where
    go : (g : Bool) → good_log log ≡ g → Apart (recovered pairs log image).number
    go true e = rw e (never_all pairs (records log) image ib fp (fits_log log lb e) (length (records log)) (omega arith))
    go false e = rw e refl
