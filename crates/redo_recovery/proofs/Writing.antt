-- The write of an update, and one record of the log, in the terms of the code. Assumes nothing.
use Prim.Native.Nat.{ℕ, ◌-◌, ◌<◌}
use native.Mathlib.Omega.{arith}
use mathlib.Core.Path.{◌≡◌, sym, ap, ◌∙◌, subst}
use mathlib.Core.List.{List, []}
use mathlib.Core.Bool.{true, false}
use lib.ListN.{length, take, drop, length-drop}
use lib.Seq.{take_all}
use lib.Dec.{lit<}
use Rattle.formats.specs.Format.{V1, translations}
use Rattle.lists.specs.Parts.{Bytes}
use Rattle.lists.specs.Le.{field}
use Rattle.commands.specs.Command.{FitsCommand}
use Rattle.commands.specs.declared.Command.{Command}
use Rattle.commands.specs.Bytes.{command_bytes}
use Rattle.stamps.specs.declared.Pair.{Pair}
use Rattle.stamps.specs.Stamp.{FitsPair}
use Rattle.guard.specs.declared.Entry.{Entry}
use Rattle.image.specs.Image.{sound}
use Rattle.store_model.specs.Serve.{Outcome, serve}
use Rattle.store.proofs.Step.{serve_unsound}
use Rattle.redo_log.specs.Log.{LogRecord, record_card, record_count, record_text, record_at, records}
use Rattle.redo_log.proofs.ReadBack.{record_of}
use Rattle.redo_recovery_model.specs.Recovery.{Pairs, record_in, due, recovery_pair, write_by, entry_for, recovery_sent}
use Rattle.redo_recovery_model.proofs.Sending.{fits_under}
use Rattle.redo_recovery.specs.inner.Step.{update_written, write_outcome, step_number, step_image}

abbrev pub updated : List ℕ → LogRecord
updated body = record { kind = 2; body = body }

module _ (image body : List ℕ) (pair : Pair) {card : ℕ} {e : Entry} {w : Command} (ec : card ≡ field 0 2 body) (ee : e ≡ entry_for image card)
    (ew : w ≡ write_by pair e (updated body)) where
  pub write_is : w ≡ write_by pair (entry_for image (field 0 2 body)) (updated body)
  write_is = ew ∙ rw (ee, ec)

  pub write_fits : Bytes image → Bytes body → FitsPair pair → length body < 65536 → FitsCommand w
  write_fits ib bb fp h = subst FitsCommand (sym write_is) (fits_under pair image (updated body) fp ib bb h)

  pub write_names : w.language < translations V1
  write_names = subst (λ (c : Command). c.language < translations V1) (sym write_is) (lit< tt)

  pub write_bytes : take (length body - 3) (drop 3 body) ≡ record_text (updated body)
  write_bytes = take_all (length body - 3) (drop 3 body) (rw length-drop (omega arith))

  pub write_length : length (take (length body - 3) (drop 3 body)) ≡ w.length
  write_length = ap length write_bytes ∙ sym (ap (λ (c : Command). c.length) write_is)

  pub write_serves : serve V1 image (command_bytes V1 w (take (length body - 3) (drop 3 body))) [] ≡ update_written pair image (updated body)
  write_serves = ap (λ (c : Command). serve V1 image (command_bytes V1 c (take (length body - 3) (drop 3 body))) []) write_is ∙ ap
      (λ (t : List ℕ). serve V1 image (command_bytes V1 (write_by pair (entry_for image (field 0 2 body)) (updated body)) t) []) write_bytes

-- Under the pair of its card.
pub written_under : (pairs : Pairs) (image : List ℕ) (r : LogRecord) {card : ℕ} {pair : Pair} → card ≡ record_card r → pair ≡ recovery_pair pairs card
    → update_written pair image r ≡ write_outcome pairs image r
unfolding recovery_sent
written_under pairs image r ec ep = rw (ep, ec)

-- ---- record i

module _ (log : List ℕ) (i : ℕ) (h : i < record_count log) where
  module _ (pairs : Pairs) (image : List ℕ) where
    pub step_due : due (records log) i ≡ true
        → ((write_outcome pairs image (record_in (records log) i)).answer.number ≡ step_number pairs (records log) image i) ×
        ((write_outcome pairs image (record_in (records log) i)).image ≡ step_image pairs (records log) image i)
    step_due d = (rw d, rw d)

    pub step_idle : due (records log) i ≡ false → (0 ≡ step_number pairs (records log) image i) × (image ≡ step_image pairs (records log) image i)
    step_idle d = (rw d, rw d)

    -- The write of an entry, which is that record.
    pub wrote : (entry : LogRecord) → entry ≡ record_at log i → due (records log) i ≡ true
        → ((write_outcome pairs image entry).answer.number ≡ step_number pairs (records log) image i) ×
        ((write_outcome pairs image entry).image ≡ step_image pairs (records log) image i)
    wrote entry e d =
        let r : entry ≡ record_in (records log) i = e ∙ sym (record_of log i h) in
        let left = step_due d in (
          ap (λ (q : LogRecord). (write_outcome pairs image q).answer.number) r ∙ left.0,
          ap (λ (q : LogRecord). (write_outcome pairs image q).image) r ∙ left.1,
        )

    -- On an image that is not sound it is refused, and leaves it as it was.
    pub wrote_unsound : due (records log) i ≡ true → sound V1 image ≡ false → (9 ≡ step_number pairs (records log) image i) × (image ≡ step_image pairs (records log) image i)
    wrote_unsound d f =
        let u = serve_unsound V1 image (recovery_sent pairs image (record_in (records log) i)).command [] f in
        let left = step_due d in
        (ap (λ (v : Outcome). v.answer.number) (sym u) ∙ left.0, ap (λ (v : Outcome). v.image) (sym u) ∙ left.1)
