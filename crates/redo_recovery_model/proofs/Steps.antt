-- Recovery, record by record. Assumes nothing.
use Prim.Native.Nat.{ℕ, zero, suc, ◌≤◌, ◌<◌}
use native.Mathlib.Omega.{arith}
use mathlib.Core.Path.{◌≡◌, refl, sym, ap, ◌∙◌, subst}
use mathlib.Core.Logic.{◌⊎◌, inl, inr}
use mathlib.Core.List.{List, ◌∷◌}
use mathlib.Core.Bool.{Bool, true, false, cond}
use borrow.Author.Tests.{ltb-true, ltb-false}
use lib.ListN.{length, get_or-eq_default}
use lib.Dec.{ltb, eqb}
use Rattle.formats.specs.Format.{V1}
use Rattle.lists.specs.Table.{settled}
use Rattle.lists.proofs.Table.{settled_old}
use Rattle.lists.proofs.Tests.{cases, never_both, and_right}
use Rattle.redo_log.specs.Log.{LogRecord, no_record, update_kind, record_at, record_count, good_log, records, last_begun, opened, shaped, follows, joins}
use Rattle.redo_log.proofs.Records.{good_record, ok_joins}
use Rattle.redo_log.proofs.ReadBack.{length_records, record_of}
use Rattle.redo_log_claims.proofs.Holding.{Holding}
use Rattle.store_model.specs.Serve.{serve}
use Rattle.store_model.specs.Words.{Sent, image_after, trace_from}
use Rattle.store_model.proofs.Exact.{refusals}
use Rattle.redo_recovery_model.specs.Recovery.{Pairs, Recovery, record_in, due, recovery_sent, recovery_step, recovering, recovered}
use Rattle.redo_recovery_model.specs.Claims.{AllTaken, StopsWith, due_below, WritesOf, RefusedAt, Recovers, RecoversAll, FromRecovery, RecoveryListed}

-- The store's numbers, 0 to 9 and 17, are below 23.
at_most : {n : ℕ} → (n ≤ 9) ⊎ (n ≡ 17) → n ≤ 17
at_most (inl h) = omega arith
at_most (inr h) = omega arith

-- A refused request leaves the image.
refused_keeps : (image : List ℕ) (s : Sent) → ((serve V1 image s.command s.lent).answer.number ≡ 0 → ⊥) → (serve V1 image s.command s.lent).image ≡ image
refused_keeps image s failed = go (serve V1 image s.command s.lent).answer.number refl
  where
    go : (m : ℕ) → (serve V1 image s.command s.lent).answer.number ≡ m → (serve V1 image s.command s.lent).image ≡ image
    go zero e = absurd (failed e)
    go (suc m) e = ((refusals V1 image s.command s.lent).kept m e).0

module _ (pairs : Pairs) (rs : List LogRecord) (image : List ℕ) where
  abbrev pub R : ℕ → Recovery
  R i = recovering pairs rs image i

  abbrev pub S : ℕ → Sent
  S i = recovery_sent pairs (R i).image (record_in rs i)

  -- One record more: nothing is sent, or one request.
  pub record Idle (i : ℕ) : Type 0 where
    pub same : R (suc i) ≡ R i
    pub why : ((R i).number ≡ 0) → due rs i ≡ false

  pub record Sends (i : ℕ) : Type 0 where
    pub so_far : (R i).number ≡ 0
    pub is_due_lem : due rs i ≡ true
    pub now : R (suc i) ≡ recovery_step i (S i) (R i)

  pub next : (i : ℕ) → Idle i ⊎ Sends i
  unfolding recovering
  next i = go (R i).number (due rs i) refl refl
    where
      by_number : (n : ℕ) → (R i).number ≡ n → R (suc i) ≡ settled n (cond (due rs i) (recovery_step i (S i) (R i)) (R i)) (R i)
      by_number n e = ap (λ (m : ℕ). settled m (cond (due rs i) (recovery_step i (S i) (R i)) (R i)) (R i)) e

      by_due : (d : Bool) → due rs i ≡ d → cond (due rs i) (recovery_step i (S i) (R i)) (R i) ≡ cond d (recovery_step i (S i) (R i)) (R i)
      by_due d f = ap (λ (b : Bool). cond b (recovery_step i (S i) (R i)) (R i)) f

      go : (n : ℕ) (d : Bool) → (R i).number ≡ n → due rs i ≡ d → Idle i ⊎ Sends i
      go (suc n) d e f = inl (record { same = by_number (suc n) e; why = λ z. absurd (omega arith) })
      go zero false e f = inl (record { same = by_number 0 e ∙ by_due false f; why = λ z. f })
      go zero true e f = inr (record { so_far = e; is_due_lem = f; now = by_number 0 e ∙ by_due true f })

  pub stands : (i : ℕ) → (R i).image ≡ image_after V1 image (R i).sent
  unfolding recovering image_after recovery_step
  stands zero = refl
  stands (suc i) = go (next i) (stands i)
    where
      go : Idle i ⊎ Sends i → (R i).image ≡ image_after V1 image (R i).sent → (R (suc i)).image ≡ image_after V1 image (R (suc i)).sent
      go (inl idle) h = rw idle.same h
      go (inr s) h = rw s.now (ap (λ (im : List ℕ). (serve V1 im (S i).command (S i).lent).image) h)

  -- The events of what was sent.
  pub record Told (i : ℕ) : Type 0 where
    pub accepted : (R i).number ≡ 0 → AllTaken (trace_from V1 image (R i).sent)
    pub stopped : StopsWith (R i).number (trace_from V1 image (R i).sent)
    pub line : (R i).number ≡ 0 → (R i).line ≡ 0
    pub listed : ((R i).number ≤ 9) ⊎ ((R i).number ≡ 17)
    pub later : due rs 0 ≡ false → ((R i).number ≡ 0 → ⊥) → 1 ≤ (R i).line

  told_same : (i : ℕ) → R (suc i) ≡ R i → Told i → Told (suc i)
  told_same i e t =
      record {
        accepted = λ z. subst (λ (r : Recovery). AllTaken (trace_from V1 image r.sent)) (sym e) (t.accepted (sym (ap (λ (r : Recovery). r.number) e) ∙ z));
        stopped = subst (λ (r : Recovery). StopsWith r.number (trace_from V1 image r.sent)) (sym e) t.stopped;
        line = λ z. ap (λ (r : Recovery). r.line) e ∙ t.line (sym (ap (λ (r : Recovery). r.number) e) ∙ z);
        listed = subst (λ (r : Recovery). (r.number ≤ 9) ⊎ (r.number ≡ 17)) (sym e) t.listed;
        later = λ f n. subst (λ (r : Recovery). 1 ≤ r.line) (sym e) (t.later f (λ z. n (ap (λ (r : Recovery). r.number) e ∙ z)));
      }

  -- Record 0 is not the one that is refused, where it is not due.
  above : (i : ℕ) → Sends i → due rs 0 ≡ false → ((recovery_step i (S i) (R i)).number ≡ 0 → ⊥) → 1 ≤ (recovery_step i (S i) (R i)).line
  unfolding recovery_step
  above zero s f n = absurd (never_both s.is_due_lem f)
  above (suc i) s f n = rw (settled_old {n = (serve V1 (R (suc i)).image (S (suc i)).command (S (suc i)).lent).answer.number} 0 (suc i) n) (omega arith)

  told_more : (i : ℕ) → Sends i → Told i → Told (suc i)
  unfolding recovery_step trace_from
  told_more i s t =
      let number : (serve V1 (image_after V1 image (R i).sent) (S i).command (S i).lent).answer.number ≡ (recovery_step i (S i) (R i)).number =
      ap (λ (im : List ℕ). (serve V1 im (S i).command (S i).lent).answer.number) (sym (stands i)) in
      record {
        accepted = λ z. subst (λ (r : Recovery). AllTaken (trace_from V1 image r.sent)) (sym s.now) (number ∙ sym (ap (λ (r : Recovery). r.number) s.now) ∙ z, t.accepted s.so_far);
        stopped = subst (λ (r : Recovery). StopsWith r.number (trace_from V1 image r.sent)) (sym s.now) (number, t.accepted s.so_far);
        line = λ z. ap (λ (r : Recovery). r.line) s.now ∙ ap (λ (n : ℕ). settled n 0 i) (sym (ap (λ (r : Recovery). r.number) s.now) ∙ z);
        listed = subst (λ (r : Recovery). (r.number ≤ 9) ⊎ (r.number ≡ 17)) (sym s.now) (refusals V1 (R i).image (S i).command (S i).lent).listed;
        later = λ f n. subst (λ (r : Recovery). 1 ≤ r.line) (sym s.now) (above i s f (λ z. n (ap (λ (r : Recovery). r.number) s.now ∙ z)));
      }

  pub told : (i : ℕ) → Told i
  unfolding recovering trace_from
  told zero = record { accepted = λ z. tt; stopped = tt; line = λ z. refl; listed = inl (omega arith); later = λ f n. absurd (n refl) }
  told (suc i) = go (next i) (told i)
    where
      go : Idle i ⊎ Sends i → Told i → Told (suc i)
      go (inl idle) t = told_same i idle.same t
      go (inr s) t = told_more i s t

  -- The lines that are due, with one record more.
  pub below_more : {d : Bool} (i : ℕ) → due rs i ≡ d → due_below rs (suc i) ≡ cond d (i ∷ due_below rs i) (due_below rs i)
  unfolding due_below
  below_more i e = ap (λ (b : Bool). cond b (i ∷ due_below rs i) (due_below rs i)) e

  -- The writes of a run that was not refused are those of the updates that are due.
  pub writes : (i : ℕ) → (R i).number ≡ 0 → WritesOf pairs rs image (due_below rs i) (R i).sent
  unfolding recovering due_below recovery_step
  writes zero z = tt
  writes (suc i) z = go (next i) (writes i)
    where
      go : Idle i ⊎ Sends i → ((R i).number ≡ 0 → WritesOf pairs rs image (due_below rs i) (R i).sent) → WritesOf pairs rs image (due_below rs (suc i)) (R (suc i)).sent
      go (inl idle) w =
          let so_far : (R i).number ≡ 0 = sym (ap (λ (r : Recovery). r.number) idle.same) ∙ z in
          rw (below_more i (idle.why so_far), idle.same) (w so_far)
      go (inr s) w = rw (below_more i s.is_due_lem, s.now) (ap (λ (im : List ℕ). recovery_sent pairs im (record_in rs i)) (stands i), w s.so_far)

  -- A run that was refused stopped at a write.
  pub record Stop (n : ℕ) : Type 0 where
    pub at : ℕ
    pub below : at < n
    pub sends : Sends at
    pub here : R n ≡ recovery_step at (S at) (R at)

  pub stop : (n : ℕ) → ((R n).number ≡ 0 → ⊥) → Stop n
  unfolding recovering
  stop zero failed = absurd (failed refl)
  stop (suc n) failed = go (next n) (stop n)
    where
      go : Idle n ⊎ Sends n → (((R n).number ≡ 0 → ⊥) → Stop n) → Stop (suc n)
      go (inl idle) more =
          let s = more (λ z. failed (ap (λ (r : Recovery). r.number) idle.same ∙ z)) in
          let below = s.below in
          record { at = s.at; below = omega arith; sends = s.sends; here = idle.same ∙ s.here }
      go (inr s) more = record { at = n; below = omega arith; sends = s; here = s.now }

  pub stop_line : (n : ℕ) (failed : (R n).number ≡ 0 → ⊥) → (R n).line ≡ (stop n failed).at
  unfolding recovery_step
  stop_line n failed =
      let s = stop n failed in
      let at : ℕ = s.at in
      ap (λ (r : Recovery). r.line) s.here
      ∙ settled_old {n = (serve V1 (R at).image (S at).command (S at).lent).answer.number} 0 at (λ z. failed (ap (λ (r : Recovery). r.number) s.here ∙ z))

  -- Its last request, which was refused, changed nothing.
  pub stop_image : (n : ℕ) (failed : (R n).number ≡ 0 → ⊥) → (R n).image ≡ (R (stop n failed).at).image
  unfolding recovery_step
  stop_image n failed =
      let s = stop n failed in
      ap (λ (r : Recovery). r.image) s.here ∙ refused_keeps (R s.at).image (S s.at) (λ z. failed (ap (λ (r : Recovery). r.number) s.here ∙ z))

  refused_at : (n : ℕ) → n ≤ length rs → ((R n).number ≡ 0 → ⊥) → RefusedAt pairs rs image (R n)
  unfolding recovery_step
  refused_at n h failed =
      let s = stop n failed in
      let at : ℕ = s.at in
      let line : at ≡ (R n).line = sym (stop_line n failed) in
      let below = s.below in
      let written : WritesOf pairs rs image (at ∷ due_below rs at) (R n).sent =
      subst (λ (r : Recovery). WritesOf pairs rs image (at ∷ due_below rs at) r.sent) (sym s.here)
      (ap (λ (im : List ℕ). recovery_sent pairs im (record_in rs at)) (stands at), writes at s.sends.so_far) in
      record {
        within = subst (λ (j : ℕ). j < length rs) line (omega arith);
        is_due_lem = subst (λ (j : ℕ). due rs j ≡ true) line s.sends.is_due_lem;
        writes = subst (λ (j : ℕ). WritesOf pairs rs image (j ∷ due_below rs j) (R n).sent) line written;
      }

  -- Where no request was refused the number is 0.
  taken_zero : (n : ℕ) → AllTaken (trace_from V1 image (R n).sent) → (R n).number ≡ 0
  unfolding recovery_step trace_from
  taken_zero n t = go (R n).number refl
    where
      go : (m : ℕ) → (R n).number ≡ m → (R n).number ≡ 0
      go zero e = e
      go (suc m) e =
          let s = stop n (λ z. absurd (omega arith)) in
          let at : ℕ = s.at in
          ap (λ (r : Recovery). r.number) s.here
          ∙ ap (λ (im : List ℕ). (serve V1 im (S at).command (S at).lent).answer.number) (stands at)
          ∙ (subst (λ (r : Recovery). AllTaken (trace_from V1 image r.sent)) s.here t).0

-- Record 0 of a good log is no update: none is open yet.
no_update : (k : ℕ) (b : List ℕ) → joins 0 false (record { kind = k; body = b }) ≡ true → eqb k update_kind ≡ false
unfolding follows
no_update k b j = by (eqb k update_kind) refl
  where
    by : (u : Bool) → eqb k update_kind ≡ u → eqb k update_kind ≡ false
    by false e = e
    by true e = let never : false ≡ true = rw e at (and_right (shaped (record { kind = k; body = b })) _ j) in absurd (never_both never refl)

pub first_idle : (log : List ℕ) → good_log log ≡ true → due (records log) 0 ≡ false
unfolding due last_begun opened
first_idle log g = go (cases (ltb 0 (record_count log)))
  where
    first_kind : 0 < record_count log → eqb (record_at log 0).kind update_kind ≡ false
    first_kind h = no_update (record_at log 0).kind (record_at log 0).body (ok_joins log 0 (good_record log g 0 h))

    go : (ltb 0 (record_count log) ≡ true) ⊎ (ltb 0 (record_count log) ≡ false) → due (records log) 0 ≡ false
    go (inl e) = let h = ltb-true 0 (record_count log) e in rw (record_of log 0 h, first_kind h)
    go (inr e) = rw (get_or-eq_default (records log) no_record {n = 0} (rw length_records (ltb-false 0 (record_count log) e)))

pub recovers : RecoversAll
unfolding recovered image_after trace_from
recovers pairs log image = go (good_log log) refl
  where
    go : (g : Bool) → good_log log ≡ g → Recovers pairs log image
    go true e =
        let t = told pairs (records log) image (length (records log)) in
        record {
          sends = rw e (stands pairs (records log) image (length (records log)));
          stops = rw e t.stopped;
          bad = rw e ((λ z. absurd (omega (arith, at_most t.listed))), (λ f. absurd (never_both refl f)));
          silent = λ f. absurd (never_both e f);
          line = rw e (line_out (R pairs (records log) image (length (records log))).number refl t, λ h. line_in t h);
          accepts = λ f. rw e (t.accepted, taken_zero pairs (records log) image (length (records log)));
          all_due = rw e (writes pairs (records log) image (length (records log)));
          refused = λ f. rw e (refused_at pairs (records log) image (length (records log)) (omega arith));
        }
      where
        line_out : (n : ℕ) → (R pairs (records log) image (length (records log))).number ≡ n → Told pairs (records log) image (length (records log))
            → (R pairs (records log) image (length (records log))).line ≡ 0
            → ((R pairs (records log) image (length (records log))).number ≡ 0) ⊎ ((R pairs (records log) image (length (records log))).number ≡ 23)
        line_out zero m t z = inl m
        line_out (suc n) m t z = absurd (omega (arith, t.later (first_idle log e) (λ q. absurd (omega arith)), z))

        line_in : Told pairs (records log) image (length (records log))
            → ((R pairs (records log) image (length (records log))).number ≡ 0) ⊎ ((R pairs (records log) image (length (records log))).number ≡ 23)
            → (R pairs (records log) image (length (records log))).line ≡ 0
        line_in t (inl z) = t.line z
        line_in t (inr z) = absurd (omega (arith, at_most t.listed, z))
    go false e =
        record {
          sends = rw e;
          stops = rw e tt;
          bad = rw e ((λ z. refl), (λ f. refl));
          silent = λ f. rw e;
          line = rw e ((λ z. inr refl), (λ h. refl));
          accepts = λ f. absurd (never_both f e);
          all_due = rw e (λ z. absurd (omega (arith, z)));
          refused = λ f. absurd (never_both f e);
        }

-- Recovery from a log, by the records that it holds.
pub recovered_by : {size : ℕ} {rs : List LogRecord} {log : List ℕ} → Holding size rs log → (pairs : Pairs) (image : List ℕ) → recovered pairs log image ≡ recovering pairs rs image (length rs)
unfolding recovered
recovered_by is pairs image = rw (is.good, is.back)

-- A bad log leaves the image.
pub bad_left : (pairs : Pairs) (log image : List ℕ) → good_log log ≡ false → (recovered pairs log image).image ≡ image
unfolding recovered
bad_left pairs log image e = rw e

pub recovery_listed : RecoveryListed
unfolding recovered
recovery_listed pairs log image = go (good_log log) refl
  where
    go : (g : Bool) → good_log log ≡ g → FromRecovery (recovered pairs log image).number
    go true e = rw e (inl (told pairs (records log) image (length (records log))).listed)
    go false e = rw e (inr refl)
