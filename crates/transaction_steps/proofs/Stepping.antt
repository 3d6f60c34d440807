-- The next step, row by row in the terms of the code; and a log that begins again. Assumes nothing.
use Prim.Native.Nat.{ℕ}
use mathlib.Core.Path.{◌≡◌, sym, ap, ◌∙◌, subst}
use mathlib.Core.List.{List}
use mathlib.Core.Bool.{Bool, true, false, not, ◌&&◌, and-false}
use borrow.Author.Tests.{eq-eqb, ne_eqb}
use lib.ListN.{length, set}
use lib.Dec.{eqb}
use Rattle.redo_log.specs.Log.{LogRecord, last_begun, opened, record_at, record_count, records, good_log}
use Rattle.redo_log.specs.Append.{stored, puts}
use Rattle.redo_log.proofs.Records.{last_ext, opened_ext}
use Rattle.redo_log.proofs.ReadBack.{record_of, length_records}
use Rattle.redo_recovery_model.specs.Recovery.{record_in, transaction_in}
use Rattle.transactions.specs.System.{written_out, nothing_due}
use Rattle.transaction_steps.specs.declared.LastSeen.{LastSeen}
use Rattle.transaction_steps.specs.Steps.{plain_step, nothing_step, look_step, release_step, bad_step, first_due, last_due, wants, finishing, readying, next_step, next_of}
use Rattle.transaction_steps.specs.Again.{begins_again, begun_again}
use Rattle.transaction_steps.specs.inner.Surveyed.{surveyed}
use Rattle.transaction_steps.specs.declared.inner.Survey.{Survey}

-- ---- what a scan and a survey say, of the records

module _ (log : List ℕ) where
  abbrev rs : List LogRecord
  rs = records log

  last_is : last_begun (record_at log) (record_count log) ≡ transaction_in rs (length rs)
  last_is = last_ext (record_at log) (record_in rs) (record_count log) (λ i h. sym (record_of log i h)) ∙ ap (last_begun (record_in rs)) (sym (length_records log))

  open_is : opened (record_at log) (record_count log) ≡ opened (record_in rs) (length rs)
  open_is = opened_ext (record_at log) (record_in rs) (record_count log) (λ i h. sym (record_of log i h)) ∙ ap (opened (record_in rs)) (sym (length_records log))

  module _ (k reach last : ℕ) (running : Bool) (found : Survey) where
    pub record Surveys : Type 0 where
      pub due_is : found.due ≡ not (written_out rs k 0 (length rs))
      pub line_is : found.line ≡ first_due rs k reach (length rs)
      pub transaction_is : found.transaction ≡ last_due rs k (length rs)
      pub wants_is : (running && found.changed) ≡ wants rs k

    pub surveys : last ≡ last_begun (record_at log) (record_count log) → running ≡ opened (record_at log) (record_count log)
        → found ≡ surveyed rs k reach last (record_count log) → Surveys
    unfolding surveyed
    surveys l r f =
        let whole : found ≡ surveyed rs k reach (transaction_in rs (length rs)) (length rs) =
        f ∙ ap (λ (t : ℕ). surveyed rs k reach t (record_count log)) (l ∙ last_is) ∙ ap (surveyed rs k reach (transaction_in rs (length rs))) (sym (length_records log)) in
        record {
          due_is = ap (λ (q : Survey). q.due) whole;
          line_is = ap (λ (q : Survey). q.line) whole;
          transaction_is = ap (λ (q : Survey). q.transaction) whole;
          wants_is = ap (λ (b : Bool). b && found.changed) (r ∙ open_is) ∙ ap (λ (q : Survey). opened (record_in rs) (length rs) && q.changed) whole;
        }

-- ---- the rows

-- The first test.
pub good_desk : (log : List ℕ) (d : ℕ) → good_log log ≡ true → (d ≡ 0 → ⊥) → (good_log log && not (eqb d 0)) ≡ true
good_desk log d g n = rw (g, ne_eqb d 0 n)

pub bad_desk : (log : List ℕ) (d : ℕ) → d ≡ 0 → (good_log log && not (eqb d 0)) ≡ false
bad_desk log d e = rw (eq-eqb d 0 e) (and-false (good_log log))

pub bad_bytes : (log : List ℕ) (d : ℕ) → good_log log ≡ false → (good_log log && not (eqb d 0)) ≡ false
bad_bytes log d e = rw e

module _ (log : List ℕ) (d k : ℕ) (going : Bool) (v : LastSeen) where
  pub step_bad : (good_log log && not (eqb d 0)) ≡ false → plain_step bad_step ≡ next_of log d k going v
  unfolding next_of
  step_bad e = rw e

  module _ (g : (good_log log && not (eqb d 0)) ≡ true) where
    pub step_look : v.known ≡ false → plain_step look_step ≡ next_of log d k going v
    unfolding next_of next_step
    step_look e = rw (g, e)

    module _ (last : ℕ) (running : Bool) (found : Survey) (s : Surveys log k v.reach last running found) (known : v.known ≡ true) where
      pub step_finish : found.due ≡ true → finishing d v.mark found.line found.transaction ≡ next_of log d k going v
      unfolding next_of next_step
      step_finish e = rw (g, known, sym s.due_is ∙ e, s.line_is, s.transaction_is)

      pub step_ready : found.due ≡ false → (going && (running && found.changed)) ≡ true → readying d v ≡ next_of log d k going v
      unfolding next_of next_step
      step_ready e f =
          let wanted : (going && wants (records log) k) ≡ true = subst (λ (b : Bool). (going && b) ≡ true) s.wants_is f in
          rw (g, known, sym s.due_is ∙ e, wanted)

      pub step_release : found.due ≡ false → (going && (running && found.changed)) ≡ false → eqb v.mark d ≡ true → plain_step release_step ≡ next_of log d k going v
      unfolding next_of next_step
      step_release e f m =
          let unwanted : (going && wants (records log) k) ≡ false = subst (λ (b : Bool). (going && b) ≡ false) s.wants_is f in
          rw (g, known, sym s.due_is ∙ e, unwanted, m)

      pub step_nothing : found.due ≡ false → (going && (running && found.changed)) ≡ false → eqb v.mark d ≡ false → plain_step nothing_step ≡ next_of log d k going v
      unfolding next_of next_step
      step_nothing e f m =
          let unwanted : (going && wants (records log) k) ≡ false = subst (λ (b : Bool). (going && b) ≡ false) s.wants_is f in
          rw (g, known, sym s.due_is ∙ e, unwanted, m)

-- ---- a log that begins again

module _ (log : List ℕ) where
  pub again_bad : good_log log ≡ false → (false ≡ begins_again log) × (log ≡ begun_again log)
  again_bad e = (rw e, rw e)

  pub again_due : good_log log ≡ true → nothing_due (records log) ≡ false → (false ≡ begins_again log) × (log ≡ begun_again log)
  again_due g e = (rw (g, e), rw (g, e))

  pub again_done : good_log log ≡ true → nothing_due (records log) ≡ true → (true ≡ begins_again log) × (set log 0 0 ≡ begun_again log)
  unfolding stored puts
  again_done g e = (rw (g, e), rw (g, e))
