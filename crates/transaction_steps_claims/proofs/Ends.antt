-- The steps for a card end. Assumes nothing.
use Prim.Native.Nat.{ℕ, zero, suc, ◌+◌, ◌≤◌, ◌<◌}
use native.Mathlib.Omega.{arith}
use mathlib.Core.Path.{◌≡◌, refl, sym, ap, ◌∙◌, subst}
use mathlib.Core.Logic.{◌⊎◌, inl, inr}
use mathlib.Core.List.{List, [], ◌∷◌, ◌++◌}
use mathlib.Core.Bool.{Bool, true, false, cond, not, ◌&&◌, ◌||◌}
use borrow.Author.Tests.{eqb-true, eq-eqb, ne_eqb, ltb-true, ltb-false, le-leb, not-true}
use lib.ListN.{length}
use lib.Dec.{eqb, ltb}
use Rattle.lists.specs.Search.{any}
use Rattle.lists.proofs.Every.{every_in, every_out}
use Rattle.lists.proofs.Tests.{cases, never_both, and_in, and_left, and_right, or_right, or_cases}
use Rattle.redo_log.specs.Log.{LogRecord, most_records, update_kind, synced_kind, record_card, record_transaction, records}
use Rattle.redo_log.proofs.Records.{good_out}
use Rattle.redo_log.proofs.ReadBack.{length_records}
use Rattle.redo_recovery_model.specs.Recovery.{record_in, transaction_in, commits_to, syncs_from, due}
use Rattle.transactions.specs.System.{mark_in, due_for, written_out}
use Rattle.transactions.proofs.Records.{Ordered, any_more, length_more, in_old, in_new, transaction_old, due_past}
use Rattle.transactions.proofs.Claims.{kept_always}
use Rattle.transaction_steps.specs.declared.LastSeen.{LastSeen}
use Rattle.transaction_steps.specs.Steps.{first_due, last_due, next_step}
use Rattle.transaction_steps_claims.specs.Follower.{no_mind}
use Rattle.transaction_steps_claims.specs.Ends.{Course, Notes, taking, course_after, Ended, StepsEnd}
use Rattle.transaction_steps_claims.proofs.Next.{Found, line_at, no_line, found}

-- No line of a card that is written out is due.
pub idle_at : (rs : List LogRecord) (k n i : ℕ) → written_out rs k 0 n ≡ true → i < n → due_for rs k i ≡ false
idle_at rs k n i w h = go (or_cases (ltb i 0) (not (due_for rs k i)) (every_out (λ j. ltb j 0 || not (due_for rs k j)) n w i h))
  where
    go : (ltb i 0 ≡ true) ⊎ (not (due_for rs k i) ≡ true) → due_for rs k i ≡ false
    go (inl a) = absurd (omega (arith, ltb-true i 0 a))
    go (inr a) = not-true (due_for rs k i) a

-- ---- a note ends what is due of its card

module _ (rs : List LogRecord) (o : Ordered rs) (k : ℕ) (r : LogRecord) where
  -- A line that is due is of no later transaction than the last one.
  last_most : (n i : ℕ) → n ≤ length rs → i < n → due_for rs k i ≡ true → transaction_in rs i ≤ last_due rs k n
  unfolding last_due
  last_most zero i h q e = absurd (omega arith)
  last_most (suc n) i h q e = go (λ b. last_most n i (omega arith) b e) (cases (due_for rs k n)) (cases (ltb i n))
    where
      go : (i < n → transaction_in rs i ≤ last_due rs k n) → (due_for rs k n ≡ true) ⊎ (due_for rs k n ≡ false) → (ltb i n ≡ true) ⊎ (ltb i n ≡ false)
          → transaction_in rs i ≤ cond (due_for rs k n) (transaction_in rs n) (last_due rs k n)
      go earlier (inl a) b = subst (λ (t : Bool). transaction_in rs i ≤ cond t (transaction_in rs n) (last_due rs k n)) (sym a) (o.rises i n (omega arith) (omega arith))
      go earlier (inr a) (inl b) = subst (λ (t : Bool). transaction_in rs i ≤ cond t (transaction_in rs n) (last_due rs k n)) (sym a) (earlier (ltb-true i n b))
      go earlier (inr a) (inr b) =
          let same : i ≡ n = omega (arith, ltb-false i n b, q) in
          absurd (never_both (subst (λ (m : ℕ). due_for rs k m ≡ true) same e) a)

  abbrev pub more_lines : List LogRecord
  more_lines = rs ++ (r ∷ [])

  module _ (kind : r.kind ≡ synced_kind) where
    no_commit : (t : ℕ) → commits_to t r ≡ false
    no_commit t = rw kind

    -- A line that is not due before a note is not due after it, and the note is none.
    pub idle_more : (i : ℕ) → i < length rs → due_for rs k i ≡ false → due_for more_lines k i ≡ false
    unfolding due
    idle_more i h e =
        rw (in_old rs r i h, transaction_old rs r i (omega arith), any_more (commits_to (transaction_in rs i)) rs r, any_more (syncs_from (record_card (record_in rs i)) (transaction_in rs i)) rs r)
        (still (eqb (record_in rs i).kind update_kind) (any (commits_to (transaction_in rs i)) rs) (any (syncs_from (record_card (record_in rs i)) (transaction_in rs i)) rs)
        (eqb (record_card (record_in rs i)) k) (commits_to (transaction_in rs i) r) (syncs_from (record_card (record_in rs i)) (transaction_in rs i) r) (no_commit (transaction_in rs i)) e)
      where
        still : (x y z p v q : Bool) → v ≡ false → (x && y && not z && p) ≡ false → (x && (y || v) && not (z || q) && p) ≡ false
        still true true true p v q e f = refl
        still true true false p v true e f = refl
        still true true false p v false e f = f
        still true false z p true q e f = absurd (never_both refl e)
        still true false z p false q e f = refl
        still false y z p v q e f = refl

    none_new : due_for more_lines k (length rs) ≡ false
    unfolding due
    none_new = rw (in_new rs r, kind)

    -- Where each old line is not due, none is.
    none_more : ((i : ℕ) → i < length rs → due_for more_lines k i ≡ false) → (i : ℕ) → i < length more_lines → due_for more_lines k i ≡ false
    none_more old i h = go (cases (ltb i (length rs)))
      where
        go : (ltb i (length rs) ≡ true) ⊎ (ltb i (length rs) ≡ false) → due_for more_lines k i ≡ false
        go (inl a) = old i (ltb-true i (length rs) a)
        go (inr a) = subst (λ (m : ℕ). due_for more_lines k m ≡ false) (omega (arith, length_more rs r, ltb-false i (length rs) a, h)) none_new

    -- So what is due after a note was due before it.
    pub was_due : (i : ℕ) → due_for more_lines k i ≡ true → due_for rs k i ≡ true
    was_due i e = go (cases (due_for rs k i)) (cases (ltb i (length rs))) (cases (ltb i (length more_lines)))
      where
        go : (due_for rs k i ≡ true) ⊎ (due_for rs k i ≡ false) → (ltb i (length rs) ≡ true) ⊎ (ltb i (length rs) ≡ false)
            → (ltb i (length more_lines) ≡ true) ⊎ (ltb i (length more_lines) ≡ false) → due_for rs k i ≡ true
        go (inl a) b c = a
        go (inr a) (inl b) c = absurd (never_both e (idle_more i (ltb-true i (length rs) b) a))
        go (inr a) (inr b) (inl c) =
            absurd (never_both e (subst (λ (m : ℕ). due_for more_lines k m ≡ false) (omega (arith, length_more rs r, ltb-false i (length rs) b, ltb-true i (length more_lines) c)) none_new))
        go (inr a) (inr b) (inr c) =
            absurd (never_both (and_left (due more_lines i) (eqb (record_card (record_in more_lines i)) k) e) (due_past more_lines i (ltb-false i (length more_lines) c)))

    out_more : ((i : ℕ) → i < length rs → due_for more_lines k i ≡ false) → written_out more_lines k 0 (length more_lines) ≡ true
    out_more old = every_in (λ j. ltb j 0 || not (due_for more_lines k j)) (length more_lines) (λ i h. or_right (ltb i 0) (ap not (none_more old i h)))

    -- What is written out stays so.
    pub idle_all : written_out rs k 0 (length rs) ≡ true → written_out more_lines k 0 (length more_lines) ≡ true
    idle_all w = out_more (λ i h. idle_more i h (idle_at rs k (length rs) i w h))

    module _ (card : record_card r ≡ k) (named : record_transaction r ≡ last_due rs k (length rs)) where
      -- An old line that is due before the note.
      ended_old : (i : ℕ) → i < length rs → due_for rs k i ≡ true → due_for more_lines k i ≡ false
      unfolding due
      ended_old i h e =
          rw (in_old rs r i h, transaction_old rs r i (omega arith), any_more (commits_to (transaction_in rs i)) rs r, any_more (syncs_from (record_card (record_in rs i)) (transaction_in rs i)) rs r)
          (never (eqb (record_in rs i).kind update_kind)
          (any (commits_to (transaction_in rs i)) rs || commits_to (transaction_in rs i) r)
          (any (syncs_from (record_card (record_in rs i)) (transaction_in rs i)) rs)
          (eqb (record_card (record_in rs i)) k) (syncs_from (record_card (record_in rs i)) (transaction_in rs i) r) noted)
        where
          noted : syncs_from (record_card (record_in rs i)) (transaction_in rs i) r ≡ true
          noted =
              and_in
              (and_in (eq-eqb r.kind synced_kind kind)
              (eq-eqb (record_card r) (record_card (record_in rs i)) (card ∙ sym (eqb-true (record_card (record_in rs i)) k (and_right (due rs i) (eqb (record_card (record_in rs i)) k) e)))))
              (le-leb (transaction_in rs i) (record_transaction r) (subst (λ (m : ℕ). transaction_in rs i ≤ m) (sym named) (last_most (length rs) i (omega arith) h e)))

          never : (x y z p q : Bool) → q ≡ true → (x && y && not (z || q) && p) ≡ false
          never true true true p q e = refl
          never true true false p q e = rw e
          never true false z p q e = refl
          never false y z p q e = refl

      pub noted_done : written_out more_lines k 0 (length more_lines) ≡ true
      noted_done = out_more (λ i h. at i h (cases (due_for rs k i)))
        where
          at : (i : ℕ) → i < length rs → (due_for rs k i ≡ true) ⊎ (due_for rs k i ≡ false) → due_for more_lines k i ≡ false
          at i h (inl a) = ended_old i h a
          at i h (inr a) = idle_more i h a

-- ---- the course of a card

module _ (note : ℕ → ℕ → LogRecord) (w : Notes note) (d k : ℕ) (some : d ≡ 0 → ⊥) (rs : List LogRecord) (o : Ordered rs) (short : length rs ≤ most_records) where
  abbrev from : ℕ → LastSeen → Course
  from mark v = record { lines = rs; bears = mark; seen = v }

  abbrev saw : ℕ → ℕ → LastSeen
  saw mark reach = record { known = true; held = false; mark = mark; reach = reach }

  record Ends (bound : ℕ) (c : Course) : Type 0 where
    steps : ℕ
    few : steps ≤ bound
    ended : Ended d k (course_after note d k steps c)

  -- One step more in front.
  ends_more : (bound : ℕ) (c e : Course) → taking note d k c (next_step d c.lines k false c.seen) ≡ e → Ends bound e → Ends (suc bound) c
  unfolding course_after
  ends_more bound c e q x = record { steps = suc x.steps; few = omega (arith, x.few); ended = subst (λ (m : Course). Ended d k (course_after note d k x.steps m)) (sym q) x.ended }

  ends_here : (bound : ℕ) (c : Course) → Ended d k c → Ends bound c
  unfolding course_after
  ends_here bound c x = record { steps = 0; few = omega arith; ended = x }

  -- Without the mark: a note where something is due, and then nothing.
  plain : (mark reach : ℕ) → eqb mark d ≡ false → Ends 1 (from mark (saw mark reach))
  unfolding next_step
  plain mark reach m = go (cases (written_out rs k 0 (length rs)))
    where
      t : ℕ
      t = last_due rs k (length rs)

      after : List LogRecord
      after = rs ++ (note k t ∷ [])

      done : written_out after k 0 (length after) ≡ true
      done = noted_done rs o k (note k t) (w.kind k t) (w.card k t) (w.transaction k t)

      go : (written_out rs k 0 (length rs) ≡ true) ⊎ (written_out rs k 0 (length rs) ≡ false) → Ends 1 (from mark (saw mark reach))
      go (inl a) = ends_here 1 (from mark (saw mark reach)) (record { rests = rw (a, m); unmarked = m; done = a })
      go (inr a) =
          ends_more 0 (from mark (saw mark reach)) (record { lines = after; bears = mark; seen = saw mark reach }) (rw (a, m))
          (ends_here 0 (record { lines = after; bears = mark; seen = saw mark reach }) (record { rests = rw (done, m); unmarked = m; done = done }))

  unmarked_zero : eqb 0 d ≡ false
  unmarked_zero = ne_eqb 0 d (λ e. some (sym e))

  wider : (m n : ℕ) (c : Course) → m ≤ n → Ends m c → Ends n c
  wider m n c h e = record { steps = e.steps; few = omega (arith, e.few, h); ended = e.ended }

  -- With the mark: the next line that is due and not written out, or a release and the rest.
  marked_next : (left reach : ℕ) → ((line : ℕ) → reach ≤ line → line < length rs → Ends (left + 1) (from d (saw d (line + 1)))) → Ends (left + 2) (from d (saw d reach))
  unfolding next_step
  marked_next left reach onward = go (cases (written_out rs k 0 (length rs))) (found rs k reach (length rs) short)
    where
      here : eqb d d ≡ true
      here = eq-eqb d d refl

      line : ℕ
      line = first_due rs k reach (length rs)

      inside : due_for rs k line ≡ true → line < length rs
      inside e = go_inside (cases (ltb line (length rs)))
        where
          go_inside : (ltb line (length rs) ≡ true) ⊎ (ltb line (length rs) ≡ false) → line < length rs
          go_inside (inl q) = ltb-true line (length rs) q
          go_inside (inr q) = absurd (never_both (and_left (due rs line) (eqb (record_card (record_in rs line)) k) e) (due_past rs line (ltb-false line (length rs) q)))

      go : (written_out rs k 0 (length rs) ≡ true) ⊎ (written_out rs k 0 (length rs) ≡ false) → Found rs k reach (length rs) → Ends (left + 2) (from d (saw d reach))
      go (inl a) f = wider 2 (left + 2) (from d (saw d reach)) (omega arith) (ends_more 1 (from d (saw d reach)) (from 0 (saw 0 0)) (rw (a, here)) (plain 0 0 unmarked_zero))
      go (inr a) (no_line b c) = wider 2 (left + 2) (from d (saw d reach)) (omega arith) (ends_more 1 (from d (saw d reach)) (from 0 (saw 0 0)) (rw (a, here, b)) (plain 0 0 unmarked_zero))
      go (inr a) (line_at b l c e) =
          wider (suc (left + 1)) (left + 2) (from d (saw d reach)) (omega arith)
          (ends_more (left + 1) (from d (saw d reach)) (from d (saw d (line + 1))) (rw (a, here, b)) (onward line l (inside c)))

  marked : (left reach : ℕ) → length rs ≤ reach + left → Ends (left + 2) (from d (saw d reach))
  marked zero reach h = marked_next zero reach (λ line a b. absurd (omega (arith, a, b, h)))
  marked (suc left) reach h =
      marked_next (suc left) reach
      (λ line a b. wider (left + 2) (suc left + 1) (from d (saw d (line + 1))) (omega arith) (marked left (line + 1) (omega (arith, a, h))))

  -- First a look.
  all_steps : (mark : ℕ) → Ends (length rs + 3) (from mark no_mind.seen)
  unfolding next_step
  all_steps mark = wider (suc (length rs + 2)) (length rs + 3) (from mark no_mind.seen) (omega arith)
      (ends_more (length rs + 2) (from mark no_mind.seen) (from mark (saw mark 0)) refl (go (cases (eqb mark d))))
    where
      go : (eqb mark d ≡ true) ⊎ (eqb mark d ≡ false) → Ends (length rs + 2) (from mark (saw mark 0))
      go (inl e) = subst (λ (m : ℕ). Ends (length rs + 2) (from m (saw m 0))) (sym (eqb-true mark d e)) (marked (length rs) 0 (omega arith))
      go (inr e) = wider 1 (length rs + 2) (from mark (saw mark 0)) (omega arith) (plain mark 0 e)

pub steps_end : StepsEnd
steps_end note w d k y m =
    let kept = kept_always d y m in
    let short : length (records y.log) ≤ most_records = omega (arith, length_records y.log, (good_out y.log kept.good_log_lem).few) in
    let e = all_steps note w d k kept.some (records y.log) kept.ordered short (mark_in y.image k).desk in
    record { steps = e.steps; few = e.few; ended = e.ended }
