-- The claims of a redo log. Assumes nothing.
use Prim.Native.Nat.{ℕ, suc, ◌+◌, ◌-◌, ◌≤◌, ◌<◌}
use native.Mathlib.Omega.{arith}
use mathlib.Core.Path.{◌≡◌, refl, sym, ap, ◌∙◌, subst}
use mathlib.Core.Logic.{◌⊎◌, inl, inr}
use mathlib.Core.List.{List, [], ◌∷◌, ◌++◌, append-nil, append_assoc}
use mathlib.Core.Bool.{Bool, true, false}
use borrow.Author.Tests.{ltb-true, ltb-false, le-leb, le-ltb, lt-ltb}
use lib.ListN.{length, take, get_or}
use lib.Seq.{take_all, take-nil}
use lib.Dec.{T, ltb}
use Rattle.lists.specs.Parts.{Bytes}
use Rattle.lists.specs.Table.{listed, settled}
use Rattle.lists.proofs.Tests.{cases, and_left}
use Rattle.lists.proofs.Table.{given, unapplied, first_all}
use Rattle.redo_log.specs.Log.{LogRecord, bodies_from, most_records, most_log, record_count, good_log, log_number, records}
use Rattle.redo_log.specs.Append.{Store, stored, stores, accepts, lacks, append_rows, append_number, appended}
use Rattle.redo_log.specs.inner.Admitted.{Admitted}
use Rattle.redo_log.proofs.Stores.{take_append, stored_append, length_stores, written, long_written, stores_written}
use Rattle.redo_log.proofs.Steps.{admitted, left_23, left_24, left_26, left_0}
use Rattle.redo_log_claims.specs.Claims.{Appending, Appends, check_numbers, append_numbers, LogListed, needed, appended_all, all_stores, admitted_of, wholly, cut_after, AppendRun, AppendRuns}
use Rattle.redo_log_claims.proofs.Same.{checks_same, records_same}
use Rattle.redo_log_claims.proofs.Written.{same_written, front_before, count_before, bytes_written, written_full, good_there, records_there}

-- ---- the numbers

pub log_listed : LogListed
log_listed =
    record {
      checked = λ log. go log (good_log log) refl;
      appends = λ budget log r. first_all (listed append_numbers) (append_rows budget log r) tt tt;
    }
  where
    go : (log : List ℕ) (good : Bool) → good_log log ≡ good → T (listed check_numbers (log_number log))
    go log true e = rw e tt
    go log false e = rw e tt

-- ---- one append

module _ (k : ℕ) (log : List ℕ) (r : LogRecord) where
  cut_good : (room : Admitted log r) → k < length r.body + 12 → (good_log (written k log r) ≡ true) × (records (written k log r) ≡ records log)
  unfolding good_log records
  cut_good room h =
      let same = same_written log r room k in
      let count = count_before log r room k h in
      let long = long_written log r room k in (
        rw (
          count,
          long,
          ← checks_same log (written k log r) same,
          room.checks,
          le-leb bodies_from (length log) room.from,
          le-leb
              (length log) most_log room.most,
          le-leb (record_count log) most_records (omega (arith, room.below)),
        ),
        rw count (sym (records_same log (written k log r) same)),
      )

  refusal : appended k log r ≡ log → (append_number k log r ≡ 26 → ⊥) → (append_number k log r ≡ 0 → ⊥) → Appending k log r
  refusal same n26 n0 =
      record {
        all = length_stores log r;
        each = given (append_rows k log r) tt;
        taken = unapplied (append_rows k log r) tt;
        bad = λ e. same;
        full = λ e. same;
        cut = λ e. absurd (n26 e);
        whole = λ e. absurd (n0 e);
        body_first = λ h j i. ap (λ (l : List ℕ). get_or l j 0) same;
        count_last = λ h. ap record_count same;
        long = ap length same;
        bytes = λ lb bb. subst Bytes (sym same) lb;
      }

  storing : Admitted log r → appended k log r ≡ stored (take k (stores log r)) log → (append_number k log r ≡ 23 → ⊥) → (append_number k log r ≡ 24 → ⊥)
      → (append_number k log r ≡ 26 → k < length r.body + 12) → (append_number k log r ≡ 0 → length r.body + 12 ≤ k)
      → Appending k log r
  storing room left n23 n24 few all_of =
      let log' : appended k log r ≡ written k log r = left ∙ stores_written log r room k in
      record {
        all = length_stores log r;
        each = given (append_rows k log r) tt;
        taken = unapplied (append_rows k log r) tt;
        bad = λ e. absurd (n23 e);
        full = λ e. absurd (n24 e);
        cut = λ e. rw log' (cut_good room (few e));
        whole = λ e. rw (log' ∙ written_full k log r (all_of e)) (good_there log r room, records_there log r room);
        body_first = λ h j i. ap (λ (l : List ℕ). get_or l j 0) log' ∙ front_before log r room k h j i;
        count_last = λ h. ap record_count log' ∙ count_before log r room k h;
        long = ap length log' ∙ long_written log r room k;
        bytes = λ lb bb. subst Bytes (sym log') (bytes_written log r room k lb bb);
      }

  claim : (a f b : Bool) → accepts log r ≡ a → lacks log r ≡ f → ltb k (length r.body + 12) ≡ b → Appending k log r
  claim false f b p q t = let left = left_23 k log r p in refusal left.1 (λ e. absurd (omega (arith, left.0))) (λ e. absurd (omega (arith, left.0)))
  claim true true b p q t = let left = left_24 k log r p q in refusal left.1 (λ e. absurd (omega (arith, left.0))) (λ e. absurd (omega (arith, left.0)))
  claim true false true p q t =
      let left = left_26 k log r p q t in
      storing (admitted log r p q) left.1
      (λ e. absurd (omega (arith, left.0)))
      (λ e. absurd (omega (arith, left.0)))
      (λ e. ltb-true k (length r.body + 12) t)
      (λ e. absurd (omega (arith, left.0)))
  claim true false false p q t =
      let left = left_0 k log r p q t in
      storing (admitted log r p q) left.1
      (λ e. absurd (omega (arith, left.0)))
      (λ e. absurd (omega (arith, left.0)))
      (λ e. absurd (omega (arith, left.0)))
      (λ e. ltb-false k (length r.body + 12) t)

pub appends : Appends
appends k log r = claim k log r (accepts log r) (lacks log r) (ltb k (length r.body + 12)) refl refl refl

-- A good log stays good, and reads back with the record exactly where the answer is 0.
pub read_after_lem : (k : ℕ) (log : List ℕ) (r : LogRecord) → good_log log ≡ true
    → (good_log (appended k log r) ≡ true) × (records (appended k log r) ≡ settled (append_number k log r) (records log ++ r ∷ []) (records log))
read_after_lem k log r g = go (accepts log r) (lacks log r) (ltb k (needed r)) refl refl refl
  where
    counts : (n : ℕ) → append_number k log r ≡ n → settled n (records log ++ r ∷ []) (records log) ≡ settled (append_number k log r) (records log ++ r ∷ []) (records log)
    counts n e = ap (λ (m : ℕ). settled m (records log ++ r ∷ []) (records log)) (sym e)

    go : (a f b : Bool) → accepts log r ≡ a → lacks log r ≡ f → ltb k (needed r) ≡ b
        → (good_log (appended k log r) ≡ true) × (records (appended k log r) ≡ settled (append_number k log r) (records log ++ r ∷ []) (records log))
    go false f b p q t = let left = left_23 k log r p in (ap good_log left.1 ∙ g, ap records left.1 ∙ counts 23 left.0)
    go true true b p q t = let left = left_24 k log r p q in (ap good_log left.1 ∙ g, ap records left.1 ∙ counts 24 left.0)
    go true false true p q t = let left = left_26 k log r p q t in let now = (appends k log r).cut left.0 in (now.0, now.1 ∙ counts 26 left.0)
    go true false false p q t = let left = left_0 k log r p q t in let now = (appends k log r).whole left.0 in (now.0, now.1 ∙ counts 0 left.0)

-- A cut append's log was good.
pub good_before : (k : ℕ) (log : List ℕ) (r : LogRecord) → append_number k log r ≡ 26 → good_log log ≡ true
good_before k log r e = go (accepts log r) refl
  where
    go : (a : Bool) → accepts log r ≡ a → good_log log ≡ true
    go true p = and_left (good_log log) _ p
    go false p = let left = left_23 k log r p in absurd (omega (arith, left.0))

-- ---- many appends

-- A history with one append more in front, which is refused, or taken and perhaps cut.
module _ (k : ℕ) (log : List ℕ) (r : LogRecord) (rs : List LogRecord) (g : good_log log ≡ true) where
  more_refused : (n : ℕ) → append_number (needed r) log r ≡ suc n → appended (needed r) log r ≡ log → AppendRun k log rs → AppendRun k log (r ∷ rs)
  unfolding all_stores admitted_of appended_all
  more_refused n e same h =
      record {
        same = rw (e, same) h.same;
        good = rw (e, same) h.good;
        back = rw (e, same) h.back;
        long = rw (e, same) h.long;
        bytes = λ lb rb. rw (e, same) (h.bytes lb rb.1);
      }

  module _ (zero-now : append_number (needed r) log r ≡ 0) (left : appended (needed r) log r ≡ stored (take (needed r) (stores log r)) log) where
    abbrev next : List ℕ
    next = appended (needed r) log r

    all_of : take (needed r) (stores log r) ≡ stores log r
    all_of = take_all (needed r) (stores log r) (rw length_stores (omega arith))

    next_is : next ≡ stored (stores log r) log
    next_is = left ∙ ap (λ (ss : List Store). stored ss log) all_of

    stores_are : all_stores log (r ∷ rs) ≡ stores log r ++ all_stores next rs
    unfolding all_stores
    stores_are = rw zero-now

    taken_are : admitted_of log (r ∷ rs) ≡ r ∷ admitted_of next rs
    unfolding admitted_of
    taken_are = rw zero-now

    whole_same : stored (all_stores next rs) next ≡ appended_all next rs → stored (all_stores log (r ∷ rs)) log ≡ appended_all log (r ∷ rs)
    unfolding appended_all
    whole_same h =
        ap (λ (ss : List Store). stored ss log) stores_are
        ∙ stored_append (stores log r) (all_stores next rs) log
        ∙ ap (stored (all_stores next rs)) (sym next_is)
        ∙ h

    cut_apart : cut_after k log (r ∷ rs) ≡ stored (take (k - needed r) (all_stores next rs)) (stored (take k (stores log r)) log)
    cut_apart =
        ap (λ (ss : List Store). stored (take k ss) log) stores_are
        ∙ ap (λ (ss : List Store). stored ss log) (take_append k (stores log r) (all_stores next rs))
        ∙ stored_append (take k (stores log r)) (take (k - length (stores log r)) (all_stores next rs)) log
        ∙ ap (λ (m : ℕ). stored (take (k - m) (all_stores next rs)) (stored (take k (stores log r)) log)) (length_stores log r)

    -- Cut within this append.
    more_cut : k < needed r → stored (all_stores next rs) next ≡ appended_all next rs → (good_log (stored (take k (stores log r)) log) ≡ true) ×
        (records (stored (take k (stores log r)) log) ≡ records log)
        → length (stored (take k (stores log r)) log) ≡ length log
        → (Bytes log → Bytes r.body → Bytes (stored (take k (stores log r)) log))
        → AppendRun k log (r ∷ rs)
    unfolding wholly stored
    more_cut h s c n b =
        let none : k - needed r ≡ 0 = omega arith in
        let is : cut_after k log (r ∷ rs) ≡ stored (take k (stores log r)) log = cut_apart ∙ rw none in
        record {
          same = whole_same s;
          good = ap good_log is ∙ c.0;
          back = ap records is ∙ c.1 ∙ sym (rw (taken_are, lt-ltb k (needed r) h) (append-nil (records log)));
          long = ap length is ∙ n;
          bytes = λ lb rb. subst Bytes (sym is) (b lb rb.0);
        }

    -- Cut behind it.
    more_whole : needed r ≤ k → records next ≡ records log ++ r ∷ [] → length next ≡ length log →
        (Bytes log → Bytes r.body → Bytes next) → AppendRun (k - needed r) next rs → AppendRun k log (r ∷ rs)
    unfolding wholly
    more_whole h rn ln b t =
        let here : stored (take k (stores log r)) log ≡ next = ap (λ (ss : List Store). stored ss log) (take_all k (stores log r) (rw length_stores h)) ∙ sym next_is in
        let is : cut_after k log (r ∷ rs) ≡ cut_after (k - needed r) next rs = cut_apart ∙ ap (stored (take (k - needed r) (all_stores next rs))) here in
        record {
          same = whole_same t.same;
          good = ap good_log is ∙ t.good;
          back =
              ap records is ∙ t.back
              ∙ ap (λ (l : List LogRecord). l ++ wholly (k - needed r) (admitted_of next rs)) rn
              ∙ append_assoc (records log) (r ∷ []) (wholly (k - needed r) (admitted_of next rs))
              ∙ sym (rw (taken_are, le-ltb k (needed r) h));
          long = ap length is ∙ t.long ∙ ln;
          bytes = λ lb rb. subst Bytes (sym is) (t.bytes (b lb rb.0) rb.1);
        }

pub histories : AppendRuns
unfolding all_stores admitted_of appended_all wholly stored
histories k log [] g =
    record { same = refl; good = rw take-nil g; back = rw take-nil (sym (append-nil (records log))); long = rw take-nil; bytes = λ lb rb. rw take-nil lb }
histories k log (r ∷ rs) g = go (accepts log r) (lacks log r) refl refl (λ (m : ℕ) (l : List ℕ) (b : good_log l ≡ true). histories m l rs b)
  where
    go : (a f : Bool) → accepts log r ≡ a → lacks log r ≡ f → ((m : ℕ) (l : List ℕ) → good_log l ≡ true → AppendRun m l rs) → AppendRun k log (r ∷ rs)
    go false f p q later = let left = left_23 (needed r) log r p in more_refused k log r rs g 22 left.0 left.1 (later k log g)
    go true true p q later = let left = left_24 (needed r) log r p q in more_refused k log r rs g 23 left.0 left.1 (later k log g)
    go true false p q later =
        let left = left_0 (needed r) log r p q (le-ltb (needed r) (needed r) (omega arith)) in
        let now = appends (needed r) log r in
        let next = appended (needed r) log r in
        let good-next = (now.whole left.0).0 in
        cut_or_not left.0 left.1 good-next (now.whole left.0).1 now.long (cases (ltb k (needed r)))
      where
        cut_or_not : append_number (needed r) log r ≡ 0 → appended (needed r) log r ≡ stored (take (needed r) (stores log r)) log
            → good_log (appended (needed r) log r) ≡ true
            → records (appended (needed r) log r) ≡ records log ++ r ∷ []
            → length (appended (needed r) log r) ≡ length log
            → (ltb k (needed r) ≡ true) ⊎ (ltb k (needed r) ≡ false)
            → AppendRun k log (r ∷ rs)
        cut_or_not z l gn rn ln (inl b) =
            let few = left_26 k log r p q b in
            let now = appends k log r in
            more_cut k log r rs g z l (ltb-true k (needed r) b) (later 0 (appended (needed r) log r) gn).same
            (subst (λ (m : List ℕ). (good_log m ≡ true) × (records m ≡ records log)) few.1 (now.cut few.0))
            (ap length (sym few.1) ∙ now.long)
            (λ lb bb. subst Bytes few.1 (now.bytes lb bb))
        cut_or_not z l gn rn ln (inr b) = more_whole k log r rs g z l (ltb-false k (needed r) b) rn ln (appends (needed r) log r).bytes (later (k - needed r) (appended (needed r) log r) gn)
