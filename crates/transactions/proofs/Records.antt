-- A record more in the log: which updates are due, and what texts they leave. Assumes nothing.
use Prim.Native.Nat.{ℕ, suc, ◌≤◌, ◌<◌}
use native.Mathlib.Omega.{arith}
use mathlib.Core.Path.{◌≡◌, refl, sym, ap, ◌∙◌, subst}
use mathlib.Core.Logic.{◌⊎◌, inl, inr}
use mathlib.Core.List.{List, [], ◌∷◌, ◌++◌}
use mathlib.Core.Bool.{Bool, true, false, cond, not, ◌&&◌, ◌||◌, or-false}
use borrow.Author.Tests.{eqb-true, ltb-true, ltb-false}
use lib.ListN.{length, get_or-append, get_or-eq_default, length-append}
use lib.Seq.{get_or-append_seam}
use lib.Dec.{eqb, ltb}
use Rattle.lists.specs.Search.{any}
use Rattle.lists.proofs.Tests.{cases, never_both, and_left, and_right, or_cases}
use Rattle.redo_log.specs.Log.{LogRecord, no_record, begin_kind, update_kind, commit_kind, synced_kind, record_transaction, last_begun, opened, follows}
use Rattle.redo_log.proofs.Records.{last_ext, opened_ext}
use Rattle.redo_recovery_model.specs.Recovery.{record_in, transaction_in, commits_to, due}

-- ---- lists

module _ {A : Type 0} where
  abbrev pub All : (A → Type 0) → List A → Type 0
  All P [] = Unit {0}
  All P (a ∷ l) = P a × All P l

  pub all_more : (P : A → Type 0) (l : List A) (a : A) → All P l → P a → All P (l ++ a ∷ [])
  all_more P [] a h p = (p, tt)
  all_more P (b ∷ l) a h p = (h.0, all_more P l a h.1 p)

  pub all_map : (P Q : A → Type 0) (l : List A) → ((a : A) → P a → Q a) → All P l → All Q l
  all_map P Q [] f h = tt
  all_map P Q (b ∷ l) f h = (f b h.0, all_map P Q l f h.1)

  pub any_more : (p : A → Bool) (l : List A) (a : A) → any p (l ++ a ∷ []) ≡ (any p l || p a)
  any_more p [] a = or-false (p a)
  any_more p (b ∷ l) a = rw (any_more p l a) (assoc (p b) (any p l) (p a))
    where
      assoc : (x y z : Bool) → (x || (y || z)) ≡ (x || y || z)
      assoc true y z = refl
      assoc false y z = refl

  pub none_of : (p : A → Bool) (P : A → Type 0) (l : List A) → ((a : A) → P a → p a ≡ false) → All P l → any p l ≡ false
  none_of p P [] f h = refl
  none_of p P (b ∷ l) f h = rw (f b h.0, none_of p P l f h.1)

  pub some_of : (p : A → Bool) (P : A → Type 0) (l : List A) → any p l ≡ true → All P l → (a : A) × (p a ≡ true) × P a
  some_of p P [] e h = absurd (never_both e refl)
  some_of p P (b ∷ l) e h = go (or_cases (p b) (any p l) e) (λ f. some_of p P l f h.1)
    where
      go : (p b ≡ true) ⊎ (any p l ≡ true) → (any p l ≡ true → (a : A) × (p a ≡ true) × P a) → (a : A) × (p a ≡ true) × P a
      go (inl f) rest = (b, f, h.0)
      go (inr f) rest = rest f

-- ---- one record more

module _ (rs : List LogRecord) (r : LogRecord) where
  abbrev pub more : List LogRecord
  more = rs ++ r ∷ []

  pub length_more : length more ≡ suc (length rs)
  length_more = length-append rs (r ∷ []) ∙ omega arith

  pub in_old : (i : ℕ) → i < length rs → record_in more i ≡ record_in rs i
  in_old i h = get_or-append rs (r ∷ []) no_record i h

  pub in_new : record_in more (length rs) ≡ r
  in_new = get_or-append_seam rs r [] no_record

  pub transaction_old : (i : ℕ) → i ≤ length rs → transaction_in more i ≡ transaction_in rs i
  transaction_old i h = last_ext (record_in more) (record_in rs) i (λ j k. in_old j (omega arith))

  pub last_more : transaction_in more (length more) ≡ cond (eqb r.kind begin_kind) (record_transaction r) (transaction_in rs (length rs))
  unfolding last_begun
  last_more = ap (transaction_in more) length_more ∙ rw (in_new, transaction_old (length rs) (omega arith))

  pub opened_more : opened (record_in more) (length more) ≡ (eqb r.kind begin_kind || opened (record_in rs) (length rs) && not (eqb r.kind commit_kind))
  unfolding opened
  opened_more =
      ap (opened (record_in more)) length_more
      ∙ rw (in_new, opened_ext (record_in more) (record_in rs) (length rs) (λ j k. in_old j k))

pub past : (rs : List LogRecord) (i : ℕ) → length rs ≤ i → record_in rs i ≡ no_record
past rs i h = get_or-eq_default rs no_record {n = i} h

pub due_past : (rs : List LogRecord) (i : ℕ) → length rs ≤ i → due rs i ≡ false
unfolding due
due_past rs i h = rw (past rs i h)

-- ---- the order of a log by the rules: a commit and a synced record name no transaction above the one begun last, and none that is open; transactions rise

abbrev pub closing : LogRecord → Bool
closing r = eqb r.kind commit_kind || eqb r.kind synced_kind

pub record Below (last : ℕ) (running : Bool) (r : LogRecord) : Type 0 where
  pub most : closing r ≡ true → record_transaction r ≤ last
  pub under : running ≡ true → closing r ≡ true → record_transaction r < last

pub record Ordered (rs : List LogRecord) : Type 0 where
  pub below : All (Below (transaction_in rs (length rs)) (opened (record_in rs) (length rs))) rs
  pub rises : (i j : ℕ) → i ≤ j → j ≤ length rs → transaction_in rs i ≤ transaction_in rs j

pub ordered_none : Ordered []
unfolding last_begun
ordered_none = record { below = tt; rises = λ i j h k. let z : i ≡ 0 = omega arith in let w : j ≡ 0 = omega arith in rw (z, w) (omega arith) }

-- By its kind, what a record that follows is.
pub record Followed (last : ℕ) (running : Bool) (r : LogRecord) : Type 0 where
  pub updating : eqb r.kind update_kind ≡ true → running ≡ true
  pub beginning : eqb r.kind begin_kind ≡ true → last < record_transaction r
  pub committing : eqb r.kind commit_kind ≡ true → (running ≡ true) × (record_transaction r ≡ last)

-- Which of the four a test picks.
module _ (running x y : Bool) where
  third : (u s b : Bool) → u ≡ false → s ≡ false → b ≡ true → cond u running (cond s true (cond b x y)) ≡ true → x ≡ true
  third u s b p q t h = rw (p, q, t) at h

  fourth : (u s b : Bool) → u ≡ false → s ≡ false → b ≡ false → cond u running (cond s true (cond b x y)) ≡ true → y ≡ true
  fourth u s b p q t h = rw (p, q, t) at h

pub kind_not : (r : LogRecord) (k j : ℕ) → eqb r.kind k ≡ true → eqb k j ≡ false → eqb r.kind j ≡ false
kind_not r k j e f = ap (λ (n : ℕ). eqb n j) (eqb-true r.kind k e) ∙ f

pub followed : (last : ℕ) (running : Bool) (r : LogRecord) → follows last running r ≡ true → Followed last running r
unfolding follows
followed last running r f =
    let x : Bool = ltb last (record_transaction r) in
    let y : Bool = running && eqb (record_transaction r) last in
    record {
      updating = λ e. rw e at f;
      beginning = λ e.
          ltb-true last (record_transaction r)
          (third running x y (eqb r.kind update_kind) (eqb r.kind synced_kind) (eqb r.kind begin_kind) (kind_not r begin_kind update_kind e refl) (kind_not r begin_kind synced_kind e refl) e f);
      committing = λ e.
          let g : y ≡ true =
          fourth running x y (eqb r.kind update_kind) (eqb r.kind synced_kind) (eqb r.kind begin_kind) (kind_not r commit_kind update_kind e refl)
          (kind_not r commit_kind synced_kind e refl) (kind_not r commit_kind begin_kind e refl) f in
          (and_left running (eqb (record_transaction r) last) g, eqb-true (record_transaction r) last (and_right running (eqb (record_transaction r) last) g));
    }

-- A record more by the rules keeps the order: a synced record names a transaction that is committed.
module _ (rs : List LogRecord) (r : LogRecord) (o : Ordered rs) (f : Followed (transaction_in rs (length rs)) (opened (record_in rs) (length rs)) r)
    (s : eqb r.kind synced_kind ≡ true → any (commits_to (record_transaction r)) rs ≡ true) where
  abbrev last : ℕ
  last = transaction_in rs (length rs)

  abbrev running : Bool
  running = opened (record_in rs) (length rs)

  abbrev runs_on : Bool
  runs_on = eqb r.kind begin_kind || running && not (eqb r.kind commit_kind)

  -- A begin.
  module _ (b : eqb r.kind begin_kind ≡ true) where
    old_begin : (a : LogRecord) → Below last running a → Below (record_transaction r) true a
    old_begin a h = let up = f.beginning b in record { most = λ c. omega (arith, h.most c); under = λ t c. omega (arith, h.most c) }

    new_begin : Below (record_transaction r) true r
    new_begin =
        let none : closing r ≡ false = rw (kind_not r begin_kind commit_kind b refl, kind_not r begin_kind synced_kind b refl) in
        record { most = λ c. absurd (never_both c none); under = λ t c. absurd (never_both c none) }

    below_begin : All (Below (transaction_in (more rs r) (length (more rs r))) (opened (record_in (more rs r)) (length (more rs r)))) (more rs r)
    below_begin =
        let l : transaction_in (more rs r) (length (more rs r)) ≡ record_transaction r = last_more rs r ∙ ap (λ (t : Bool). cond t (record_transaction r) last) b in
        let w : opened (record_in (more rs r)) (length (more rs r)) ≡ true = opened_more rs r ∙ ap (λ (t : Bool). t || running && not (eqb r.kind commit_kind)) b in
        subst (λ (n : ℕ). All (Below n (opened (record_in (more rs r)) (length (more rs r)))) (more rs r)) (sym l)
        (subst (λ (t : Bool). All (Below (record_transaction r) t) (more rs r)) (sym w)
        (all_more (Below (record_transaction r) true) rs r (all_map (Below last running) (Below (record_transaction r) true) rs old_begin o.below) new_begin))

  -- Any other record.
  module _ (b : eqb r.kind begin_kind ≡ false) where
    abbrev on : Bool
    on = running && not (eqb r.kind commit_kind)

    old_other : (a : LogRecord) → Below last running a → Below last on a
    old_other a h = record { most = h.most; under = λ t c. h.under (and_left running (not (eqb r.kind commit_kind)) t) c }

    new_synced : eqb r.kind synced_kind ≡ true → Below last on r
    new_synced e =
        let found = some_of (commits_to (record_transaction r)) (Below last running) rs (s e) o.below in
        let a : LogRecord = found.0 in
        let kind : eqb a.kind commit_kind ≡ true = and_left (eqb a.kind commit_kind) (eqb (record_transaction a) (record_transaction r)) found.1 in
        let same : record_transaction a ≡ record_transaction r =
        eqb-true (record_transaction a) (record_transaction r) (and_right (eqb a.kind commit_kind) (eqb (record_transaction a) (record_transaction r)) found.1) in
        let c : closing a ≡ true = rw kind in
        record {
          most = λ z. omega (arith, same, found.2.most c);
          under = λ t z. omega (arith, same, found.2.under (and_left running (not (eqb r.kind commit_kind)) t) c);
        }

    new_plain : eqb r.kind synced_kind ≡ false → Below last on r
    new_plain e =
        let commits : closing r ≡ true → eqb r.kind commit_kind ≡ true = λ z. go (or_cases (eqb r.kind commit_kind) (eqb r.kind synced_kind) z) in
        record {
          most = λ z. omega (arith, (f.committing (commits z)).1);
          under = λ t z. absurd (never_both (and_right running (not (eqb r.kind commit_kind)) t) (ap not (commits z)));
        }
      where
        go : (eqb r.kind commit_kind ≡ true) ⊎ (eqb r.kind synced_kind ≡ true) → eqb r.kind commit_kind ≡ true
        go (inl c) = c
        go (inr c) = absurd (never_both c e)

    new_other : (eqb r.kind synced_kind ≡ true) ⊎ (eqb r.kind synced_kind ≡ false) → Below last on r
    new_other (inl e) = new_synced e
    new_other (inr e) = new_plain e

    below_other : All (Below (transaction_in (more rs r) (length (more rs r))) (opened (record_in (more rs r)) (length (more rs r)))) (more rs r)
    below_other =
        let l : transaction_in (more rs r) (length (more rs r)) ≡ last = last_more rs r ∙ ap (λ (t : Bool). cond t (record_transaction r) last) b in
        let w : opened (record_in (more rs r)) (length (more rs r)) ≡ on = opened_more rs r ∙ ap (λ (t : Bool). t || on) b in
        subst (λ (n : ℕ). All (Below n (opened (record_in (more rs r)) (length (more rs r)))) (more rs r)) (sym l)
        (subst (λ (t : Bool). All (Below last t) (more rs r)) (sym w)
        (all_more (Below last on) rs r (all_map (Below last running) (Below last on) rs old_other o.below) (new_other (cases (eqb r.kind synced_kind)))))

  up_more : last ≤ transaction_in (more rs r) (length (more rs r))
  up_more = subst (λ (n : ℕ). last ≤ n) (sym (last_more rs r)) (go (eqb r.kind begin_kind) refl)
    where
      go : (b : Bool) → eqb r.kind begin_kind ≡ b → last ≤ cond b (record_transaction r) last
      go true e = omega (arith, f.beginning e)
      go false e = omega arith

  rises_more : (i j : ℕ) → i ≤ j → j ≤ length (more rs r) → transaction_in (more rs r) i ≤ transaction_in (more rs r) j
  rises_more i j h k = go (cases (ltb (length rs) j)) (cases (ltb (length rs) i))
    where
      go : (ltb (length rs) j ≡ true) ⊎ (ltb (length rs) j ≡ false) → (ltb (length rs) i ≡ true) ⊎ (ltb (length rs) i ≡ false)
          → transaction_in (more rs r) i ≤ transaction_in (more rs r) j
      go (inr a) w =
          let jl : j ≤ length rs = ltb-false (length rs) j a in
          rw (transaction_old rs r i (omega arith), transaction_old rs r j jl) (o.rises i j h jl)
      go (inl a) (inl c) =
          let same : i ≡ j = omega (arith, length_more rs r, ltb-true (length rs) j a, ltb-true (length rs) i c) in rw same (omega arith)
      go (inl a) (inr c) =
          let same : j ≡ length (more rs r) = omega (arith, length_more rs r, ltb-true (length rs) j a) in
          let il : i ≤ length rs = ltb-false (length rs) i c in
          let low : transaction_in (more rs r) i ≤ last = subst (λ (n : ℕ). n ≤ last) (sym (transaction_old rs r i il)) (o.rises i (length rs) il (omega arith)) in
          subst (λ (n : ℕ). transaction_in (more rs r) i ≤ transaction_in (more rs r) n) (sym same) (omega (arith, low, up_more))

  pub ordered_more : Ordered (more rs r)
  ordered_more = record { below = go (cases (eqb r.kind begin_kind)); rises = rises_more }
    where
      go : (eqb r.kind begin_kind ≡ true) ⊎ (eqb r.kind begin_kind ≡ false)
          → All (Below (transaction_in (more rs r) (length (more rs r))) (opened (record_in (more rs r)) (length (more rs r)))) (more rs r)
      go (inl b) = below_begin b
      go (inr b) = below_other b
