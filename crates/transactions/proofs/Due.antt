-- Which updates are due after one record more, by its kind. Assumes nothing.
use Prim.Native.Nat.{ℕ, zero, suc, ◌≤◌, ◌<◌}
use native.Mathlib.Omega.{arith}
use mathlib.Core.Path.{◌≡◌, refl, sym, ap, ◌∙◌, subst}
use mathlib.Core.Logic.{◌⊎◌, inl, inr}
use mathlib.Core.List.{List}
use mathlib.Core.Bool.{Bool, true, false, cond, not, ◌&&◌, ◌||◌, or-false, and-false}
use borrow.Author.Tests.{eqb-true, eqb-false, eq-eqb, ne_eqb, ltb-true, ltb-false, leb-true}
use lib.ListN.{length}
use lib.Dec.{eqb, ltb, leb}
use Rattle.lists.specs.Search.{any}
use Rattle.lists.proofs.Tests.{cases, never_both, and_left, and_right, and_in}
use Rattle.commands.specs.Command.{Language}
use Rattle.redo_log.specs.Log.{LogRecord, update_kind, commit_kind, synced_kind, record_card, record_side, record_text, record_transaction, opened}
use Rattle.redo_recovery_model.specs.Recovery.{record_in, transaction_in, commits_to, syncs_from, due}
use Rattle.redo_recovery_model.specs.Claims.{side_is, rewrites, rewritten}
use Rattle.transactions.specs.System.{update_in, changes_text, with_updates}
use Rattle.transactions.proofs.Records.{any_more, none_of, more, length_more, in_old, in_new, transaction_old, due_past, closing, Below, Ordered, Followed, kind_not}

-- Where a number stands: among the first n, at n, or behind.
pub placed : (i n : ℕ) → (i < n) ⊎ (i ≡ n) ⊎ (n < i)
placed i n = go (cases (ltb i n)) (cases (ltb n i))
  where
    go : (ltb i n ≡ true) ⊎ (ltb i n ≡ false) → (ltb n i ≡ true) ⊎ (ltb n i ≡ false) → (i < n) ⊎ (i ≡ n) ⊎ (n < i)
    go (inl a) b = inl (ltb-true i n a)
    go (inr a) (inl b) = inr (inr (ltb-true n i b))
    go (inr a) (inr b) = inr (inl (omega (arith, ltb-false i n a, ltb-false n i b)))

module _ (rs : List LogRecord) (r : LogRecord) where
  abbrev card : ℕ → ℕ
  card i = record_card (record_in rs i)

  abbrev committed : ℕ → Bool
  committed t = any (commits_to t) rs

  abbrev synced : ℕ → ℕ → Bool
  synced k t = any (syncs_from k t) rs

  -- An old record, due or not after one more.
  due_old : (i : ℕ) → i < length rs → due (more rs r) i
      ≡ (eqb (record_in rs i).kind update_kind
      && (committed (transaction_in rs i) || commits_to (transaction_in rs i) r)
      && not (synced (card i) (transaction_in rs i) || syncs_from (card i) (transaction_in rs i) r))
  unfolding due
  due_old i h =
      rw (in_old rs r i h, transaction_old rs r i (omega arith), any_more (commits_to (transaction_in rs i)) rs r, any_more (syncs_from (card i) (transaction_in rs i)) rs r)

  due_here : (i : ℕ) → due rs i
      ≡ (eqb (record_in rs i).kind update_kind && committed (transaction_in rs i) && not (synced (card i) (transaction_in rs i)))
  unfolding due
  due_here i = refl

  -- The new record itself is no update that is due.
  due_new : (o : Ordered rs) → Followed (transaction_in rs (length rs)) (opened (record_in rs) (length rs)) r → due (more rs r) (length rs) ≡ false
  unfolding due
  due_new o f = rw (in_new rs r, transaction_old rs r (length rs) (omega arith)) (go (cases (eqb r.kind update_kind)))
    where
      last : ℕ
      last = transaction_in rs (length rs)

      away : (x : Bool) → eqb r.kind update_kind ≡ true → commits_to last r ≡ false
      away x e = rw (kind_not r update_kind commit_kind e refl)

      none : eqb r.kind update_kind ≡ true → any (commits_to last) (more rs r) ≡ false
      none e =
          any_more (commits_to last) rs r
          ∙ rw (away true e, none_of (commits_to last) (Below last (opened (record_in rs) (length rs))) rs (apart e) o.below)
        where
          apart : eqb r.kind update_kind ≡ true → (a : LogRecord) → Below last (opened (record_in rs) (length rs)) a → commits_to last a ≡ false
          apart e a b = go (cases (commits_to last a))
            where
              go : (commits_to last a ≡ true) ⊎ (commits_to last a ≡ false) → commits_to last a ≡ false
              go (inr n) = n
              go (inl y) =
                  let kind = and_left (eqb a.kind commit_kind) (eqb (record_transaction a) last) y in
                  let same = eqb-true (record_transaction a) last (and_right (eqb a.kind commit_kind) (eqb (record_transaction a) last) y) in
                  let c : closing a ≡ true = rw kind in
                  absurd (omega (arith, b.under (f.updating e) c, same))

      go : (eqb r.kind update_kind ≡ true) ⊎ (eqb r.kind update_kind ≡ false)
          → (eqb r.kind update_kind && any (commits_to last) (more rs r) && not (any (syncs_from (record_card r) last) (more rs r))) ≡ false
      go (inr e) = rw e
      go (inl e) = rw (e, none e)

  due_behind : (i : ℕ) → length rs < i → due (more rs r) i ≡ false
  due_behind i h = due_past (more rs r) i (omega (arith, length_more rs r))

  -- ---- by places: what holds of old records holds of all

  module _ (o : Ordered rs) (f : Followed (transaction_in rs (length rs)) (opened (record_in rs) (length rs)) r) (l : Language) (k : ℕ) where
    pub outside : (i : ℕ) → length rs ≤ i → rewrites (more rs r) l k i ≡ false
    outside i h = go (placed i (length rs))
      where
        go : (i < length rs) ⊎ (i ≡ length rs) ⊎ (length rs < i) → rewrites (more rs r) l k i ≡ false
        go (inl a) = absurd (omega arith)
        go (inr (inl a)) = ap (λ (b : Bool). b && (eqb (record_card (record_in (more rs r) i)) k && side_is l (record_side (record_in (more rs r) i)))) (ap (due (more rs r)) a ∙ due_new o f)
        go (inr (inr a)) = ap (λ (b : Bool). b && (eqb (record_card (record_in (more rs r) i)) k && side_is l (record_side (record_in (more rs r) i)))) (due_behind i a)

    outside_before : (i : ℕ) → length rs ≤ i → rewrites rs l k i ≡ false
    outside_before i h = ap (λ (b : Bool). b && (eqb (card i) k && side_is l (record_side (record_in rs i)))) (due_past rs i h)

    pub everywhere : ((i : ℕ) → i < length rs → rewrites (more rs r) l k i ≡ rewrites rs l k i) → (i : ℕ) → rewrites (more rs r) l k i ≡ rewrites rs l k i
    everywhere h i = go (cases (ltb i (length rs)))
      where
        go : (ltb i (length rs) ≡ true) ⊎ (ltb i (length rs) ≡ false) → rewrites (more rs r) l k i ≡ rewrites rs l k i
        go (inl a) = h i (ltb-true i (length rs) a)
        go (inr a) = let b = ltb-false i (length rs) a in outside i b ∙ sym (outside_before i b)

    -- ---- a record that is neither a commit nor a synced record of the card

    unmoved : (u c s x y : Bool) → x ≡ false → y ≡ false → (u && (c || x) && not (s || y)) ≡ (u && c && not s)
    unmoved u c s x y p q = rw (p, q, or-false c, or-false s)

    rewrites_old : (i : ℕ) → i < length rs → rewrites (more rs r) l k i ≡ (due (more rs r) i && (eqb (card i) k && side_is l (record_side (record_in rs i))))
    rewrites_old i h = rw (in_old rs r i h)

    pub same_apart : eqb r.kind commit_kind ≡ false → (eqb r.kind synced_kind && eqb (record_card r) k) ≡ false
        → (i : ℕ) → rewrites (more rs r) l k i ≡ rewrites rs l k i
    same_apart c s = everywhere (λ i h. rewrites_old i h ∙ go i h (cases (eqb (card i) k)))
      where
        go : (i : ℕ) → i < length rs → (eqb (card i) k ≡ true) ⊎ (eqb (card i) k ≡ false)
            → (due (more rs r) i && (eqb (card i) k && side_is l (record_side (record_in rs i)))) ≡ (due rs i && (eqb (card i) k && side_is l (record_side (record_in rs i))))
        go i h (inr e) = rw (e, and-false (due (more rs r) i), and-false (due rs i))
        go i h (inl e) =
            ap (λ (b : Bool). b && (eqb (card i) k && side_is l (record_side (record_in rs i))))
            (due_old i h
            ∙ unmoved (eqb (record_in rs i).kind update_kind) (committed (transaction_in rs i)) (synced (card i) (transaction_in rs i))
            (commits_to (transaction_in rs i) r) (syncs_from (card i) (transaction_in rs i) r)
            (rw c)
            (subst (λ (j : ℕ). syncs_from j (transaction_in rs i) r ≡ false) (sym (eqb-true (card i) k e)) (rw s))
            ∙ sym (due_here i))

    -- A record that is no commit makes none due.
    fewer : (u c s y : Bool) → (u && (c || false) && not (s || y)) ≡ true → (u && c && not s) ≡ true
    fewer true true false false h = refl
    fewer true true false true h = absurd (never_both refl (sym h))
    fewer true true true y h = h
    fewer true false s y h = h
    fewer false c s y h = h

    pub no_more : eqb r.kind commit_kind ≡ false → (i : ℕ) → rewrites rs l k i ≡ false → rewrites (more rs r) l k i ≡ false
    no_more c i n = go (cases (ltb i (length rs))) (cases (rewrites (more rs r) l k i))
      where
        back : i < length rs → rewrites (more rs r) l k i ≡ true → rewrites rs l k i ≡ true
        back h e =
            let e' : (due (more rs r) i && (eqb (card i) k && side_is l (record_side (record_in rs i)))) ≡ true = sym (rewrites_old i h) ∙ e in
            let d : due (more rs r) i ≡ true = and_left (due (more rs r) i) (eqb (card i) k && side_is l (record_side (record_in rs i))) e' in
            let none : commits_to (transaction_in rs i) r ≡ false = rw c in
            let d' : (eqb (record_in rs i).kind update_kind && (committed (transaction_in rs i) || false) && not
            (synced (card i) (transaction_in rs i) || syncs_from (card i) (transaction_in rs i) r)) ≡ true =
            ap (λ (b : Bool). eqb (record_in rs i).kind update_kind && (committed (transaction_in rs i) || b) && not
            (synced (card i) (transaction_in rs i) || syncs_from (card i) (transaction_in rs i) r)) (sym none)
            ∙ sym (due_old i h) ∙ d in
            and_in (due_here i ∙ fewer (eqb (record_in rs i).kind update_kind) (committed (transaction_in rs i)) (synced (card i) (transaction_in rs i))
            (syncs_from (card i) (transaction_in rs i) r) d')
            (and_right (due (more rs r) i) (eqb (card i) k && side_is l (record_side (record_in rs i))) e')

        go : (ltb i (length rs) ≡ true) ⊎ (ltb i (length rs) ≡ false) → (rewrites (more rs r) l k i ≡ true) ⊎ (rewrites (more rs r) l k i ≡ false) → rewrites (more rs r) l k i ≡ false
        go (inr a) w = outside i (ltb-false i (length rs) a)
        go (inl a) (inl e) = absurd (never_both (back (ltb-true i (length rs) a) e) n)
        go (inl a) (inr e) = e

-- ---- the texts that records leave

module _ (rs : List LogRecord) (l : Language) (k : ℕ) where
  -- Lines that rewrite nothing leave the text.
  pub rewritten_none : (n m : ℕ) (s : List ℕ) → n ≤ m → ((i : ℕ) → n ≤ i → i < m → rewrites rs l k i ≡ false) → rewritten rs l k m s ≡ rewritten rs l k n s
  unfolding rewritten
  rewritten_none n zero s h f = let z : n ≡ 0 = omega arith in rw z
  rewritten_none n (suc m) s h f = go (placed n (suc m)) (λ (g : n ≤ m). rewritten_none n m s g (λ i a b. f i a (omega arith)))
    where
      go : (n < suc m) ⊎ (n ≡ suc m) ⊎ (suc m < n) → (n ≤ m → rewritten rs l k m s ≡ rewritten rs l k n s)
          → cond (rewrites rs l k m) (record_text (record_in rs m)) (rewritten rs l k m s) ≡ rewritten rs l k n s
      go (inl a) rest = rw (f m (omega arith) (omega arith)) (rest (omega arith))
      go (inr (inl a)) rest = subst (λ (j : ℕ). cond (rewrites rs l k m) (record_text (record_in rs m)) (rewritten rs l k m s) ≡ rewritten rs l k j s) (sym a) refl
      go (inr (inr a)) rest = absurd (omega arith)

  -- Where some line rewrites it, the text that stood there makes no difference.
  pub rewritten_some : (n i : ℕ) → i < n → rewrites rs l k i ≡ true → (a b : List ℕ) → rewritten rs l k n a ≡ rewritten rs l k n b
  unfolding rewritten
  rewritten_some zero i h e a b = absurd (omega arith)
  rewritten_some (suc n) i h e a b = go (placed i n) (λ (g : i < n). rewritten_some n i g e a b)
    where
      go : (i < n) ⊎ (i ≡ n) ⊎ (n < i) → (i < n → rewritten rs l k n a ≡ rewritten rs l k n b)
          → cond (rewrites rs l k n) (record_text (record_in rs n)) (rewritten rs l k n a) ≡ cond (rewrites rs l k n) (record_text (record_in rs n)) (rewritten rs l k n b)
      go (inl g) rest = ap (λ (t : List ℕ). cond (rewrites rs l k n) (record_text (record_in rs n)) t) (rest g)
      go (inr (inl g)) rest =
          let here : rewrites rs l k n ≡ true = subst (λ (j : ℕ). rewrites rs l k j ≡ true) g e in
          ap (λ (t : Bool). cond t (record_text (record_in rs n)) (rewritten rs l k n a)) here
          ∙ sym (ap (λ (t : Bool). cond t (record_text (record_in rs n)) (rewritten rs l k n b)) here)
      go (inr (inr g)) rest = absurd (omega arith)

-- A record more that makes no difference to a text.
module _ (rs : List LogRecord) (r : LogRecord) (l : Language) (k : ℕ) (same : (i : ℕ) → rewrites (more rs r) l k i ≡ rewrites rs l k i) where
  pub rewritten_same : (n : ℕ) (s : List ℕ) → rewritten (more rs r) l k n s ≡ rewritten rs l k n s
  unfolding rewritten
  rewritten_same zero s = refl
  rewritten_same (suc n) s =
      ap (λ (t : Bool). cond t (record_text (record_in (more rs r) n)) (rewritten (more rs r) l k n s)) (same n)
      ∙ ap (λ (t : List ℕ). cond (rewrites rs l k n) (record_text (record_in (more rs r) n)) t) (rewritten_same n s)
      ∙ go (cases (ltb n (length rs)))
    where
      go : (ltb n (length rs) ≡ true) ⊎ (ltb n (length rs) ≡ false)
          → cond (rewrites rs l k n) (record_text (record_in (more rs r) n)) (rewritten rs l k n s) ≡ cond (rewrites rs l k n) (record_text (record_in rs n)) (rewritten rs l k n s)
      go (inl a) = ap (λ (q : LogRecord). cond (rewrites rs l k n) (record_text q) (rewritten rs l k n s)) (in_old rs r n (ltb-true n (length rs) a))
      go (inr a) =
          let none : rewrites rs l k n ≡ false = ap (λ (b : Bool). b && (eqb (record_card (record_in rs n)) k && side_is l (record_side (record_in rs n))))
          (due_past rs n (ltb-false n (length rs) a)) in
          rw none

  pub text_same : (s : List ℕ) → rewritten (more rs r) l k (length (more rs r)) s ≡ rewritten rs l k (length rs) s
  text_same s =
      rewritten_same (length (more rs r)) s
      ∙ rewritten_none rs l k (length rs) (length (more rs r)) s (omega (arith, length_more rs r))
      (λ i a b. ap (λ (t : Bool). t && (eqb (record_card (record_in rs i)) k && side_is l (record_side (record_in rs i)))) (due_past rs i a))

-- ---- a commit

module _ (rs : List LogRecord) (r : LogRecord) (o : Ordered rs) (f : Followed (transaction_in rs (length rs)) (opened (record_in rs) (length rs)) r)
    (commits : eqb r.kind commit_kind ≡ true) where
  abbrev t : ℕ
  t = record_transaction r

  is_last : t ≡ transaction_in rs (length rs)
  is_last = (f.committing commits).1

  -- Nothing in the log names its transaction as committed or as synced yet.
  under : (a : LogRecord) → Below (transaction_in rs (length rs)) (opened (record_in rs) (length rs)) a → closing a ≡ true → record_transaction a < t
  under a b c = omega (arith, is_last, b.under (f.committing commits).0 c)

  none_committed : any (commits_to t) rs ≡ false
  none_committed = none_of (commits_to t) (Below (transaction_in rs (length rs)) (opened (record_in rs) (length rs))) rs apart o.below
    where
      apart : (a : LogRecord) → Below (transaction_in rs (length rs)) (opened (record_in rs) (length rs)) a → commits_to t a ≡ false
      apart a b = go (cases (commits_to t a))
        where
          go : (commits_to t a ≡ true) ⊎ (commits_to t a ≡ false) → commits_to t a ≡ false
          go (inr n) = n
          go (inl y) =
              let kind = and_left (eqb a.kind commit_kind) (eqb (record_transaction a) t) y in
              let same = eqb-true (record_transaction a) t (and_right (eqb a.kind commit_kind) (eqb (record_transaction a) t) y) in
              absurd (omega (arith, under a b (rw kind), same))

  none_synced : (k : ℕ) → any (syncs_from k t) rs ≡ false
  none_synced k = none_of (syncs_from k t) (Below (transaction_in rs (length rs)) (opened (record_in rs) (length rs))) rs apart o.below
    where
      or_second : (a b : Bool) → b ≡ true → (a || b) ≡ true
      or_second true b e = refl
      or_second false b e = e

      apart : (a : LogRecord) → Below (transaction_in rs (length rs)) (opened (record_in rs) (length rs)) a → syncs_from k t a ≡ false
      apart a b = go (cases (syncs_from k t a))
        where
          go : (syncs_from k t a ≡ true) ⊎ (syncs_from k t a ≡ false) → syncs_from k t a ≡ false
          go (inr n) = n
          go (inl y) =
              let both = and_left (eqb a.kind synced_kind && eqb (record_card a) k) (leb t (record_transaction a)) y in
              let kind = and_left (eqb a.kind synced_kind) (eqb (record_card a) k) both in
              let high = leb-true t (record_transaction a) (and_right (eqb a.kind synced_kind && eqb (record_card a) k) (leb t (record_transaction a)) y) in
              absurd (omega (arith, under a b (or_second (eqb a.kind commit_kind) (eqb a.kind synced_kind) kind), high))

  module _ (l : Language) (k : ℕ) where
    abbrev own : ℕ → Bool
    own i = eqb (record_card (record_in rs i)) k && side_is l (record_side (record_in rs i))

    abbrev updates : ℕ → Bool
    updates i = eqb (record_in rs i).kind update_kind

    -- A line of its own transaction: due from now on.
    pub hit : (i : ℕ) → i < length rs → eqb (transaction_in rs i) t ≡ true → (rewrites rs l k i ≡ false) × (rewrites (more rs r) l k i ≡ changes_text rs t l k i)
    hit i h e = (before, after)
      where
        same : transaction_in rs i ≡ t
        same = eqb-true (transaction_in rs i) t e

        no : any (commits_to (transaction_in rs i)) rs ≡ false
        no = subst (λ (j : ℕ). any (commits_to j) rs ≡ false) (sym same) none_committed

        unsynced : any (syncs_from (record_card (record_in rs i)) (transaction_in rs i)) rs ≡ false
        unsynced = subst (λ (j : ℕ). any (syncs_from (record_card (record_in rs i)) j) rs ≡ false) (sym same) (none_synced (record_card (record_in rs i)))

        now : commits_to (transaction_in rs i) r ≡ true
        now = rw (commits, eq-eqb t (transaction_in rs i) (sym same))

        apart : syncs_from (record_card (record_in rs i)) (transaction_in rs i) r ≡ false
        apart = rw (kind_not r commit_kind synced_kind commits refl)

        simple : (u c s x y : Bool) → c ≡ false → s ≡ false → x ≡ true → y ≡ false → ((u && c && not s) ≡ false) × ((u && (c || x) && not (s || y)) ≡ (u && true))
        simple true c s x y p q z w = (rw p, rw (p, q, z, w))
        simple false c s x y p q z w = (refl, refl)

        two : ((updates i && any (commits_to (transaction_in rs i)) rs && not (any (syncs_from (record_card (record_in rs i)) (transaction_in rs i)) rs)) ≡ false)
            × ((updates i && (any (commits_to (transaction_in rs i)) rs || commits_to (transaction_in rs i) r) && not
            (any (syncs_from (record_card (record_in rs i)) (transaction_in rs i)) rs || syncs_from (record_card (record_in rs i))
            (transaction_in rs i) r)) ≡ (updates i && true))
        two =
            simple (updates i) (any (commits_to (transaction_in rs i)) rs) (any (syncs_from (record_card (record_in rs i)) (transaction_in rs i)) rs)
            (commits_to (transaction_in rs i) r) (syncs_from (record_card (record_in rs i)) (transaction_in rs i) r)
            no unsynced now apart

        before : rewrites rs l k i ≡ false
        before = ap (λ (b : Bool). b && own i) (due_here rs r i ∙ two.0)

        after : rewrites (more rs r) l k i ≡ changes_text rs t l k i
        after =
            rewrites_old rs r o f l k i h
            ∙ ap (λ (b : Bool). b && own i) (due_old rs r i h ∙ two.1 ∙ ap (λ (b : Bool). updates i && b) (sym e))

    -- A line of another transaction: as it was.
    pub miss : (i : ℕ) → i < length rs → eqb (transaction_in rs i) t ≡ false → (rewrites (more rs r) l k i ≡ rewrites rs l k i) × (changes_text rs t l k i ≡ false)
    miss i h e = (after, ap (λ (b : Bool). updates i && b && own i) e ∙ ap (λ (b : Bool). b && own i) (and-false (updates i)))
      where
        no : commits_to (transaction_in rs i) r ≡ false
        no = rw (commits, ne_eqb t (transaction_in rs i) (λ z. eqb-false (transaction_in rs i) t e (sym z)))

        apart : syncs_from (record_card (record_in rs i)) (transaction_in rs i) r ≡ false
        apart = rw (kind_not r commit_kind synced_kind commits refl)

        after : rewrites (more rs r) l k i ≡ rewrites rs l k i
        after =
            rewrites_old rs r o f l k i h
            ∙ ap (λ (b : Bool). b && own i)
            (due_old rs r i h
            ∙ unmoved rs r o f l k (updates i) (any (commits_to (transaction_in rs i)) rs)
            (any (syncs_from (record_card (record_in rs i)) (transaction_in rs i)) rs) (commits_to (transaction_in rs i) r)
            (syncs_from (record_card (record_in rs i)) (transaction_in rs i) r) no apart
            ∙ sym (due_here rs r i))

    applied_none : (n : ℕ) (s : List ℕ) → ((i : ℕ) → i < n → changes_text rs t l k i ≡ false) → with_updates rs t l k n s ≡ s
    unfolding with_updates
    applied_none zero s h = refl
    applied_none (suc n) s h = rw (h n (omega arith)) (applied_none n s (λ i a. h i (omega arith)))

    -- Lines of other transactions stand before those of the last one.
    pub earlier : (i : ℕ) → i < length rs → eqb (transaction_in rs i) t ≡ false → (j : ℕ) → j < i → changes_text rs t l k j ≡ false
    earlier i h e j a = go (cases (eqb (transaction_in rs j) t))
      where
        go : (eqb (transaction_in rs j) t ≡ true) ⊎ (eqb (transaction_in rs j) t ≡ false) → changes_text rs t l k j ≡ false
        go (inr g) = (miss j (omega arith) g).1
        go (inl g) =
            let same = eqb-true (transaction_in rs j) t g in
            let up = o.rises j i (omega arith) (omega arith) in
            let top = o.rises i (length rs) (omega arith) (omega arith) in
            let all : transaction_in rs i ≡ t = omega (arith, same, up, top, is_last) in
            absurd (eqb-false (transaction_in rs i) t e all)

    -- The updates of the transaction come on top of those that were due.
    pub rewritten_commit : (n : ℕ) (s : List ℕ) → n ≤ length rs → rewritten (more rs r) l k n s ≡ with_updates rs t l k n (rewritten rs l k n s)
    unfolding rewritten with_updates
    rewritten_commit zero s h = refl
    rewritten_commit (suc n) s h =
        ap (λ (q : LogRecord). cond (rewrites (more rs r) l k n) (record_text q) (rewritten (more rs r) l k n s)) (in_old rs r n h)
        ∙ ap (λ (w : List ℕ). cond (rewrites (more rs r) l k n) (record_text (record_in rs n)) w) (rewritten_commit n s (omega arith))
        ∙ go (cases (eqb (transaction_in rs n) t))
      where
        w : List ℕ
        w = record_text (record_in rs n)

        on_top : (b : Bool) → rewrites rs l k n ≡ b → eqb (transaction_in rs n) t ≡ false
            → cond b w (with_updates rs t l k n (rewritten rs l k n s)) ≡ with_updates rs t l k n (cond b w (rewritten rs l k n s))
        on_top true p e = sym (applied_none n w (λ j a. earlier n h e j a))
        on_top false p e = refl

        go : (eqb (transaction_in rs n) t ≡ true) ⊎ (eqb (transaction_in rs n) t ≡ false)
            → cond (rewrites (more rs r) l k n) w (with_updates rs t l k n (rewritten rs l k n s))
            ≡ cond (changes_text rs t l k n) w (with_updates rs t l k n (cond (rewrites rs l k n) w (rewritten rs l k n s)))
        go (inl e) =
            let two = hit n h e in
            ap (λ (b : Bool). cond b w (with_updates rs t l k n (rewritten rs l k n s))) two.1
            ∙ ap (λ (b : Bool). cond (changes_text rs t l k n) w (with_updates rs t l k n (cond b w (rewritten rs l k n s)))) (sym two.0)
        go (inr e) =
            let two = miss n h e in
            ap (λ (b : Bool). cond b w (with_updates rs t l k n (rewritten rs l k n s))) two.0
            ∙ on_top (rewrites rs l k n) refl e
            ∙ ap (λ (b : Bool). cond b w (with_updates rs t l k n (cond (rewrites rs l k n) w (rewritten rs l k n s)))) (sym two.1)

    pub text_commit : (s : List ℕ) → rewritten (more rs r) l k (length (more rs r)) s ≡ with_updates rs t l k (length rs) (rewritten rs l k (length rs) s)
    text_commit s =
        rewritten_none (more rs r) l k (length rs) (length (more rs r)) s (omega (arith, length_more rs r)) (λ i a b. outside rs r o f l k i a)
        ∙ rewritten_commit (length rs) s (omega arith)

    -- A card that the transaction does not update.
    pub same_commit : ((i : ℕ) → i < length rs → update_in rs t i ≡ true → eqb (record_card (record_in rs i)) k ≡ false) → (i : ℕ) → rewrites (more rs r) l k i ≡ rewrites rs l k i
    same_commit away = everywhere rs r o f l k (λ i h. go i h (cases (eqb (transaction_in rs i) t)))
      where
        untouched : (i : ℕ) → i < length rs → changes_text rs t l k i ≡ false
        untouched i h = pick (cases (update_in rs t i))
          where
            pick : (update_in rs t i ≡ true) ⊎ (update_in rs t i ≡ false) → changes_text rs t l k i ≡ false
            pick (inr e) = ap (λ (b : Bool). b && own i) e
            pick (inl e) =
                ap (λ (b : Bool). update_in rs t i && (b && side_is l (record_side (record_in rs i)))) (away i h e) ∙ and-false (update_in rs t i)

        go : (i : ℕ) → i < length rs → (eqb (transaction_in rs i) t ≡ true) ⊎ (eqb (transaction_in rs i) t ≡ false) → rewrites (more rs r) l k i ≡ rewrites rs l k i
        go i h (inr e) = (miss i h e).0
        go i h (inl e) = let two = hit i h e in two.1 ∙ untouched i h ∙ sym two.0

    pub applied_away : ((i : ℕ) → i < length rs → update_in rs t i ≡ true → eqb (record_card (record_in rs i)) k ≡ false) → (s : List ℕ) → with_updates rs t l k (length rs) s ≡ s
    applied_away away s = applied_none (length rs) s untouched
      where
        untouched : (i : ℕ) → i < length rs → changes_text rs t l k i ≡ false
        untouched i h = pick (cases (update_in rs t i))
          where
            pick : (update_in rs t i ≡ true) ⊎ (update_in rs t i ≡ false) → changes_text rs t l k i ≡ false
            pick (inr e) = ap (λ (b : Bool). b && own i) e
            pick (inl e) =
                ap (λ (b : Bool). update_in rs t i && (b && side_is l (record_side (record_in rs i)))) (away i h e) ∙ and-false (update_in rs t i)
