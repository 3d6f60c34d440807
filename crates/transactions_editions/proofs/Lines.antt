-- Whether a translation is current, line by line: laws of what is due, and of one record more. Assumes nothing.
use Prim.Native.Nat.{ℕ, zero, suc, ◌≤◌, ◌<◌}
use native.Mathlib.Omega.{arith}
use mathlib.Core.Path.{◌≡◌, refl, sym, ap, ◌∙◌}
use mathlib.Core.Logic.{◌⊎◌, inl, inr}
use mathlib.Core.List.{List}
use mathlib.Core.Bool.{Bool, true, false, cond, not, ◌&&◌, ◌||◌}
use borrow.Author.Tests.{ltb-true, ltb-false}
use lib.ListN.{length}
use lib.Dec.{eqb, ltb}
use Rattle.lists.proofs.Tests.{cases, and_left, and_right, and_in}
use Rattle.commands.specs.Command.{Language, original, translation}
use Rattle.redo_log.specs.Log.{LogRecord, commit_kind, record_card, record_side, record_transaction, opened}
use Rattle.redo_recovery_model.specs.Recovery.{record_in, transaction_in, due}
use Rattle.redo_recovery_model.specs.Claims.{side_is, rewrites}
use Rattle.transactions.specs.System.{due_for, update_in, changes_text}
use Rattle.transactions.proofs.Records.{more, length_more, in_old, due_past, Ordered, Followed}
use Rattle.transactions.proofs.Due.{placed, outside, hit, miss, earlier}
use Rattle.transactions_editions.specs.Editions.{brings_current, current_with, current_by}

-- ---- a line is due where it is due in one language or the other

two_sides : (a b s : Bool) → (a && b) ≡ (a && (b && s) || a && (b && not s))
two_sides true true true = refl
two_sides true true false = refl
two_sides true false s = refl
two_sides false b s = refl

pub due_two : (rs : List LogRecord) (k i : ℕ) → due_for rs k i ≡ (rewrites rs original k i || rewrites rs (translation 0) k i)
due_two rs k i = two_sides (due rs i) (eqb (record_card (record_in rs i)) k) (eqb (record_side (record_in rs i)) 1)

updates_two : (rs : List LogRecord) (t k i : ℕ) → (update_in rs t i && eqb (record_card (record_in rs i)) k) ≡ (changes_text rs t original k i || changes_text rs t (translation 0) k i)
updates_two rs t k i = two_sides (update_in rs t i) (eqb (record_card (record_in rs i)) k) (eqb (record_side (record_in rs i)) 1)

either : (a b p q : Bool) → a ≡ p → b ≡ q → (a || b) ≡ (p || q)
either a b p q e f = rw (e, f)

-- Lines are due for a card where they rewrite it.
pub due_as : (rs new : List LogRecord) (k i j : ℕ) → ((l : Language) → rewrites new l k j ≡ rewrites rs l k i) → due_for new k j ≡ due_for rs k i
due_as rs new k i j e =
    due_two new k j
    ∙ either (rewrites new original k j) (rewrites new (translation 0) k j) (rewrites rs original k i) (rewrites rs (translation 0) k i) (e original) (e (translation 0))
    ∙ sym (due_two rs k i)

pub due_none : (rs : List LogRecord) (k i : ℕ) → ((l : Language) → rewrites rs l k i ≡ false) → due_for rs k i ≡ false
due_none rs k i e = due_two rs k i ∙ either (rewrites rs original k i) (rewrites rs (translation 0) k i) false false (e original) (e (translation 0))

-- A line that rewrites a text of the card is due for it.
pub due_of : (rs : List LogRecord) (k i : ℕ) (l : Language) → rewrites rs l k i ≡ true → due_for rs k i ≡ true
due_of rs k i l e = and_in (and_left (due rs i) (eqb (record_card (record_in rs i)) k && side_is l (record_side (record_in rs i))) e)
    (and_left (eqb (record_card (record_in rs i)) k) (side_is l (record_side (record_in rs i)))
    (and_right (due rs i) (eqb (record_card (record_in rs i)) k && side_is l (record_side (record_in rs i))) e))

pub past_due : (rs : List LogRecord) (k i : ℕ) → length rs ≤ i → due_for rs k i ≡ false
past_due rs k i h = ap (λ (b : Bool). b && eqb (record_card (record_in rs i)) k) (due_past rs i h)

-- ---- what the lines that are due leave

module _ (rs : List LogRecord) (k : ℕ) where
  pub by_none : (n m : ℕ) (c : Bool) → n ≤ m → ((i : ℕ) → n ≤ i → i < m → due_for rs k i ≡ false) → current_by rs k m c ≡ current_by rs k n c
  unfolding current_by
  by_none n zero c h f = let z : n ≡ 0 = omega arith in rw z
  by_none n (suc m) c h f = go (placed n (suc m)) (λ (g : n ≤ m). by_none n m c g (λ i a b. f i a (omega arith)))
    where
      go : (n < suc m) ⊎ (n ≡ suc m) ⊎ (suc m < n) → (n ≤ m → current_by rs k m c ≡ current_by rs k n c)
          → cond (due_for rs k m) (brings_current rs m) (current_by rs k m c) ≡ current_by rs k n c
      go (inl g) rest = ap (λ (b : Bool). cond b (brings_current rs m) (current_by rs k m c)) (f m (omega arith) (omega arith)) ∙ rest (omega arith)
      go (inr (inl g)) rest = sym (ap (λ (i : ℕ). current_by rs k i c) g)
      go (inr (inr g)) rest = absurd (omega arith)

  pub by_first : (c : Bool) → current_by rs k 0 c ≡ c
  unfolding current_by
  by_first c = refl

  pub by_clear : (n : ℕ) (c : Bool) → ((i : ℕ) → due_for rs k i ≡ false) → current_by rs k n c ≡ c
  by_clear n c f = by_none 0 n c (omega arith) (λ i a b. f i) ∙ by_first c

  pub by_line : (i : ℕ) (c : Bool) → due_for rs k i ≡ true → current_by rs k (suc i) c ≡ brings_current rs i
  unfolding current_by
  by_line i c e = ap (λ (b : Bool). cond b (brings_current rs i) (current_by rs k i c)) e

  pub by_some : (n i : ℕ) → i < n → due_for rs k i ≡ true → (a b : Bool) → current_by rs k n a ≡ current_by rs k n b
  unfolding current_by
  by_some zero i h e a b = absurd (omega arith)
  by_some (suc n) i h e a b = go (placed i n) (λ (g : i < n). by_some n i g e a b)
    where
      go : (i < n) ⊎ (i ≡ n) ⊎ (n < i) → (i < n → current_by rs k n a ≡ current_by rs k n b)
          → cond (due_for rs k n) (brings_current rs n) (current_by rs k n a) ≡ cond (due_for rs k n) (brings_current rs n) (current_by rs k n b)
      go (inl g) rest = ap (λ (c : Bool). cond (due_for rs k n) (brings_current rs n) c) (rest g)
      go (inr (inl g)) rest =
          let hits : due_for rs k n ≡ true = ap (due_for rs k) (sym g) ∙ e in
          rw hits
      go (inr (inr g)) rest = absurd (omega arith)

  -- Either nothing is due among the first n, or what was before them makes no difference.
  settles : (n : ℕ) → ((a b : Bool) → current_by rs k n a ≡ current_by rs k n b) ⊎ ((a : Bool) → current_by rs k n a ≡ a)
  unfolding current_by
  settles zero = inr (λ a. refl)
  settles (suc n) = go (due_for rs k n) refl (settles n)
    where
      go : (t : Bool) → due_for rs k n ≡ t → ((a b : Bool) → current_by rs k n a ≡ current_by rs k n b) ⊎ ((a : Bool) → current_by rs k n a ≡ a)
          → ((a b : Bool) → cond (due_for rs k n) (brings_current rs n) (current_by rs k n a) ≡ cond (due_for rs k n) (brings_current rs n) (current_by rs k n b))
          ⊎ ((a : Bool) → cond (due_for rs k n) (brings_current rs n) (current_by rs k n a) ≡ a)
      go true e h = inl (λ a b. rw e)
      go false e (inl h) = inl (λ a b. rw e (h a b))
      go false e (inr h) = inr (λ a. rw e (h a))

  pub by_again : (n : ℕ) (a : Bool) → current_by rs k n (current_by rs k n a) ≡ current_by rs k n a
  by_again n a = go (settles n)
    where
      go : ((a b : Bool) → current_by rs k n a ≡ current_by rs k n b) ⊎ ((a : Bool) → current_by rs k n a ≡ a) → current_by rs k n (current_by rs k n a) ≡ current_by rs k n a
      go (inl h) = h (current_by rs k n a) a
      go (inr h) = h (current_by rs k n a)

  pub by_over : (n m : ℕ) (a : Bool) → m ≤ n → current_by rs k n (current_by rs k m a) ≡ current_by rs k n a
  unfolding current_by
  by_over zero m a h = let z : m ≡ 0 = omega arith in rw z
  by_over (suc n) m a h = go (placed m (suc n)) (λ (g : m ≤ n). by_over n m a g)
    where
      go : (m < suc n) ⊎ (m ≡ suc n) ⊎ (suc n < m) → (m ≤ n → current_by rs k n (current_by rs k m a) ≡ current_by rs k n a)
          → current_by rs k (suc n) (current_by rs k m a) ≡ current_by rs k (suc n) a
      go (inl g) rest = ap (λ (c : Bool). cond (due_for rs k n) (brings_current rs n) c) (rest (omega arith))
      go (inr (inl g)) rest = ap (λ (i : ℕ). current_by rs k (suc n) (current_by rs k i a)) g ∙ by_again (suc n) a
      go (inr (inr g)) rest = absurd (omega arith)

-- ---- one record more

module _ (rs : List LogRecord) (r : LogRecord) (k : ℕ) where
  brings_old : (i : ℕ) → i < length rs → brings_current (more rs r) i ≡ brings_current rs i
  brings_old i h = ap (λ (q : LogRecord). not (eqb (record_side q) 1)) (in_old rs r i h)

  -- It changes nothing of what is due for the card.
  module _ (e : (i : ℕ) → due_for (more rs r) k i ≡ due_for rs k i) where
    pub by_same : (n : ℕ) (c : Bool) → current_by (more rs r) k n c ≡ current_by rs k n c
    unfolding current_by
    by_same zero c = refl
    by_same (suc n) c = go (cases (ltb n (length rs))) (by_same n c)
      where
        go : (ltb n (length rs) ≡ true) ⊎ (ltb n (length rs) ≡ false) → current_by (more rs r) k n c ≡ current_by rs k n c
            → cond (due_for (more rs r) k n) (brings_current (more rs r) n) (current_by (more rs r) k n c) ≡ cond (due_for rs k n) (brings_current rs n) (current_by rs k n c)
        go (inl h) rest = rw (e n, brings_old n (ltb-true n (length rs) h), rest)
        go (inr h) rest = rw (e n, past_due rs k n (ltb-false n (length rs) h), rest)

    pub by_same_all : (c : Bool) → current_by (more rs r) k (length (more rs r)) c ≡ current_by rs k (length rs) c
    by_same_all c = by_same (length (more rs r)) c ∙ by_none rs k (length rs) (length (more rs r)) c (omega (arith, length_more rs r)) (λ i a b. past_due rs k i a)

  -- It commits.
  module _ (o : Ordered rs) (f : Followed (transaction_in rs (length rs)) (opened (record_in rs) (length rs)) r) (commits : eqb r.kind commit_kind ≡ true) where
    abbrev t : ℕ
    t = record_transaction r

    abbrev updates : ℕ → Bool
    updates i = update_in rs t i && eqb (record_card (record_in rs i)) k

    none_of_it : (i : ℕ) → ((l : Language) → changes_text rs t l k i ≡ false) → updates i ≡ false
    none_of_it i e = updates_two rs t k i ∙ either (changes_text rs t original k i) (changes_text rs t (translation 0) k i) false false (e original) (e (translation 0))

    pub with_none : (n : ℕ) (c : Bool) → ((i : ℕ) → i < n → updates i ≡ false) → current_with rs t k n c ≡ c
    unfolding current_with
    with_none zero c h = refl
    with_none (suc n) c h = rw (h n (omega arith)) (with_none n c (λ i a. h i (omega arith)))

    by_commit : (n : ℕ) (c : Bool) → n ≤ length rs → current_by (more rs r) k n c ≡ current_with rs t k n (current_by rs k n c)
    unfolding current_by current_with
    by_commit zero c h = refl
    by_commit (suc n) c h =
        ap (λ (v : Bool). cond (due_for (more rs r) k n) v (current_by (more rs r) k n c)) (brings_old n h)
        ∙ ap (λ (w : Bool). cond (due_for (more rs r) k n) (brings_current rs n) w) (by_commit n c (omega arith))
        ∙ go (cases (eqb (transaction_in rs n) t))
      where
        v : Bool
        v = brings_current rs n

        w : Bool
        w = current_by rs k n c

        on_top : (b : Bool) → eqb (transaction_in rs n) t ≡ false → cond b v (current_with rs t k n w) ≡ current_with rs t k n (cond b v w)
        on_top true e = sym (with_none n v (λ j a. none_of_it j (λ l. earlier rs r o f commits l k n h e j a)))
        on_top false e = refl

        go : (eqb (transaction_in rs n) t ≡ true) ⊎ (eqb (transaction_in rs n) t ≡ false)
            → cond (due_for (more rs r) k n) v (current_with rs t k n w) ≡ cond (updates n) v (current_with rs t k n (cond (due_for rs k n) v w))
        go (inl e) =
            let was : due_for rs k n ≡ false = due_none rs k n (λ l. (hit rs r o f commits l k n h e).0) in
            let is : due_for (more rs r) k n ≡ updates n =
            due_two (more rs r) k n
            ∙ either (rewrites (more rs r) original k n) (rewrites (more rs r) (translation 0) k n) (changes_text rs t original k n)
            (changes_text rs t (translation 0) k n) (hit rs r o f commits original k n h e).1 (hit rs r o f commits (translation 0) k n h e).1
            ∙ sym (updates_two rs t k n) in
            ap (λ (b : Bool). cond b v (current_with rs t k n w)) is
            ∙ ap (λ (b : Bool). cond (updates n) v (current_with rs t k n (cond b v w))) (sym was)
        go (inr e) =
            let same : due_for (more rs r) k n ≡ due_for rs k n = due_as rs (more rs r) k n n (λ l. (miss rs r o f commits l k n h e).0) in
            let none : updates n ≡ false = none_of_it n (λ l. (miss rs r o f commits l k n h e).1) in
            ap (λ (b : Bool). cond b v (current_with rs t k n w)) same
            ∙ on_top (due_for rs k n) e
            ∙ ap (λ (b : Bool). cond b v (current_with rs t k n (cond (due_for rs k n) v w))) (sym none)

    pub by_commit_all : (c : Bool) → current_by (more rs r) k (length (more rs r)) c ≡ current_with rs t k (length rs) (current_by rs k (length rs) c)
    by_commit_all c =
        by_none (more rs r) k (length rs) (length (more rs r)) c (omega (arith, length_more rs r)) (λ i a b. due_none (more rs r) k i (λ l. outside rs r o f l k i a))
        ∙ by_commit (length rs) c (omega arith)
