-- Pairs in circulation: what is known of a pair by the proposals made so far. Assumes nothing.
use Prim.Native.Nat.{ℕ, suc, ◌+◌, ◌≤◌, ◌<◌, max}
use native.Mathlib.Omega.{arith}
use mathlib.Core.Path.{◌≡◌, refl, sym, ap, subst, ◌∙◌}
use mathlib.Core.Logic.{◌⊎◌, inl, inr}
use mathlib.Core.List.{List, [], ◌∷◌, ◌++◌}
use mathlib.Core.Bool.{Bool, true, false, cond}
use borrow.Author.Tests.{eqb-true, ltb-true, ltb-false}
use lib.Dec.{eqb, ltb}
use lib.ListN.{length}
use Rattle.lists.specs.Search.{filter}
use Rattle.lists.proofs.Tests.{cases}
use Rattle.stamps.specs.Stamp.{stamp, stamp_t, shared, exclusive, stamp_valid, larger_of_each, no_pair}
use Rattle.stamps.specs.declared.Pair.{Pair}
use Rattle.stamps.proofs.Stamp.{max_one}
use Rattle.desk_proposals.specs.Propose.{next_t, own_above}
use Rattle.store_model.specs.Meaning.{Among}
use Rattle.store_model.proofs.Meaning.{among_here, among_later}
use Rattle.desk_system.specs.System.{Made, with}
use Rattle.desk_system.specs.Progress.{made_for, proposals_for}

module _ {A : Type 0} where
  pub among_none : {P : Type 0} {a : A} → Among a [] → P
  among_none {P} {a} m = go m.front m.split
    where
      go : (f : List A) → [] ≡ f ++ a ∷ m.back → P
      go [] e = let z : ◌≡◌ {A = ℕ} 0 1 = cc in absurd (omega arith)
      go (b ∷ f) e = let z : ◌≡◌ {A = ℕ} 0 1 = cc in absurd (omega arith)

  pub among_cases : {a b : A} {l : List A} → Among a (b ∷ l) → (a ≡ b) ⊎ Among a l
  among_cases {a} {b} {l} m = go m.front m.split
    where
      go : (f : List A) → b ∷ l ≡ f ++ a ∷ m.back → (a ≡ b) ⊎ Among a l
      go [] e = inl (cc)
      go (d ∷ f) e = inr (record { front = f; back = m.back; split = cc })

  pub among_both : {a : A} (s l : List A) → Among a (s ++ l) → Among a s ⊎ Among a l
  among_both [] l m = inr m
  among_both {a} (b ∷ s) l m = go (among_cases m) (among_both s l)
    where
      go : (a ≡ b) ⊎ Among a (s ++ l) → (Among a (s ++ l) → Among a s ⊎ Among a l) → Among a (b ∷ s) ⊎ Among a l
      go (inl e) rest = inl (subst (λ (d : A). Among a (d ∷ s)) e (among_here a s))
      go (inr n) rest = pick (rest n)
        where
          pick : Among a s ⊎ Among a l → Among a (b ∷ s) ⊎ Among a l
          pick (inl h) = inl (among_later b h)
          pick (inr h) = inr h

  -- What holds at place k of a and elsewhere of f holds everywhere of f with a at k.
  pub with_all : (P : ℕ → A → Type 0) (k : ℕ) (a : A) (f : ℕ → A) → P k a → ((j : ℕ) → P j (f j)) → (j : ℕ) → P j (with k a f j)
  with_all P k a f pa pf j = go (cases (eqb j k))
    where
      go : (eqb j k ≡ true) ⊎ (eqb j k ≡ false) → P j (with k a f j)
      go (inl h) = rw h (subst (λ (i : ℕ). P i a) (sym (eqb-true j k h)) pa)
      go (inr h) = rw h (pf j)

-- An exclusive proposal for card k under the stamp x.
pub record Under (made : List Made) (k x : ℕ) : Type 0 where
  pub m : Made
  pub among : Among m made
  pub card : m.card ≡ k
  pub mode : m.mode ≡ exclusive
  pub stamp : m.pair.x ≡ x

-- A stamp that so many proposals account for: there is none, or its T is below their number.
abbrev pub Dated : ℕ → ℕ → Type 0
Dated many n = (n ≡ 0) ⊎ (stamp_t n < many)

dated_more : {many more : ℕ} → many ≤ more → (n : ℕ) → Dated many n → Dated more n
dated_more h n (inl e) = inl e
dated_more h n (inr l) = inr (omega (arith, h, l))

-- One more proposal, of any kind, and of this card and mode.
made_more : (k mode : ℕ) (new : Made) (made : List Made) → proposals_for k mode made ≤ proposals_for k mode (new ∷ made)
made_more k mode new made = go (made_for k mode new)
  where
    go : (b : Bool) → length (filter (made_for k mode) made) ≤ length (cond b (new ∷ filter (made_for k mode) made) (filter (made_for k mode) made))
    go true = omega arith
    go false = omega arith

made_one : (k mode : ℕ) (new : Made) (made : List Made) → made_for k mode new ≡ true → proposals_for k mode (new ∷ made) ≡ suc (proposals_for k mode made)
made_one k mode new made e = rw e

-- The T of a desk's next stamp is one more at the most.
pub next_most : (desk start n : ℕ) → next_t desk start n ≤ stamp_t n + 1
unfolding next_t
next_most desk start n = go (ltb n (stamp (stamp_t n) desk start))
  where
    go : (b : Bool) → cond b (stamp_t n) (stamp_t n + 1) ≤ stamp_t n + 1
    go true = omega arith
    go false = omega arith

-- So one more proposal accounts for it.
pub next_dated : (desk start n many : ℕ) → desk < 65536 → start < 65536 → (desk ≡ 0 → ⊥) → Dated many n → Dated (suc many) (own_above desk start n)
unfolding next_t
next_dated desk start n many d i some (inl e) = inr (go (ltb n (stamp (stamp_t n) desk start)) refl)
  where
    go : (b : Bool) → ltb n (stamp (stamp_t n) desk start) ≡ b → stamp_t (stamp (cond b (stamp_t n) (stamp_t n + 1)) desk start) < suc many
    go true h = omega (arith, d, i, e)
    go false h = absurd (some (omega (arith, ltb-false n (stamp (stamp_t n) desk start) h, e)))
next_dated desk start n many d i some (inr l) = inr (omega (arith, d, i, l, next_most desk start n))

-- A pair for card k is backed: its s is at least that of every exclusive proposal under its x, its x, if there is one, was proposed, its stamps are valid, and the proposals
-- for the card account for them.
pub record Backed (made : List Made) (k : ℕ) (p : Pair) : Type 0 where
  pub valid_s : stamp_valid p.s ≡ true
  pub valid_x : stamp_valid p.x ≡ true
  pub covers : (m : Made) → Among m made → m.card ≡ k → m.mode ≡ exclusive → m.pair.x ≡ p.x → m.pair.s ≤ p.s
  pub stems : (p.x ≡ 0 → ⊥) → Under made k p.x
  pub dated_s : Dated (proposals_for k shared made) p.s
  pub dated_x : Dated (proposals_for k exclusive made) p.x

-- Exclusive proposals have a stamp.
abbrev pub Stamped : List Made → Type 0
Stamped made = (m : Made) → Among m made → m.mode ≡ exclusive → m.pair.x ≡ 0 → ⊥

pub backed_none : {made : List Made} → Stamped made → (k : ℕ) → Backed made k no_pair
backed_none s k = record { valid_s = refl; valid_x = refl; covers = λ m a c e z. absurd (s m a e z); stems = λ h. absurd (h refl); dated_s = inl refl; dated_x = inl refl }

-- The larger of each of two backed pairs is backed: its x is that of one of them, and its s is at least both.
pub backed_larger : {made : List Made} {k : ℕ} (p q : Pair) → Backed made k p → Backed made k q → Backed made k (larger_of_each p q)
backed_larger {made} {k} p q bp bq = go (cases (ltb p.x q.x))
  where
    both_s : stamp_valid (max p.s q.s) ≡ true
    both_s = max_one (λ (n : ℕ). stamp_valid n ≡ true) p.s q.s bp.valid_s bq.valid_s

    both_x : stamp_valid (max p.x q.x) ≡ true
    both_x = max_one (λ (n : ℕ). stamp_valid n ≡ true) p.x q.x bp.valid_x bq.valid_x

    date_s : Dated (proposals_for k shared made) (max p.s q.s)
    date_s = max_one (Dated (proposals_for k shared made)) p.s q.s bp.dated_s bq.dated_s

    date_x : Dated (proposals_for k exclusive made) (max p.x q.x)
    date_x = max_one (Dated (proposals_for k exclusive made)) p.x q.x bp.dated_x bq.dated_x

    go : (ltb p.x q.x ≡ true) ⊎ (ltb p.x q.x ≡ false) → Backed made k (larger_of_each p q)
    go (inl h) =
        let less = ltb-true p.x q.x h in
        let is : max p.x q.x ≡ q.x = omega arith in
        record {
          valid_s = both_s;
          valid_x = both_x;
          covers = λ m a c e z. let low = bq.covers m a c e (z ∙ is) in omega arith;
          stems = λ z. subst (Under made k) (sym is) (bq.stems (λ w. z (is ∙ w)));
          dated_s = date_s;
          dated_x = date_x;
        }
    go (inr h) =
        let less = ltb-false p.x q.x h in
        let is : max p.x q.x ≡ p.x = omega arith in
        record {
          valid_s = both_s;
          valid_x = both_x;
          covers = λ m a c e z. let low = bp.covers m a c e (z ∙ is) in omega arith;
          stems = λ z. subst (Under made k) (sym is) (bp.stems (λ w. z (is ∙ w)));
          dated_s = date_s;
          dated_x = date_x;
        }

pub dated_later : (made : List Made) (k : ℕ) (new : Made) (mode n : ℕ) → Dated (proposals_for k mode made) n → Dated (proposals_for k mode (new ∷ made)) n
dated_later made k new mode n d = dated_more (made_more k mode new made) n d

pub dated_own : (made : List Made) (k : ℕ) (new : Made) (mode desk start n : ℕ) → made_for k mode new ≡ true → desk < 65536 → start < 65536 → (desk ≡ 0 → ⊥)
    → Dated (proposals_for k mode made) n
    → Dated (proposals_for k mode (new ∷ made)) (own_above desk start n)
dated_own made k new mode desk start n h d i some old =
    subst (λ (many : ℕ). Dated many (own_above desk start n)) (sym (made_one k mode new made h)) (next_dated desk start n (proposals_for k mode made) d i some old)

-- One more proposal: a pair stays backed if the proposal is not an exclusive one of its card under its x.
pub under_more : {made : List Made} {k x : ℕ} (new : Made) → Under made k x → Under (new ∷ made) k x
under_more new u =
    record { m = u.m; among = among_later new u.among; card = u.card; mode = u.mode; stamp = u.stamp }

pub backed_more : {made : List Made} {k : ℕ} {p : Pair} (new : Made) → (new.card ≡ k → new.mode ≡ exclusive → new.pair.x ≡ p.x → ⊥)
    → Backed made k p
    → Backed (new ∷ made) k p
backed_more {made} {k} {p} new other b =
    record {
      valid_s = b.valid_s;
      valid_x = b.valid_x;
      covers = λ m a c e z. go m c e z (among_cases a);
      stems = λ z. under_more new (b.stems z);
      dated_s = dated_later made k new shared p.s b.dated_s;
      dated_x = dated_later made k new exclusive p.x b.dated_x;
    }
  where
    go : (m : Made) → m.card ≡ k → m.mode ≡ exclusive → m.pair.x ≡ p.x → (m ≡ new) ⊎ Among m made → m.pair.s ≤ p.s
    go m c e z (inl same) =
        absurd
        (other (ap (λ (d : Made). d.card) (sym same) ∙ c) (ap (λ (d : Made). d.mode) (sym same) ∙ e)
        (ap (λ (d : Made). d.pair.x) (sym same) ∙ z))
    go m c e z (inr a) = b.covers m a c e z
