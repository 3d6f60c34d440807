-- What one line more says of a card. Assumes nothing.
use Prim.Native.Nat.{ℕ, suc, ◌+◌, ◌<◌}
use native.Mathlib.Omega.{arith}
use native.Mathlib.Numerals.{add-one}
use mathlib.Core.Path.{◌≡◌, refl, sym, ap, ◌∙◌}
use mathlib.Core.List.{List}
use mathlib.Core.Bool.{Bool, true, false, cond, not, ◌&&◌, ◌||◌, and-false, or-false}
use borrow.Author.Tests.{le-ltb}
use lib.Dec.{eqb, ltb, leb}
use Rattle.lists.specs.Parts.{every}
use Rattle.lists.specs.Search.{any}
use Rattle.lists.proofs.Tests.{and_left, and_right, never_both}
use Rattle.redo_log.specs.Log.{LogRecord, update_kind, most_records, record_card, record_count, records}
use Rattle.redo_log.specs.inner.Placed.{Placed, placed_at}
use Rattle.redo_log.proofs.ReadBack.{record_of}
use Rattle.redo_recovery_model.specs.Recovery.{record_in, transaction_in, commits_to, syncs_from, due}
use Rattle.transactions.specs.System.{due_for, written_out, update_in}
use Rattle.transaction_steps.specs.Steps.{first_of, first_due, last_due, updates_card}
use Rattle.transaction_steps.specs.inner.Surveyed.{surveyed}
use Rattle.transaction_steps.specs.declared.inner.Survey.{Survey}

abbrev pub survey : Bool → ℕ → ℕ → Bool → Survey
survey due line transaction changed = record { due = due; line = line; transaction = transaction; changed = changed }

same_survey : {a b : Bool} {l m t u : ℕ} {c d : Bool} → a ≡ b → l ≡ m → t ≡ u → c ≡ d → survey a l t c ≡ survey b m u d
same_survey e f g h = rw (e, f, g, h)

-- One line more of a test that holds of none so far.
grown : (e d : Bool) → not (e && not d) ≡ (not e || d)
grown true true = refl
grown true false = refl
grown false d = refl

module _ (rs : List LogRecord) (k reach t i : ℕ) where
  abbrev updates : Bool
  updates = eqb (record_in rs i).kind update_kind

  abbrev here : Bool
  here = eqb (record_card (record_in rs i)) k

  due_grown : not (written_out rs k 0 (suc i)) ≡ (not (written_out rs k 0 i) || due_for rs k i)
  unfolding every
  due_grown = ap (λ (b : Bool). not (written_out rs k 0 i && (b || not (due_for rs k i)))) (le-ltb i 0 (omega arith)) ∙ grown (written_out rs k 0 i) (due_for rs k i)

  changes_grown : updates_card rs t k (suc i) ≡ (updates_card rs t k i || update_in rs t i && here)
  unfolding every
  changes_grown = grown (every (λ j. not (update_in rs t j && eqb (record_card (record_in rs j)) k)) i) (update_in rs t i && here)

  line_grown : first_due rs k reach (suc i) ≡ first_of (first_due rs k reach i) (leb reach i && due_for rs k i) i
  unfolding first_due
  line_grown = refl

  last_grown : last_due rs k (suc i) ≡ cond (due_for rs k i) (transaction_in rs i) (last_due rs k i)
  unfolding last_due
  last_grown = refl

  -- A line that is no update of the card.
  never_due : (updates && here) ≡ false → due_for rs k i ≡ false
  unfolding due
  never_due e = outside updates (any (commits_to (transaction_in rs i)) rs) (not (any (syncs_from (record_card (record_in rs i)) (transaction_in rs i)) rs)) here e
    where
      outside : (a b c d : Bool) → (a && d) ≡ false → (a && b && c && d) ≡ false
      outside true b c true e = absurd (never_both refl e)
      outside true b c false e = and-false (b && c)
      outside false b c d e = refl

  never_updates : (updates && here) ≡ false → (update_in rs t i && here) ≡ false
  never_updates e = outside updates (eqb (transaction_in rs i) t) here e
    where
      outside : (a b d : Bool) → (a && d) ≡ false → (a && b && d) ≡ false
      outside true b d e = rw e (and-false b)
      outside false b d e = refl

  pub surveyed_same : (updates && here) ≡ false → surveyed rs k reach t i ≡ surveyed rs k reach t (i + 1)
  unfolding surveyed
  surveyed_same e =
      let a : not (written_out rs k 0 i) ≡ not (written_out rs k 0 (suc i)) =
      sym (due_grown ∙ ap (λ (b : Bool). not (written_out rs k 0 i) || b) (never_due e) ∙ or-false (not (written_out rs k 0 i))) in
      let l : first_due rs k reach i ≡ first_due rs k reach (suc i) =
      sym (line_grown ∙ ap (λ (b : Bool). first_of (first_due rs k reach i) (leb reach i && b) i) (never_due e) ∙ first_none (first_due rs k reach i) (leb reach i)) in
      let u : last_due rs k i ≡ last_due rs k (suc i) = sym (last_grown ∙ ap (λ (b : Bool). cond b (transaction_in rs i) (last_due rs k i)) (never_due e)) in
      let c : updates_card rs t k i ≡ updates_card rs t k (suc i) = sym (changes_grown ∙ ap (λ (b : Bool). updates_card rs t k i || b) (never_updates e) ∙ or-false (updates_card rs t k i)) in
      rw add-one (same_survey a l u c)
    where
      first_none : (x : ℕ) (b : Bool) → first_of x (b && false) i ≡ x
      first_none x b = rw (and-false b) (go (ltb x most_records))
        where
          go : (c : Bool) → cond c x x ≡ x
          go true = refl
          go false = refl

  -- An update of the card.
  pub surveyed_more : (updates && here) ≡ true → {is : Bool} {last : ℕ} → is ≡ due rs i → last ≡ transaction_in rs i
      → survey ((surveyed rs k reach t i).due || is) (first_of (surveyed rs k reach t i).line (leb reach i && is) i)
      (cond is last (surveyed rs k reach t i).transaction) ((surveyed rs k reach t i).changed || eqb last t)
      ≡ surveyed rs k reach t (i + 1)
  unfolding surveyed
  surveyed_more e {is} {last} d l =
      let is_due_lem : due_for rs k i ≡ is = rw (and_right updates here e, d) (and-true (due rs i)) in
      let is-new : (update_in rs t i && here) ≡ eqb last t = rw (and_left updates here e, and_right updates here e, l) (and-true (eqb (transaction_in rs i) t)) in
      let a : (not (written_out rs k 0 i) || is) ≡ not (written_out rs k 0 (suc i)) = sym (due_grown ∙ ap (λ (b : Bool). not (written_out rs k 0 i) || b) is_due_lem) in
      let f : first_of (first_due rs k reach i) (leb reach i && is) i ≡ first_due rs k reach (suc i) =
      sym (line_grown ∙ ap (λ (b : Bool). first_of (first_due rs k reach i) (leb reach i && b) i) is_due_lem) in
      let u : cond is last (last_due rs k i) ≡ last_due rs k (suc i) =
      sym (last_grown ∙ ap (λ (b : Bool). cond b (transaction_in rs i) (last_due rs k i)) is_due_lem ∙ ap (λ (m : ℕ). cond is m (last_due rs k i)) (sym l)) in
      let c : (updates_card rs t k i || eqb last t) ≡ updates_card rs t k (suc i) = sym (changes_grown ∙ ap (λ (b : Bool). updates_card rs t k i || b) is-new) in
      rw add-one (same_survey a f u c)
    where
      and-true : (b : Bool) → (b && true) ≡ b
      and-true true = refl
      and-true false = refl

  -- The same of what was found so far, with what the code makes of it.
  pub surveyed_with : (found : Survey) {is : Bool} {last line transaction : ℕ} → found ≡ surveyed rs k reach t i
      → (updates && here) ≡ true
      → is ≡ due rs i
      → last ≡ transaction_in rs i
      → line ≡ first_of found.line (leb reach i && is) i
      → transaction ≡ cond is last found.transaction
      → survey (found.due || is) line transaction (found.changed || eqb last t) ≡ surveyed rs k reach t (i + 1)
  surveyed_with found {is} {last} {line} {transaction} f e d l a b =
      ap (λ (m : ℕ). survey (found.due || is) m transaction (found.changed || eqb last t)) a
      ∙ ap (λ (m : ℕ). survey (found.due || is) (first_of found.line (leb reach i && is) i) m (found.changed || eqb last t)) b
      ∙ ap (λ (q : Survey). survey (q.due || is) (first_of q.line (leb reach i && is) i) (cond is last q.transaction) (q.changed || eqb last t)) f
      ∙ surveyed_more e d l

pub surveyed_none : (rs : List LogRecord) (k reach t : ℕ) → survey false 200 0 false ≡ surveyed rs k reach t 0
unfolding surveyed every first_due last_due
surveyed_none rs k reach t = refl

-- ---- a record of the log

module _ (log : List ℕ) (i k : ℕ) (h : i < record_count log) where
  -- The test of the code, of the record that the list has there.
  pub update_there : {p : Placed} → p ≡ placed_at log i
      → (eqb p.entry.kind update_kind && eqb (record_card p.entry) k) ≡ (eqb (record_in (records log) i).kind update_kind && eqb (record_card (record_in (records log) i)) k)
  update_there e = rw (record_of log i h, e)
