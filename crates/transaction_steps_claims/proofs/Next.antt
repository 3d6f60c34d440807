-- What each next step stands on. Assumes nothing.
use Prim.Native.Nat.{ℕ, zero, suc, ◌≤◌}
use native.Mathlib.Omega.{arith}
use mathlib.Core.Path.{◌≡◌, refl, sym, ap, ◌∙◌, subst}
use mathlib.Core.Logic.{◌⊎◌, inl, inr}
use mathlib.Core.List.{List}
use mathlib.Core.Bool.{Bool, true, false, cond, not, ◌&&◌, ◌||◌}
use borrow.Author.Tests.{eq-eqb, ltb-true, lt-ltb, ltb-false, le-leb, leb-true}
use lib.ListN.{length}
use lib.Dec.{eqb, ltb, leb}
use Rattle.lists.specs.Parts.{every}
use Rattle.lists.specs.Search.{any}
use Rattle.lists.proofs.Every.{every_in, every_out}
use Rattle.lists.proofs.Tests.{cases, never_both, and_left, and_right, and_in, and_fails, or_left, or_right, or_cases}
use Rattle.commands.specs.Command.{original, translation}
use Rattle.redo_log.specs.Log.{LogRecord, update_kind, most_records, record_card, record_side}
use Rattle.redo_recovery_model.specs.Recovery.{record_in, transaction_in, commits_to, syncs_from, due}
use Rattle.redo_recovery_model.specs.Claims.{side_is}
use Rattle.transactions.specs.System.{due_for, written_out}
use Rattle.transactions.proofs.Kept.{Clear}
use Rattle.transaction_steps.specs.declared.LastSeen.{LastSeen}
use Rattle.transaction_steps.specs.Steps.{
  ToldStep,
  plain_step,
  nothing_step,
  look_step,
  prepare_step,
  ready_step,
  write_step,
  release_step,
  note_step,
  wait_step,
  first_due,
  last_due,
  wants,
  next_step,
}

-- ---- the lines of a card

module _ (rs : List LogRecord) (k : ℕ) where
  -- Nothing due is nothing due from a line on.
  pub out_from : (m n : ℕ) → written_out rs k 0 n ≡ true → written_out rs k m n ≡ true
  out_from m n e =
      every_in (λ j. ltb j m || not (due_for rs k j)) n
      (λ i h. or_right (ltb i m) (late i (or_cases (ltb i 0) (not (due_for rs k i)) (every_out (λ j. ltb j 0 || not (due_for rs k j)) n e i h))))
    where
      late : (i : ℕ) → (ltb i 0 ≡ true) ⊎ (not (due_for rs k i) ≡ true) → not (due_for rs k i) ≡ true
      late i (inl a) = absurd (omega (arith, ltb-true i 0 a))
      late i (inr a) = a

  -- A card of which nothing is due, as a test.
  pub clear_out : Clear rs k → written_out rs k 0 (length rs) ≡ true
  clear_out q = every_in (λ j. ltb j 0 || not (due_for rs k j)) (length rs) (λ i h. or_right (ltb i 0) (ap not (none i (cases (eqb (record_side (record_in rs i)) 1)))))
    where
      and_two : (a b c : Bool) → c ≡ true → (a && (b && c)) ≡ false → (a && b) ≡ false
      and_two true true c e f = sym e ∙ f
      and_two true false c e f = refl
      and_two false b c e f = refl

      none : (i : ℕ) → (eqb (record_side (record_in rs i)) 1 ≡ true) ⊎ (eqb (record_side (record_in rs i)) 1 ≡ false) → due_for rs k i ≡ false
      none i (inl e) = and_two (due rs i) (eqb (record_card (record_in rs i)) k) (side_is original (record_side (record_in rs i))) e (q original i)
      none i (inr e) = and_two (due rs i) (eqb (record_card (record_in rs i)) k) (side_is (translation 0) (record_side (record_in rs i))) (ap not e) (q (translation 0) i)

  -- The transaction of the last line that is due is committed.
  pub last_committed : (n : ℕ) → written_out rs k 0 n ≡ false → any (commits_to (last_due rs k n)) rs ≡ true
  unfolding last_due every due
  last_committed zero e = absurd (never_both refl e)
  last_committed (suc i) e = go (last_committed i) (cases (due_for rs k i)) (and_fails (written_out rs k 0 i) (ltb i 0 || not (due_for rs k i)) e)
    where
      go : (written_out rs k 0 i ≡ false → any (commits_to (last_due rs k i)) rs ≡ true) → (due_for rs k i ≡ true) ⊎ (due_for rs k i ≡ false)
          → (written_out rs k 0 i ≡ false) ⊎ ((written_out rs k 0 i ≡ true) × ((ltb i 0 || not (due_for rs k i)) ≡ false))
          → any (commits_to (cond (due_for rs k i) (transaction_in rs i) (last_due rs k i))) rs ≡ true
      go earlier (inl a) f =
          let here : any (commits_to (transaction_in rs i)) rs ≡ true =
          and_right (eqb (record_in rs i).kind update_kind) (any (commits_to (transaction_in rs i)) rs)
          (and_left (eqb (record_in rs i).kind update_kind && any (commits_to (transaction_in rs i)) rs) (not (any (syncs_from (record_card (record_in rs i)) (transaction_in rs i)) rs))
          (and_left (due rs i) (eqb (record_card (record_in rs i)) k) a)) in
          subst (λ (b : Bool). any (commits_to (cond b (transaction_in rs i) (last_due rs k i))) rs ≡ true) (sym a) here
      go earlier (inr a) (inl f) = subst (λ (b : Bool). any (commits_to (cond b (transaction_in rs i) (last_due rs k i))) rs ≡ true) (sym a) (earlier f)
      go earlier (inr a) (inr f) = absurd (never_both (or_right (ltb i 0) (ap not a)) f.1)

  -- The first line that is due and not below the reach.
  pub data Found (reach n : ℕ) : Type 0 where
    line_at : ltb (first_due rs k reach n) most_records ≡ true → reach ≤ first_due rs k reach n
        → due_for rs k (first_due rs k reach n) ≡ true → written_out rs k reach (first_due rs k reach n) ≡ true → Found reach n
    no_line : ltb (first_due rs k reach n) most_records ≡ false → written_out rs k reach n ≡ true → Found reach n

  pub found : (reach n : ℕ) → n ≤ most_records → Found reach n
  unfolding first_due every
  found reach zero h = no_line refl refl
  found reach (suc i) h = go (found reach i (omega arith)) (cases (leb reach i && due_for rs k i))
    where
      before : ℕ
      before = first_due rs k reach i

      same : (x : ℕ) → x ≡ first_due rs k reach (suc i) → ltb x most_records ≡ true → reach ≤ x → due_for rs k x ≡ true → written_out rs k reach x ≡ true → Found reach (suc i)
      same x e a l b c =
          line_at (subst (λ (m : ℕ). ltb m most_records ≡ true) e a) (subst (λ (m : ℕ). reach ≤ m) e l) (subst (λ (m : ℕ). due_for rs k m ≡ true) e b)
          (subst (λ (m : ℕ). written_out rs k reach m ≡ true) e c)

      pick : (t is : Bool) → ltb before most_records ≡ t → (leb reach i && due_for rs k i) ≡ is → cond t before (cond is i before) ≡ first_due rs k reach (suc i)
      pick t is e f = sym (ap (λ (b : Bool). cond b before (cond (leb reach i && due_for rs k i) i before)) e ∙ ap (λ (b : Bool). cond t before (cond b i before)) f)

      go : Found reach i → ((leb reach i && due_for rs k i) ≡ true) ⊎ ((leb reach i && due_for rs k i) ≡ false) → Found reach (suc i)
      go (line_at a l b c) w = same before (pick true (leb reach i && due_for rs k i) a refl) a l b c
      go (no_line a b) (inl e) = same i (pick false true a e) (lt-ltb i most_records (omega arith))
          (leb-true reach i (and_left (leb reach i) (due_for rs k i) e)) (and_right (leb reach i) (due_for rs k i) e) b
      go (no_line a b) (inr e) =
          no_line (subst (λ (m : ℕ). ltb m most_records ≡ false) (pick false false a e) a) (and_in b (passed (and_fails (leb reach i) (due_for rs k i) e)))
        where
          passed : (leb reach i ≡ false) ⊎ ((leb reach i ≡ true) × (due_for rs k i ≡ false)) → (ltb i reach || not (due_for rs k i)) ≡ true
          passed (inl f) = or_left (not (due_for rs k i)) (below f)
            where
              below : leb reach i ≡ false → ltb i reach ≡ true
              below f = go_below (cases (ltb i reach))
                where
                  go_below : (ltb i reach ≡ true) ⊎ (ltb i reach ≡ false) → ltb i reach ≡ true
                  go_below (inl g) = g
                  go_below (inr g) = absurd (never_both (le-leb reach i (ltb-false i reach g)) f)
          passed (inr f) = or_right (ltb i reach) (ap not f.1)

-- ---- the rows of rule 16.25

module _ (d : ℕ) (rs : List LogRecord) (k : ℕ) (going : Bool) (v : LastSeen) where
  abbrev done : Bool
  done = written_out rs k 0 (length rs)

  abbrev line : ℕ
  line = first_due rs k v.reach (length rs)

  abbrev next : ToldStep
  next = next_step d rs k going v

  pub data Row : Type 0 where
    looks : next ≡ plain_step look_step → Row
    notes : v.known ≡ true → done ≡ false → eqb v.mark d ≡ false → next ≡ record { step = note_step; line = 0; transaction = last_due rs k (length rs) } → Row
    writes : v.known ≡ true → ltb line most_records ≡ true → next ≡ record { step = write_step; line = line; transaction = 0 } → Row
    finishes : ltb line most_records ≡ false → next ≡ plain_step release_step → Row
    prepares : done ≡ true → next ≡ plain_step prepare_step → Row
    waits : next ≡ plain_step wait_step → Row
    readies : v.known ≡ true → eqb v.mark d ≡ true → v.held ≡ true → next ≡ plain_step ready_step → Row
    releases : done ≡ true → next ≡ plain_step release_step → Row
    rests : next ≡ plain_step nothing_step → Row

  pub row : Row
  unfolding next_step
  row = go (cases v.known) (cases done) (cases (eqb v.mark d)) (cases (ltb line most_records)) (cases (going && wants rs k)) (cases (eqb v.mark 0)) (cases v.held)
    where
      go : (v.known ≡ true) ⊎ (v.known ≡ false)
          → (done ≡ true) ⊎ (done ≡ false)
          → (eqb v.mark d ≡ true) ⊎ (eqb v.mark d ≡ false)
          → (ltb line most_records ≡ true) ⊎ (ltb line most_records ≡ false)
          → ((going && wants rs k) ≡ true) ⊎ ((going && wants rs k) ≡ false)
          → (eqb v.mark 0 ≡ true) ⊎ (eqb v.mark 0 ≡ false)
          → (v.held ≡ true) ⊎ (v.held ≡ false)
          → Row
      go (inr a) b c e f g h = looks (rw a)
      go (inl a) (inr b) (inr c) e f g h = notes a b c (rw (a, b, c))
      go (inl a) (inr b) (inl c) (inl e) f g h = writes a e (rw (a, b, c, e))
      go (inl a) (inr b) (inl c) (inr e) f g h = finishes e (rw (a, b, c, e))
      go (inl a) (inl b) c e (inl f) (inl g) h = prepares b (rw (a, b, f, g))
      go (inl a) (inl b) (inr c) e (inl f) (inr g) h = waits (rw (a, b, c, f, g))
      go (inl a) (inl b) (inl c) e (inl f) (inr g) (inl h) = readies a c h (rw (a, b, c, f, g, h))
      go (inl a) (inl b) (inl c) e (inl f) (inr g) (inr h) = releases b (rw (a, b, c, f, g, h))
      go (inl a) (inl b) (inl c) e (inr f) g h = releases b (rw (a, b, c, f))
      go (inl a) (inl b) (inr c) e (inr f) g h = rests (rw (a, b, c, f))

  -- A step with this number is of no other row.
  never : {m : ToldStep} {a : ℕ} → next ≡ m → next.step ≡ a → eqb m.step a ≡ false → ⊥
  never {m} {a} e f n = never_both (eq-eqb m.step a (sym (ap (λ (q : ToldStep). q.step) e) ∙ f)) n

  pub when_prepare : next.step ≡ prepare_step → done ≡ true
  when_prepare f = go row
    where
      go : Row → done ≡ true
      go (looks e) = absurd (never e f refl)
      go (notes a b c e) = absurd (never e f refl)
      go (writes a b e) = absurd (never e f refl)
      go (finishes b e) = absurd (never e f refl)
      go (prepares b e) = b
      go (waits e) = absurd (never e f refl)
      go (readies a b c e) = absurd (never e f refl)
      go (releases b e) = b
      go (rests e) = absurd (never e f refl)

  pub when_release : length rs ≤ most_records → next.step ≡ release_step → written_out rs k v.reach (length rs) ≡ true
  when_release short f = go row
    where
      all_of : ltb line most_records ≡ false → Found rs k v.reach (length rs) → written_out rs k v.reach (length rs) ≡ true
      all_of n (line_at a l b c) = absurd (never_both a n)
      all_of n (no_line a b) = b

      go : Row → written_out rs k v.reach (length rs) ≡ true
      go (looks e) = absurd (never e f refl)
      go (notes a b c e) = absurd (never e f refl)
      go (writes a b e) = absurd (never e f refl)
      go (finishes b e) = all_of b (found rs k v.reach (length rs) short)
      go (prepares b e) = out_from rs k v.reach (length rs) b
      go (waits e) = absurd (never e f refl)
      go (readies a b c e) = absurd (never e f refl)
      go (releases b e) = out_from rs k v.reach (length rs) b
      go (rests e) = absurd (never e f refl)

  pub when_write : length rs ≤ most_records → next.step ≡ write_step → (due_for rs k next.line ≡ true) × (written_out rs k v.reach next.line ≡ true)
  when_write short f = go row
    where
      here : next ≡ record { step = write_step; line = line; transaction = 0 } → ltb line most_records ≡ true → Found rs k v.reach (length rs)
          → (due_for rs k next.line ≡ true) × (written_out rs k v.reach next.line ≡ true)
      here e b (line_at a l c q) =
          let same : line ≡ next.line = sym (ap (λ (m : ToldStep). m.line) e) in
          (subst (λ (m : ℕ). due_for rs k m ≡ true) same c, subst (λ (m : ℕ). written_out rs k v.reach m ≡ true) same q)
      here e b (no_line a c) = absurd (never_both b a)

      go : Row → (due_for rs k next.line ≡ true) × (written_out rs k v.reach next.line ≡ true)
      go (looks e) = absurd (never e f refl)
      go (notes a b c e) = absurd (never e f refl)
      go (writes a b e) = here e b (found rs k v.reach (length rs) short)
      go (finishes b e) = absurd (never e f refl)
      go (prepares b e) = absurd (never e f refl)
      go (waits e) = absurd (never e f refl)
      go (readies a b c e) = absurd (never e f refl)
      go (releases b e) = absurd (never e f refl)
      go (rests e) = absurd (never e f refl)

  pub when_ready : next.step ≡ ready_step → (v.known ≡ true) × (eqb v.mark d ≡ true) × (v.held ≡ true)
  when_ready f = go row
    where
      go : Row → (v.known ≡ true) × (eqb v.mark d ≡ true) × (v.held ≡ true)
      go (looks e) = absurd (never e f refl)
      go (notes a b c e) = absurd (never e f refl)
      go (writes a b e) = absurd (never e f refl)
      go (finishes b e) = absurd (never e f refl)
      go (prepares b e) = absurd (never e f refl)
      go (waits e) = absurd (never e f refl)
      go (readies a b c e) = (a, b, c)
      go (releases b e) = absurd (never e f refl)
      go (rests e) = absurd (never e f refl)

  pub when_note : next.step ≡ note_step → (v.known ≡ true) × (done ≡ false) × (eqb v.mark d ≡ false) × (next.transaction ≡ last_due rs k (length rs))
  when_note f = go row
    where
      go : Row → (v.known ≡ true) × (done ≡ false) × (eqb v.mark d ≡ false) × (next.transaction ≡ last_due rs k (length rs))
      go (looks e) = absurd (never e f refl)
      go (notes a b c e) = (a, b, c, ap (λ (m : ToldStep). m.transaction) e)
      go (writes a b e) = absurd (never e f refl)
      go (finishes b e) = absurd (never e f refl)
      go (prepares b e) = absurd (never e f refl)
      go (waits e) = absurd (never e f refl)
      go (readies a b c e) = absurd (never e f refl)
      go (releases b e) = absurd (never e f refl)
      go (rests e) = absurd (never e f refl)
