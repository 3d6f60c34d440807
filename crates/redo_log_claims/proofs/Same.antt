-- Two logs that agree in their first n lines and bodies: what is read of those records is the same. Assumes nothing.
use Prim.Native.Nat.{ℕ, zero, suc, ◌+◌, ◌-◌, ◌≤◌, ◌<◌}
use native.Mathlib.Omega.{arith}
use mathlib.Core.Path.{◌≡◌, refl, sym, ap, ◌∙◌, subst}
use mathlib.Core.List.{List}
use lib.ListN.{length, take, drop, get_or, length-take, length-drop}
use lib.Seq.{get_or-take, get_or-drop, ext_get_or}
use Rattle.lists.specs.Parts.{part, tabulate, every}
use Rattle.lists.specs.Le.{le, field}
use Rattle.lists.proofs.Every.{every_ext}
use Rattle.redo_log.specs.Log.{bodies_from, kind_at, length_at, line_place, start_at, record_at, last_begun, opened, record_ok}
use Rattle.redo_log.proofs.Records.{start_next, last_ext, opened_ext}

pub record Same (n : ℕ) (a b : List ℕ) : Type 0 where
  pub long : length a ≡ length b
  pub lines : (j : ℕ) → 1 ≤ j → j < line_place n → get_or a j 0 ≡ get_or b j 0
  pub bodies : (j : ℕ) → bodies_from ≤ j → j < start_at a n → get_or a j 0 ≡ get_or b j 0

part_same : (at n : ℕ) (a b : List ℕ) → length a ≡ length b → ((j : ℕ) → at ≤ j → j < at + n → get_or a j 0 ≡ get_or b j 0) → part at n a ≡ part at n b
unfolding part
part_same at n a b e h = ext_get_or 0 (take n (drop at a)) (take n (drop at b)) (simp (length-take, length-drop) (rw e)) each
  where
    each : (i : ℕ) → i < length (take n (drop at a)) → get_or (take n (drop at a)) i 0 ≡ get_or (take n (drop at b)) i 0
    each i k =
        let below : i < n = omega (arith, length-take n (drop at a)) in
        get_or-take n (drop at a) i 0 below ∙ get_or-drop at a i 0 ∙ h (at + i) (omega arith) (omega arith)
        ∙ sym (get_or-take n (drop at b) i 0 below ∙ get_or-drop at b i 0)

pub start_from : (a : List ℕ) (i : ℕ) → bodies_from ≤ start_at a i
unfolding start_at
start_from a zero = omega arith
start_from a (suc i) = omega (arith, start_from a i)

start_step : (a : List ℕ) (j : ℕ) → start_at a j ≤ start_at a (suc j)
unfolding start_at
start_step a j = omega arith

pub start_more : (a : List ℕ) (i k : ℕ) → start_at a i ≤ start_at a (i + k)
start_more a i zero = let z : i + 0 ≡ i = omega arith in rw z (omega arith)
start_more a i (suc k) = let z : i + suc k ≡ suc (i + k) = omega arith in rw z (omega (arith, start_more a i k, start_step a (i + k)))

pub start_upto : (a : List ℕ) (i j : ℕ) → i ≤ j → start_at a i ≤ start_at a j
start_upto a i j h = let z : i + (j - i) ≡ j = omega arith in subst (λ (m : ℕ). start_at a i ≤ start_at a m) z (start_more a i (j - i))

module _ {n : ℕ} (a b : List ℕ) (s : Same n a b) where
  line_same : (i o m : ℕ) → i < n → o + m ≤ 11 → field (line_place i + o) m a ≡ field (line_place i + o) m b
  line_same i o m h k = ap le (part_same (line_place i + o) m a b s.long (λ j p q. s.lines j (omega arith) (omega arith)))

  pub kind_same : (i : ℕ) → i < n → kind_at a i ≡ kind_at b i
  kind_same i h = s.lines (line_place i) (omega arith) (omega arith)

  length_same : (i : ℕ) → i < n → length_at a i ≡ length_at b i
  length_same i h = line_same i 5 2 h (omega arith)

  pub start_same : (i : ℕ) → i ≤ n → start_at a i ≡ start_at b i
  unfolding start_at
  start_same zero h = refl
  start_same (suc i) h = rw (start_same i (omega arith), length_same i (omega arith))

  pub record_same : (i : ℕ) → i < n → record_at a i ≡ record_at b i
  unfolding record_at
  record_same i h =
      let stop : start_at a i + length_at a i ≤ start_at a n = omega (arith, start_upto a (suc i) n h, start_next a i) in
      let body : part (start_at a i) (length_at a i) a ≡ part (start_at a i) (length_at a i) b =
      part_same (start_at a i) (length_at a i) a b s.long (λ j p q. s.bodies j (omega (arith, start_from a i)) (omega arith)) in
      rw (kind_same i h, body, start_same i (omega arith), length_same i h)

  last_same : (i : ℕ) → i ≤ n → last_begun (record_at a) i ≡ last_begun (record_at b) i
  last_same i h = last_ext (record_at a) (record_at b) i (λ j k. record_same j (omega arith))

  opened_same : (i : ℕ) → i ≤ n → opened (record_at a) i ≡ opened (record_at b) i
  opened_same i h = opened_ext (record_at a) (record_at b) i (λ j k. record_same j (omega arith))

  pub ok_same : (i : ℕ) → i < n → record_ok a i ≡ record_ok b i
  unfolding record_ok
  ok_same i h =
      rw (
        start_same (suc i) h,
        s.long,
        line_same i 1 4 h (omega arith),
        start_same i (omega arith),
        line_same i 7 4 h (omega arith),
        record_same i h,
        last_same i (omega arith),
        opened_same i (omega arith),
      )

  pub checks_same : every (record_ok a) n ≡ every (record_ok b) n
  checks_same = every_ext (record_ok a) (record_ok b) n ok_same

  tabulate_same : (m : ℕ) → m ≤ n → tabulate (record_at a) m ≡ tabulate (record_at b) m
  unfolding tabulate
  tabulate_same zero h = refl
  tabulate_same (suc m) h = rw (tabulate_same m (omega arith), record_same m (omega arith))

  pub records_same : tabulate (record_at a) n ≡ tabulate (record_at b) n
  records_same = tabulate_same n (omega arith)

  pub after_same : (last_begun (record_at a) n ≡ last_begun (record_at b) n) × (opened (record_at a) n ≡ opened (record_at b) n)
  after_same = (last_same n (omega arith), opened_same n (omega arith))
