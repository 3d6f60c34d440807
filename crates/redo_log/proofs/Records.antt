-- A good log and its records. Assumes nothing.
use Prim.Native.Nat.{ℕ, zero, suc, ◌+◌, ◌-◌, ◌*◌, ◌≤◌, ◌<◌}
use mathlib.Core.Path.{◌≡◌, refl, sym, ap, ◌∙◌, subst}
use mathlib.Core.Logic.{◌⊎◌, inl, inr}
use mathlib.Core.List.{List}
use mathlib.Core.Bool.{Bool, true, false, cond, ◌&&◌, ◌||◌, true≢false}
use borrow.Author.Tests.{leb-true, ltb-true, eqb-true, ne_eqb}
use native.Mathlib.Omega.{arith}
use native.Mathlib.Nat.{add-zero}
use lib.ListN.{length, take, drop, get_or}
use lib.Dec.{ltb, leb, eqb}
use Rattle.lists.specs.Parts.{every, part}
use Rattle.lists.specs.Le.{le, field}
use Rattle.lists.specs.Table.{all, all_from}
use Rattle.lists.proofs.Parts.{length_part, part_part}
use Rattle.lists.proofs.Tests.{and_left, and_right, or_cases}
use Rattle.lists.proofs.Every.{every_out}
use Rattle.redo_log.specs.Log.{
  LogRecord,
  bodies_from,
  most_log,
  most_records,
  shaped,
  joins,
  record_card,
  record_transaction,
  kind_at,
  place_at,
  sum_at,
  length_at,
  record_count,
  start_at,
  record_at,
  last_begun,
  opened,
  record_ok,
  good_log,
  checksum,
  log_number,
}

-- A good log, test by test.
pub record Good (log : List ℕ) : Type 0 where
  pub from : bodies_from ≤ length log
  pub most : length log ≤ most_log
  pub few : record_count log ≤ most_records
  pub checks : every (record_ok log) (record_count log) ≡ true

pub good_out : (log : List ℕ) → good_log log ≡ true → Good log
unfolding good_log
good_out log e =
    let three = and_left (leb bodies_from (length log) && leb (length log) most_log && leb (record_count log) most_records) _ e in
    let two = and_left (leb bodies_from (length log) && leb (length log) most_log) _ three in
    record {
      from = leb-true bodies_from (length log) (and_left _ _ two);
      most = leb-true (length log) most_log (and_right (leb bodies_from (length log)) _ two);
      few = leb-true (record_count log) most_records (and_right (leb bodies_from (length log) && leb (length log) most_log) _ three);
      checks = and_right (leb bodies_from (length log) && leb (length log) most_log && leb (record_count log) most_records) _ e;
    }

-- What a check says of a log.
pub checked_good : (log : List ℕ) {n : ℕ} → n ≡ log_number log → n ≡ 0 → good_log log ≡ true
checked_good log {n} e z = go (good_log log) refl
  where
    go : (g : Bool) → good_log log ≡ g → good_log log ≡ true
    go true h = h
    go false h = let never : n ≡ 23 = e ∙ rw h in absurd (omega arith)

pub checked_bad : (log : List ℕ) {n : ℕ} → n ≡ log_number log → (n ≡ 0 → ⊥) → good_log log ≡ false
checked_bad log {n} e z = go (good_log log) refl
  where
    go : (g : Bool) → good_log log ≡ g → good_log log ≡ false
    go true h = absurd (z (e ∙ rw h))
    go false h = h

pub sizes : (log : List ℕ) → good_log log ≡ true → (2201 ≤ length log) × (length log ≤ 65536) × (record_count log ≤ 200)
sizes log g = let out = good_out log g in (out.from, out.most, out.few)

pub start_next : (log : List ℕ) (i : ℕ) → start_at log (suc i) ≡ start_at log i + length_at log i
unfolding start_at
start_next log i = refl

-- Numbered records that agree in the first n have the same transaction begun last, and open alike.
pub last_ext : (f g : ℕ → LogRecord) (n : ℕ) → ((i : ℕ) → i < n → f i ≡ g i) → last_begun f n ≡ last_begun g n
unfolding last_begun
last_ext f g zero h = refl
last_ext f g (suc n) h = rw (last_ext f g n (λ i k. h i (omega arith)), h n (omega arith))

pub opened_ext : (f g : ℕ → LogRecord) (n : ℕ) → ((i : ℕ) → i < n → f i ≡ g i) → opened f n ≡ opened g n
unfolding opened
opened_ext f g zero h = refl
opened_ext f g (suc n) h = rw (opened_ext f g n (λ i k. h i (omega arith)), h n (omega arith))

-- ---- a record that keeps the rules

pub ok_inside : (log : List ℕ) (i : ℕ) → record_ok log i ≡ true → start_at log i + length_at log i ≤ length log
unfolding record_ok start_at
ok_inside log i e = leb-true (start_at log i + length_at log i) (length log) (and_left (leb (start_at log i + length_at log i) (length log)) _ e)

pub ok_joins : (log : List ℕ) (i : ℕ) → record_ok log i ≡ true → joins (last_begun (record_at log) i) (opened (record_at log) i) (record_at log i) ≡ true
unfolding record_ok start_at all all_from
ok_joins log i e =
    and_right (eqb (place_at log i) (start_at log i) && eqb (sum_at log i) (checksum (record_at log i).body)) _
    (and_right (leb (start_at log i + length_at log i) (length log)) _ e)

pub good_record : (log : List ℕ) → good_log log ≡ true → (i : ℕ) → i < record_count log → record_ok log i ≡ true
good_record log g i h = every_out (record_ok log) (record_count log) (good_out log g).checks i h

pub short_record : (log : List ℕ) → good_log log ≡ true → (i : ℕ) → i < record_count log → length (record_at log i).body < 65536
unfolding shaped
short_record log g i h =
    ltb-true (length (record_at log i).body) 65536
    (and_left (ltb (length (record_at log i).body) 65536) _ (and_left (shaped (record_at log i)) _ (ok_joins log i (good_record log g i h))))

pub ok_place : (log : List ℕ) (i : ℕ) → record_ok log i ≡ true → place_at log i ≡ start_at log i
unfolding record_ok start_at all all_from
ok_place log i e =
    eqb-true (place_at log i) (start_at log i)
    (and_left (eqb (place_at log i) (start_at log i)) _
    (and_left (eqb (place_at log i) (start_at log i) && eqb (sum_at log i) (checksum (record_at log i).body)) _
    (and_right (leb (start_at log i + length_at log i) (length log)) _ e)))

-- The length of a body, by its kind.
shaped_update : (body : List ℕ) → shaped (record { kind = 2; body = body }) ≡ true → 3 ≤ length body
unfolding shaped
shaped_update body e =
    leb-true 3 (length body) (and_left (leb 3 (length body)) _ (or-false (leb 3 (length body) && (eqb (get_or body 2 0) 1 || eqb (get_or body 2 0) 2)) (and_right (ltb (length body) 65536) _ e)))
  where
    or-false : (b : Bool) → (b || false) ≡ true → b ≡ true
    or-false true h = h
    or-false false h = h

-- A body that is neither an update's nor a synced record's has four bytes.
pub shaped_four : (kind : ℕ) (body : List ℕ) → shaped (record { kind = kind; body = body }) ≡ true → (kind ≡ 2 → ⊥) → (kind ≡ 4 → ⊥) → length body ≡ 4
unfolding shaped
shaped_four kind body s n2 n4 =
    let t : (ltb (length body) 65536 && ((eqb kind 1 || eqb kind 3) && eqb (length body) 4 || false || false)) ≡ true = rw (ne_eqb kind 2 n2, ne_eqb kind 4 n4) at s in
    go (or_cases _ false (and_right (ltb (length body) 65536) _ t))
  where
    go : (((eqb kind 1 || eqb kind 3) && eqb (length body) 4 || false) ≡ true) ⊎ (false ≡ true) → length body ≡ 4
    go (inr f) = absurd (true≢false (sym f))
    go (inl e) = next (or_cases ((eqb kind 1 || eqb kind 3) && eqb (length body) 4) false e)
      where
        next : (((eqb kind 1 || eqb kind 3) && eqb (length body) 4) ≡ true) ⊎ (false ≡ true) → length body ≡ 4
        next (inr f) = absurd (true≢false (sym f))
        next (inl f) = eqb-true (length body) 4 (and_right (eqb kind 1 || eqb kind 3) _ f)

shaped_synced : (body : List ℕ) → shaped (record { kind = 4; body = body }) ≡ true → length body ≡ 6
unfolding shaped
shaped_synced body e = eqb-true (length body) 6 (and_right (ltb (length body) 65536) _ e)

-- The same where the kind is known by an equation.
pub update_long : (kind : ℕ) (body : List ℕ) → shaped (record { kind = kind; body = body }) ≡ true → kind ≡ 2 → (3 ≤ length body) × (length body < 65536)
unfolding shaped
update_long kind body s e = (
  shaped_update body (subst (λ (k : ℕ). shaped (record { kind = k; body = body }) ≡ true) e s),
  ltb-true (length body) 65536 (and_left (ltb (length body) 65536) _ s),
)

pub commit_long : (kind : ℕ) (body : List ℕ) → shaped (record { kind = kind; body = body }) ≡ true → kind ≡ 3 → length body ≡ 4
commit_long kind body s e = shaped_four kind body s (λ f. absurd (omega arith)) (λ f. absurd (omega arith))

pub synced_long : (kind : ℕ) (body : List ℕ) → shaped (record { kind = kind; body = body }) ≡ true → kind ≡ 4 → length body ≡ 6
synced_long kind body s e = shaped_synced body (subst (λ (k : ℕ). shaped (record { kind = k; body = body }) ≡ true) e s)

pub record_kind : (log : List ℕ) (i : ℕ) → (record_at log i).kind ≡ kind_at log i
unfolding record_at
record_kind log i = refl

module _ (log : List ℕ) (i : ℕ) (ok : record_ok log i ≡ true) where
  pub body_long : length (record_at log i).body ≡ length_at log i
  unfolding record_at
  body_long = length_part (start_at log i) (length_at log i) log (ok_inside log i ok)

  shaped_as : (k : ℕ) → kind_at log i ≡ k → shaped (record { kind = k; body = (record_at log i).body }) ≡ true
  unfolding record_at
  shaped_as k e = subst (λ (m : ℕ). shaped (record { kind = m; body = (record_at log i).body }) ≡ true) e (and_left (shaped (record_at log i)) _ (ok_joins log i ok))

  pub update_length : kind_at log i ≡ 2 → 3 ≤ length_at log i
  update_length e = subst (λ (m : ℕ). 3 ≤ m) body_long (shaped_update (record_at log i).body (shaped_as 2 e))

  pub begin_length : kind_at log i ≡ 1 → length_at log i ≡ 4
  begin_length e = sym body_long ∙ shaped_four 1 (record_at log i).body (shaped_as 1 e) (λ f. absurd (omega arith)) (λ f. absurd (omega arith))

  pub commit_length : kind_at log i ≡ 3 → length_at log i ≡ 4
  commit_length e = sym body_long ∙ shaped_four 3 (record_at log i).body (shaped_as 3 e) (λ f. absurd (omega arith)) (λ f. absurd (omega arith))

  pub synced_length : kind_at log i ≡ 4 → length_at log i ≡ 6
  synced_length e = sym body_long ∙ shaped_synced (record_at log i).body (shaped_as 4 e)

  -- Fields of a body, read in the log.
  body_field : (o m : ℕ) → o + m ≤ length_at log i → field o m (record_at log i).body ≡ le (part (start_at log i + o) m log)
  unfolding record_at
  body_field o m h = ap le (part_part (start_at log i) (length_at log i) o m log h)

  pub card_read : 2 ≤ length_at log i → record_card (record_at log i) ≡ le (part (start_at log i) 2 log)
  card_read h = body_field 0 2 h ∙ ap (λ (a : ℕ). le (part a 2 log)) (add-zero (start_at log i))

  pub commit_read : kind_at log i ≡ 3 → record_transaction (record_at log i) ≡ le (part (start_at log i) 4 log)
  commit_read e = three ∙ body_field 0 4 (omega (arith, commit_length e)) ∙ ap (λ (a : ℕ). le (part a 4 log)) (add-zero (start_at log i))
    where
      three : record_transaction (record_at log i) ≡ field 0 4 (record_at log i).body
      three = ap (λ (k : ℕ). cond (eqb k 4) (field 2 4 (record_at log i).body) (field 0 4 (record_at log i).body)) (kind_is ∙ e)
        where
          kind_is : (record_at log i).kind ≡ kind_at log i
          kind_is = record_kind log i

  pub synced_read : kind_at log i ≡ 4 → record_transaction (record_at log i) ≡ le (part (start_at log i + 2) 4 log)
  synced_read e =
      ap (λ (k : ℕ). cond (eqb k 4) (field 2 4 (record_at log i).body) (field 0 4 (record_at log i).body)) (record_kind log i ∙ e)
      ∙ body_field 2 4 (omega (arith, synced_length e))

-- ---- a counted record of a good log

module _ (log : List ℕ) (i : ℕ) (g : good_log log ≡ true) (h : i < record_count log) where
  pub here : record_ok log i ≡ true
  here = good_record log g i h

  pub place_is : le (part (1 + 11 * i + 1) 4 log) ≡ start_at log i
  place_is = ok_place log i here

  pub inside : start_at log i + length_at log i ≤ length log
  inside = ok_inside log i here

  -- The length of its body, by its kind.
  pub update_body : (record_at log i).kind ≡ 2 → 3 ≤ length (record_at log i).body
  update_body e = subst (λ (m : ℕ). 3 ≤ m) (sym (body_long log i here)) (update_length log i here (sym (record_kind log i) ∙ e))

  pub commit_body : (record_at log i).kind ≡ 3 → length (record_at log i).body ≡ 4
  commit_body e = body_long log i here ∙ commit_length log i here (sym (record_kind log i) ∙ e)

  pub synced_body : (record_at log i).kind ≡ 4 → length (record_at log i).body ≡ 6
  synced_body e = body_long log i here ∙ synced_length log i here (sym (record_kind log i) ∙ e)

-- The part of the log that line i names is the body of record i.
pub body_at : (log : List ℕ) (i at size : ℕ) → at ≡ start_at log i → size ≡ length_at log i → take (at + size - at) (drop at log) ≡ (record_at log i).body
unfolding record_at part
body_at log i at size ea es = let n : at + size - at ≡ size = omega arith in rw (n, ea, es)
