-- What the stores of an append leave alone, and what they make. Assumes nothing.
use Prim.Native.Nat.{ℕ, suc, ◌+◌, ◌-◌, ◌≤◌, ◌<◌}
use native.Mathlib.Omega.{arith}
use native.Mathlib.Nat.{mod-lt}
use mathlib.Core.Path.{◌≡◌, refl, sym, ap, ◌∙◌, subst}
use mathlib.Core.Logic.{◌⊎◌, inl, inr}
use mathlib.Core.List.{List, [], ◌∷◌, ◌++◌}
use mathlib.Core.Bool.{true, ◌&&◌, ◌||◌}
use borrow.Author.Tests.{eq-eqb, le-leb, ltb-true, eqb-true}
use lib.ListN.{length, take, get_or}
use lib.Seq.{take_all}
use lib.Dec.{ltb, leb, eqb, lit<}
use Rattle.lists.specs.Parts.{Bytes, part, splice, tabulate, every}
use Rattle.lists.specs.Le.{le, to_le, field}
use Rattle.lists.specs.Table.{all, all_from}
use Rattle.lists.proofs.Tests.{and_left, and_right, or_cases}
use Rattle.lists.proofs.Bytes.{Bytes_nil, Bytes_cons, Bytes_append, Bytes_take, Bytes_splice}
use Rattle.lists.proofs.Parts.{splice_nil, splice_here, splice_after, length_splice, get_d_splice, get_d_splice_before, get_d_splice_after, part_part, get_d_part}
use Rattle.lists.proofs.Le.{le_to_le, Bytes_to_le}
use Rattle.lists.proofs.Every.{every_more}
use Rattle.redo_log.specs.Log.{
  LogRecord,
  bodies_from,
  most_records,
  most_log,
  kind_at,
  place_at,
  length_at,
  sum_at,
  record_count,
  line_place,
  start_at,
  record_at,
  record_ok,
  good_log,
  records,
  shaped,
  checksum,
  total,
}
use Rattle.redo_log.specs.Append.{line_bytes}
use Rattle.redo_log.specs.inner.Admitted.{Admitted}
use Rattle.redo_log.proofs.Records.{start_next}
use Rattle.redo_log.proofs.Stores.{length_taken, length_line, with_body, with_line, written, long_body, line_fits, long_line, count_fits, long_written}
use Rattle.redo_log_claims.proofs.Same.{Same, start_from, start_same, checks_same, records_same, after_same}

-- ---- what the splices leave alone

get_d_apart : (at j : ℕ) (v l : List ℕ) → at + length v ≤ length l → (j < at) ⊎ (at + length v ≤ j) → get_or (splice at v l) j 0 ≡ get_or l j 0
get_d_apart at j v l h (inl k) = get_d_splice_before at j v l 0 (omega arith) k
get_d_apart at j v l h (inr k) = get_d_splice_after at j v l 0 (omega arith) k

same_splice : {n : ℕ} (a b : List ℕ) (at : ℕ) (v : List ℕ) → Same n a b → at + length v ≤ length b
    → ((j : ℕ) → 1 ≤ j → j < line_place n → (j < at) ⊎ (at + length v ≤ j))
    → ((j : ℕ) → bodies_from ≤ j → j < start_at a n → (j < at) ⊎ (at + length v ≤ j))
    → Same n a (splice at v b)
same_splice a b at v s h lines bodies =
    record {
      long = s.long ∙ sym (length_splice at v b h);
      lines = λ j p q. s.lines j p q ∙ sym (get_d_apart at j v b h (lines j p q));
      bodies = λ j p q. s.bodies j p q ∙ sym (get_d_apart at j v b h (bodies j p q));
    }

same_refl : (n : ℕ) (a : List ℕ) → Same n a a
same_refl n a = record { long = refl; lines = λ j p q. refl; bodies = λ j p q. refl }

module _ (log : List ℕ) (r : LogRecord) (room : Admitted log r) (k : ℕ) where
  same_body : Same (record_count log) log (with_body k log r)
  same_body =
      same_splice log log (start_at log (record_count log)) (take k r.body) (same_refl (record_count log) log)
      (omega (arith, room.fits, length_taken k r.body))
      (λ j p q. inl (omega (arith, room.below, start_from log (record_count log))))
      (λ j p q. inl q)

  same_line : Same (record_count log) log (with_line k log r)
  same_line =
      same_splice log (with_body k log r) (line_place (record_count log)) (take (k - length r.body) (line_bytes (start_at log (record_count log)) r)) same_body
      (rw (long_body log r room k) (line_fits log r room (k - length r.body)))
      (λ j p q. inl q)
      (λ j p q. inr (omega (arith, room.below, length_taken (k - length r.body) (line_bytes (start_at log (record_count log)) r), length_line (start_at log (record_count log)) r)))

  pub same_written : Same (record_count log) log (written k log r)
  same_written =
      same_splice log (with_line k log r) 0 (take (k - (length r.body + 11)) ((record_count log + 1) ∷ [])) same_line
      (rw (long_line log r room k) (omega (arith, room.from, count_fits log r room (k - (length r.body + 11)))))
      (λ j p q. inr (omega (arith, count_fits log r room (k - (length r.body + 11)))))
      (λ j p q. inr (omega (arith, count_fits log r room (k - (length r.body + 11)))))

  -- Nothing but the body is stored yet.
  pub front_before : k ≤ length r.body → (j : ℕ) → j < bodies_from → get_or (written k log r) j 0 ≡ get_or log j 0
  front_before h j i =
      let line : k - length r.body ≡ 0 = omega arith in
      let count : k - (length r.body + 11) ≡ 0 = omega arith in
      rw (count, splice_nil, line, splice_nil)
      (get_d_apart (start_at log (record_count log)) j (take k r.body) log (omega (arith, room.fits, length_taken k r.body)) (inl (omega (arith, start_from log (record_count log)))))

  -- The count is not yet stored.
  pub count_before : k < length r.body + 12 → record_count (written k log r) ≡ record_count log
  count_before h =
      let none : k - (length r.body + 11) ≡ 0 = omega arith in
      rw (none, splice_nil)
      (get_d_apart (line_place (record_count log)) 0 (take (k - length r.body) (line_bytes (start_at log (record_count log)) r)) (with_body k log r)
      (rw (long_body log r room k) (line_fits log r room (k - length r.body))) (inl (omega arith))
      ∙ get_d_apart (start_at log (record_count log)) 0 (take k r.body) log (omega (arith, room.fits, length_taken k r.body)) (inl (omega (arith, start_from log (record_count log)))))

-- ---- bytes stay bytes

-- A kind that has a layout is one of four.
kind_small : (kind : ℕ) (body : List ℕ) → shaped (record { kind = kind; body = body }) ≡ true → kind < 256
unfolding shaped
kind_small kind body e = two (or_cases _ (eqb kind 4 && eqb (length body) 6) (and_right (ltb (length body) 65536) _ e))
  where
    one : (((eqb kind 1 || eqb kind 3) && eqb (length body) 4) ≡ true) ⊎ ((eqb kind 2 && leb 3 (length body) && (eqb (get_or body 2 0) 1 || eqb (get_or body 2 0) 2)) ≡ true) → kind < 256
    one (inl f) = go (or_cases (eqb kind 1) (eqb kind 3) (and_left (eqb kind 1 || eqb kind 3) _ f))
      where
        go : (eqb kind 1 ≡ true) ⊎ (eqb kind 3 ≡ true) → kind < 256
        go (inl k) = omega (arith, eqb-true kind 1 k)
        go (inr k) = omega (arith, eqb-true kind 3 k)
    one (inr f) = omega (arith, eqb-true kind 2 (and_left (eqb kind 2) _ (and_left (eqb kind 2 && leb 3 (length body)) _ f)))

    two : (((eqb kind 1 || eqb kind 3) && eqb (length body) 4 || eqb kind 2 && leb 3 (length body) &&
        (eqb (get_or body 2 0) 1 || eqb (get_or body 2 0) 2)) ≡ true) ⊎ ((eqb kind 4 && eqb (length body) 6) ≡ true) → kind < 256
    two (inl f) = one (or_cases ((eqb kind 1 || eqb kind 3) && eqb (length body) 4) _ f)
    two (inr f) = omega (arith, eqb-true kind 4 (and_left (eqb kind 4) _ f))

bytes_line : (place : ℕ) (r : LogRecord) → r.kind < 256 → Bytes (line_bytes place r)
unfolding line_bytes
bytes_line place r h =
    Bytes_append ((r.kind ∷ []) ++ to_le 4 place ++ to_le 2 (length r.body)) (to_le 4 (checksum r.body))
    (Bytes_append ((r.kind ∷ []) ++ to_le 4 place) (to_le 2 (length r.body))
    (Bytes_append (r.kind ∷ []) (to_le 4 place) (Bytes_cons [] h Bytes_nil) (Bytes_to_le 4 place))
    (Bytes_to_le 2 (length r.body)))
    (Bytes_to_le 4 (checksum r.body))

pub bytes_written : (log : List ℕ) (r : LogRecord) → Admitted log r → (k : ℕ) → Bytes log → Bytes r.body → Bytes (written k log r)
bytes_written log r room k lb bb =
    let line = line_bytes (start_at log (record_count log)) r in
    let small = kind_small r.kind r.body (and_left (shaped r) _ room.joining) in
    Bytes_splice 0 (take (k - (length r.body + 11)) ((record_count log + 1) ∷ [])) (with_line k log r)
    (Bytes_take (k - (length r.body + 11)) ((record_count log + 1) ∷ []) (Bytes_cons [] (omega (arith, room.below)) Bytes_nil))
    (Bytes_splice (line_place (record_count log)) (take (k - length r.body) line) (with_body k log r)
    (Bytes_take (k - length r.body) line (bytes_line (start_at log (record_count log)) r small))
    (Bytes_splice (start_at log (record_count log)) (take k r.body) log (Bytes_take k r.body bb) lb))

-- ---- the whole append

abbrev pub full : List ℕ → LogRecord → List ℕ
full log r =
    splice 0 ((record_count log + 1) ∷ [])
    (splice (line_place (record_count log)) (line_bytes (start_at log (record_count log)) r) (splice (start_at log (record_count log)) r.body log))

pub written_full : (k : ℕ) (log : List ℕ) (r : LogRecord) → length r.body + 12 ≤ k → written k log r ≡ full log r
written_full k log r h =
    rw (
      take_all k r.body (omega arith),
      take_all (k - length r.body) (line_bytes (start_at log (record_count log)) r) (rw length_line (omega arith)),
      take_all (k - (length r.body + 11)) ((record_count log + 1) ∷ []) (omega arith),
    )

module _ (log : List ℕ) (r : LogRecord) (room : Admitted log r) where
  -- The new line.
  pub line_there : part (line_place (record_count log)) 11 (full log r) ≡ line_bytes (start_at log (record_count log)) r
  line_there =
      let body : length (splice (start_at log (record_count log)) r.body log) ≡ length log = length_splice (start_at log (record_count log)) r.body log room.fits in
      let line : line_place (record_count log) + 11 ≤ length log = omega (arith, room.below, room.from) in
      let both : length (splice (line_place (record_count log)) (line_bytes (start_at log (record_count log)) r) (splice (start_at log (record_count log)) r.body log)) ≡ length log =
      length_splice (line_place (record_count log)) (line_bytes (start_at log (record_count log)) r) (splice (start_at log (record_count log)) r.body log) (rw (body, length_line) line) ∙ body in
      splice_after 0 (line_place (record_count log)) 11 ((record_count log + 1) ∷ []) _ (omega arith) (omega arith)
      ∙ ap (λ (m : ℕ). part (line_place (record_count log)) m
      (splice (line_place (record_count log)) (line_bytes (start_at log (record_count log)) r) (splice (start_at log (record_count log)) r.body log)))
      (sym (length_line (start_at log (record_count log)) r))
      ∙ splice_here (line_place (record_count log)) (line_bytes (start_at log (record_count log)) r) (splice (start_at log (record_count log)) r.body log) (rw body (omega arith))

  long_full : length (full log r) ≡ length log
  long_full = ap length (sym (written_full (length r.body + 12) log r (omega arith))) ∙ long_written log r room (length r.body + 12)

  same_full : Same (record_count log) log (full log r)
  same_full = subst (Same (record_count log) log) (written_full (length r.body + 12) log r (omega arith)) (same_written log r room (length r.body + 12))

  line_field : (o m : ℕ) → o + m ≤ 11 → field (line_place (record_count log) + o) m (full log r) ≡ field o m (line_bytes (start_at log (record_count log)) r)
  line_field o m h = ap le (sym (part_part (line_place (record_count log)) 11 o m (full log r) h) ∙ ap (part o m) line_there)

  short : length r.body < 65536
  unfolding shaped
  short = ltb-true (length r.body) 65536 (and_left (ltb (length r.body) 65536) _ (and_left (shaped r) _ room.joining))

  pub kind_there : kind_at (full log r) (record_count log) ≡ r.kind
  unfolding line_bytes
  kind_there =
      let zero-place : line_place (record_count log) ≡ line_place (record_count log) + 0 = omega arith in
      ap (λ (j : ℕ). get_or (full log r) j 0) zero-place
      ∙ sym (get_d_part (line_place (record_count log)) 11 (full log r) 0 0 (omega arith))
      ∙ ap (λ (l : List ℕ). get_or l 0 0) line_there

  place_there : place_at (full log r) (record_count log) ≡ start_at log (record_count log)
  unfolding line_bytes part to_le
  place_there = line_field 1 4 (omega arith) ∙ le_to_le 4 (start_at log (record_count log)) (omega (arith, room.fits, room.most))

  length_there : length_at (full log r) (record_count log) ≡ length r.body
  unfolding line_bytes part to_le
  length_there = line_field 5 2 (omega arith) ∙ le_to_le 2 (length r.body) short

  sum_there : sum_at (full log r) (record_count log) ≡ checksum r.body
  unfolding line_bytes part to_le
  sum_there = line_field 7 4 (omega arith) ∙ le_to_le 4 (checksum r.body) (mod-lt (total r.body) (lit< tt))

  body_there : part (start_at log (record_count log)) (length r.body) (full log r) ≡ r.body
  body_there =
      let body : length (splice (start_at log (record_count log)) r.body log) ≡ length log = length_splice (start_at log (record_count log)) r.body log room.fits in
      splice_after 0 (start_at log (record_count log)) (length r.body) ((record_count log + 1) ∷ []) _ (omega arith) (omega (arith, start_from log (record_count log)))
      ∙ splice_after (line_place (record_count log)) (start_at log (record_count log)) (length r.body) (line_bytes (start_at log (record_count log)) r)
      (splice (start_at log (record_count log)) r.body log) (rw body (omega (arith, room.below, room.from)))
      (rw length_line (omega (arith, room.below, start_from log (record_count log))))
      ∙ splice_here (start_at log (record_count log)) r.body log (omega (arith, room.fits))

  record_there : record_at (full log r) (record_count log) ≡ r
  unfolding record_at
  record_there = rw (kind_there, length_there, ← start_same log (full log r) same_full (record_count log) (omega arith), body_there)

  ok_there : record_ok (full log r) (record_count log) ≡ true
  unfolding record_ok all all_from
  ok_there =
      let start : start_at (full log r) (record_count log) ≡ start_at log (record_count log) = sym (start_same log (full log r) same_full (record_count log) (omega arith)) in
      let within : start_at (full log r) (suc (record_count log)) ≤ length (full log r) =
      rw (long_full, start_next (full log r) (record_count log), start, length_there) room.fits in
      let after = after_same log (full log r) same_full in
      rw (
        le-leb (start_at (full log r) (suc (record_count log))) (length (full log r)) within,
        start,
        eq-eqb (place_at (full log r) (record_count log)) (start_at log (record_count log)) place_there,
        record_there,
        eq-eqb (sum_at (full log r) (record_count log)) (checksum r.body) sum_there,
        ← after.0,
        ← after.1,
        room.joining,
      )

  pub count_there : record_count (full log r) ≡ record_count log + 1
  count_there = get_d_splice 0 0 ((record_count log + 1) ∷ []) _ 0 (omega arith) (omega arith)

  pub good_there : good_log (full log r) ≡ true
  unfolding good_log
  good_there =
      let old : every (record_ok (full log r)) (record_count log) ≡ true = sym (checks_same log (full log r) same_full) ∙ room.checks in
      rw (
        count_there,
        long_full,
        le-leb bodies_from (length log) room.from,
        le-leb (length log) most_log room.most,
        le-leb (record_count log + 1) most_records (omega (arith, room.below)),
      )
      (every_more (record_ok (full log r)) (record_count log) old ok_there)

  pub records_there : records (full log r) ≡ records log ++ r ∷ []
  unfolding records tabulate
  records_there =
      let one : record_count log + 1 ≡ suc (record_count log) = omega arith in
      ap (tabulate (record_at (full log r))) (count_there ∙ one)
      ∙ ap (λ (e : LogRecord). tabulate (record_at (full log r)) (record_count log) ++ (e ∷ [])) record_there
      ∙ ap (λ (l : List LogRecord). l ++ (r ∷ [])) (sym (records_same log (full log r) same_full))
