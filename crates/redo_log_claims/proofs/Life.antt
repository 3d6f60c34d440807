-- An append that is made in parts, a byte that is not what was stored, and a log that begins again. Assumes nothing.
use Prim.Native.Nat.{ℕ, zero, suc, ◌+◌, ◌-◌, ◌≤◌, ◌<◌}
use native.Mathlib.Omega.{arith}
use native.Mathlib.Nat.{le_of_suc-le-suc}
use mathlib.Core.Path.{◌≡◌, refl, sym, ap, ◌∙◌, subst}
use mathlib.Core.Logic.{◌⊎◌, inl, inr}
use mathlib.Core.List.{List, [], ◌∷◌}
use mathlib.Core.Bool.{Bool, true, false, ◌&&◌}
use borrow.Author.Tests.{eqb-true, eqb-false, eq-eqb, ltb-true, le-leb}
use lib.ListN.{length, take, drop, get_or, set, length-set}
use lib.Seq.{set-set, set_comm, take_all, get_or-take, get_or-drop, get_or-set_same, get_or-set_other, take-set-lt, drop-set-add}
use lib.Dec.{eqb, ltb, leb, lit<}
use Rattle.lists.specs.Parts.{Bytes, part, splice, tabulate, every}
use Rattle.lists.specs.Le.{le, field}
use Rattle.lists.specs.Search.{any}
use Rattle.lists.specs.Table.{all, all_from}
use Rattle.lists.proofs.Bytes.{Bytes_nil, Bytes_cons, Bytes_splice}
use Rattle.lists.proofs.Parts.{splice_nil, length_splice, splice_before, get_d_splice_before, get_d_splice_after, splice_set}
use Rattle.lists.proofs.Tests.{cases, never_both, and_left, and_right, or_cases, or_left, or_right}
use Rattle.redo_log.specs.Log.{
  LogRecord,
  bodies_from,
  most_log,
  record_count,
  line_place,
  place_at,
  length_at,
  sum_at,
  record_at,
  start_at,
  last_begun,
  opened,
  total,
  checksum,
  record_ok,
  good_log,
  records,
}
use Rattle.redo_log.specs.Append.{Store, stored, puts, line_bytes, stores, accepts, lacks, append_number, appended}
use Rattle.redo_log.specs.inner.Admitted.{Admitted}
use Rattle.redo_log.proofs.Records.{sizes, start_next, ok_inside, good_record, body_long}
use Rattle.redo_log.proofs.Stores.{length_line, with_body, with_line, stores_written}
use Rattle.redo_log.proofs.Steps.{admitted, left_23, left_24, left_26, left_0}
use Rattle.redo_log_claims.specs.Claims.{needed}
use Rattle.redo_log_claims.specs.Life.{AppendResumes, Outside, InThree, AppendsInThree, ByteChanged, Renews}
use Rattle.redo_log_claims.proofs.Claims.{appends}
use Rattle.redo_log_claims.proofs.Same.{Same, start_from, start_same, after_same}
use Rattle.redo_log_claims.proofs.Written.{same_written}

-- Some of the stores is at this place.
abbrev stores_at : ℕ → List Store → Bool
stores_at p ss = any (λ (s : Store). eqb s.place p) ss

-- A byte that is stored later is of no account before.
overwritten : (ss : List Store) (p b : ℕ) (l : List ℕ) → stores_at p ss ≡ true → stored ss (set l p b) ≡ stored ss l
unfolding stored
overwritten [] p b l h = absurd (never_both refl (sym h))
overwritten (s ∷ ss) p b l h = go (cases (eqb s.place p)) (λ (q : stores_at p ss ≡ true) (m : List ℕ). overwritten ss p b m q)
  where
    go : (eqb s.place p ≡ true) ⊎ (eqb s.place p ≡ false) → (stores_at p ss ≡ true → (m : List ℕ) → stored ss (set m p b) ≡ stored ss m)
        → stored ss (set (set l p b) s.place s.byte) ≡ stored ss (set l s.place s.byte)
    go (inl e) rest =
        let same : s.place ≡ p = eqb-true s.place p e in
        ap (stored ss) (ap (λ (n : ℕ). set (set l p b) n s.byte) same ∙ set-set l p b s.byte ∙ ap (λ (n : ℕ). set l n s.byte) (sym same))
    go (inr e) rest =
        ap (stored ss) (set_comm l p s.place b s.byte (λ q. eqb-false s.place p e (sym q)))
        ∙ rest (later (or_cases (eqb s.place p) (stores_at p ss) h)) (set l s.place s.byte)
      where
        later : (eqb s.place p ≡ true) ⊎ (stores_at p ss ≡ true) → stores_at p ss ≡ true
        later (inl q) = absurd (never_both q e)
        later (inr q) = q

-- Stores whose places are all stored to again.
abbrev Within : List Store → List Store → Type 0
Within [] ss = Unit {0}
Within (s ∷ first) ss = (stores_at s.place ss ≡ true) × Within first ss

stored_over : (first ss : List Store) (l : List ℕ) → Within first ss → stored ss (stored first l) ≡ stored ss l
unfolding stored
stored_over [] ss l w = refl
stored_over (s ∷ first) ss l w = stored_over first ss (set l s.place s.byte) w.1 ∙ overwritten ss s.place s.byte l w.0

within_more : (first ss : List Store) (s : Store) → Within first ss → Within first (s ∷ ss)
within_more [] ss s w = tt
within_more (a ∷ first) ss s w = (or_right (eqb s.place a.place) w.0, within_more first ss s w.1)

within_take : (k m : ℕ) (ss : List Store) → k ≤ m → Within (take k ss) (take m ss)
within_take zero m ss h = tt
within_take (suc k) zero ss h = absurd (omega arith)
within_take (suc k) (suc m) [] h = tt
within_take (suc k) (suc m) (s ∷ ss) h =
    (or_left (stores_at s.place (take m ss)) (eq-eqb s.place s.place refl), within_more (take k ss) (take m ss) s (within_take k m ss (omega arith)))

-- ---- the log after an append with any budget

appended_is : (budget : ℕ) (log : List ℕ) (r : LogRecord) → accepts log r ≡ true → lacks log r ≡ false → appended budget log r ≡ stored (take budget (stores log r)) log
appended_is budget log r a f = go (cases (ltb budget (needed r)))
  where
    go : (ltb budget (needed r) ≡ true) ⊎ (ltb budget (needed r) ≡ false) → appended budget log r ≡ stored (take budget (stores log r)) log
    go (inl b) = (left_26 budget log r a f b).1
    go (inr b) = (left_0 budget log r a f b).1

-- ---- an append that is made again

module _ (budget more : ℕ) (upto : budget ≤ more) (log : List ℕ) (r : LogRecord) (cut : append_number budget log r ≡ 26) where
  abbrev half : List ℕ
  half = appended budget log r

  module _ (a : accepts log r ≡ true) (f : lacks log r ≡ false) (b : ltb budget (needed r) ≡ true) where
    room : Admitted log r
    room = admitted log r a f

    half_is : half ≡ stored (take budget (stores log r)) log
    half_is = (left_26 budget log r a f b).1

    same : Same (record_count log) log half
    same = subst (Same (record_count log) log) (sym (half_is ∙ stores_written log r room budget)) (same_written log r room budget)

    count : record_count half ≡ record_count log
    count = (appends budget log r).count_last (ltb-true budget (needed r) b)

    start : start_at half (record_count half) ≡ start_at log (record_count log)
    start = ap (start_at half) count ∙ sym (start_same log half same (record_count log) (omega arith))

    accepts_half : accepts half r ≡ true
    accepts_half =
        let good : good_log half ≡ good_log log = ((appends budget log r).cut cut).0 ∙ sym (good_log_lem (good_log log) refl) in
        let last : last_begun (record_at half) (record_count half) ≡ last_begun (record_at log) (record_count log) = ap (last_begun (record_at half)) count ∙ sym (after_same log half same).0 in
        let open' : opened (record_at half) (record_count half) ≡ opened (record_at log) (record_count log) = ap (opened (record_at half)) count ∙ sym (after_same log half same).1 in
        rw (good, last, open') a
      where
        good_log_lem : (g : Bool) → good_log log ≡ g → good_log log ≡ true
        good_log_lem true e = e
        good_log_lem false e = let never : false ≡ true = rw e at a in absurd (never_both never refl)

    lacks_half : lacks half r ≡ false
    lacks_half = rw (start, count, (appends budget log r).long) f

    stores_half : stores half r ≡ stores log r
    unfolding stores
    stores_half = rw (start, count)

    resumed : appended more half r ≡ appended more log r
    resumed =
        appended_is more half r accepts_half lacks_half
        ∙ ap (λ (ss : List Store). stored (take more ss) half) stores_half
        ∙ ap (stored (take more (stores log r))) half_is
        ∙ stored_over (take budget (stores log r)) (take more (stores log r)) log (within_take budget more (stores log r) upto)
        ∙ sym (appended_is more log r a f)

pub append_resumes : AppendResumes
append_resumes budget more log r upto cut = go (accepts log r) (lacks log r) (ltb budget (needed r)) refl refl refl
  where
    go : (a f b : Bool) → accepts log r ≡ a → lacks log r ≡ f → ltb budget (needed r) ≡ b → appended more (appended budget log r) r ≡ appended more log r
    go false f b p q t = absurd (omega (arith, cut, (left_23 budget log r p).0))
    go true true b p q t = absurd (omega (arith, cut, (left_24 budget log r p q).0))
    go true false false p q t = absurd (omega (arith, cut, (left_0 budget log r p q t).0))
    go true false true p q t = resumed budget more upto log r cut p q t

-- ---- an append in three parts

get_d_outside : (at j : ℕ) (v l : List ℕ) → at ≤ length l → Outside at (length v) j → get_or (splice at v l) j 0 ≡ get_or l j 0
get_d_outside at j v l h (inl b) = get_d_splice_before at j v l 0 h b
get_d_outside at j v l h (inr b) = get_d_splice_after at j v l 0 h b

module _ (log : List ℕ) (r : LogRecord) (a : accepts log r ≡ true) (f : lacks log r ≡ false) where
  abbrev n : ℕ
  n = length r.body

  abbrev from : ℕ
  from = start_at log (record_count log)

  abbrev bytes : List ℕ
  bytes = line_bytes from r

  abbrev first : List ℕ
  first = splice from r.body log

  abbrev second : List ℕ
  second = splice (line_place (record_count log)) bytes first

  room_of : Admitted log r
  room_of = admitted log r a f

  with_body_lem : (k : ℕ) → n ≤ k → with_body k log r ≡ first
  with_body_lem k h = ap (λ (v : List ℕ). splice from v log) (take_all k r.body h)

  at_first : appended n log r ≡ first
  at_first =
      let none : n - n ≡ 0 = omega arith in
      let less : n - (n + 11) ≡ 0 = omega arith in
      appended_is n log r a f ∙ stores_written log r room_of n
      ∙ ap (λ (m : ℕ). splice 0 (take m ((record_count log + 1) ∷ [])) (with_line n log r)) less
      ∙ splice_nil 0 (with_line n log r)
      ∙ ap (λ (m : ℕ). splice (line_place (record_count log)) (take m bytes) (with_body n log r)) none
      ∙ splice_nil (line_place (record_count log)) (with_body n log r)
      ∙ with_body_lem n (omega arith)

  line_at : (k : ℕ) → n + 11 ≤ k → with_line k log r ≡ second
  line_at k h =
      ap (λ (v : List ℕ). splice (line_place (record_count log)) v (with_body k log r)) (take_all (k - n) bytes (omega (arith, length_line from r)))
      ∙ ap (splice (line_place (record_count log)) bytes) (with_body_lem k (omega arith))

  at_second : appended (n + 11) log r ≡ second
  at_second =
      let none : n + 11 - (n + 11) ≡ 0 = omega arith in
      appended_is (n + 11) log r a f ∙ stores_written log r room_of (n + 11)
      ∙ ap (λ (m : ℕ). splice 0 (take m ((record_count log + 1) ∷ [])) (with_line (n + 11) log r)) none
      ∙ splice_nil 0 (with_line (n + 11) log r)
      ∙ line_at (n + 11) (omega arith)

  at_third : appended (n + 12) log r ≡ splice 0 ((record_count log + 1) ∷ []) second
  at_third =
      let one : n + 12 - (n + 11) ≡ 1 = omega arith in
      appended_is (n + 12) log r a f ∙ stores_written log r room_of (n + 12)
      ∙ ap (λ (m : ℕ). splice 0 (take m ((record_count log + 1) ∷ [])) (with_line (n + 12) log r)) one
      ∙ ap (splice 0 ((record_count log + 1) ∷ [])) (line_at (n + 12) (omega arith))

  long_first : length first ≡ length log
  long_first = length_splice from r.body log room_of.fits

  in_three : InThree log r
  in_three =
      record {
        body = λ j o. ap (λ (l : List ℕ). get_or l j 0) at_first ∙ get_d_outside from j r.body log (omega (arith, room_of.fits)) o;
        line = λ j o.
            ap (λ (l : List ℕ). get_or l j 0) at_second
            ∙ get_d_outside (line_place (record_count log)) j bytes first (omega (arith, long_first, room_of.below, room_of.from))
            (subst (λ (m : ℕ). Outside (line_place (record_count log)) m j) (sym (length_line from r)) o)
            ∙ ap (λ (l : List ℕ). get_or l j 0) (sym at_first);
        count = λ j o.
            ap (λ (l : List ℕ). get_or l j 0) at_third
            ∙ get_d_outside 0 j ((record_count log + 1) ∷ []) second (omega arith) (inr o)
            ∙ ap (λ (l : List ℕ). get_or l j 0) (sym at_second);
      }

pub appends_in_three : AppendsInThree
appends_in_three log r = go (accepts log r) (lacks log r) refl refl
  where
    unmoved : ((k : ℕ) → appended k log r ≡ log) → InThree log r
    unmoved e =
        record {
          body = λ j o. ap (λ (l : List ℕ). get_or l j 0) (e (length r.body));
          line = λ j o. ap (λ (l : List ℕ). get_or l j 0) (e (length r.body + 11) ∙ sym (e (length r.body)));
          count = λ j o. ap (λ (l : List ℕ). get_or l j 0) (e (length r.body + 12) ∙ sym (e (length r.body + 11)));
        }

    go : (a f : Bool) → accepts log r ≡ a → lacks log r ≡ f → InThree log r
    go true false p q = in_three log r p q
    go true true p q = unmoved (λ k. (left_24 k log r p q).1)
    go false f p q = unmoved (λ k. (left_23 k log r p).1)

-- ---- a byte that is another one

total_set : (l : List ℕ) (q b : ℕ) → q < length l → total (set l q b) + get_or l q 0 ≡ total l + b
unfolding total
total_set [] q b h = absurd (omega arith)
total_set (a ∷ l) zero b h = omega arith
total_set (a ∷ l) (suc q) b h = omega (arith, total_set l q b (le_of_suc-le-suc h))

ok_sum : (log : List ℕ) (i : ℕ) → record_ok log i ≡ true → sum_at log i ≡ checksum (record_at log i).body
unfolding record_ok start_at all all_from
ok_sum log i e =
    eqb-true (sum_at log i) (checksum (record_at log i).body)
    (and_right (eqb (place_at log i) (start_at log i)) _
    (and_left (eqb (place_at log i) (start_at log i) && eqb (sum_at log i) (checksum (record_at log i).body)) _
    (and_right (leb (start_at log i + length_at log i) (length log)) _ e)))

module _ (log : List ℕ) (i p b : ℕ) (g : good_log log ≡ true) (lb : Bytes log) (h : i < record_count log) (low : start_at log i ≤ p) (high : p < start_at log (suc i)) (small : b < 256) where
  abbrev other : List ℕ
  other = set log p b

  deep : 2201 ≤ p
  deep = omega (arith, start_from log i, low)

  few : i < 200
  few = omega (arith, h, (sizes log g).2)

  away : (j : ℕ) → j < p → get_or other j 0 ≡ get_or log j 0
  away j q = get_or-set_other log p j b 0 (λ e. omega arith)

  fields_same : (at m : ℕ) → at + m ≤ 2201 → field at m other ≡ field at m log
  unfolding part
  fields_same at m q = ap le (part_away at m q)
    where
      part_away : (at m : ℕ) → at + m ≤ 2201 → part at m other ≡ part at m log
      part_away at m q =
          let inside : p < length log = omega (arith, high, start_next log i, ok_inside log i (good_record log g i h)) in
          ap (part at m) (sym (splice_set p b log inside)) ∙ splice_before p at m (b ∷ []) log (omega (arith, inside)) (omega (arith, deep))

  before_it : Same i log other
  before_it =
      record {
        long = sym (length-set log p b);
        lines = λ j a q. sym (away j (omega (arith, deep, few)));
        bodies = λ j a q. sym (away j (omega (arith, low)));
      }

  start_other : start_at other i ≡ start_at log i
  start_other = sym (start_same log other before_it i (omega arith))

  size : length_at other i ≡ length_at log i
  size = fields_same (line_place i + 5) 2 (omega (arith, few))

  sum : sum_at other i ≡ sum_at log i
  sum = fields_same (line_place i + 7) 4 (omega (arith, few))

  abbrev q : ℕ
  q = p - start_at log i

  body_set : (record_at other i).body ≡ set (record_at log i).body q b
  unfolding record_at part
  body_set =
      let there : start_at log i + q ≡ p = omega (arith, low) in
      let within : q < length_at log i = omega (arith, low, high, start_next log i) in
      rw (start_other, size)
      (ap (λ (m : ℕ). take (length_at log i) (drop (start_at log i) (set log m b))) (sym there)
      ∙ ap (take (length_at log i)) (drop-set-add (start_at log i) log q b)
      ∙ take-set-lt (length_at log i) (drop (start_at log i) log) q b within)

  byte_was : get_or (record_at log i).body q 0 ≡ get_or log p 0
  unfolding record_at part
  byte_was =
      let there : start_at log i + q ≡ p = omega (arith, low) in
      let within : q < length_at log i = omega (arith, low, high, start_next log i) in
      get_or-take (length_at log i) (drop (start_at log i) log) q 0 within ∙ get_or-drop (start_at log i) log q 0 ∙ ap (λ (m : ℕ). get_or log m 0) there

  changed : record_ok other i ≡ true → b ≡ get_or log p 0
  changed ok =
      let here = good_record log g i h in
      let within : q < length (record_at log i).body = omega (arith, body_long log i here, low, high, start_next log i) in
      let sums : checksum (set (record_at log i).body q b) ≡ checksum (record_at log i).body =
      ap checksum (sym body_set) ∙ sym (ok_sum other i ok) ∙ sum ∙ ok_sum log i here in
      let adds = total_set (record_at log i).body q b within in
      let old : get_or (record_at log i).body q 0 < 256 = subst (λ (m : ℕ). m < 256) (sym byte_was) (lb p) in
      omega (arith, sums, adds, old, small, byte_was)

  pub bad_now : (b ≡ get_or log p 0 → ⊥) → good_log other ≡ false
  bad_now ne = go (cases (good_log other))
    where
      go : (good_log other ≡ true) ⊎ (good_log other ≡ false) → good_log other ≡ false
      go (inr e) = e
      go (inl e) =
          let count : record_count other ≡ record_count log = away 0 (omega (arith, deep)) in
          absurd (ne (changed (good_record other e i (omega (arith, h, count)))))

pub byte_changed : ByteChanged
byte_changed log i p b g lb h low high small ne = rw (bad_now log i p b g lb h low high small ne)

-- ---- a log that begins again

pub renews : Renews
unfolding stored puts good_log records every tabulate
renews log g =
    let s = sizes log g in
    let none : record_count (set log 0 0) ≡ 0 = get_or-set_same log 0 0 0 (omega (arith, s.0)) in
    record {
      good = rw (none, length-set log 0 0, le-leb bodies_from (length log) s.0, le-leb (length log) most_log s.1);
      empty = rw none;
      long = length-set log 0 0;
      bytes = λ b. subst Bytes (splice_set 0 0 log (omega (arith, s.0))) (Bytes_splice 0 (0 ∷ []) log (Bytes_cons [] (lit< tt) Bytes_nil) b);
    }
