-- One-byte stores, as splices, and the log that they leave. Assumes nothing.
use Prim.Native.Nat.{ℕ, zero, suc, ◌+◌, ◌-◌, ◌≤◌}
use native.Mathlib.Omega.{arith}
use native.Mathlib.Nat.{sub-zero, suc-sub-suc}
use mathlib.Core.Path.{◌≡◌, refl, sym, ap, ◌∙◌}
use mathlib.Core.List.{List, [], ◌∷◌, ◌++◌}
use lib.ListN.{length, take, set, length-take, length-append, length-set}
use Rattle.lists.specs.Parts.{splice}
use Rattle.lists.specs.Le.{to_le}
use Rattle.lists.proofs.Parts.{splice_nil, splice_cons, length_splice}
use Rattle.redo_log.specs.Log.{LogRecord, record_count, line_place, start_at}
use Rattle.redo_log.specs.Append.{Store, stored, puts, line_bytes, stores}
use Rattle.redo_log.specs.inner.Admitted.{Admitted}

-- ---- stores are splices

pub stored_append : (a b : List Store) (l : List ℕ) → stored (a ++ b) l ≡ stored b (stored a l)
unfolding stored
stored_append [] b l = refl
stored_append (s ∷ a) b l = stored_append a b (set l s.place s.byte)

pub take_append : {A : Type 0} (k : ℕ) (a b : List A) → take k (a ++ b) ≡ take k a ++ take (k - length a) b
take_append zero a b = let none : 0 - length a ≡ 0 = omega arith in rw none
take_append (suc k) [] b = rw sub-zero
take_append (suc k) (x ∷ a) b = rw (take_append k a b, suc-sub-suc)

length_puts : (at : ℕ) (v : List ℕ) → length (puts at v) ≡ length v
unfolding puts
length_puts at [] = refl
length_puts at (b ∷ v) = ap suc (length_puts (at + 1) v)

take_puts : (k at : ℕ) (v : List ℕ) → take k (puts at v) ≡ puts at (take k v)
unfolding puts
take_puts zero at v = refl
take_puts (suc k) at [] = refl
take_puts (suc k) at (b ∷ v) = rw (take_puts k (at + 1) v)

stored_puts : (at : ℕ) (v l : List ℕ) → at + length v ≤ length l → stored (puts at v) l ≡ splice at v l
unfolding stored puts
stored_puts at [] l h = sym (splice_nil at l)
stored_puts at (b ∷ v) l h =
    stored_puts (at + 1) v (set l at b) (rw length-set (omega arith)) ∙ splice_cons at b v l (omega arith)

pub length_taken : (k : ℕ) (v : List ℕ) → length (take k v) ≤ length v
length_taken k v = rw length-take (omega arith)

-- The first k of the stores at a place.
pub stored_taken : (k at : ℕ) (v l : List ℕ) → at + length v ≤ length l → stored (take k (puts at v)) l ≡ splice at (take k v) l
stored_taken k at v l h = rw take_puts (stored_puts at (take k v) l (omega (arith, length_taken k v)))

pub length_line : (place : ℕ) (r : LogRecord) → length (line_bytes place r) ≡ 11
unfolding line_bytes to_le
length_line place r = refl

pub length_stores : (log : List ℕ) (r : LogRecord) → length (stores log r) ≡ length r.body + 12
unfolding stores
length_stores log r =
    length-append (puts (start_at log (record_count log)) r.body ++ puts (line_place (record_count log)) (line_bytes (start_at log (record_count log)) r)) (puts 0 ((record_count log + 1) ∷ []))
    ∙ rw (length-append, length_puts, length_puts, length_puts, length_line) (omega arith)

-- The log after the first k stores, as three splices.
abbrev pub with_body : ℕ → List ℕ → LogRecord → List ℕ
with_body k log r = splice (start_at log (record_count log)) (take k r.body) log

abbrev pub with_line : ℕ → List ℕ → LogRecord → List ℕ
with_line k log r = splice (line_place (record_count log)) (take (k - length r.body) (line_bytes (start_at log (record_count log)) r)) (with_body k log r)

abbrev pub written : ℕ → List ℕ → LogRecord → List ℕ
written k log r = splice 0 (take (k - (length r.body + 11)) ((record_count log + 1) ∷ [])) (with_line k log r)

module _ (log : List ℕ) (r : LogRecord) (room : Admitted log r) where
  pub long_body : (k : ℕ) → length (with_body k log r) ≡ length log
  long_body k = length_splice (start_at log (record_count log)) (take k r.body) log (omega (arith, room.fits, length_taken k r.body))

  pub line_fits : (k : ℕ) → line_place (record_count log) + length (take k (line_bytes (start_at log (record_count log)) r)) ≤ length log
  line_fits k =
      omega (arith, room.below, room.from, length_taken k (line_bytes (start_at log (record_count log)) r), length_line (start_at log (record_count log)) r)

  pub long_line : (k : ℕ) → length (with_line k log r) ≡ length log
  long_line k =
      length_splice (line_place (record_count log)) (take (k - length r.body) (line_bytes (start_at log (record_count log)) r)) (with_body k log r)
      (rw (long_body k) (line_fits (k - length r.body)))
      ∙ long_body k

  pub count_fits : (k : ℕ) → length (take k ((record_count log + 1) ∷ [])) ≤ 1
  count_fits k = length_taken k ((record_count log + 1) ∷ [])

  pub long_written : (k : ℕ) → length (written k log r) ≡ length log
  long_written k =
      length_splice 0 (take (k - (length r.body + 11)) ((record_count log + 1) ∷ [])) (with_line k log r)
      (rw (long_line k) (omega (arith, room.from, count_fits (k - (length r.body + 11)))))
      ∙ long_line k

  pub stores_written : (k : ℕ) → stored (take k (stores log r)) log ≡ written k log r
  unfolding stores
  stores_written k =
      let n : ℕ = record_count log in
      let body : List Store = puts (start_at log n) r.body in
      let line : List Store = puts (line_place n) (line_bytes (start_at log n) r) in
      let count : List Store = puts 0 ((n + 1) ∷ []) in
      let long : length (body ++ line) ≡ length r.body + 11 = length-append body line ∙ rw (length_puts, length_puts, length_line) in
      ap (λ (ss : List Store). stored ss log) (take_append k (body ++ line) count ∙ rw long (rw (take_append k body line, length_puts (start_at log n) r.body)))
      ∙ stored_append (take k body ++ take (k - length r.body) line) (take (k - (length r.body + 11)) count) log
      ∙ ap (stored (take (k - (length r.body + 11)) count)) (stored_append (take k body) (take (k - length r.body) line) log)
      ∙ ap (λ (l : List ℕ). stored (take (k - (length r.body + 11)) count) (stored (take (k - length r.body) line) l)) (stored_taken k (start_at log n) r.body log room.fits)
      ∙ ap (stored (take (k - (length r.body + 11)) count))
      (stored_taken (k - length r.body) (line_place n) (line_bytes (start_at log n) r) (with_body k log r)
      (rw (long_body k, length_line) (omega (arith, room.below, room.from))))
      ∙ stored_taken (k - (length r.body + 11)) 0 ((n + 1) ∷ []) (with_line k log r) (rw (long_line k) (omega (arith, room.from)))
