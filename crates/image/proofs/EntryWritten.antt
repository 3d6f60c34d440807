-- Writing an entry as seen in one language. Assumes nothing.
use Prim.Native.Nat.{ℕ, zero, suc, ◌+◌, ◌*◌, ◌≤◌, ◌<◌}
use native.Mathlib.Omega.{arith}
use native.Mathlib.Nat.{add-zero, zero-add}
use mathlib.Core.Path.{◌≡◌, refl, sym, ap, ◌∙◌}
use mathlib.Core.List.{List}
use mathlib.Core.Bool.{cond}
use lib.Dec.{eqb}
use lib.ListN.{length}
use Rattle.lists.specs.Parts.{part, splice, concat_map, tabulate}
use Rattle.lists.specs.Le.{to_le}
use Rattle.lists.proofs.Parts.{splice_within, splice_part, length_splice}
use Rattle.guard.specs.declared.Entry.{Entry}
use Rattle.formats.specs.Format.{Format, V1, V2, translations, entry_size, original_at, froms_at, lengths_at}
use Rattle.formats.proofs.Numbers.{numbers}
use Rattle.commands.specs.Bytes.{pair_bytes}
use Rattle.image.specs.Bytes.{entry_mark, entry_bytes}
use Rattle.image.specs.inner.Write.{stamps_with, original_with, translation_with, entry_with}
use Rattle.image.proofs.Encode.{length_entry_bytes}

-- An entry as seen in each language, after e was written as seen in language t.
abbrev pub seen_after : ℕ → Entry → (ℕ → Entry) → ℕ → Entry
seen_after t e see j =
    record {
      pair = e.pair;
      mark = e.mark;
      edition = e.edition;
      from = cond (eqb j t) e.from (see j).from;
      original = e.original;
      translation = cond (eqb j t) e.translation (see j).translation;
    }

-- On the bytes of an entry.
pub entry_with_lem : (f : Format) (t : ℕ) (e : Entry) (see : ℕ → Entry) → t < translations f →
    entry_with f t e 0 (entry_bytes f see) ≡ entry_bytes f (seen_after t e see)
unfolding entry_with stamps_with original_with translation_with entry_bytes splice concat_map tabulate to_le
entry_with_lem V1 zero e see h = refl
entry_with_lem V1 (suc t) e see h = absurd (omega arith)
entry_with_lem V2 zero e see h = refl
entry_with_lem V2 (suc zero) e see h = refl
entry_with_lem V2 (suc (suc zero)) e see h = refl
entry_with_lem V2 (suc (suc (suc zero))) e see h = refl
entry_with_lem V2 (suc (suc (suc (suc t)))) e see h = absurd (omega arith)

-- At a place of a longer list.
module _ (f : Format) (t : ℕ) (e : Entry) (known : t < translations f) (at : ℕ) (l : List ℕ) (inside : at ≤ length l) where
  one : (i : ℕ) (w v : List ℕ) → i + length w ≤ entry_size f → length v ≡ entry_size f → splice (at + i) w (splice at v l) ≡ splice at (splice (0 + i) w v) l
  one i w v h long = splice_within at i w v l inside (omega arith) ∙ ap (λ (j : ℕ). splice at (splice j w v) l) (sym (zero-add i))

  still : (i : ℕ) (w v : List ℕ) → i + length w ≤ entry_size f → length v ≡ entry_size f → length (splice (0 + i) w v) ≡ entry_size f
  still i w v h long = length_splice (0 + i) w v (rw (zero-add i) (omega arith)) ∙ long

  stamps_lifted : (v : List ℕ) → length v ≡ entry_size f →
      (stamps_with e at (splice at v l) ≡ splice at (stamps_with e 0 v) l) × (length (stamps_with e 0 v) ≡ entry_size f)
  unfolding stamps_with to_le
  stamps_lifted v long =
      let n = numbers f in
      let pair = pair_bytes e.pair in
      let mark = entry_mark e.mark in
      let v1 = splice 0 pair v in
      let l1 : length v1 ≡ entry_size f = still 0 pair v (omega (arith, n)) long in
      let s1 : splice at pair (splice at v l) ≡ splice at v1 l = ap (λ (j : ℕ). splice j pair (splice at v l)) (sym (add-zero at)) ∙ one 0 pair v (omega (arith, n)) long in (
        ap (λ (u : List ℕ). splice (at + 16) mark u) s1 ∙ one 16 mark v1 (omega (arith, n)) l1,
        still 16 mark v1 (omega (arith, n)) l1,
      )

  original_lifted : (v : List ℕ) → length v ≡ entry_size f →
      (original_with f e at (splice at v l) ≡ splice at (original_with f e 0 v) l) × (length (original_with f e 0 v) ≡ entry_size f)
  unfolding original_with to_le
  original_lifted v long =
      let n = numbers f in
      let w = to_le 2 e.edition in
      let u = to_le 2 e.original in
      let l1 : length (splice (0 + 24) w v) ≡ entry_size f = still 24 w v (omega (arith, n)) long in (
        ap (λ (x : List ℕ). splice (at + original_at f) u x) (one 24 w v (omega (arith, n)) long) ∙ one (original_at f) u (splice (0 + 24) w v) (omega (arith, n)) l1,
        still (original_at f) u (splice (0 + 24) w v) (omega (arith, n)) l1,
      )

  translation_lifted : (v : List ℕ) → length v ≡ entry_size f →
      (translation_with f t e at (splice at v l) ≡ splice at (translation_with f t e 0 v) l) × (length (translation_with f t e 0 v) ≡ entry_size f)
  unfolding translation_with to_le
  translation_lifted v long =
      let n = numbers f in
      let w = to_le 2 e.from in
      let u = to_le 2 e.translation in
      let l1 : length (splice (0 + (froms_at f + 2 * t)) w v) ≡ entry_size f = still (froms_at f + 2 * t) w v (omega (arith, n)) long in (
        ap (λ (x : List ℕ). splice (at + (lengths_at f + 2 * t)) u x) (one (froms_at f + 2 * t) w v (omega (arith, n)) long) ∙ one (lengths_at f + 2 * t) u (splice (0 +
            (froms_at f + 2 * t)) w v) (omega (arith, n)) l1,
        still (lengths_at f + 2 * t) u (splice (0 + (froms_at f + 2 * t)) w v) (omega (arith, n)) l1,
      )

  pub entry_lifted : (v : List ℕ) → length v ≡ entry_size f → entry_with f t e at (splice at v l) ≡ splice at (entry_with f t e 0 v) l
  unfolding entry_with
  entry_lifted v long =
      let first = stamps_lifted v long in
      let second = original_lifted (stamps_with e 0 v) first.1 in
      let third = translation_lifted (original_with f e 0 (stamps_with e 0 v)) second.1 in
      ap (λ (u : List ℕ). translation_with f t e at (original_with f e at u)) first.0 ∙ ap (translation_with f t e at) second.0 ∙ third.0

-- Where an entry stands, written as seen in language t: the bytes of the entry as it is then seen in each language.
pub entry_written : (f : Format) (t : ℕ) (e : Entry) (see : ℕ → Entry) (at : ℕ) (l : List ℕ) → t < translations f → at + entry_size f ≤ length l
    → part at (entry_size f) l ≡ entry_bytes f see
    → entry_with f t e at l ≡ splice at (entry_bytes f (seen_after t e see)) l
entry_written f t e see at l known fits here =
    let same : splice at (entry_bytes f see) l ≡ l = ap (λ (u : List ℕ). splice at u l) (sym here) ∙ splice_part at (entry_size f) l fits in
    ap (entry_with f t e at) (sym same)
    ∙ entry_lifted f t e known at l (omega arith) (entry_bytes f see) (length_entry_bytes f see)
    ∙ ap (λ (u : List ℕ). splice at u l) (entry_with_lem f t e see known)

-- ---- In part, where the rest is as it stands.

stamps_with_lem : (f : Format) (t : ℕ) (e : Entry) (see : ℕ → Entry) → t < translations f →
    e.edition ≡ (see 0).edition → e.original ≡ (see 0).original → e.from ≡ (see t).from → e.translation ≡ (see t).translation →
    stamps_with e 0 (entry_bytes f see) ≡ entry_with f t e 0 (entry_bytes f see)
unfolding entry_with stamps_with original_with translation_with entry_bytes splice concat_map tabulate to_le
stamps_with_lem V1 zero e see h p q r s = rw (p, q, r, s)
stamps_with_lem V1 (suc t) e see h p q r s = absurd (omega arith)
stamps_with_lem V2 zero e see h p q r s = rw (p, q, r, s)
stamps_with_lem V2 (suc zero) e see h p q r s = rw (p, q, r, s)
stamps_with_lem V2 (suc (suc zero)) e see h p q r s = rw (p, q, r, s)
stamps_with_lem V2 (suc (suc (suc zero))) e see h p q r s = rw (p, q, r, s)
stamps_with_lem V2 (suc (suc (suc (suc t)))) e see h p q r s = absurd (omega arith)

original_with_lem : (f : Format) (t : ℕ) (e : Entry) (see : ℕ → Entry) → t < translations f → e.from ≡ (see t).from → e.translation ≡ (see t).translation →
    stamps_with e 0 (original_with f e 0 (entry_bytes f see)) ≡ entry_with f t e 0 (entry_bytes f see)
unfolding entry_with stamps_with original_with translation_with entry_bytes splice concat_map tabulate to_le
original_with_lem V1 zero e see h r s = rw (r, s)
original_with_lem V1 (suc t) e see h r s = absurd (omega arith)
original_with_lem V2 zero e see h r s = rw (r, s)
original_with_lem V2 (suc zero) e see h r s = rw (r, s)
original_with_lem V2 (suc (suc zero)) e see h r s = rw (r, s)
original_with_lem V2 (suc (suc (suc zero))) e see h r s = rw (r, s)
original_with_lem V2 (suc (suc (suc (suc t)))) e see h r s = absurd (omega arith)

translation_with_lem : (f : Format) (t : ℕ) (e : Entry) (see : ℕ → Entry) → t < translations f → e.edition ≡ (see 0).edition → e.original ≡ (see 0).original →
    stamps_with e 0 (translation_with f t e 0 (entry_bytes f see)) ≡ entry_with f t e 0 (entry_bytes f see)
unfolding entry_with stamps_with original_with translation_with entry_bytes splice concat_map tabulate to_le
translation_with_lem V1 zero e see h p q = rw (p, q)
translation_with_lem V1 (suc t) e see h p q = absurd (omega arith)
translation_with_lem V2 zero e see h p q = rw (p, q)
translation_with_lem V2 (suc zero) e see h p q = rw (p, q)
translation_with_lem V2 (suc (suc zero)) e see h p q = rw (p, q)
translation_with_lem V2 (suc (suc (suc zero))) e see h p q = rw (p, q)
translation_with_lem V2 (suc (suc (suc (suc t)))) e see h p q = absurd (omega arith)

-- At its place: what is not written stands there already.
module _ (f : Format) (t : ℕ) (e : Entry) (see : ℕ → Entry) (at : ℕ) (l : List ℕ) (known : t < translations f) (fits : at + entry_size f ≤ length l)
    (here : part at (entry_size f) l ≡ entry_bytes f see) where
  same : splice at (entry_bytes f see) l ≡ l
  same = ap (λ (u : List ℕ). splice at u l) (sym here) ∙ splice_part at (entry_size f) l fits

  whole : splice at (entry_with f t e 0 (entry_bytes f see)) l ≡ entry_with f t e at l
  whole = sym (entry_lifted f t e known at l (omega arith) (entry_bytes f see) (length_entry_bytes f see)) ∙ ap (entry_with f t e at) same

  pub stamps_enough : e.edition ≡ (see 0).edition → e.original ≡ (see 0).original → e.from ≡ (see t).from → e.translation ≡ (see t).translation →
      stamps_with e at l ≡ entry_with f t e at l
  stamps_enough p q r s =
      ap (stamps_with e at) (sym same)
      ∙ (stamps_lifted f t e known at l (omega arith) (entry_bytes f see) (length_entry_bytes f see)).0
      ∙ ap (λ (u : List ℕ). splice at u l) (stamps_with_lem f t e see known p q r s)
      ∙ whole

  pub original_enough : e.from ≡ (see t).from → e.translation ≡ (see t).translation → stamps_with e at (original_with f e at l) ≡ entry_with f t e at l
  original_enough r s =
      let up = original_lifted f t e known at l (omega arith) (entry_bytes f see) (length_entry_bytes f see) in
      ap (λ (u : List ℕ). stamps_with e at (original_with f e at u)) (sym same)
      ∙ ap (stamps_with e at) up.0
      ∙ (stamps_lifted f t e known at l (omega arith) (original_with f e 0 (entry_bytes f see)) up.1).0
      ∙ ap (λ (u : List ℕ). splice at u l) (original_with_lem f t e see known r s)
      ∙ whole

  pub translation_enough : e.edition ≡ (see 0).edition → e.original ≡ (see 0).original → stamps_with e at (translation_with f t e at l) ≡ entry_with f t e at l
  translation_enough p q =
      let up = translation_lifted f t e known at l (omega arith) (entry_bytes f see) (length_entry_bytes f see) in
      ap (λ (u : List ℕ). stamps_with e at (translation_with f t e at u)) (sym same)
      ∙ ap (stamps_with e at) up.0
      ∙ (stamps_lifted f t e known at l (omega arith) (translation_with f t e 0 (entry_bytes f see)) up.1).0
      ∙ ap (λ (u : List ℕ). splice at u l) (translation_with_lem f t e see known p q)
      ∙ whole
