-- A raised entry keeps the rules of a stored entry, and the widths of its fields. Assumes nothing.
use Prim.Native.Nat.{ℕ, ◌+◌, ◌<◌}
use native.Mathlib.Omega.{arith}
use mathlib.Core.Path.{◌≡◌, refl, sym, ◌∙◌}
use mathlib.Core.List.{List, [], ◌∷◌}
use mathlib.Core.Bool.{Bool, true, false, cond, not, ◌&&◌, ◌||◌}
use borrow.Author.Tests.{le-leb, leb-true, ne_eqb, eqb-false, not-true}
use lib.Dec.{T, leb, eqb}
use lib.ListN.{get_or}
use Rattle.lists.specs.Table.{all, all_from}
use Rattle.lists.proofs.Tests.{to_T, from_T, and_in, or_left, not_in, all_cons, all_out}
use Rattle.stamps.specs.Stamp.{stamp_valid, FitsPair}
use Rattle.commands.specs.Command.{original, writes_translation, writes, update, FitsCommand}
use Rattle.guard.specs.Judge.{raise}
use Rattle.guard.specs.Entry.{entry_checks, entry_sound, FitsEntry}
use Rattle.commands.specs.declared.Command.{Command}
use Rattle.guard.specs.declared.Entry.{Entry}
use Rattle.guard.proofs.Judge.{Accepted}
use Rattle.commands.proofs.Rules.{CommandRules, command_rules}
use Rattle.stamps.proofs.Stamp.{max_one}

-- What holds of both arms holds of the one that a test picks.
picked : {A : Type 0} (P : A → Type 0) (b : Bool) {x y : A} → (b ≡ true → P x) → (b ≡ false → P y) → P (cond b x y)
picked P true f g = f refl
picked P false f g = g refl

-- Every test of a list holds, one by one.
data Holds : List Bool → Type 0 where
  none : Holds []
  more : {t : Bool} {ts : List Bool} → t ≡ true → Holds ts → Holds (t ∷ ts)

holds_all : {ts : List Bool} → Holds ts → all ts ≡ true
unfolding all all_from
holds_all none = refl
holds_all (more {t} {ts} h hs) = all_cons t ts ∙ and_in h (holds_all hs)

-- No original at edition 0, and of translated-from alike: where a write puts a length, the edition it puts is not 0.
still_empty : (b : Bool) (n m x y : ℕ) → (b ≡ true → n ≡ 0 → ⊥) → (not (eqb m 0) || eqb y 0) ≡ true →
    (not (eqb (cond b n m) 0) || eqb (cond b x y) 0) ≡ true
still_empty true n m x y h k = or_left (eqb x 0) (not_in (ne_eqb n 0 (h refl)))
still_empty false n m x y h k = k

-- The update pair is one of the two that were sent.
fits_update : (c : Command) → FitsCommand c → FitsPair (update c)
fits_update c g = picked FitsPair (eqb c.opened.s 0 && eqb c.opened.x 0) (λ w. g.verifier) (λ w. g.opened)

module _ {e : Entry} {c : Command} {room lent : ℕ} (a : Accepted e c room lent) where
  abbrev rules : CommandRules c
  rules = command_rules c a.formed

  -- A raised entry keeps the rules of an entry of a sound image.
  pub raise_sound : T (entry_sound room e) → T (entry_sound room (raise e c))
  unfolding entry_sound raise
  raise_sound sound =
      to_T
      (holds_all (more (max_one (λ n. stamp_valid n ≡ true) e.pair.s (update c).s (kept 0) rules.session.s)
      (more (max_one (λ n. stamp_valid n ≡ true) e.pair.x (update c).x (kept 1) rules.session.x)
      (more rules.next
      (more (picked (λ n. leb n room ≡ true) (writes original c) (λ w. le-leb c.length room a.length) (λ w. kept 3))
      (more (picked (λ n. leb n room ≡ true) (writes_translation c) (λ w. le-leb c.length room a.length) (λ w. kept 4))
      (more from (more edition (more translated none)))))))))
    where
      kept : (i : ℕ) → get_or (entry_checks room e) i true ≡ true
      kept i = all_out (entry_checks room e) (from_T (all (entry_checks room e)) sound) i

      from : leb (cond (writes_translation c) c.edition e.from) (cond (writes original c) (e.edition + 1) e.edition) ≡ true
      from =
          picked (λ n. leb (cond (writes_translation c) c.edition e.from) n ≡ true) (writes original c)
          (λ o. picked (λ n. leb n (e.edition + 1) ≡ true) (writes_translation c) (λ w. le-leb c.edition (e.edition + 1) (omega (arith, a.named w)))
          (λ w. le-leb e.from (e.edition + 1) (omega (arith, leb-true e.from e.edition (kept 5)))))
          (λ o. picked (λ n. leb n e.edition ≡ true) (writes_translation c) (λ w. le-leb c.edition e.edition (omega (arith, a.named w))) (λ w. kept 5))

      edition : (not (eqb (cond (writes original c) (e.edition + 1) e.edition) 0) || eqb (cond (writes original c) c.length e.original) 0) ≡ true
      edition = still_empty (writes original c) (e.edition + 1) e.edition c.length e.original (λ w z. omega arith) (kept 6)

      translated : (not (eqb (cond (writes_translation c) c.edition e.from) 0) || eqb (cond (writes_translation c) c.length e.translation) 0) ≡ true
      translated =
          still_empty (writes_translation c) c.edition e.from c.length e.translation
          (λ w. eqb-false c.edition 0 (not-true (eqb c.edition 0) (sym rules.edition ∙ w)))
          (kept 7)

  -- A raised entry keeps its fields' widths.
  pub raise_fits : FitsEntry e → FitsCommand c → FitsEntry (raise e c)
  unfolding raise
  raise_fits f g =
      record {
        pair =
            record {
              s = max_one (λ n. n < 18446744073709551616) e.pair.s (update c).s f.pair.s (fits_update c g).s;
              x = max_one (λ n. n < 18446744073709551616) e.pair.x (update c).x f.pair.x (fits_update c g).x;
            };
        mark = g.next;
        edition = picked (λ n. n < 65536) (writes original c) (λ w. let unspent = a.unspent w in omega (arith, f.edition, unspent)) (λ w. f.edition);
        from = picked (λ n. n < 65536) (writes_translation c) (λ w. g.edition) (λ w. f.from);
        original = picked (λ n. n < 65536) (writes original c) (λ w. g.length) (λ w. f.original);
        translation = picked (λ n. n < 65536) (writes_translation c) (λ w. g.length) (λ w. f.translation);
      }
