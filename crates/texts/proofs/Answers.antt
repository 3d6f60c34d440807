-- The verdict, by what the two checks and the walk find. Assumes nothing.
use Prim.Native.Nat.{ℕ, ◌+◌}
use native.Mathlib.Omega.{arith}
use mathlib.Core.Path.{◌≡◌, refl, sym, ap, ◌∙◌}
use mathlib.Core.Option.{Option, none, some}
use mathlib.Core.List.{List, [], ◌++◌, append-nil}
use lib.ListN.{length, drop}
use lib.Seq.{drop-length}
use Rattle.texts.specs.Text.{Section, section_bytes, Says, WellFormedText, deepest}
use Rattle.texts.specs.Agree.{verdict, told, placed, unmatched, Compared, both_formed}
use Rattle.texts.specs.inner.Walk.{Walk, SectionThere, same, differ, walked, TwoSections, SectionsWalked}
use Rattle.std.specs.Prelude.{Ok, Err}
use Rattle.texts.specs.declared.Disagreement.TheVariants.{Unmatched}

-- What a text says stands at its front.
front : (l : List ℕ) (s : Section) → Says l s → SectionThere l 0 deepest s
front l s says =
    let place : 0 + length (section_bytes s) ≡ length l = omega (arith, ap length says.bytes) in
    let over : drop (0 + length (section_bytes s)) l ≡ [] = ap (λ (k : ℕ). drop k l) place ∙ drop-length l in
    record {
      allowed = says.within;
      here = says.bytes ∙ sym (append-nil (section_bytes s)) ∙ ap (λ (x : List ℕ). section_bytes s ++ x) (sym over);
      behind = refl;
    }

same_told : (o : Option ℕ) (i j x y : ℕ) → same i j ≡ walked o x y → told (Ok tt) ≡ placed o
same_told none i j x y e = refl
same_told (some k) i j x y e = let z : ◌≡◌ {A = ℕ} 0 1 = cc in absurd (omega arith)

-- The place of a walk that found one unmatched.
place_of : Walk → ℕ
place_of (Ok both) = 0
place_of (Err unmatched) = unmatched.at

differ_told : (o : Option ℕ) (at x y : ℕ) → differ at ≡ walked o x y → told (Err (Unmatched at)) ≡ placed o
unfolding place_of
differ_told none at x y e = let z : ◌≡◌ {A = ℕ} 0 1 = cc in absurd (omega arith)
differ_told (some k) at x y e = ap (λ (r : Walk). verdict 20 (place_of r)) e

module _ (a b : List ℕ) where
  pub both_stand : WellFormedText a → WellFormedText b → ((s t : Section) × TwoSections a 0 b 0 deepest s t)
  both_stand (s, p) (t, q) = (s, t, record { one = front a s p; other = front b t q })

  module _ (one : WellFormedText a) (other : WellFormedText b) where
    abbrev both : TwoSections a 0 b 0 deepest one.0 other.0
    both = record { one = front a one.0 one.1; other = front b other.0 other.1 }

    pub same_answer : (i j : ℕ) → SectionsWalked a 0 b 0 deepest (same i j) → Compared a b (told (Ok tt))
    same_answer i j w =
        both_formed one.0 other.0 one.1 other.1
        (same_told (unmatched one.0 other.0 2) i j (0 + length (section_bytes one.0)) (0 + length (section_bytes other.0))
        (w one.0 other.0 both))

    pub differ_answer : (at : ℕ) → SectionsWalked a 0 b 0 deepest (differ at) → Compared a b (told (Err (Unmatched at)))
    differ_answer at w =
        both_formed one.0 other.0 one.1 other.1
        (differ_told (unmatched one.0 other.0 2) at (0 + length (section_bytes one.0)) (0 + length (section_bytes other.0))
        (w one.0 other.0 both))
