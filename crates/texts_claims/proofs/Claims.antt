-- The claims of structured texts. Assumes nothing.
use Prim.Native.Nat.{ℕ, ◌+◌, ◌≤◌}
use native.Mathlib.Omega.{arith}
use mathlib.Core.Path.{◌≡◌, refl, sym, ap, subst, ◌∙◌}
use mathlib.Core.Logic.{◌⊎◌}
use mathlib.Core.List.{List, [], ◌++◌, append-nil}
use mathlib.Core.Option.{Option, none, some}
use lib.Dec.{T}
use lib.ListN.{length}
use Rattle.lists.specs.Table.{listed}
use Rattle.texts.specs.Text.{Section, steps_bytes, section_bytes, Says, deepest}
use Rattle.texts.specs.Agree.{unmatched, Verdict, placed, Compared, first_ill, second_ill, both_formed}
use Rattle.texts.proofs.Once.{section_once}
use Rattle.texts_claims.specs.Claims.{OneReading, NoneBehind, OneVerdict, Agreed, Disagreed, AgreedBothWays, BeginsThere, EndsThere, VerdictExactly, compare_numbers, TextClaims}
use Rattle.texts_claims.proofs.Agree.{matched_agree_lem, place_inside_lem}
use Rattle.texts_claims.proofs.Near.{near_both_ways_lem, agree_both_ways_lem}
use Rattle.texts_claims.proofs.Places.{tells_there}

-- ---- readings

both_ways : (text more : List ℕ) (s t : Section) → Says text s → Says (text ++ more) t → (s ≡ t) × (more ≡ [])
both_ways text more s t p q =
    section_once s t deepest deepest p.within q.within more [] (ap (λ (l : List ℕ). l ++ more) (sym p.bytes) ∙ q.bytes ∙ sym (append-nil (section_bytes t)))

pub one_reading_lem : OneReading
one_reading_lem text s t p q =
    (section_once s t deepest deepest p.within q.within [] [] (append-nil (section_bytes s) ∙ sym p.bytes ∙ q.bytes ∙ sym (append-nil (section_bytes t)))).0

pub none_behind_lem : NoneBehind
none_behind_lem text more (s, p) (t, q) = (both_ways text more s t p q).1

-- ---- verdicts

number_of : {v w : Verdict} → v ≡ w → v.number ≡ w.number
number_of e = ap (λ (x : Verdict). x.number) e

place_of : {v w : Verdict} → v ≡ w → v.place ≡ w.place
place_of e = ap (λ (x : Verdict). x.place) e

-- The one reading of each text.
read_again : {a b : List ℕ} {s t s' t' : Section} → Says a s → Says b t → Says a s' → Says b t' → unmatched s t 2 ≡ unmatched s' t' 2
read_again {a} {b} {s} {t} {s'} {t'} p q p' q' =
    ap (λ (x : Section). unmatched x t 2) (one_reading_lem a s s' p p') ∙ ap (λ (x : Section). unmatched s' x 2) (one_reading_lem b t t' q q')

pub one_verdict_lem : OneVerdict
one_verdict_lem a b v w (first_ill x e) (first_ill y f) = e ∙ sym f
one_verdict_lem a b v w (first_ill x e) (second_ill g y f) = absurd (x g)
one_verdict_lem a b v w (first_ill x e) (both_formed s t p q f) = absurd (x (s, p))
one_verdict_lem a b v w (second_ill g x e) (first_ill y f) = absurd (y g)
one_verdict_lem a b v w (second_ill g x e) (second_ill h y f) = e ∙ sym f
one_verdict_lem a b v w (second_ill g x e) (both_formed s t p q f) = absurd (x (t, q))
one_verdict_lem a b v w (both_formed s t p q e) (first_ill y f) = absurd (y (s, p))
one_verdict_lem a b v w (both_formed s t p q e) (second_ill h y f) = absurd (y (t, q))
one_verdict_lem a b v w (both_formed s t p q e) (both_formed s' t' p' q' f) = e ∙ ap placed (read_again p q p' q') ∙ sym f

-- What the number of two well formed texts says of the place.
module _ (a b : List ℕ) (s t : Section) (p : Says a s) (q : Says b t) where
  matched_agreed : unmatched s t 2 ≡ none → Agreed a b
  matched_agreed e = (s, t, p, q, (matched_agree_lem s t 2).0 e)

  agreed_matched : Agreed a b → unmatched s t 2 ≡ none
  agreed_matched (s', t', p', q', h) = read_again p q p' q' ∙ (matched_agree_lem s' t' 2).1 h

  placed_disagreed : (place : ℕ) → unmatched s t 2 ≡ some place → Disagreed a b
  placed_disagreed place e = (s, t, p, q, (λ h. apart (sym ((matched_agree_lem s t 2).1 h) ∙ e)))
    where
      apart : none ≡ some place → ⊥
      apart z = let y : ◌≡◌ {A = ℕ} 0 1 = cc in omega arith

  not_both : Agreed a b → Disagreed a b → ⊥
  not_both (s', t', p', q', h) (s'', t'', p'', q'', f) =
      f ((matched_agree_lem s'' t'' 2).0 (read_again p'' q'' p' q' ∙ (matched_agree_lem s' t' 2).1 h))

  within : (place : ℕ) → unmatched s t 2 ≡ some place → (2 ≤ place) × (place ≤ length a)
  within place e =
      let inside : (2 ≤ place) × (place ≤ 2 + length (steps_bytes s)) = place_inside_lem s t 2 place e in
      let long : length a ≡ 2 + length (steps_bytes s) = ap length p.bytes ∙ omega arith in
      (inside.0, omega (arith, inside.1, long))

  both_exactly : (v : Verdict) (o : Option ℕ) → unmatched s t 2 ≡ o → v ≡ placed o → VerdictExactly a b v
  both_exactly v none u e = record {
    agreed = ((λ z. matched_agreed u), (λ z. number_of e));
    first_refused = ((λ z. absurd (omega (arith, z, number_of e))), (λ x. absurd (x (s, p))));
    second_refused = ((λ z. absurd (omega (arith, z, number_of e))), (λ x. absurd (x.1 (t, q))));
    differing = ((λ z. absurd (omega (arith, z, number_of e))), (λ d. absurd (not_both (matched_agreed u) d)));
    inside = λ z. absurd (omega (arith, z, number_of e));
    there = λ z. absurd (omega (arith, z, number_of e));
    placeless = λ z. place_of e;
  }
  both_exactly v (some place) u e = record {
    agreed = ((λ z. absurd (omega (arith, z, number_of e))), (λ g. absurd (not_both g (placed_disagreed place u))));
    first_refused = ((λ z. absurd (omega (arith, z, number_of e))), (λ x. absurd (x (s, p))));
    second_refused = ((λ z. absurd (omega (arith, z, number_of e))), (λ x. absurd (x.1 (t, q))));
    differing = ((λ z. placed_disagreed place u), (λ d. number_of e));
    inside = λ z. (omega (arith, (within place u).0, place_of e), omega (arith, (within place u).1, place_of e));
    there = λ z. subst (λ (n : ℕ). BeginsThere a n ⊎ EndsThere a n) (sym (place_of e)) (tells_there a s p t place u);
    placeless = λ z. absurd (z (number_of e));
  }

pub agreed_both_ways_lem : AgreedBothWays
agreed_both_ways_lem a b = (turn a b, turn b a)
  where
    turn : (a b : List ℕ) → Agreed a b → Agreed b a
    turn a b (s, t, p, q, h) = (t, s, q, p, subst T (agree_both_ways_lem s t) h)

pub exactly : (a b : List ℕ) (v : Verdict) → Compared a b v → VerdictExactly a b v
exactly a b v (first_ill x e) = record {
  agreed = ((λ z. absurd (omega (arith, z, number_of e))), (λ g. absurd (x (g.0, g.2))));
  first_refused = ((λ z. x), (λ z. number_of e));
  second_refused = ((λ z. absurd (omega (arith, z, number_of e))), (λ g. absurd (x g.0)));
  differing = ((λ z. absurd (omega (arith, z, number_of e))), (λ g. absurd (x (g.0, g.2))));
  inside = λ z. absurd (omega (arith, z, number_of e));
  there = λ z. absurd (omega (arith, z, number_of e));
  placeless = λ z. place_of e;
}
exactly a b v (second_ill g x e) = record {
  agreed = ((λ z. absurd (omega (arith, z, number_of e))), (λ h. absurd (x (h.1, h.3))));
  first_refused = ((λ z. absurd (omega (arith, z, number_of e))), (λ y. absurd (y g)));
  second_refused = ((λ z. (g, x)), (λ z. number_of e));
  differing = ((λ z. absurd (omega (arith, z, number_of e))), (λ h. absurd (x (h.1, h.3))));
  inside = λ z. absurd (omega (arith, z, number_of e));
  there = λ z. absurd (omega (arith, z, number_of e));
  placeless = λ z. place_of e;
}
exactly a b v (both_formed s t p q e) = both_exactly a b s t p q v (unmatched s t 2) refl e

numbers : (a b : List ℕ) (v : Verdict) → Compared a b v → T (listed compare_numbers v.number)
numbers a b v (first_ill x e) = rw (number_of e) tt
numbers a b v (second_ill g x e) = rw (number_of e) tt
numbers a b v (both_formed s t p q e) = go (unmatched s t 2) refl
  where
    go : (o : Option ℕ) → unmatched s t 2 ≡ o → T (listed compare_numbers v.number)
    go none u = rw (number_of e, u) tt
    go (some place) u = rw (number_of e, u) tt

pub text_claims : TextClaims
text_claims = record {
  one_reading = one_reading_lem;
  none_behind = none_behind_lem;
  matched_agree = matched_agree_lem;
  place_inside = place_inside_lem;
  near_both_ways = near_both_ways_lem;
  agree_both_ways = agree_both_ways_lem;
  agreed_both_ways = agreed_both_ways_lem;
  one_verdict = one_verdict_lem;
  exactly = exactly;
  numbers = numbers;
}
