-- A number in decimal. Assumes nothing.
use Prim.Native.Nat.{ℕ, zero, suc, ◌+◌, ◌-◌, ◌*◌, ◌/◌, ◌%◌, ◌≤◌, ◌<◌}
use native.Mathlib.Omega.{arith}
use mathlib.Core.Path.{◌≡◌, refl, ◌∙◌}
use mathlib.Core.List.{List, [], ◌∷◌, ◌++◌}
use mathlib.Core.Bool.{Bool, true, false}
use lib.Dec.{ltb}
use lib.ListN.{length, get_or, length-append, get_or-append}
use borrow.Author.Tests.{ltb-true, ltb-false}
use Rattle.program.specs.Text.{decimal_within, decimal}
use Rattle.program_claims.specs.Claims.{read_on, Numeral}

-- What holds of a number below ten and its digit, and of a number and its digits if it holds of its tenth and the tenth's, holds of every number.
along : (P : ℕ → List ℕ → Type 0) → ((n : ℕ) → n < 10 → P n ((48 + n) ∷ [])) →
    ((n : ℕ) (l : List ℕ) → 10 ≤ n → P (n / 10) l → P n (l ++ ((48 + n % 10) ∷ []))) → (n : ℕ) → P n (decimal n)
unfolding decimal decimal_within
along P low more n = go n n (omega arith) (ltb n 10) refl
  where
    go : (f n : ℕ) → n ≤ f → (b : Bool) → ltb n 10 ≡ b → P n (decimal_within f b n)
    go zero n h b e = low n (omega arith)
    go (suc f) n h true e = low n (ltb-true n 10 e)
    go (suc f) n h false e = let high = ltb-false n 10 e in more n _ high (go f (n / 10) (omega arith) (ltb (n / 10) 10) refl)

read_more : (sum : ℕ) (l : List ℕ) (d : ℕ) → read_on sum (l ++ (d ∷ [])) ≡ read_on sum l * 10 + (d - 48)
unfolding read_on
read_more sum [] d = refl
read_more sum (a ∷ l) d = read_more (sum * 10 + (a - 48)) l d

back : (n : ℕ) → read_on 0 (decimal n) ≡ n
unfolding read_on
back =
    along
    (λ n l. read_on 0 l ≡ n)
    (λ n h. omega arith)
    (λ n l h e. read_more 0 l (48 + n % 10) ∙ rw e (omega arith))

abbrev Digits : List ℕ → Type 0
Digits l = (i : ℕ) → i < length l → (48 ≤ get_or l i 0) × (get_or l i 0 ≤ 57)

one : (d : ℕ) → 48 ≤ d → d ≤ 57 → Digits (d ∷ [])
one d a b zero h = (a, b)
one d a b (suc i) h = absurd (omega arith)

join : (l m : List ℕ) → Digits l → Digits m → Digits (l ++ m)
join [] m p q i h = q i h
join (a ∷ l) m p q zero h = p zero (omega arith)
join (a ∷ l) m p q (suc i) h = join l m (λ j k. p (suc j) (omega arith)) q i (omega arith)

each : (n : ℕ) → Digits (decimal n)
each =
    along
    (λ n l. Digits l)
    (λ n h. one (48 + n) (omega arith) (omega arith))
    (λ n l h e. join l ((48 + n % 10) ∷ []) e (one (48 + n % 10) (omega arith) (omega arith)))

front : (n : ℕ) → (0 < n → 48 < get_or (decimal n) 0 0) × (0 < length (decimal n))
front =
    along
    (λ n l. (0 < n → 48 < get_or l 0 0) × (0 < length l))
    (λ n h. ((λ k. omega arith), omega arith))
    (λ n l h e. ((λ k. rw (get_or-append l ((48 + n % 10) ∷ []) 0 0 e.1) (e.0 (omega arith))), rw length-append (omega (arith, e.1))))

pub numerals : (n : ℕ) → Numeral n
numerals n = record { back = back n; each = each n; front = (front n).0 }
