-- Lists of tests, one for each sentence of a rule.
-- Assumes nothing.
use Rattle.std.specs.Prelude.{List, [], ◌∷◌, Bool, true, ◌&&◌, false, cond, not, ◌||◌, ℕ, zero, suc, eqb}
use Rattle.lists.specs.Search.{any}

-- b and every test of the list, joined from the left, as `b & t & u` of the code is.
unfoldable pub all_from : Bool → List Bool → Bool
all_from b [] = b
all_from b (t ∷ ts) = all_from (b && t) ts

-- Every test of the list holds.
unfoldable pub all : List Bool → Bool
all ts = all_from true ts

-- ---- A table of numbered refusals, as data: rows in the order in which they are checked (rule 4.1). A number is the answer if its row applies and no row
-- above it does.

pub record Row : Type 0 where
  pub applies : Bool
  pub gives : ℕ

abbrev pub row : Bool → ℕ → Row
row b n = record { applies = b; gives = n }

-- The number of the first row that applies, or 0, accepted, where none does.
abbrev pub first : List Row → ℕ
first [] = 0
first (r ∷ rows) = cond r.applies r.gives (first rows)

-- No row of the list applies.
abbrev pub no_row : List Row → Bool
no_row [] = true
no_row (r ∷ rows) = not r.applies && no_row rows

-- The row with this number applies.
abbrev pub applies : ℕ → List Row → Bool
applies n [] = false
applies n (r ∷ rows) = cond (eqb r.gives n) r.applies (applies n rows)

-- The rows that stand before the row with this number.
abbrev pub earlier : ℕ → List Row → List Row
earlier n [] = []
earlier n (r ∷ rows) = cond (eqb r.gives n) [] (r ∷ earlier n rows)

-- The row with this number stands in the list.
abbrev pub numbered : ℕ → List Row → Bool
numbered n [] = false
numbered n (r ∷ rows) = eqb r.gives n || numbered n rows

-- Each number stands on one row, and 0 on none.
abbrev pub once : List Row → Bool
once [] = true
once (r ∷ rows) = not (eqb r.gives 0) && not (numbered r.gives rows) && once rows

-- The number is 0 or one of these: what an operation may answer (rule 5.1).
abbrev pub listed : List ℕ → ℕ → Bool
listed ns n = eqb n 0 || any (eqb n) ns

-- What goes by the number: the new value where it is 0, the old one after a refusal.
abbrev pub settled : {A : Type 0} → ℕ → A → A → A
settled zero new old = new
settled (suc n) new old = old
