-- The records of a log with their lines, and what is left of them. Assumes nothing.
use Prim.Native.Nat.{ℕ, ◌+◌, ◌≤◌, ◌<◌}
use native.Mathlib.Numerals.{add-one}
use mathlib.Core.Path.{ap, refl, sym, ◌≡◌, ◌∙◌}
use mathlib.Core.Logic.{◌⊎◌, inl, inr}
use mathlib.Core.List.{List, [], ◌∷◌, map}
use mathlib.Core.Bool.{Bool, true, ◌||◌}
use lib.ListN.{length, drop, get_or, drop_of_length-le}
use Rattle.std.proofs.Common.{drop-cons}
use Rattle.lists.proofs.ConcatMap.{get_d_tabulate, length_tabulate, map_tabulate}
use Rattle.lists.proofs.Tests.{and_left}
use Rattle.lists.specs.Search.{any}
use Rattle.std.specs.List.{list_any}
use Rattle.redo_log.specs.Log.{LogRecord, records, good_log, record_count, record_at, shaped}
use Rattle.redo_log.specs.inner.Placed.{Placed, placed_at, places}
use Rattle.redo_log.proofs.Budget.{lt_or_ge}
use Rattle.redo_log.proofs.Records.{ok_joins, good_record}

pub length_places : (log : List ℕ) → length (places log) ≡ record_count log
unfolding places
length_places log = length_tabulate (placed_at log) (record_count log)

pub place_of : (log : List ℕ) (i : ℕ) (d : Placed) → i < record_count log → get_or (places log) i d ≡ placed_at log i
unfolding places
place_of log i d h = get_d_tabulate (placed_at log) (record_count log) i d h

pub left_none : (log : List ℕ) (i : ℕ) → record_count log ≤ i → drop i (places log) ≡ []
left_none log i h = drop_of_length-le (places log) (rw length_places h)

pub left_next : (log : List ℕ) (i : ℕ) → i < record_count log → drop i (places log) ≡ placed_at log i ∷ drop (i + 1) (places log)
left_next log i h =
    let long : i < length (places log) = rw length_places h in
    drop-cons (places log) i (placed_at log i) long ∙ rw (place_of log i (placed_at log i) h, add-one)

-- A counted record of a good log is laid out as its kind says.
pub shaped_here : (log : List ℕ) (i : ℕ) → good_log log ≡ true → i < record_count log → shaped (record_at log i) ≡ true
shaped_here log i g h = and_left (shaped (record_at log i)) _ (ok_joins log i (good_record log g i h))

-- What is so of some record, asked of the records with their lines.
any_entries : (f : LogRecord → Bool) (l : List Placed) → list_any (λ (p : Placed). f p.entry) l ≡ any f (map (λ (p : Placed). p.entry) l)
any_entries f [] = refl
any_entries f (p ∷ l) = ap (λ (b : Bool). f p.entry || b) (any_entries f l)

pub any_places : (f : LogRecord → Bool) (log : List ℕ) → list_any (λ (p : Placed). f p.entry) (places log) ≡ any f (records log)
unfolding places records
any_places f log = any_entries f (places log) ∙ ap (any f) (map_tabulate (λ (p : Placed). p.entry) (placed_at log) (record_count log))

-- A loop over the records, of which i are behind it: it is handed record i, or there is none left.
pub turned : (log : List ℕ) (i : ℕ) (s t : List Placed) (p : Placed) → s ≡ drop i (places log) → s ≡ p ∷ t
    → (i < record_count log) × (p ≡ placed_at log i) × (t ≡ drop (i + 1) (places log))
turned log i s t p e f = go (lt_or_ge i (record_count log))
  where
    go : (i < record_count log) ⊎ (record_count log ≤ i) → (i < record_count log) × (p ≡ placed_at log i) × (t ≡ drop (i + 1) (places log))
    go (inl h) = let both : p ∷ t ≡ placed_at log i ∷ drop (i + 1) (places log) = sym f ∙ e ∙ left_next log i h in (h, (cc), (cc))
    go (inr h) = let never : p ∷ t ≡ [] = sym f ∙ e ∙ left_none log i h in absurd (cc)

pub ended : (log : List ℕ) (i : ℕ) (s : List Placed) → s ≡ drop i (places log) → s ≡ [] → record_count log ≤ i
ended log i s e f = go (lt_or_ge i (record_count log))
  where
    go : (i < record_count log) ⊎ (record_count log ≤ i) → record_count log ≤ i
    go (inl h) = let never : [] ≡ placed_at log i ∷ drop (i + 1) (places log) = sym f ∙ e ∙ left_next log i h in absurd (cc)
    go (inr h) = h
