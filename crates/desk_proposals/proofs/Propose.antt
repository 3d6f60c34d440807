-- Laws of proposals. Assumes nothing.
use Prim.Native.Nat.{ℕ, ◌≤◌, ◌<◌, ◌/◌}
use native.Mathlib.Omega.{arith}
use mathlib.Core.Path.{◌≡◌, refl}
use mathlib.Core.Logic.{◌⊎◌, inl, inr}
use mathlib.Core.Bool.{Bool, true, false, not, ◌&&◌, ◌||◌}
use borrow.Author.Tests.{ltb-true, ltb-false, not-false, not-true, eqb-true, eqb-false}
use lib.Dec.{ltb, eqb}
use Rattle.lists.specs.Table.{first, settled, applies}
use Rattle.lists.proofs.Table.{unapplied, none_applies, settled_new}
use Rattle.lists.proofs.Tests.{cases, and_left, and_right, or_cases}
use Rattle.stamps.specs.Stamp.{stamp, shared, exclusive, own, no_pair}
use Rattle.stamps.specs.declared.Pair.{Pair}
use Rattle.desk_proposals.specs.declared.Known.{Known}
use Rattle.desk_proposals.specs.Propose.{learnt, next_t, own_above, last_t, pair_for, proposal_rows, proposed}

-- A proposal, field by field.
pub proposed_by : (k : Known) (mode : ℕ) {number : ℕ} {pair : Pair} {known : Known} → number ≡ first (proposal_rows k mode)
    → pair ≡ settled number (pair_for k mode) no_pair
    → known ≡ settled number (learnt k (pair_for k mode)) k
    → record { number = number; pair = pair; known = known } ≡ proposed k mode
unfolding proposed
proposed_by k mode {number} e f g = rw (f, g, e)

-- No row applies to a proposal with number 0.
pub made_row : (k : Known) (mode : ℕ) → first (proposal_rows k mode) ≡ 0 → (n : ℕ) → applies n (proposal_rows k mode) ≡ false
made_row k mode e = none_applies (proposal_rows k mode) ((unapplied (proposal_rows k mode) tt).0 e)

pub made_fits : (k : Known) (mode : ℕ) → first (proposal_rows k mode) ≡ 0 → next_t k.desk k.start (own mode k.pair) ≤ last_t
made_fits k mode e = ltb-false last_t (next_t k.desk k.start (own mode k.pair)) (made_row k mode e 16)

pub made_rules : (k : Known) (mode : ℕ) → first (proposal_rows k mode) ≡ 0 → ((mode ≡ shared) ⊎ (mode ≡ exclusive)) × (k.desk ≡ 0 → ⊥)
made_rules k mode e = (go (or_cases (eqb mode shared) (eqb mode exclusive) (and_left modes some both)), eqb-false k.desk 0 (not-true (eqb k.desk 0) (and_right modes some both)))
  where
    modes : Bool
    modes = eqb mode shared || eqb mode exclusive

    some : Bool
    some = not (eqb k.desk 0)

    both : (modes && some) ≡ true
    both = not-false (modes && some) (made_row k mode e 1)

    go : (eqb mode shared ≡ true) ⊎ (eqb mode exclusive ≡ true) → (mode ≡ shared) ⊎ (mode ≡ exclusive)
    go (inl h) = inl (eqb-true mode shared h)
    go (inr h) = inr (eqb-true mode exclusive h)

-- ---- the smallest stamp of a desk and start above n

module _ (desk start n : ℕ) (d : desk < 65536) (i : start < 65536) where
  pub own_above_lem : n < own_above desk start n
  unfolding next_t
  own_above_lem = go (cases (ltb n (stamp (n / 4294967296) desk start)))
    where
      go : (ltb n (stamp (n / 4294967296) desk start) ≡ true) ⊎ (ltb n (stamp (n / 4294967296) desk start) ≡ false) → n < own_above desk start n
      go (inl h) = rw h (ltb-true n (stamp (n / 4294967296) desk start) h)
      go (inr h) = rw h (omega arith)

  pub own_least : (t : ℕ) → n < stamp t desk start → own_above desk start n ≤ stamp t desk start
  unfolding next_t
  own_least t above = go (cases (ltb n (stamp (n / 4294967296) desk start)))
    where
      go : (ltb n (stamp (n / 4294967296) desk start) ≡ true) ⊎ (ltb n (stamp (n / 4294967296) desk start) ≡ false) → own_above desk start n ≤ stamp t desk start
      go (inl h) = rw h (omega arith)
      go (inr h) = rw h (let low = ltb-false n (stamp (n / 4294967296) desk start) h in omega arith)

-- ---- the pair of a proposal, by its mode

pub pair_shared : (k : Known) → pair_for k shared ≡ record { s = own_above k.desk k.start k.pair.s; x = k.pair.x }
unfolding pair_for
pair_shared k = refl

pub pair_exclusive : (k : Known) → pair_for k exclusive ≡ record { s = k.pair.s; x = own_above k.desk k.start k.pair.x }
unfolding pair_for
pair_exclusive k = refl

-- A proposal that is made: its pair, and what the desk then knows.
pub made_pair : (k : Known) (mode : ℕ) → (proposed k mode).number ≡ 0 → (proposed k mode).pair ≡ pair_for k mode
unfolding proposed
made_pair k mode e = settled_new _ _ e
