-- What learning and a proposal leave in the arrays. Assumes nothing.
use Prim.Native.Nat.{ℕ}
use mathlib.Core.Path.{◌≡◌, sym, ap, ◌∙◌}
use mathlib.Core.List.{List}
use Rattle.lists.specs.Table.{settled}
use Rattle.lists.proofs.Table.{settled_new, settled_old}
use Rattle.stamps.specs.declared.Pair.{Pair}
use Rattle.desk_proposals.specs.declared.Known.{Known}
use Rattle.desk_proposals.specs.declared.Proposed.{Proposed}
use Rattle.desk_proposals.specs.Propose.{learnt, proposed}
use Rattle.exports_desks.specs.Desks.{stamps_of}

pub learnt_leaves : (p : Pair) {k before after : Known} {known : List ℕ} → before ≡ k → after ≡ learnt before p → known ≡ stamps_of after.pair
    → known ≡ stamps_of (learnt k p).pair
learnt_leaves p b l w = w ∙ ap (λ (d : Known). stamps_of d.pair) (l ∙ ap (λ (d : Known). learnt d p) b)

-- The number and the arrays afterwards, as a proposal gives them, from the arrays as they were.
abbrev pub Leaves : ℕ → List ℕ → List ℕ → List ℕ → List ℕ → Proposed → Type 0
Leaves number known pair known₀ pair₀ p =
    (number ≡ p.number)
    × ((known ≡ settled p.number (stamps_of p.known.pair) known₀) × (pair ≡ settled p.number (stamps_of p.pair) pair₀))

pub refused_leaves : (mode : ℕ) {k before : Known} {made : Proposed} (known pair : List ℕ) → before ≡ k → made ≡ proposed before mode
    → (made.number ≡ 0 → ⊥)
    → Leaves made.number known pair known pair (proposed k mode)
refused_leaves mode known pair b m some =
    let e = m ∙ ap (λ (d : Known). proposed d mode) b in
    let number = ap (λ (p : Proposed). p.number) e in
    (number, (sym (settled_old _ _ (λ z. some (number ∙ z))), sym (settled_old _ _ (λ z. some (number ∙ z)))))

pub made_leaves : (mode : ℕ) {k before : Known} {made : Proposed} {known pair : List ℕ} (known₀ pair₀ : List ℕ) → before ≡ k
    → made ≡ proposed before mode
    → made.number ≡ 0
    → known ≡ stamps_of made.known.pair
    → pair ≡ stamps_of made.pair
    → Leaves made.number known pair known₀ pair₀ (proposed k mode)
made_leaves mode known₀ pair₀ same m none a b =
    let e = m ∙ ap (λ (d : Known). proposed d mode) same in
    let number = ap (λ (p : Proposed). p.number) e in
    let zero = sym number ∙ none in (
      number,
      (
        a ∙ ap (λ (p : Proposed). stamps_of p.known.pair) e ∙ sym (settled_new _ _ zero),
        b ∙ ap (λ (p : Proposed). stamps_of p.pair) e ∙ sym (settled_new _ _ zero),
      ),
    )
