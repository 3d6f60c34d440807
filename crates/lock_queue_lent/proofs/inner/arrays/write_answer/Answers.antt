-- Assumes nothing.
use mathlib.Core.Path.{◌≡◌, refl, ap}
use mathlib.Core.List.{[], ◌∷◌}
use mathlib.Core.Bool.{Bool, true, false, cond}
use Prim.Native.Nat.{ℕ}
use mir.Val.{bool_byte}
use Rattle.lock_queue_lent.proofs.inner.arrays.write_answer.Goals as goal

as_number : (t : Bool) → bool_byte t ≡ cond t 1 0
as_number true = refl
as_number false = refl

pub returns : goal.returns
returns c = ap (λ (n : ℕ). n ∷ c.args.a.largest.s ∷ c.args.a.largest.x ∷ c.args.a.looked ∷ []) (as_number c.args.a.holds)
