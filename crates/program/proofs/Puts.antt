-- Texts written one behind the other. Assumes nothing.
use Prim.Native.Nat.{ℕ, ◌+◌, ◌≤◌}
use native.Mathlib.Omega.{arith}
use mathlib.Core.Path.{◌≡◌, refl, sym, ap, ◌∙◌}
use mathlib.Core.List.{List, [], ◌++◌}
use lib.ListN.{length, length-append}
use Rattle.lists.specs.Parts.{splice}
use Rattle.lists.proofs.Parts.{splice_adjacent, length_splice, splice_nil}
use Rattle.program.specs.inner.Put.{Put}

pub put_put : {at m n : ℕ} {a b s₀ s₁ s₂ : List ℕ} {r₁ r₂ : ℕ} → at ≤ length s₀ → Put at m a s₀ s₁ r₁ → Put r₁ n b s₁ s₂ r₂ → Put at (m + n) (a ++ b) s₀ s₂ r₂
put_put {at} {m} {n} {a} {b} {s₀} {s₁} {s₂} {r₁} {r₂} h p q =
    record {
      written = q.written ∙ rw (p.written, p.counted) (splice_adjacent at a b s₀ h);
      counted = rw length-append (omega (arith, p.counted, q.counted));
      few = omega (arith, p.few, q.few);
    }

-- Fewer bytes than a bound are fewer than a larger one.
pub put_wide : {at m n : ℕ} {a s₀ s : List ℕ} {r : ℕ} → m ≤ n → Put at m a s₀ s r → Put at n a s₀ s r
put_wide h p = record { written = p.written; counted = p.counted; few = omega (arith, p.few) }

-- A loop that writes `all` over s₀ from place `at` on, text after text: it has made s when it has come to place `to`, and `rest` is what is
-- left to write.
pub record Putting (at to : ℕ) (all rest s₀ s : List ℕ) : Type 0 where
  pub long : length s ≡ length s₀
  pub left : splice to rest s ≡ splice at all s₀
  pub counted : to + length rest ≡ at + length all

pub putting_none : (at : ℕ) (all s : List ℕ) → Putting at at all all s s
putting_none at all s = record { long = refl; left = refl; counted = refl }

pub putting_more : {at to m : ℕ} {all rest s₀ s s' : List ℕ} {to' : ℕ} (a more : List ℕ) → Putting at to all rest s₀ s → rest ≡ a ++ more → Put to m a s s' to' → to + m ≤ length s →
    Putting at to' all more s₀ s'
putting_more {at} {to} {rest = rest} {s = s} a more w e p h =
    let fits : to + length a ≤ length s = omega (arith, p.counted, p.few) in
    let same : length rest ≡ length a + length more = ap length e ∙ length-append a more in
    record {
      long = ap length p.written ∙ length_splice to a s fits ∙ w.long;
      left = rw (p.written, p.counted, splice_adjacent to a more s (omega arith), ← e) w.left;
      counted = omega (arith, w.counted, p.counted);
    }

pub putting_done : {at to : ℕ} {all rest s₀ s : List ℕ} (most : ℕ) → Putting at to all rest s₀ s → rest ≡ [] → to ≤ at + most → Put at most all s₀ s to
putting_done {at} {to} {rest = rest} {s = s} most w e h =
    let none : length rest ≡ 0 = ap length e in
    record {
      written = sym (splice_nil to s) ∙ rw e at w.left;
      counted = omega (arith, w.counted);
      few = h;
    }
