-- Both marks in the bytes of a command. Assumes nothing.
use Prim.Native.Nat.{ℕ, ◌+◌, ◌*◌, ◌≤◌}
use native.Mathlib.Omega.{arith}
use mathlib.Core.Path.{◌≡◌, sym, ◌∙◌}
use mathlib.Core.List.{List}
use mathlib.Core.Bool.{true, ◌&&◌}
use borrow.Author.Tests.{eqb-true}
use lib.Dec.{eqb}
use lib.ListN.{length}
use Rattle.lists.specs.Le.{field}
use Rattle.lists.proofs.Tests.{and_left, and_right}
use Rattle.slices.proofs.Joined.{joined}
use Rattle.stamps.specs.Stamp.{mark_whole}
use Rattle.commands.specs.Bytes.{mark_at}

-- Twelve zero bytes are two marks that are none.
pub no_marks : (bytes : List ℕ) → 52 ≤ length bytes → {a b : ℕ} → a ≡ field 36 8 bytes → b ≡ field 44 4 bytes → (eqb a 0 && eqb b 0) ≡ true →
    true ≡ (mark_whole (mark_at 36 bytes) && mark_whole (mark_at 42 bytes))
no_marks bytes h {a} {b} p q t =
    let front : field 36 8 bytes ≡ 0 = sym p ∙ eqb-true a 0 (and_left (eqb a 0) (eqb b 0) t) in
    let last : field 44 4 bytes ≡ 0 = sym q ∙ eqb-true b 0 (and_right (eqb a 0) (eqb b 0) t) in
    let whole : field 38 6 bytes * 65536 + field 36 2 bytes ≡ field 36 8 bytes = joined 36 2 6 bytes (omega (arith, h)) in
    let rest : field 42 2 bytes * 4294967296 + field 38 4 bytes ≡ field 38 6 bytes = joined 38 4 2 bytes (omega (arith, h)) in
    let one : field 36 2 bytes ≡ 0 = omega (arith, whole, front) in
    let two : field 38 4 bytes ≡ 0 = omega (arith, whole, front, rest) in
    let three : field 42 2 bytes ≡ 0 = omega (arith, whole, front, rest) in
    rw (one, two, three, last)
