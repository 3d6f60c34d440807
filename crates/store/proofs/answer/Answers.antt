-- The line's first number is an answer's. Assumes nothing.
use Prim.Native.Nat.{ℕ}
use native.Mathlib.Omega.{arith}
use mathlib.Core.Path.{ap, ◌∙◌}
use mathlib.Core.List.{List}
use lib.ListN.{get_or}
use Rattle.formats.specs.Format.{format_of}
use Rattle.store.proofs.One.{small, first_number}
use Rattle.store.proofs.answer.Goals as goal

pub overflow_cast-result : goal.overflow_cast-result
overflow_cast-result c =
    let number = ap (λ (l : List ℕ). get_or l 0 0) c.one.ensures.served.0 ∙ first_number _ in
    omega (arith, number, small (format_of c.args.v) c.args.image.now c.args.command.now c.args.reply.now)
