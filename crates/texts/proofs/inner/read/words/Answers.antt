-- Words are read, or cut short. Assumes nothing.
use native.Mathlib.Omega.{arith}
use Prim.Native.Nat.{◌+◌}
use Rattle.texts.proofs.Reading.{words_read, words_cut}
use Rattle.texts.proofs.inner.read.words.Goals as goal

pub overflow_cast-long : goal.overflow_cast-long
overflow_cast-long c = omega (arith, c.type_inv.text (c.args.at + 1))

pub returns-then-text-at : goal.returns-then-text-at
returns-then-text-at c = λ n. words_cut c.args.text.now c.args.at n c.requires.0 c.requires.1 c.if-text-at.true

pub returns : goal.returns
returns c =
    let small = c.type_inv.text (c.args.at + 1) in
    λ n. words_read c.args.text.now c.args.at n c.requires.0 c.requires.1 (omega (arith, small)) (omega (arith, c.if-text-at.false, c.requires.0))
