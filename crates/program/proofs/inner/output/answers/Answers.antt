-- The image's copy is the front of the input, and the reply buffer is zeros. Assumes nothing.
use mathlib.Core.Path.{sym}
use native.Mathlib.Omega.{arith}
use lib.Seq.{length-take-le}
use Rattle.store.proofs.Running.{back_of}
use Rattle.program.proofs.Answered.{answered_by, copied_sound}
use Rattle.program.proofs.inner.output.answers.Goals as goal

pub slice_bounds-put-end-2 : goal.slice_bounds-put-end-2
slice_bounds-put-end-2 c = sym (length-take-le _ _ c.requires.within)

pub put-requires : goal.put-requires
put-requires c = let lent = length-take-le c.args.size c.args.input.now c.requires.within in omega (arith, lent, c.requires.small)

pub slice_bounds-put_printed-end : goal.slice_bounds-put_printed-end
slice_bounds-put_printed-end c = sym (length-take-le _ _ (omega (arith, c.requires.small)))

pub slice_bounds-put_printed-end-3 : goal.slice_bounds-put_printed-end-3
slice_bounds-put_printed-end-3 c = sym (length-take-le _ _ (omega (arith, c.requires.most)))

pub put_printed-requires : goal.put_printed-requires
put_printed-requires c = (
  copied_sound c.args.size c.args.input.now _ _ c.requires.within c.put.ensures c.requires.good,
  rw (back_of c.args.size
      c.args.input.now)
      c.requires.lines,
)

pub returns : goal.returns
returns c = answered_by c.args.size c.args.room c.args.input.now _ _ c.requires.within c.requires.most c.put.ensures c.put_printed.ensures
