use native.Mathlib.Omega.{arith}
use mathlib.Core.Path.{◌∙◌}
use Rattle.redo_log.proofs.Records.{sizes, place_is, inside}
use Rattle.redo_log.proofs.inner.records.place_at.Goals as goal

pub overflow_mul-i : goal.overflow_mul-i
overflow_mul-i c = omega (arith, sizes c.args.log.now c.requires.0)

pub overflow_add-i : goal.overflow_add-i
overflow_add-i c = omega (arith, sizes c.args.log.now c.requires.0)

pub overflow_add-i-2 : goal.overflow_add-i-2
overflow_add-i-2 c = omega (arith, sizes c.args.log.now c.requires.0)

pub read_u32-requires : goal.read_u32-requires
read_u32-requires c = omega (arith, sizes c.args.log.now c.requires.0)

pub returns : goal.returns
returns c =
    let place = c.read_u32.ensures ∙ place_is c.args.log.now c.args.i c.requires.0
    c.requires.1 in (
      place,
      omega (
        arith,
        place,
        inside c.args.log.now c.args.i c.requires.0
            c.requires.1,
      ),
    )
