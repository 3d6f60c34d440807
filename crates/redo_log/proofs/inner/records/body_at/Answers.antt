-- The part of the log that a line names. Assumes nothing.
use native.Mathlib.Omega.{arith}
use Rattle.redo_log.proofs.Records.{sizes, body_at}
use Rattle.redo_log.proofs.inner.records.body_at.Goals as goal

pub overflow_mul-i : goal.overflow_mul-i
overflow_mul-i c = omega (arith, sizes c.args.log.now c.requires.0)

pub overflow_add-i : goal.overflow_add-i
overflow_add-i c = omega (arith, sizes c.args.log.now c.requires.0)

pub overflow_add-i-2 : goal.overflow_add-i-2
overflow_add-i-2 c = omega (arith, sizes c.args.log.now c.requires.0)

pub read_u16-requires : goal.read_u16-requires
read_u16-requires c = omega (arith, sizes c.args.log.now c.requires.0)

pub returns : goal.returns
returns c = body_at c.args.log.now c.args.i c.place_at-at.result c.read_u16.result c.place_at-at.ensures.0 c.read_u16.ensures
