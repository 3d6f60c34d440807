-- The first byte of a line. Assumes nothing.
use native.Mathlib.Omega.{arith}
use mathlib.Core.Path.{sym}
use Rattle.redo_log.proofs.Records.{sizes, record_kind}
use Rattle.redo_log.proofs.inner.records.kind_at.Goals as goal

pub overflow_mul-result : goal.overflow_mul-result
overflow_mul-result c = omega (arith, sizes c.args.log.now c.requires.0)

pub overflow_add-result : goal.overflow_add-result
overflow_add-result c = omega (arith, sizes c.args.log.now c.requires.0)

pub bounds-log-i : goal.bounds-log-i
bounds-log-i c = omega (arith, sizes c.args.log.now c.requires.0)

pub returns : goal.returns
returns c = sym (record_kind c.args.log.now c.args.i)
