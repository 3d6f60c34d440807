-- The numbers of the header, and zeros behind them. Assumes nothing.
use Rattle.formats.specs.Format.{format_of}
use native.Mathlib.Omega.{arith}
use Rattle.image.proofs.Making.{fresh_written}
use Rattle.image.proofs.inner.fresh.fill.Goals as goal

pub returns : goal.returns
returns c = rw (c.clear.ensures, c.write_header.ensures) (fresh_written (format_of c.args.v) c.args.n c.args.c c.args.image.now (omega arith))
