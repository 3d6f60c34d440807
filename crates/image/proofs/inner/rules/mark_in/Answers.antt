-- No mark, or looked at. Assumes nothing.
use Rattle.image.proofs.Seen.{no_mark_lem}
use Rattle.image.proofs.inner.rules.mark_in.Goals as goal

pub returns-then-read_u64-eq0 : goal.returns-then-read_u64-eq0
returns-then-read_u64-eq0 c = no_mark_lem _ c.requires c.read_u64.ensures c.if-read_u64-eq0.true

pub returns : goal.returns
returns c = rw (c.read_u16-2.ensures, c.mark_whole.ensures, c.read_u32.ensures, c.read_u16.ensures)
