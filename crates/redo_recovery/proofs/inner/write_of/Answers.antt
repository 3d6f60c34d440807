-- The numbers of the command, read within the body. Assumes nothing.
use lib.ListN.{length-drop}
use Rattle.redo_recovery.proofs.inner.write_of.Goals as goal

pub returns : goal.returns
returns c = rw (c.act_of-act.ensures, c.read_u16.ensures, length-drop)
