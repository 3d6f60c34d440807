-- What the run leaves. Assumes nothing.

use Rattle.exports_v1.proofs.streams.lupaniele_run.Goals as goal

pub returns : goal.returns
returns c = c.run-ran.ensures
