-- What the run leaves. Assumes nothing.

use Rattle.exports_v2.proofs.streams.lupaniele_run_v2.Goals as goal

pub returns : goal.returns
returns c = c.run-ran.ensures
