-- What the call ensures. Assumes nothing.

use Rattle.exports_v1.proofs.images.lupaniele_sound.Goals as goal

pub returns : goal.returns
returns c = c.sound.ensures
