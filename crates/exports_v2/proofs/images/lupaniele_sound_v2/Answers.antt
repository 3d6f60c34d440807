-- What the call ensures. Assumes nothing.

use Rattle.exports_v2.proofs.images.lupaniele_sound_v2.Goals as goal

pub returns : goal.returns
returns c = c.sound.ensures
