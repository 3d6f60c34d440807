-- What comparing ensures, with its number and its place apart. Assumes nothing.

use Rattle.exports_desks.proofs.agree.lupaniele_agree.Goals as goal

pub returns : goal.returns
returns c = rw (c.number_of.ensures, c.place_of.ensures) c.compare-answer.ensures
