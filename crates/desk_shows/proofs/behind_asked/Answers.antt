-- Assumes nothing.

use Rattle.desk_shows.proofs.behind_asked.Goals as goal

pub returns-in-Translation : goal.returns-in-Translation
returns-in-Translation c = rw c.in-Translation.is c.behind.ensures
