use mathlib.Core.Path.{sym}
use Rattle.image.proofs.Shape.{many_cards, much_room, within_limits}
use Rattle.image.proofs.inner.layout.shape_ok.Goals as goal

pub returns-then-n-gt-MOST_CARDS : goal.returns-then-n-gt-MOST_CARDS
returns-then-n-gt-MOST_CARDS c = sym (many_cards _ _ _ c.if-n-gt-MOST_CARDS.true)

pub returns-then-c-gt-MOST_ROOM : goal.returns-then-c-gt-MOST_ROOM
returns-then-c-gt-MOST_ROOM c = sym (much_room _ _ _ c.if-c-gt-MOST_ROOM.true)

pub returns : goal.returns
returns c = rw c.size_of.ensures (within_limits _ _ _ c.if-n-gt-MOST_CARDS.false c.if-c-gt-MOST_ROOM.false)
