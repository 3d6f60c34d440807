use Rattle.formats.specs.Format.{format_of}
use Rattle.store.proofs.Kept.{header_in}
use Rattle.store.proofs.inner.effects.body_at.Goals as goal

pub count-requires : goal.count-requires
count-requires c = header_in (format_of c.args.v) c.args.image.now c.requires

pub room-requires : goal.room-requires
room-requires c = header_in (format_of c.args.v) c.args.image.now c.requires

pub returns : goal.returns
returns c = rw (c.body_place.ensures, c.room.ensures, c.count.ensures)
