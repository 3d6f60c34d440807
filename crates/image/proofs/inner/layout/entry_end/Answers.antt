use Rattle.image.proofs.inner.layout.entry_end.Goals as goal

pub returns : goal.returns
returns c = rw (c.length_place.ensures, c.layout.ensures.translations)
