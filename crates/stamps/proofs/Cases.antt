-- The worked cases, by computation. Assumes nothing.
use mathlib.Core.Path.{refl}
use Rattle.stamps.specs.Cases.{Distances}

pub distances_hold : Distances
distances_hold = refl
