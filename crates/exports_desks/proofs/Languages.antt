-- The languages by their numbers. Assumes nothing.
use Prim.Native.Nat.{ℕ, zero, suc}
use mathlib.Core.Path.{◌≡◌, refl}
use Rattle.desk_shows.specs.declared.Asked.TheVariants.{Translation}
use Rattle.exports_desks.specs.Numbers.{asked_of}

pub second : (asked : ℕ) → (asked ≡ 0 → ⊥) → Translation ≡ asked_of asked
second zero some = absurd (some refl)
second (suc asked) some = refl
