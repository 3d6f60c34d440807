-- What the array of the places is known to be: a list of 32. Assumes nothing.
use Prim.Native.Nat.{ℕ}
use mathlib.Core.Path.{◌≡◌, sym, ◌∙◌}
use mathlib.Core.List.{List, map}
use lib.ListN.{length, length-map}
use mir.Val.{Val}
use denote.Laws.{Is}
use denote.Struct.Declared.{row}
use borrow.Author.Rules.{rules}
use Rattle.lock_queue.specs.Queue.{most_places}
use Rattle.lock_queue.specs.declared.Places.{Places}
use Rattle.lock_queue.specs.contracts.Places as P

pub unmapped : {A B : Type 0} (f : A → B) (l : List A) {n : ℕ} → length (map f l) ≡ n → length l ≡ n
unmapped f l e = sym (length-map l f) ∙ e

pub places_long : (p : Places) (vs : List Val) → Is (row P.the_type) p vs → length p.at ≡ most_places
places_long p vs h = search (unmapped, rules)
