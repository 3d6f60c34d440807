-- Words on lists that stand latest first: whether some element is so, those that are, the ones since, and the last one.
-- Assumes nothing.
use Rattle.std.specs.Prelude.{List, [], ◌∷◌, Bool, false, cond, not, ◌||◌}

module _ {A : Type 0} where
  -- Some element of the list is so.
  abbrev pub any : (A → Bool) → List A → Bool
  any p [] = false
  any p (a ∷ l) = p a || any p l

  -- No element of the list is so.
  abbrev pub none : (A → Bool) → List A → Bool
  none p l = not (any p l)

  -- The elements that are so, in the order in which they stand.
  abbrev pub filter : (A → Bool) → List A → List A
  filter p [] = []
  filter p (a ∷ l) = cond (p a) (a ∷ filter p l) (filter p l)

  -- The elements since the last that is so, that one left out; all where none is so. (The latest stands first.)
  abbrev pub since : (A → Bool) → List A → List A
  since p [] = []
  since p (a ∷ l) = cond (p a) [] (a ∷ since p l)

  -- What `f` says of the last element that is so, and `d` where none is so. (The latest stands first.)
  abbrev pub last : {B : Type 0} → (A → Bool) → (A → B) → B → List A → B
  last p f d [] = d
  last p f d (a ∷ l) = cond (p a) (f a) (last p f d l)
