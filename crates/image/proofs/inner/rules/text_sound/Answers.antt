-- The tests in their order; from no edition it is left that the text is empty, and so fits. Assumes nothing.
use native.Mathlib.Omega.{arith}
use mathlib.Core.Path.{◌≡◌, refl, sym}
use mathlib.Core.Bool.{Bool, true, false, ◌&&◌, ◌||◌, not}
use lib.Dec.{leb, eqb}
use borrow.Author.Tests.{le-leb, lt-leb, ne_eqb, eqb-true}
use Rattle.image.proofs.inner.rules.text_sound.Goals as goal

none : (fits empty : Bool) → (empty ≡ true → fits ≡ true) → empty ≡ (fits && true && (not true || empty))
none true true h = refl
none true false h = refl
none false true h = sym (h refl)
none false false h = refl

later : (fits rest : Bool) → false ≡ (fits && false && rest)
later true rest = refl
later false rest = refl

from_one : (fits empty : Bool) → fits ≡ (fits && true && (not false || empty))
from_one true empty = refl
from_one false empty = refl

pub returns-then-from-eq0 : goal.returns-then-from-eq0
returns-then-from-eq0 c =
    rw (c.if-from-eq0.true, le-leb 0 c.args.edition (omega arith))
    (none _ _ (λ e. le-leb c.args.count c.args.room (omega (arith, eqb-true c.args.count 0 e))))

pub returns-then-edition-from : goal.returns-then-edition-from
returns-then-edition-from c =
    rw (lt-leb c.args.from c.args.edition c.if-edition-from.true)
    (later (leb c.args.count c.args.room)
    (not (eqb c.args.from 0) || eqb c.args.count 0))

pub returns : goal.returns
returns c =
    rw (
      ne_eqb c.args.from 0 c.if-from-eq0.false,
      le-leb c.args.from
          c.args.edition c.if-edition-from.false,
    )
    (from_one (leb c.args.count c.args.room) (eqb c.args.count 0))
