-- What `expect` requires follows from what each function ensures, since the steps and the end of this stream compute. Assumes nothing.
use mathlib.Core.Path.{◌≡◌, refl, ◌∙◌}
use Prim.Native.Nat.{ℕ}
use mathlib.Core.List.{List}
use borrow.Author.Tests.{eq-eqb}
use lib.ListN.{set, replicate}
use Rattle.lists.specs.Le.{le}
use Rattle.lists.specs.Parts.{part}
use Rattle.formats.specs.Format.{V1}
use Rattle.stream.specs.Stream.{whole, next_at, onward, end_within, end_of}
use Rattle.stream_test.proofs.main.Goals as goal

abbrev bytes : List ℕ
bytes = set (replicate 120 0) 50 3

first : onward 0 (next_at V1 bytes 0) ≡ 55
unfolding le part whole next_at
first = refl

second : onward 55 (next_at V1 bytes 55) ≡ 107
unfolding le part whole next_at
second = refl

none : onward 107 (next_at V1 bytes 107) ≡ 107
unfolding le part whole next_at
none = refl

end : end_of V1 bytes ≡ 107
unfolding le part whole end_within end_of
end = refl

pub expect-requires : goal.expect-requires
expect-requires c = eq-eqb c.next_from.result 55 (c.next_from.ensures ∙ first)

pub expect-requires-2 : goal.expect-requires-2
expect-requires-2 c = eq-eqb c.next_from-2.result 107 (c.next_from-2.ensures ∙ second)

pub expect-requires-3 : goal.expect-requires-3
expect-requires-3 c = eq-eqb c.next_from-3.result 107 (c.next_from-3.ensures ∙ none)

pub expect-requires-4 : goal.expect-requires-4
expect-requires-4 c = eq-eqb c.end_of.result 107 (c.end_of.ensures ∙ end)
