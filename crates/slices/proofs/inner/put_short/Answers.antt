-- What is held in between is the whole of `v`. Assumes nothing.
use Prim.Native.Nat.{ℕ}
use mathlib.Core.Path.{ap, ◌∙◌}
use mathlib.Core.List.{List}
use lib.ListN.{length, take}
use Rattle.lists.specs.Parts.{splice}
use Rattle.lists.proofs.Parts.{splice_front}
use Rattle.slices.proofs.Loops.{none_written}
use Rattle.slices.proofs.inner.put_short.Goals as goal

pub returns-then-v-eq0 : goal.returns-then-v-eq0
returns-then-v-eq0 c = none_written _ _ _ c.if-v-eq0.true

pub returns : goal.returns
returns c =
    c.put-2.ensures
    ∙ ap (λ (v : List ℕ). splice c.args.at v c.args.s.now)
    (ap (take (length c.args.v.now)) c.put.ensures ∙ splice_front c.args.v.now _)
