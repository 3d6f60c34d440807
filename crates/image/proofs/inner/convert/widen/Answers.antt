-- The bodies side by side, then the entry. Assumes nothing.
use native.Mathlib.Omega.{arith}
use mathlib.Core.Path.{ap}
use lib.ListN.{length}
use Rattle.formats.specs.Format.{V1}
use Rattle.image.proofs.Decode.{places}
use Rattle.image.proofs.Widen.{lies, widen_step}
use Rattle.image.proofs.inner.convert.widen.Goals as goal

pub count-n-requires : goal.count-n-requires
count-n-requires c = (places V1 c.args.image.now c.args.k c.requires.0 c.requires.1).header

pub room-c-requires : goal.room-c-requires
room-c-requires c = (places V1 c.args.image.now c.args.k c.requires.0 c.requires.1).header

pub overflow_mul-both : goal.overflow_mul-both
overflow_mul-both c =
    let l = lies c.args.image.now c.args.k c.requires.0 c.requires.1 c.count-n.ensures
    c.room-c.ensures c.sides.ensures c.body_place-from.ensures c.body_place-to.ensures in
    omega (arith, l)

pub entry_at-e-requires : goal.entry_at-e-requires
entry_at-e-requires c =
    let l = lies c.args.image.now c.args.k c.requires.0 c.requires.1 c.count-n.ensures
    c.room-c.ensures c.sides.ensures c.body_place-from.ensures c.body_place-to.ensures in
    (l.entry, omega arith)

pub copy-requires : goal.copy-requires
copy-requires c =
    let l = lies c.args.image.now c.args.k c.requires.0 c.requires.1 c.count-n.ensures
    c.room-c.ensures c.sides.ensures
    c.body_place-from.ensures c.body_place-to.ensures in
    (l.bodies, let long = ap length c.requires.2 in omega (arith, l, long))

pub store_entry-requires : goal.store_entry-requires
store_entry-requires c =
    let l = lies c.args.image.now c.args.k c.requires.0 c.requires.1 c.count-n.ensures c.room-c.ensures
    c.sides.ensures c.body_place-from.ensures c.body_place-to.ensures in
    (let long = ap length c.requires.2 in omega (arith, l, long), omega arith)

pub returns : goal.returns
returns c =
    rw (
      c.store_entry.ensures,
      c.copy.ensures,
      c.entry_at-e.ensures,
      c.body_place-to.ensures,
      c.body_place-from.ensures,
      c.sides.ensures,
      c.room-c.ensures,
      c.count-n.ensures,
      c.requires.2,
    )
    (widen_step
    c.args.image.now
    (λ j. (c.type_inv.image j).fits)
    c.requires.0
    c.args.k
    c.requires.1)
