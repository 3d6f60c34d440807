-- The command that is made is the one defined and fits its fields; what it leaves is what the request leaves. Assumes nothing.
use native.Mathlib.Omega.{arith}
use mathlib.Core.Path.{ap, ◌∙◌}
use Rattle.store_model.specs.Serve.{Outcome}
use Rattle.redo_recovery.proofs.Writing.{write_length, write_fits, write_names, write_serves}
use Rattle.redo_recovery.proofs.inner.write.Goals as goal

pub slice_bounds-carry_out-count : goal.slice_bounds-carry_out-count
slice_bounds-carry_out-count c = omega (arith, c.requires.1)

pub slice_bounds-carry_out-start : goal.slice_bounds-carry_out-start
slice_bounds-carry_out-start c = omega (arith, c.requires.1)

pub carry_out-requires : goal.carry_out-requires
carry_out-requires c = (
  c.requires.0,
  write_length c.args.image.now c.args.body.now c.args.pair c.read_u16.ensures c.entry_for.ensures c.write_of-c.ensures,
  write_fits c.args.image.now c.args.body.now c.args.pair c.read_u16.ensures c.entry_for.ensures c.write_of-c.ensures (λ j. (c.slice_known-1.given j).fits) (λ j. (c.type_inv.body j).fits)
      c.requires.3 c.requires.2,
  write_names c.args.image.now c.args.body.now c.args.pair c.read_u16.ensures c.entry_for.ensures c.write_of-c.ensures,
)

pub returns : goal.returns
returns c =
    let same = write_serves c.args.image.now c.args.body.now c.args.pair c.read_u16.ensures c.entry_for.ensures c.write_of-c.ensures in
    let done = c.carry_out.ensures in
    record { number = done.number ∙ ap (λ (u : Outcome). u.answer.number) same; image = done.image ∙ ap (λ (u : Outcome). u.image) same; kept = done.kept }
