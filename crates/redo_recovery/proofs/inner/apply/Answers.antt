-- The pair is that of the card that the body names. Assumes nothing.
use native.Mathlib.Omega.{arith}
use mathlib.Core.Path.{ap, ◌∙◌}
use Rattle.store_model.specs.Serve.{Outcome}
use Rattle.redo_log.proofs.Records.{update_long}
use Rattle.redo_recovery.specs.Recover.{pairs_in}
use Rattle.redo_recovery.proofs.Writing.{updated, written_under}
use Rattle.redo_recovery.proofs.inner.apply.Goals as goal

pub read_u16-requires : goal.read_u16-requires
read_u16-requires c = omega (arith, update_long _ _ c.args.record.now.is_shaped c.requires.1)

pub write-requires : goal.write-requires
write-requires c =
    let long = update_long _ _ c.args.record.now.is_shaped c.requires.1 in
    (c.requires.0, long.0, long.1, c.of-pair.ensures.fits)

pub returns : goal.returns
returns c =
    let same = written_under (pairs_in c.args.pairs.now) c.args.image.now (updated c.args.record.now.body.now) c.read_u16.ensures c.of-pair.ensures.pair in
    record {
      number = rw c.requires.1 (c.write.ensures.number ∙ ap (λ (u : Outcome). u.answer.number) same);
      image = rw c.requires.1 (c.write.ensures.image ∙ ap (λ (u : Outcome). u.image) same);
      kept = c.write.ensures.kept;
    }
