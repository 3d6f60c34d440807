-- The first of the records that are left. Assumes nothing.
use native.Mathlib.Omega.{arith}
use mathlib.Core.Path.{◌∙◌}
use Prim.Native.Nat.{◌+◌}
use lib.ListN.{length-drop}
use Rattle.redo_log.specs.inner.Placed.{places}
use Rattle.redo_log.proofs.Reading.{last_next}
use Rattle.redo_log.proofs.Placed.{left_none, left_next, length_places, shaped_here}
use Rattle.redo_log.proofs.inner.records.RecordsIterator.next.Goals as goal

pub returns-then-count-self-clause-steps : goal.returns-then-count-self-clause-steps
returns-then-count-self-clause-steps c =
    let none = left_none c.args.self.now.log.bytes.now c.args.self.now.line (omega (arith, c.count.ensures)) in
    (none, none)

pub last_after-self-requires : goal.last_after-self-requires
last_after-self-requires c =
    rw (c.kind_at-kind.ensures, c.body_at-body.ensures) (shaped_here _ _ c.args.self.now.log.good (omega (arith, c.count.ensures)))

pub invariant_of-self : goal.invariant_of-self
invariant_of-self c =
    record {
      within = omega (arith, c.count.ensures);
      last_is = c.last_after-self.ensures ∙ last_next _ _ _ _ _ c.kind_at-kind.ensures c.body_at-body.ensures c.args.self.now.last_is;
    }

pub invariant_of-result : goal.invariant_of-result
invariant_of-result c =
    record { is_shaped = rw (c.kind_at-kind.ensures, c.body_at-body.ensures) (shaped_here _ _ c.args.self.now.log.good (omega (arith, c.count.ensures))) }

pub returns-clause-steps : goal.returns-clause-steps
returns-clause-steps c =
    rw (c.kind_at-kind.ensures, c.body_at-body.ensures, c.args.self.now.last_is) (left_next _ _ (omega (arith, c.count.ensures)))

pub returns-clause-goes : goal.returns-clause-goes
returns-clause-goes c =
    record {
      on = λ f. (
        tt,
        tt,
        omega (
          arith,
          length-drop c.args.self.now.line (places c.args.self.now.log.bytes.now),
          length-drop (c.args.self.now.line + 1)
              (places c.args.self.now.log.bytes.now),
          length_places c.args.self.now.log.bytes.now,
          c.count.ensures,
        ),
      );
      keeps = tt;
      rests = λ f. tt;
    }
