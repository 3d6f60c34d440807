-- By the mode. Assumes nothing.
use mathlib.Core.Bool.{or-false}
use borrow.Author.Tests.{ne_eqb}
use lib.Dec.{eqb}
use Rattle.lists.specs.Table.{all, all_from}
use Rattle.stamps.proofs.session_ok.Goals as goal

pub returns-then-mode-eq-EXCLUSIVE : goal.returns-then-mode-eq-EXCLUSIVE
unfolding all all_from
returns-then-mode-eq-EXCLUSIVE c = rw (c.stamp_valid-then-mode-eq-EXCLUSIVE.ensures, c.stamp_valid.ensures, c.if-mode-eq-EXCLUSIVE.true)

pub returns : goal.returns
unfolding all all_from
returns c =
    let mode = c.args.mode in
    rw (
      c.stamp_valid-3.ensures,
      c.stamp_valid-2.ensures,
      ne_eqb mode 2 c.if-mode-eq-EXCLUSIVE.false,
      or-false (eqb mode 1),
    )
