-- The library's sum, which does not wrap. Assumes nothing.
use native.Mathlib.Omega.{arith}
use native.Mathlib.Nat.{mod-eq_of_lt}
use mathlib.Core.Path.{sym, ◌∙◌, ◌≡◌}
use Rattle.std.specs.List.{sum_by}
use Rattle.std.proofs.lemmas.Grind.{common_steps}
use Rattle.redo_log.proofs.Reading.{total_sum}
use Rattle.redo_log.proofs.inner.reading.sum_of.Goals as goal

pub returns : goal.returns
returns c =
    let whole : c.sum.result ≡ sum_by (λ (x : _). x) c.args.body.now = grind (arith, common_steps) in
    let all = whole ∙ total_sum c.args.body.now in
    all ∙ sym (mod-eq_of_lt (omega (arith, c.sum.type_inv, all)))
