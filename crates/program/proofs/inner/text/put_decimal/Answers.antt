-- The kit's digits, copied. Assumes nothing.
use mathlib.Core.Path.{◌∙◌}
use native.Mathlib.Omega.{arith}
use Rattle.program.proofs.Decimal.{decimal_digits, few_digits}
use Rattle.program.proofs.inner.text.put_decimal.Goals as goal

pub put_text-requires : goal.put_text-requires
put_text-requires c =
    let d = c.decimal-count.ensures in
    omega (arith, d.in_bounds.1, few_digits _ _ c.ranges.n.fits d.len)

pub returns : goal.returns
returns c =
    let d = c.decimal-count.ensures in
    let is = d.digits ∙ decimal_digits _ _ d.len in
    let p = c.put_text.ensures in
    record {
      written = p.written ∙ rw is;
      counted = p.counted ∙ rw is;
      few = omega (arith, p.few, d.in_bounds.1, few_digits _ _ c.ranges.n.fits d.len);
    }
