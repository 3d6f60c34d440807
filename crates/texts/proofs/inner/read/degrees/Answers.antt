-- A drop is read, or cut short, or of another unit. Assumes nothing.
use native.Mathlib.Omega.{arith}
use Rattle.text_drops.specs.Drop.{celsius, fahrenheit}
use Rattle.texts.proofs.Reading.{drop_read, drop_cut, drop_unit}
use Rattle.texts.proofs.inner.read.degrees.Goals as goal

pub returns-then-text-at-lt4 : goal.returns-then-text-at-lt4
returns-then-text-at-lt4 c = λ n. drop_cut c.args.text.now c.args.at n c.requires.0 c.requires.1 c.if-text-at-lt4.true

pub returns-then-unit-eq-CELSIUS : goal.returns-then-unit-eq-CELSIUS
returns-then-unit-eq-CELSIUS c = λ n. drop_read c.args.text.now c.args.at n c.requires.0 (λ j. (c.type_inv.text j).fits) c.requires.1
    (celsius, c.if-unit-eq-CELSIUS.true) (omega (arith, c.if-text-at-lt4.false))

pub returns-then-unit-eq-FAHRENHEIT : goal.returns-then-unit-eq-FAHRENHEIT
returns-then-unit-eq-FAHRENHEIT c = λ n. drop_read c.args.text.now c.args.at n c.requires.0 (λ j. (c.type_inv.text j).fits) c.requires.1
    (fahrenheit, c.if-unit-eq-FAHRENHEIT.true) (omega (arith, c.if-text-at-lt4.false))

pub returns : goal.returns
returns c = λ n. drop_unit c.args.text.now c.args.at n c.requires.0 c.requires.1 c.if-unit-eq-CELSIUS.false c.if-unit-eq-FAHRENHEIT.false
