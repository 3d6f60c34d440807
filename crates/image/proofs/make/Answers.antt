-- Refused by the shape, refused by the length, or made. Assumes nothing.
use Rattle.image.proofs.Making.{not_shaped, not_lent, made}
use Rattle.image.proofs.Shape.{shape}
use native.Mathlib.Omega.{arith}
use lib.ListN.{length}
use mathlib.Core.Path.{sym, ◌∙◌}
use Rattle.image.proofs.make.Goals as goal

pub returns-then-not-shape_ok : goal.returns-then-not-shape_ok
returns-then-not-shape_ok c =
    let refused = not_shaped _ c.args.cards c.args.room (length c.args.image.now) (sym c.shape_ok.ensures ∙ c.if-not-shape_ok.true) in
    record { number = rw refused; bytes = rw refused }

pub overflow_cast-n : goal.overflow_cast-n
overflow_cast-n c = let s = shape _ _ _ (sym c.shape_ok.ensures ∙ c.if-not-shape_ok.false) in omega arith

pub overflow_cast-c : goal.overflow_cast-c
overflow_cast-c c = let s = shape _ _ _ (sym c.shape_ok.ensures ∙ c.if-not-shape_ok.false) in omega arith

pub returns-then-image-size_of : goal.returns-then-image-size_of
returns-then-image-size_of c =
    let refused =
    not_lent _ c.args.cards c.args.room (length c.args.image.now)
    (sym c.shape_ok.ensures ∙ c.if-not-shape_ok.false)
    (λ e. c.if-image-size_of.true (e ∙ sym c.size_of.ensures)) in
    record { number = rw refused; bytes = rw refused }

pub returns : goal.returns
returns c =
    let accepted = made _ c.args.cards c.args.room (length c.args.image.now)
    (sym c.shape_ok.ensures ∙ c.if-not-shape_ok.false)
    (c.if-image-size_of.false ∙ c.size_of.ensures) in
    record { number = rw accepted; bytes = rw accepted c.fill.ensures }
