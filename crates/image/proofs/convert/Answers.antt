-- Refused by the source, refused by the target, or written card by card. Assumes nothing.
use Prim.Native.Nat.{ℕ}
use native.Mathlib.Omega.{arith}
use mathlib.Core.Path.{◌≡◌, refl, sym, ap, ◌∙◌}
use lib.ListN.{length}
use Rattle.lists.proofs.Tests.{to_T}
use Rattle.formats.specs.Format.{V2}
use Rattle.image.specs.Bytes.{count_of}
use Rattle.image.specs.Image.{encode}
use Rattle.image.specs.Convert.{widened_up_to}
use Rattle.image.proofs.Widen.{sound_header, all_widened, unsound_source, not_made, begins, converts}
use Rattle.numbers.proofs.Refusals.{refused}
use Rattle.std.proofs.lemmas.Result.{err_from_is_err_and}
use Rattle.image.proofs.convert.Goals as goal

pub returns-then-not-sound : goal.returns-then-not-sound
returns-then-not-sound c =
    let refused = unsound_source c.args.image.now (length c.args.target.now) (sym c.sound.ensures ∙ c.if-not-sound.true) in
    record { number = rw refused; bytes = rw refused }

pub count-n-requires : goal.count-n-requires
count-n-requires c = sound_header c.args.image.now (sym c.sound.ensures ∙ c.if-not-sound.false)

pub room-c-requires : goal.room-c-requires
room-c-requires c = sound_header c.args.image.now (sym c.sound.ensures ∙ c.if-not-sound.false)

pub returns-in_err-make : goal.returns-in_err-make
returns-in_err-make c =
    let same = err_from_is_err_and c.from_residual.result c.from_residual.ensures.1 in
    let both = not_made c.args.image.now c.args.target.now c.make.new.image c.count-n.ensures c.room-c.ensures
    c.in_err-make.ensures.number c.make.ensures.bytes (sym c.sound.ensures ∙ c.if-not-sound.false) (refused _) in
    rw (same.1, same.2) (record { number = both.0; bytes = both.1 })

pub loop-k-init : goal.loop-k-init
loop-k-init c =
    begins c.args.image.now c.args.target.now c.make.new.image c.count-n.ensures
    c.room-c.ensures c.in_ok-make.ensures.number c.make.ensures.bytes refl

pub widen-requires : goal.widen-requires
widen-requires c = (to_T (sym c.sound.ensures ∙ c.if-not-sound.false), omega (arith, c.count-n.ensures), c.loop-k.invariant)

pub loop-k-preserved : goal.loop-k-preserved
loop-k-preserved c = c.widen.ensures ∙ ap (λ (k : ℕ). encode V2 (widened_up_to k c.args.image.now)) (omega arith)

pub returns : goal.returns
returns c =
    let accepted = converts c.args.image.now c.args.target.now c.make.new.image c.count-n.ensures c.room-c.ensures
    c.in_ok-make.ensures.number c.make.ensures.bytes (sym c.sound.ensures ∙ c.if-not-sound.false) refl in
    let last : c.loop-k.k ≡ count_of c.args.image.now = omega (arith, c.count-n.ensures) in
    record {
      number = rw accepted;
      bytes = rw accepted (c.loop-k.invariant ∙ ap (λ (k : ℕ). encode V2 (widened_up_to k c.args.image.now)) last ∙ all_widened c.args.image.now);
    }
