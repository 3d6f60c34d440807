-- By the tests, with the size of the fixed part as it was found. Assumes nothing.
use native.Mathlib.Omega.{arith}
use mathlib.Core.Path.{refl, ◌∙◌}
use Rattle.stream.proofs.Place.{shows_short, shows_cut, shows_whole}
use Rattle.stream.proofs.next_at.Goals as goal

pub returns-in_err-left : goal.returns-in_err-left
returns-in_err-left c = c.from_residual.ensures ∙ shows_short _ _ _ refl (omega (arith, c.in_err-left.ensures))

pub returns-in_err-room : goal.returns-in_err-room
returns-in_err-room c = c.from_residual-in_err-room.ensures ∙ shows_short _ _ _ c.layout-fixed.ensures.fixed (omega (arith, c.in_err-room.ensures, c.in_ok-left.ensures))

pub returns-then-room-payload : goal.returns-then-room-payload
returns-then-room-payload c = shows_cut _ _ _ c.layout-fixed.ensures.fixed _ c.read_u16-payload.ensures (omega (arith, c.in_ok-room.ensures, c.in_ok-left.ensures))

pub returns : goal.returns
returns c = shows_whole _ _ _ c.layout-fixed.ensures.fixed _ c.read_u16-payload.ensures (omega (arith, c.in_ok-room.ensures, c.in_ok-left.ensures))
