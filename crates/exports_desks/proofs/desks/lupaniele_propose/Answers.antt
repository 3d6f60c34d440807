-- Refused, or made and written. Assumes nothing.
use Rattle.exports_desks.proofs.Proposed.{refused_leaves, made_leaves}
use Rattle.exports_desks.proofs.desks.lupaniele_propose.Goals as goal

-- src/desks.rt:62:9
pub returns-then-made-ne-ACCEPTED : goal.returns-then-made-ne-ACCEPTED
returns-then-made-ne-ACCEPTED c =
    let all = refused_leaves c.args.mode _ _ c.known_in-before.ensures
    c.propose-made.ensures
    c.if-made-ne-ACCEPTED.true in record { number = all.0; known = all.1.0; pair = all.1.1 }

-- src/desks.rt:43:1
pub returns : goal.returns
returns c =
    let all = made_leaves c.args.mode _ _ c.known_in-before.ensures c.propose-made.ensures
    c.if-made-ne-ACCEPTED.false
    c.write_stamps.ensures
    c.write_stamps-2.ensures in record { number = all.0; known = all.1.0; pair = all.1.1 }
