-- What an operation on a queue's arrays leaves, by the answer and the queue that its definition gives. Assumes nothing.
use Prim.Native.Nat.{ℕ}
use mathlib.Core.Path.{◌≡◌, sym, ap, ◌∙◌}
use Rattle.lock_queue.specs.Queue.{State}
use Rattle.lock_queue.specs.Requests.{Request, Turns, answer, after}
use Rattle.lock_queue.specs.declared.LockAnswer.{LockAnswer}
use Rattle.lock_queue_lent.specs.Arrays.{ArrayTurn, arrays_of, array_turn}

-- The queue as it was loaded, the request on it, and what was written.
pub exits : (lent : ℕ) (r : Request) {loaded queue : State} {given : LockAnswer} {left : State} {written : ArrayTurn} →
    loaded ≡ queue →
    Turns lent loaded r given left →
    arrays_of given left ≡ written →
    array_turn lent queue r ≡ written
exits lent r {loaded} {queue} {given} {left} l asked w =
    let a = asked.0 ∙ ap (λ (q : State). answer lent q r) l in
    let q = asked.1 ∙ ap (λ (p : State). after lent p r) l in
    ap (λ (b : LockAnswer). arrays_of b (after lent queue r)) (sym a) ∙ ap (arrays_of given) (sym q) ∙ w
