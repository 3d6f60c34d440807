-- The numbers are those of the definitions, since the crowd is that of trial n. Assumes nothing.
use mathlib.Core.Path.{◌≡◌, ap, ◌∙◌}
use Prim.Native.Nat.{ℕ, ◌+◌, ◌*◌}
use mathlib.Core.List.{List}
use Rattle.lock_queue.specs.Queue.{State, most_places}
use Rattle.lock_queue.specs.Requests.{asks, leaves, answered, number, answer, after}
use Rattle.lock_queue_claims.specs.Trials.{guest, crowded}
use Rattle.lock_queue.specs.declared.LockAnswer.{LockAnswer}
use Rattle.lock_queue.specs.declared.Waiting.{Waiting}
use Rattle.lock_queue_lent.specs.Slice.{lent_state}
use Rattle.lock_queue_lent.specs.declared.Kept.{Kept}
use Rattle.lock_queue_lent_test.specs.declared.Turn.{Turn}
use Rattle.lock_queue_lent_test.proofs.numbers.Goals as goal

-- what is kept of a crowd whose last entry is w
abbrev keeps : Waiting → Kept
keeps w = record { count = most_places; largest = record { s = w.pair.s; x = 0 } }

came : (t : Turn) (places : List Waiting) (last : Waiting) (d : ℕ) (new : Waiting) → places ≡ crowded.places → last ≡ guest most_places →
    (t.left.answer ≡ answer most_places (lent_state places (keeps last)) (leaves d))
    × (t.asked.answer ≡ answer most_places (after most_places (lent_state places (keeps last)) (leaves d)) (asks new)) →
    t.left.answer.number * 100 + t.asked.answer.number ≡ number most_places crowded (leaves d) * 100 + number most_places (after most_places crowded (leaves d)) (asks new)
unfolding answer answered
came t places last d new e f said = λ i. left i * 100 + asked i
  where
    same : lent_state places (keeps last) ≡ crowded
    same = λ i. lent_state (e i) (keeps (f i))

    left : t.left.answer.number ≡ number most_places crowded (leaves d)
    left = ap (λ (a : LockAnswer). a.number) said.0 ∙ ap (λ (q : State). number most_places q (leaves d)) same

    asked : t.asked.answer.number ≡ number most_places (after most_places crowded (leaves d)) (asks new)
    asked = ap (λ (a : LockAnswer). a.number) said.1 ∙ ap (λ (q : State). number most_places (after most_places q (leaves d)) (asks new)) same

pub returns : goal.returns
returns c =
    came c.leave_then_ask-turn.result _ _ _ _ c.crowd.ensures
    c.guest-last.ensures c.leave_then_ask-turn.ensures
