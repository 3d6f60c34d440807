-- An order is accepted where nobody came between. Assumes nothing.
use Prim.Native.Nat.{ℕ}
use native.Mathlib.Omega.{arith}
use mathlib.Core.Path.{◌≡◌, refl, sym, ◌∙◌, subst}
use mathlib.Core.Bool.{Bool, true, false, ◌&&◌, and-false}
use borrow.Author.Tests.{eqb-true, eq-eqb, leb-true, le-leb, le-ltb, not-true}
use lib.Dec.{eqb}
use Rattle.formats.specs.Format.{V1}
use Rattle.lists.specs.Table.{all}
use Rattle.lists.proofs.Tests.{and_in, or_none, all_out}
use Rattle.stamps.specs.Stamp.{exclusive, stale, mark_fits}
use Rattle.stamps.specs.declared.Pair.{Pair}
use Rattle.stamps.specs.declared.Mark.{Mark}
use Rattle.commands.specs.Command.{verifier}
use Rattle.image.specs.Image.{Cards}
use Rattle.store_model.specs.Serve.{entry_of}
use Rattle.store_model.specs.Words.{Sent}
use Rattle.store_model.proofs.Machine.{number_on}
use Rattle.transactions.specs.System.{command_in}
use Rattle.transactions.proofs.Kept.{decoded}
use Rattle.transactions.proofs.Requests.{number_now}
use Rattle.transactions.proofs.Claims.{kept_always}
use Rattle.transactions_progress.proofs.Taken.{taken_by}
use Rattle.transaction_steps_claims.specs.Ends.{nobody_between, OrdersTaken}

-- A pair that is the stored one is not stale, in either mode.
never_stale : (mode : ℕ) (stored new : Pair) → new.s ≡ stored.s → new.x ≡ stored.x → stale mode stored new ≡ false
never_stale mode stored new s x =
    or_none (le-ltb new.x stored.x (omega (arith, x)))
    (subst (λ (b : Bool). (eqb mode exclusive && b) ≡ false) (sym (le-ltb new.s stored.s (omega (arith, s)))) (and-false (eqb mode exclusive)))

same_mark : (stored expected : Mark) → expected.desk ≡ stored.desk → expected.transaction ≡ stored.transaction → mark_fits stored expected ≡ true
same_mark stored expected d t = and_in (eq-eqb expected.desk stored.desk d) (le-leb stored.transaction expected.transaction (omega (arith, t)))

taken_on : (cs : Cards) (s : Sent) → all (nobody_between cs s) ≡ true → number_on V1 cs s ≡ 0
taken_on cs s h =
    taken_by cs s (command_in s) refl
    (all_out (nobody_between cs s) h 0)
    (all_out (nobody_between cs s) h 1)
    (never_stale (command_in s).mode (entry_of V1 cs (command_in s)).pair (verifier (command_in s))
    (eqb-true (verifier (command_in s)).s (entry_of V1 cs (command_in s)).pair.s (all_out (nobody_between cs s) h 2))
    (eqb-true (verifier (command_in s)).x (entry_of V1 cs (command_in s)).pair.x (all_out (nobody_between cs s) h 3)))
    (not-true _ (all_out (nobody_between cs s) h 4))
    (same_mark (entry_of V1 cs (command_in s)).mark (command_in s).expected
    (eqb-true (command_in s).expected.desk (entry_of V1 cs (command_in s)).mark.desk (all_out (nobody_between cs s) h 5))
    (eqb-true (command_in s).expected.transaction (entry_of V1 cs (command_in s)).mark.transaction (all_out (nobody_between cs s) h 6)))
    (le-ltb cs.room (command_in s).length (leb-true (command_in s).length cs.room (all_out (nobody_between cs s) h 7)))
    (not-true _ (all_out (nobody_between cs s) h 8))
    (not-true _ (all_out (nobody_between cs s) h 9))
    (not-true _ (all_out (nobody_between cs s) h 10))

pub orders_taken : OrdersTaken
orders_taken d y s m h =
    let k = kept_always d y m in
    number_now d y k s ∙ taken_on k.cs s (subst (λ (cs : Cards). all (nobody_between cs s) ≡ true) (decoded d y k) h)
