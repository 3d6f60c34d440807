-- Each number exactly when its row applies and none above it does; every number is from the list, and a refusal changes nothing.
-- Assumes nothing.
use Prim.Native.Nat.{ℕ, suc, ◌≤◌}
use mathlib.Core.Path.{◌≡◌, refl, sym, subst, ◌∙◌}
use mathlib.Core.Logic.{◌↔◌, ◌⊎◌, inl, inr}
use mathlib.Core.List.{List}
use mathlib.Core.Bool.{◌||◌}
use lib.Dec.{T, leb, eqb, leb→le, eqb→eq}
use lib.ListN.{length}
use Rattle.formats.specs.Format.{Format}
use Rattle.guard.specs.Replies.{replied}
use Rattle.lists.specs.Table.{first, applies, earlier, no_row}
use Rattle.lists.proofs.Table.{given, unapplied, first_all}
use Rattle.lists.proofs.Tests.{T_or_cases}
use Rattle.store_model.specs.Serve.{serve_by, serve, store_rows}
use Rattle.store_model.specs.Claims.{Exactly, Refusals}

-- The answer's number is the table's.
number_is : (f : Format) (image command reply : List ℕ) → (serve f image command reply).answer.number ≡ first (store_rows f image command (length reply))
unfolding serve serve_by replied
number_is f image command reply = refl

pub exactly : Exactly
exactly f image command reply =
    record {
      refused = λ n.
          subst
          (λ (m : ℕ). (m ≡ suc n) ↔ (T (applies (suc n) (store_rows f image command (length reply))) × T (no_row (earlier (suc n) (store_rows f image command (length reply))))))
          (sym (number_is f image command reply))
          (given (store_rows f image command (length reply)) tt n);
      accepts =
          subst (λ (m : ℕ). (m ≡ 0) ↔ T (no_row (store_rows f image command (length reply)))) (sym (number_is f image command reply))
          (unapplied (store_rows f image command (length reply)) tt);
    }

-- The list as a test and as a statement.
in_list : (n : ℕ) → T (leb n 9 || eqb n 17) → (n ≤ 9) ⊎ (n ≡ 17)
in_list n t = go (T_or_cases (leb n 9) (eqb n 17) t)
  where
    go : T (leb n 9) ⊎ T (eqb n 17) → (n ≤ 9) ⊎ (n ≡ 17)
    go (inl low) = inl (leb→le n 9 low)
    go (inr far) = inr (eqb→eq n 17 far)

pub refusals : Refusals
unfolding serve serve_by
refusals f image command reply =
    record {
      listed =
          in_list (serve f image command reply).answer.number
          (subst (λ (m : ℕ). T (leb m 9 || eqb m 17)) (sym (number_is f image command reply))
          (first_all (λ n. leb n 9 || eqb n 17) (store_rows f image command (length reply)) tt tt));
      kept = λ n e. let given-number = sym (number_is f image command reply) ∙ e in (rw given-number, rw given-number);
    }
