-- The rules of a command's numbers, sentence by sentence. Assumes nothing.
use Prim.Native.Nat.{ℕ, ◌≤◌}
use native.Mathlib.Omega.{arith}
use mathlib.Core.Path.{◌≡◌, refl, sym, ap, ◌∙◌}
use mathlib.Core.List.{[], ◌∷◌, ◌++◌}
use mathlib.Core.Bool.{Bool, true, false, not, ◌&&◌, ◌||◌, beq, and-false}
use borrow.Author.Tests.{leb-true, eqb-true, le-leb}
use lib.Dec.{leb, eqb}
use Rattle.lists.specs.Table.{all, all_from}
use Rattle.lists.proofs.Tests.{all_append, all_out, and_left, and_right, beq_true}
use Rattle.stamps.specs.Stamp.{shared, exclusive, own, stamp_valid, session_checks, mark_whole}
use Rattle.commands.specs.Command.{writes_translation, is_write, language_named, verifier, opens_none, update, verifier_checks, act_checks, pair_checks, checks, well_formed}
use Rattle.stamps.proofs.Stamp.{SessionRules, session_rules}
use Rattle.commands.specs.declared.Command.{Command}
use Rattle.stamps.specs.declared.Pair.{Pair}

abbrev marks_hold : Command → Bool
marks_hold c = mark_whole c.expected && mark_whole c.next

two_hold : (a b : Bool) → all (a ∷ b ∷ []) ≡ (a && b)
unfolding all all_from
two_hold a b = refl

-- The rules in three parts.
pub by_parts : (c : Command) → well_formed c ≡ (all (act_checks c) && (all (pair_checks c) && marks_hold c))
unfolding well_formed
by_parts c =
    all_append (act_checks c) (pair_checks c ++ (mark_whole c.expected ∷ mark_whole c.next ∷ []))
    ∙ ap (λ (b : Bool). all (act_checks c) && b)
    (all_append (pair_checks c) (mark_whole c.expected ∷ mark_whole c.next ∷ []) ∙ ap (λ (b : Bool). all (pair_checks c) && b)
    (two_hold (mark_whole c.expected) (mark_whole c.next)))

-- The rules that go by the act, for each act: k says that the act is known, x that the mode is exclusive, z that the edition is zero, l that the length
-- is, m that the language is at most 3, o that it is zero.
by_write_original : (x z l o : Bool) → (x && z && o) ≡ (x && beq false (not z) && (l || true) && o)
by_write_original true true true o = refl
by_write_original true true false o = refl
by_write_original true false true o = refl
by_write_original true false false o = refl
by_write_original false z l o = refl

by_write_translation : (x z l m : Bool) → (x && not z && m) ≡ (x && beq true (not z) && (l || true) && (m && true))
by_write_translation true true true m = refl
by_write_translation true true false m = refl
by_write_translation true false true true = refl
by_write_translation true false true false = refl
by_write_translation true false false true = refl
by_write_translation true false false false = refl
by_write_translation false z l m = refl

by_read_translation : (z l m : Bool) → (z && l && m) ≡ (beq false (not z) && (l || false) && (m && true))
by_read_translation true true true = refl
by_read_translation true true false = refl
by_read_translation true false m = refl
by_read_translation false l m = refl

by_others : (k z l o : Bool) → (k && z && l && o) ≡ (k && true && beq false (not z) && (l || false) && o)
by_others true true true o = refl
by_others true true false o = refl
by_others true false l o = refl
by_others false z l o = refl

-- A language that is zero is at most 3.
zero_named : (n : ℕ) → (leb n 3 && eqb n 0) ≡ eqb n 0
zero_named n = go (eqb n 0) refl
  where
    go : (b : Bool) → eqb n 0 ≡ b → (leb n 3 && eqb n 0) ≡ eqb n 0
    go true e = rw (eqb-true n 0 e)
    go false e = rw e (and-false (leb n 3))

module _ (c : Command) where
  pub of_write_original : eqb c.act 3 ≡ true → (eqb c.mode exclusive && eqb c.edition 0 && eqb c.language 0) ≡ all (act_checks c)
  unfolding all all_from
  of_write_original h =
      rw (eqb-true c.act 3 h, zero_named c.language) (by_write_original (eqb c.mode exclusive) (eqb c.edition 0) (eqb c.length 0) (eqb c.language 0))

  pub of_write_translation : eqb c.act 4 ≡ true → (eqb c.mode exclusive && not (eqb c.edition 0) && leb c.language 3) ≡ all (act_checks c)
  unfolding all all_from
  of_write_translation h =
      rw (eqb-true c.act 4 h) (by_write_translation (eqb c.mode exclusive) (eqb c.edition 0) (eqb c.length 0) (leb c.language 3))

  pub of_read_translation : eqb c.act 2 ≡ true → (eqb c.edition 0 && eqb c.length 0 && leb c.language 3) ≡ all (act_checks c)
  unfolding all all_from
  of_read_translation h = rw (eqb-true c.act 2 h) (by_read_translation (eqb c.edition 0) (eqb c.length 0) (leb c.language 3))

  pub of_others : eqb c.act 3 ≡ false → eqb c.act 4 ≡ false → eqb c.act 2 ≡ false →
      (leb 1 c.act && leb c.act 5 && eqb c.edition 0 && eqb c.length 0 && eqb c.language 0) ≡ all (act_checks c)
  unfolding all all_from
  of_others h g r =
      rw (h, g, r, zero_named c.language) (by_others (leb 1 c.act && leb c.act 5) (eqb c.edition 0) (eqb c.length 0) (eqb c.language 0))

-- The rules of the pairs where no update pair was sent: those of the verifier follow from those of a session. m is the test of the mode, s and x those of
-- the stamps, o that of the own stamp.
verified : (m s x o : Bool) → (m && s && x && o) ≡ (m && s && x && o && s && x && true && true)
verified true true true true = refl
verified true true true false = refl
verified true true false o = refl
verified true false x o = refl
verified false s x o = refl

module _ (c : Command) where
  pub of_session : opens_none c ≡ true → all (session_checks c.mode c.verifier) ≡ all (pair_checks c)
  unfolding all all_from
  of_session h =
      rw (h, le-leb c.verifier.s c.verifier.s (omega arith), le-leb c.verifier.x c.verifier.x (omega arith))
      (verified (eqb c.mode shared || eqb c.mode exclusive) (stamp_valid c.verifier.s) (stamp_valid c.verifier.x) (not (eqb (own c.mode c.verifier) 0)))

  pub of_opened : opens_none c ≡ false → (all (session_checks c.mode c.opened) && all (verifier_checks c)) ≡ all (pair_checks c)
  of_opened h = sym (all_append (session_checks c.mode (update c)) (verifier_checks c) ∙ ap (λ (p : Pair). all (session_checks c.mode p) && all (verifier_checks c)) sent)
    where
      sent : update c ≡ c.opened
      sent = rw h

-- The rules of a well-formed command, one by one.
pub record CommandRules (c : Command) : Type 0 where
  pub least : 1 ≤ c.act
  pub most : c.act ≤ 5
  pub writing : (not (is_write c) || eqb c.mode exclusive) ≡ true
  pub edition : writes_translation c ≡ not (eqb c.edition 0)
  pub length : (eqb c.length 0 || is_write c) ≡ true
  pub expected : mark_whole c.expected ≡ true
  pub next : mark_whole c.next ≡ true
  pub language : language_named c ≡ true
  pub session : SessionRules c.mode (update c)
  -- no stamp of the verifier is above the update pair's
  pub reached : ((verifier c).s ≤ (update c).s) × ((verifier c).x ≤ (update c).x)

pub command_rules : (c : Command) → well_formed c ≡ true → CommandRules c
unfolding well_formed
command_rules c h =
    record {
      least = leb-true 1 c.act (and_left (leb 1 c.act) (leb c.act 5) (all_out (checks c) h 0));
      most = leb-true c.act 5 (and_right (leb 1 c.act) (leb c.act 5) (all_out (checks c) h 0));
      writing = all_out (checks c) h 1;
      edition = beq_true (eqb c.act 4) (not (eqb c.edition 0)) (all_out (checks c) h 2);
      length = all_out (checks c) h 3;
      language = all_out (checks c) h 4;
      expected = all_out (checks c) h 13;
      next = all_out (checks c) h 14;
      session = session_rules c.mode (update c) (and_left (all (session_checks c.mode (update c))) (all (verifier_checks c)) pairs);
      reached =
          (leb-true (verifier c).s (update c).s (all_out (checks c) h 11), leb-true (verifier c).x (update c).x (all_out (checks c) h 12));
    }
  where
    pairs : (all (session_checks c.mode (update c)) && all (verifier_checks c)) ≡ true
    pairs =
        sym (all_append (session_checks c.mode (update c)) (verifier_checks c))
        ∙ and_left (all (pair_checks c)) (marks_hold c) (and_right (all (act_checks c)) (all (pair_checks c) && marks_hold c) (sym (by_parts c) ∙ h))
