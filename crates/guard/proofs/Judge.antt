-- Laws of an entry that judges a command. Assumes nothing.
use Prim.Native.Nat.{ℕ, suc, ◌+◌, ◌≤◌}
use native.Mathlib.Omega.{arith}
use mathlib.Core.Path.{◌≡◌, refl, sym, ◌∙◌}
use mathlib.Core.Logic.{◌↔◌, ◌⊎◌}
use mathlib.Core.Bool.{Bool, true, false, cond, not, ◌&&◌, or-false}
use borrow.Author.Tests.{le-ltb, ltb-false, eqb-true, eqb-false, not-false}
use lib.Dec.{T, eqb, ltb}
use Rattle.lists.proofs.Tests.{never_both, or_fails}
use Rattle.stamps.specs.Stamp.{shared, exclusive, stale, most_ahead, stamp_t, too_far, mark_fits}
use Rattle.commands.specs.Command.{original, reads_translation, writes_translation, reads, writes, verifier, update, well_formed}
use Rattle.lists.specs.Table.{first, no_row, applies, earlier, once, settled}
use Rattle.guard.specs.Judge.{behind, last_edition, act_rows, entry_rows, judge_rows, raise, judged}
use Rattle.commands.specs.declared.Command.{Command}
use Rattle.guard.specs.declared.Entry.{Entry}
use Rattle.guard.specs.declared.Judged.{Judged}
use Rattle.std.specs.Prelude.{Result, is_ok}
use Rattle.numbers.specs.declared.Refusal.{Refusal}
use Rattle.numbers.specs.Numbers.{EDITION_WRONG, REPLY_SHORT}
use Rattle.numbers.specs.Refusals.{number_of}
use Rattle.numbers.proofs.Refusals.{of_ok, of_err}
use Rattle.lists.proofs.Table.{given, unapplied, none_applies, settled_new, settled_old}
use Rattle.commands.proofs.Rules.{command_rules}
use Rattle.stamps.proofs.Stamp.{larger_old, near_raises}

second_fails : (a b : Bool) → (a && b) ≡ false → a ≡ true → b ≡ false
second_fails true b h e = h
second_fails false b h e = absurd (never_both e refl)

-- A command that writes nothing has no payload.
pub no_payload : (room : ℕ) (c : Command) → well_formed c ≡ true → writes original c ≡ false → writes_translation c ≡ false → ltb room c.length ≡ false
no_payload room c h a b =
    let none : c.length ≡ 0 = eqb-true c.length 0 (sym (or-false (eqb c.length 0)) ∙ rw (a, b) at (command_rules c h).length) in
    le-ltb room c.length (omega arith)

-- What an accepted command passed, row by row.
pub record Accepted (e : Entry) (c : Command) (room lent : ℕ) : Type 0 where
  pub formed : well_formed c ≡ true
  pub fresh : stale c.mode e.pair (verifier c) ≡ false
  pub near : too_far e.pair (update c) ≡ false
  pub mark : mark_fits e.mark c.expected ≡ true
  pub length : c.length ≤ room
  pub current : reads_translation c ≡ true → behind e.edition e.from ≡ false
  pub named : writes_translation c ≡ true → c.edition ≡ e.edition
  pub unspent : writes original c ≡ true → e.edition ≡ last_edition → ⊥
  pub lends_original : (reads original c && ltb lent e.original) ≡ false
  pub lends_translation : (reads_translation c && ltb lent e.translation) ≡ false

module _ (e : Entry) (c : Command) (room lent : ℕ) where
  -- Each number stands on one row.
  pub once_rows : T (once (judge_rows e c room lent))
  once_rows = tt

  -- A number and an entry that go by the table are the judgement.
  pub judged_by : {n : ℕ} {after : Entry} → n ≡ first (judge_rows e c room lent) → after ≡ settled n (raise e c) e →
      ◌≡◌ {A = Judged} (record { number = n; entry = after }) (judged e c room lent)
  unfolding judged
  judged_by p q = rw (q, p)

  -- Where a command is accepted, no row applies.
  pub accepted_none : first (judge_rows e c room lent) ≡ 0 → (n : ℕ) → applies n (judge_rows e c room lent) ≡ false
  accepted_none h n = none_applies (judge_rows e c room lent) ((unapplied (judge_rows e c room lent) once_rows).0 h) n

  -- Each number exactly when its row applies and none above it does.
  pub exactly : (n : ℕ) → ((judged e c room lent).number ≡ suc n) ↔ (T (applies (suc n) (judge_rows e c room lent)) × T (no_row (earlier (suc n) (judge_rows e c room lent))))
  unfolding judged
  exactly n = given (judge_rows e c room lent) once_rows n

  -- Accepted, 0, exactly when no row applies.
  pub accepted_exactly : ((judged e c room lent).number ≡ 0) ↔ T (no_row (judge_rows e c room lent))
  unfolding judged
  accepted_exactly = unapplied (judge_rows e c room lent) once_rows

  pub accepted : (judged e c room lent).number ≡ 0 → Accepted e c room lent
  unfolding judged
  accepted h =
      record {
        formed = not-false (well_formed c) (row_fails 1);
        fresh = row_fails 3;
        near = row_fails 17;
        mark = not-false (mark_fits e.mark c.expected) (row_fails 4);
        length = ltb-false room c.length (row_fails 5);
        current = λ w. second_fails (reads_translation c) (behind e.edition e.from) row_6.0 w;
        named =
            λ w. eqb-true c.edition e.edition (not-false (eqb c.edition e.edition) (second_fails (writes_translation c) (not (eqb c.edition e.edition)) row_6.1 w));
        unspent = λ w. eqb-false e.edition last_edition (second_fails (writes original c) (eqb e.edition last_edition) (row_fails 7) w);
        lends_original = row_8.0;
        lends_translation = row_8.1;
      }
    where
      row_fails : (n : ℕ) → applies n (judge_rows e c room lent) ≡ false
      row_fails n = accepted_none h n

      row_6 : ((reads_translation c && behind e.edition e.from) ≡ false) × ((writes_translation c && not (eqb c.edition e.edition)) ≡ false)
      row_6 =
          or_fails (reads_translation c && behind e.edition e.from) (writes_translation c && not (eqb c.edition e.edition))
          (row_fails 6)

      row_8 : ((reads original c && ltb lent e.original) ≡ false) × ((reads_translation c && ltb lent e.translation) ≡ false)
      row_8 = or_fails (reads original c && ltb lent e.original) (reads_translation c && ltb lent e.translation) (row_fails 8)

module _ (e : Entry) (c : Command) (room lent : ℕ) where
  -- A refusal leaves the entry.
  pub refusal_leaves : (n : ℕ) → (judged e c room lent).number ≡ suc n → (judged e c room lent).entry ≡ e
  unfolding judged
  refusal_leaves n h = settled_old {n = (judged e c room lent).number} (raise e c) e (λ z. omega arith)

  pub accepted_raises : (judged e c room lent).number ≡ 0 → (judged e c room lent).entry ≡ raise e c
  unfolding judged
  accepted_raises h = settled_new (raise e c) e h

  -- An accepted command is shared or exclusive.
  pub accepted_mode : Accepted e c room lent → (c.mode ≡ shared) ⊎ (c.mode ≡ exclusive)
  accepted_mode a = (command_rules c a.formed).session.mode

  -- The rows from 3 on decide on a well-formed command.
  pub rows_formed : well_formed c ≡ true → first (judge_rows e c room lent) ≡ first (entry_rows e c room lent)
  rows_formed h = rw h

  -- The judgement of a well-formed command, by the outcome of the rows from 3 on.
  pub judged_refused : (o : Result Unit Refusal) → well_formed c ≡ true → number_of o ≡ first (entry_rows e c room lent) → is_ok o ≡ false →
      ◌≡◌ {A = Judged} (record { number = number_of o; entry = e }) (judged e c room lent)
  judged_refused o h p r = judged_by e c room lent (p ∙ sym (rows_formed h)) (sym (settled_old (raise e c) e (of_err o r)))

  pub judged_raised : (o : Result Unit Refusal) → well_formed c ≡ true → number_of o ≡ first (entry_rows e c room lent) → is_ok o ≡ true →
      ◌≡◌ {A = Judged} (record { number = number_of o; entry = raise e c }) (judged e c room lent)
  judged_raised o h p r = judged_by e c room lent (p ∙ sym (rows_formed h)) (sym (settled_new (raise e c) e (of_ok o r)))

  -- The rows that go by the act, of a command that reads.
  pub rows_original : well_formed c ≡ true → reads original c ≡ true → first (act_rows e c room lent) ≡ cond (ltb lent e.original) REPLY_SHORT 0
  rows_original h r =
      let act : c.act ≡ 1 = eqb-true c.act 1 r in
      rw (no_payload room c h (rw act) (rw act), act, or-false (ltb lent e.original))

  pub rows_translation : well_formed c ≡ true → reads_translation c ≡ true →
      first (act_rows e c room lent) ≡ cond (behind e.edition e.from) EDITION_WRONG (cond (ltb lent e.translation) REPLY_SHORT 0)
  rows_translation h r =
      let act : c.act ≡ 2 = eqb-true c.act 2 r in
      rw (no_payload room c h (rw act) (rw act), act, or-false (behind e.edition e.from))

-- The stored stamps grow.
pub raise_more : (e : Entry) (c : Command) → (e.pair.s ≤ (raise e c).pair.s) × (e.pair.x ≤ (raise e c).pair.x)
unfolding raise
raise_more e c = larger_old e.pair (update c)

-- An accepted command raises no T by more than the most.
pub raise_near : {e : Entry} {c : Command} {room lent : ℕ} → Accepted e c room lent
    → (stamp_t (raise e c).pair.s ≤ stamp_t e.pair.s + most_ahead) × (stamp_t (raise e c).pair.x ≤ stamp_t e.pair.x + most_ahead)
unfolding raise
raise_near {e} {c} a = near_raises e.pair (update c) a.near
