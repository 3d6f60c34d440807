-- A recovery of what can be written is refused nothing. Assumes nothing.
use Prim.Native.Nat.{ℕ, ◌+◌, ◌≤◌, max}
use native.Mathlib.Omega.{arith}
use mathlib.Core.Path.{◌≡◌, refl, ap, ◌∙◌}
use mathlib.Core.Bool.{Bool, true, false, cond, ◌||◌, or-true}
use borrow.Author.Tests.{ltb-false, le-leb, le-ltb}
use lib.ListN.{length}
use lib.Dec.{eqb, ltb}
use Rattle.formats.specs.Format.{V1}
use Rattle.lists.specs.Table.{all, all_from}
use Rattle.lists.proofs.Table.{unapplied}
use Rattle.lists.proofs.Tests.{or_fails, all_out}
use Rattle.stamps.specs.Stamp.{exclusive, session_checks, stale, too_far, stamp_too_far, mark_whole, mark_fits, larger_of_each, no_pair, stamp_t, most_ahead}
use Rattle.stamps.specs.declared.Pair.{Pair}
use Rattle.stamps.specs.declared.Mark.{Mark}
use Rattle.commands.specs.declared.Command.{Command}
use Rattle.commands.specs.Command.{well_formed, verifier, update}
use Rattle.commands.specs.Bytes.{fields_of, formed}
use Rattle.guard.specs.Judge.{wrong_edition, editions_spent, reply_short}
use Rattle.image.specs.Image.{Cards}
use Rattle.store_model.specs.Serve.{request_rows, entry_of}
use Rattle.store_model.specs.Words.{Sent}
use Rattle.store_model.proofs.Machine.{number_on}

-- ---- a request that no row refuses

-- A write of one side, by its numbers.
abbrev pub writing : Bool → ℕ → Pair → Mark → ℕ → ℕ → Command
writing side card pair mark edition length =
    record {
      act = cond side 3 4;
      mode = exclusive;
      language = 0;
      card = card;
      verifier = pair;
      opened = no_pair;
      expected = mark;
      next = mark;
      edition = cond side 0 edition;
      length = length;
    }

pub well : (side : Bool) (card : ℕ) (pair : Pair) (mark : Mark) (edition size : ℕ) → all (session_checks exclusive pair) ≡ true → mark_whole mark ≡ true → (side ≡ false → eqb edition 0 ≡ false)
    → well_formed (writing side card pair mark edition size) ≡ true
unfolding well_formed all all_from
well true card pair mark edition size p m e =
    rw (
      or-true (eqb size 0),
      all_out (session_checks exclusive pair) p 1,
      all_out (session_checks exclusive pair) p 2,
      all_out
          (session_checks exclusive pair) p 3,
      le-leb pair.s pair.s (omega arith),
      le-leb pair.x pair.x (omega arith),
      m,
    )
well false card pair mark edition size p m e =
    rw (
      e refl,
      or-true (eqb size 0),
      all_out (session_checks exclusive pair) p 1,
      all_out (session_checks exclusive pair) p 2,
      all_out
          (session_checks exclusive pair) p 3,
      le-leb pair.s pair.s (omega arith),
      le-leb pair.x pair.x (omega arith),
      m,
    )

pub taken_by : (cs : Cards) (s : Sent) (c : Command) → fields_of V1 s.command ≡ c → formed V1 s.command ≡ true → ltb c.card (length cs.cards) ≡ true
    → stale c.mode (entry_of V1 cs c).pair (verifier c) ≡ false
    → too_far (entry_of V1 cs c).pair (update c) ≡ false
    → mark_fits (entry_of V1 cs c).mark c.expected ≡ true
    → ltb cs.room c.length ≡ false
    → wrong_edition (entry_of V1 cs c) c ≡ false
    → editions_spent (entry_of V1 cs c) c ≡ false
    → reply_short (entry_of V1 cs c) c (length s.lent) ≡ false
    → number_on V1 cs s ≡ 0
taken_by cs s c e f g a b m l w t r = (unapplied (request_rows V1 cs s.command (length s.lent)) tt).1 (rw e (rw (f, g, a, b, m, l, w, t, r) tt))

-- ---- pairs

pub same_pair_lem : (p : Pair) → (stale exclusive p p ≡ false) × (too_far p p ≡ false)
same_pair_lem p = (
  or_none (ltb p.x p.x) (ltb p.s p.s) (le-ltb p.x p.x (omega arith)) (le-ltb p.s p.s (omega arith)),
  or_none (stamp_too_far p.s p.s) (stamp_too_far p.x p.x) (le-ltb (stamp_t p.s + most_ahead) (stamp_t p.s) (omega arith)) (le-ltb (stamp_t p.x + most_ahead) (stamp_t p.x) (omega arith)),
)
  where
    or_none : (a b : Bool) → a ≡ false → b ≡ false → (a || b) ≡ false
    or_none a b e f = rw (e, f)

-- The larger of a pair and one that it does not make stale is the latter.
pub raised_to : (o p : Pair) → stale exclusive o p ≡ false → larger_of_each o p ≡ p
raised_to o p h =
    let both = or_fails (ltb p.x o.x) (ltb p.s o.s) h in
    let s : max o.s p.s ≡ p.s = let low : o.s ≤ p.s = ltb-false p.s o.s both.1 in omega arith in
    let x : max o.x p.x ≡ p.x = let low : o.x ≤ p.x = ltb-false p.x o.x both.0 in omega arith in
    ap (λ (n : ℕ). record { s = n; x = max o.x p.x }) s ∙ ap (λ (n : ℕ). record { s = p.s; x = n }) x
