-- One card after the other is written out and released; the log stays as it is. Assumes nothing.
use Prim.Native.Nat.{ℕ, zero, suc, ◌+◌, ◌≤◌, ◌<◌}
use native.Mathlib.Omega.{arith}
use mathlib.Core.Path.{◌≡◌, refl, sym, ap, ◌∙◌, subst}
use mathlib.Core.Logic.{◌⊎◌, inl, inr}
use mathlib.Core.List.{List, []}
use mathlib.Core.Bool.{Bool, true, false, cond, not, ◌&&◌, ◌||◌}
use borrow.Author.Tests.{eqb-true, eq-eqb, ne_eqb, ltb-true, ltb-false, not-true}
use lib.ListN.{length, length-drop}
use lib.Dec.{eqb, ltb, lit<}
use Rattle.lists.specs.Parts.{every}
use Rattle.lists.proofs.Bytes.{Bytes_nil, Bytes_drop}
use Rattle.lists.proofs.Tests.{cases, never_both, and_left, and_right, or_cases}
use Rattle.stamps.specs.Stamp.{stamp_t}
use Rattle.stamps.specs.declared.Mark.{Mark}
use Rattle.commands.specs.Command.{original}
use Rattle.image.specs.Image.{Card, Cards}
use Rattle.redo_log.specs.Log.{LogRecord, most_records, record_card, record_side, record_text, records}
use Rattle.redo_log.proofs.Records.{good_out}
use Rattle.redo_log.proofs.ReadBack.{length_records}
use Rattle.redo_recovery_model.specs.Recovery.{record_in, due}
use Rattle.redo_recovery_model.specs.Claims.{rewrites, side_is}
use Rattle.redo_recovery_model.proofs.Sending.{FitsRecords, fits_log}
use Rattle.transactions.specs.System.{due_for, written_out}
use Rattle.transactions.proofs.Records.{due_past}
use Rattle.transactions.proofs.Serving.{at}
use Rattle.transactions_progress.specs.Progress.{originals_due}
use Rattle.transaction_steps.specs.Steps.{first_due, next_step}
use Rattle.transaction_steps_claims.specs.Follower.{Follower}
use Rattle.transaction_steps_claims.proofs.Follower.{Going}
use Rattle.transaction_steps_claims.proofs.Next.{Found, line_at, no_line, found}
use Rattle.transactions_finish.specs.Finish.{lines_due}
use Rattle.transactions_finish.proofs.Commands.{releasing, writing, Fit, above_next}
use Rattle.transactions_finish.proofs.Walks.{
  cards_of,
  Moved,
  moved_join,
  saw,
  Facing,
  looked,
  look_moved,
  look_facing,
  look_marked,
  look_unmarked,
  telling,
  Carrying,
  ordered,
  order_moved,
  mark_order,
  x_order,
  edition_order,
  order_facing,
}

-- ---- counting lines

module _ (rs : List LogRecord) (k : ℕ) where
  not_rewritten : (i : ℕ) → due_for rs k i ≡ false → rewrites rs original k i ≡ false
  not_rewritten i e = three (due rs i) (eqb (record_card (record_in rs i)) k) (side_is original (record_side (record_in rs i))) e
    where
      three : (a b c : Bool) → (a && b) ≡ false → (a && (b && c)) ≡ false
      three true true c e = absurd (never_both refl e)
      three true false c e = refl
      three false b c e = refl

  is_rewritten : (i : ℕ) → due_for rs k i ≡ true → rewrites rs original k i ≡ eqb (record_side (record_in rs i)) 1
  is_rewritten i e = three (due rs i) (eqb (record_card (record_in rs i)) k) (eqb (record_side (record_in rs i)) 1) e
    where
      three : (a b c : Bool) → (a && b) ≡ true → (a && (b && c)) ≡ c
      three true true c e = refl
      three true false c e = absurd (never_both e refl)
      three false b c e = absurd (never_both e refl)

  originals_next : (i : ℕ) (b : Bool) → rewrites rs original k i ≡ b → originals_due rs k (suc i) ≡ cond b (suc (originals_due rs k i)) (originals_due rs k i)
  unfolding originals_due
  originals_next i b e = ap (λ (t : Bool). cond t (suc (originals_due rs k i)) (originals_due rs k i)) e

  lines_next : (i : ℕ) (b : Bool) → due_for rs k i ≡ b → lines_due rs k (suc i) ≡ cond b (suc (lines_due rs k i)) (lines_due rs k i)
  unfolding lines_due
  lines_next i b e = ap (λ (t : Bool). cond t (suc (lines_due rs k i)) (lines_due rs k i)) e

  -- Lines that are not due count for nothing.
  skipped : (reach line : ℕ) → reach ≤ line → written_out rs k reach line ≡ true → (originals_due rs k line ≡ originals_due rs k reach) × (lines_due rs k line ≡ lines_due rs k reach)
  unfolding every
  skipped reach zero h w = let none : reach ≡ 0 = omega arith in (ap (originals_due rs k) (sym none), ap (lines_due rs k) (sym none))
  skipped reach (suc i) h w = go (cases (ltb i reach)) (λ q. skipped reach i q (and_left (written_out rs k reach i) (ltb i reach || not (due_for rs k i)) w))
    where
      go : (ltb i reach ≡ true) ⊎ (ltb i reach ≡ false) → (reach ≤ i → (originals_due rs k i ≡ originals_due rs k reach) × (lines_due rs k i ≡ lines_due rs k reach))
          → (originals_due rs k (suc i) ≡ originals_due rs k reach) × (lines_due rs k (suc i) ≡ lines_due rs k reach)
      go (inl e) earlier = let same : suc i ≡ reach = omega (arith, ltb-true i reach e, h) in (ap (originals_due rs k) same, ap (lines_due rs k) same)
      go (inr e) earlier = pick (or_cases (ltb i reach) (not (due_for rs k i)) (and_right (written_out rs k reach i) (ltb i reach || not (due_for rs k i)) w))
        where
          pick : (ltb i reach ≡ true) ⊎ (not (due_for rs k i) ≡ true) → (originals_due rs k (suc i) ≡ originals_due rs k reach) × (lines_due rs k (suc i) ≡ lines_due rs k reach)
          pick (inl q) = absurd (never_both q e)
          pick (inr q) =
              let idle = not-true (due_for rs k i) q in
              let before = earlier (ltb-false i reach e) in
              (originals_next i false (not_rewritten i idle) ∙ before.0, lines_next i false idle ∙ before.1)

  lines_grow : (i n : ℕ) → i ≤ n → lines_due rs k i ≤ lines_due rs k n
  lines_grow i zero h = let none : i ≡ 0 = omega arith in subst (λ (m : ℕ). lines_due rs k m ≤ lines_due rs k 0) (sym none) (omega arith)
  lines_grow i (suc n) h = go (cases (ltb n i)) (λ q. lines_grow i n q) (due_for rs k n) refl
    where
      go : (ltb n i ≡ true) ⊎ (ltb n i ≡ false) → (i ≤ n → lines_due rs k i ≤ lines_due rs k n) → (b : Bool) → due_for rs k n ≡ b → lines_due rs k i ≤ lines_due rs k (suc n)
      go (inl e) f b q = let same : i ≡ suc n = omega (arith, ltb-true n i e, h) in subst (λ (m : ℕ). lines_due rs k m ≤ lines_due rs k (suc n)) (sym same) (omega arith)
      go (inr e) f true q = let low = f (ltb-false n i e) in omega (arith, lines_next n true q)
      go (inr e) f false q = let low = f (ltb-false n i e) in omega (arith, lines_next n false q)

-- ---- one card

-- A line of card k that is due can be written to it.
pub record Writable (cs : Cards) (rs : List LogRecord) (k i : ℕ) : Type 0 where
  pub room : length (record_text (record_in rs i)) ≤ cs.room
  pub edition_left : eqb (record_side (record_in rs i)) 1 ≡ true → (at cs k).edition + originals_due rs k i < 65535
  pub made_from : eqb (record_side (record_in rs i)) 1 ≡ false → eqb ((at cs k).edition + originals_due rs k i) 0 ≡ false

-- The card does not bear the mark, and the desk has seen that.
pub record Settled (d : ℕ) (z : Follower) (k : ℕ) : Type 0 where
  pub unmarked : eqb (at (cards_of z) k).mark.desk d ≡ false
  pub mark : ℕ
  pub reach : ℕ
  pub seen : (z.minds k).seen ≡ saw mark reach
  pub apart : eqb mark d ≡ false

-- Where steps for the card have led to that.
abbrev pub CardDone : ℕ → ℕ → Follower → Type 0
CardDone d k z = (end : Follower) × Moved d k z end × Settled d end k

module _ (d : ℕ) (small : d < 65536) (start : Follower) (begun : Going d start) (k : ℕ) (inside : k < length (cards_of start).cards) (low : k < 65536) where
  abbrev rs : List LogRecord
  rs = records start.desk.log

  fits_records : FitsRecords rs
  fits_records = fits_log start.desk.log begun.kept.log_bytes begun.kept.good_log_lem

  few : length rs ≤ most_records
  few = omega (arith, length_records start.desk.log, (good_out start.desk.log begun.kept.good_log_lem).few)

  module _ (marked : (at (cards_of start) k).mark.desk ≡ d) (lines : (i : ℕ) → i < length rs → due_for rs k i ≡ true → Writable (cards_of start) rs k i)
      (left : stamp_t (at (cards_of start) k).pair.x + lines_due rs k (length rs) + 1 < 4294967296) where
    -- Some lines are written out.
    record Midway (z : Follower) (reach : ℕ) : Type 0 where
      moved : Moved d k start z
      facing : Facing d k z d reach
      mark : (at (cards_of z) k).mark ≡ (at (cards_of start) k).mark
      edition : (at (cards_of z) k).edition ≡ (at (cards_of start) k).edition + originals_due rs k reach
      stamp : stamp_t (at (cards_of z) k).pair.x ≡ stamp_t (at (cards_of start) k).pair.x + lines_due rs k reach
      upto : reach ≤ length rs

    module _ (z : Follower) (reach : ℕ) (m : Midway z reach) where
      within : k < length (cards_of z).cards
      within = omega (arith, m.moved.count, inside)

      stamps : stamp_t (at (cards_of z) k).pair.x + 1 < 4294967296
      stamps = omega (arith, m.stamp, left, lines_grow rs k reach (length rs) m.upto)

      bears : (at (cards_of z) k).mark.desk ≡ d
      bears = ap (λ (w : Mark). w.desk) m.mark ∙ marked

      -- All are written out: the card is released.
      release_now : next_step d rs k false (saw d reach) ≡ telling releasing 0 → CardDone d k start
      release_now e =
          let told : next_step d (records z.desk.log) k false (saw d reach) ≡ telling releasing 0 =
          subst (λ (l : List ℕ). next_step d (records l) k false (saw d reach) ≡ telling releasing 0) (sym m.moved.log) e in
          let end : Follower = ordered d small z m.moved.going k within low stamps bears reach m.facing releasing [] Bytes_nil (lit< tt) refl 0 told tt in
          let f = order_facing d small z m.moved.going k within low stamps bears reach m.facing releasing [] Bytes_nil (lit< tt) refl 0 told tt in
          let apart : eqb 0 d ≡ false = ne_eqb 0 d (λ q. begun.kept.some (sym q)) in (
            end,
            moved_join d k start z end m.moved (order_moved d small z m.moved.going k within low stamps bears reach m.facing releasing [] Bytes_nil (lit< tt) refl 0 told tt),
            record {
              unmarked = ap (λ (w : Mark). eqb w.desk d)
                  (mark_order d small z m.moved.going k within low stamps bears reach m.facing releasing [] Bytes_nil (lit< tt) refl 0 told tt) ∙ apart;
              mark = 0;
              reach = 0;
              seen = f.seen;
              apart = apart;
            },
          )

      -- The next line is written out.
      module _ (line : ℕ) (from : reach ≤ line) (is_due_lem : due_for rs k line ≡ true) (skip : written_out rs k reach line ≡ true)
          (e : next_step d rs k false (saw d reach) ≡ telling (writing true) line)
          (inner : line < length rs) where
        abbrev r : LogRecord
        r = record_in rs line

        abbrev side : Bool
        side = eqb (record_side r) 1

        abbrev text : List ℕ
        text = record_text r

        edition_now : (at (cards_of z) k).edition ≡ (at (cards_of start) k).edition + originals_due rs k line
        edition_now = m.edition ∙ ap (λ (n : ℕ). (at (cards_of start) k).edition + n) (sym (skipped rs k reach line from skip).0)

        fit_of : (b : Bool) → side ≡ b → Fit (cards_of z) (at (cards_of z) k) (writing b) text
        fit_of true q = (omega (arith, (lines line inner is_due_lem).room, m.moved.room), omega (arith, edition_now, (lines line inner is_due_lem).edition_left q))
        fit_of false q = (omega (arith, (lines line inner is_due_lem).room, m.moved.room), ap (λ (n : ℕ). eqb n 0) edition_now ∙ (lines line inner is_due_lem).made_from q)

        short : length text < 65536
        short = rw length-drop (let s = (fits_records line inner).1 in omega arith)

        told : (b : Bool) → next_step d (records z.desk.log) k false (saw d reach) ≡ telling (writing b) line
        told b = subst (λ (l : List ℕ). next_step d (records l) k false (saw d reach) ≡ telling (writing b) line) (sym m.moved.log) e

        carrying : (b : Bool) → side ≡ b → Carrying (writing b) (records z.desk.log) line text
        carrying b q = subst (λ (l : List ℕ). Carrying (writing b) (records l) line text) (sym m.moved.log) (q, refl)

        abbrev written : Follower
        written = ordered d small z m.moved.going k within low stamps bears reach m.facing (writing side) text
            (Bytes_drop 3 r.body (fits_records line inner).0) short (fit_of side refl) line (told side) (carrying side refl)

        edition_after_lem : (b : Bool) → side ≡ b → cond b ((at (cards_of z) k).edition + 1) (at (cards_of z) k).edition ≡ (at (cards_of start) k).edition + originals_due rs k (suc line)
        edition_after_lem true q = omega (arith, edition_now, originals_next rs k line true (is_rewritten rs k line is_due_lem ∙ q))
        edition_after_lem false q = omega (arith, edition_now, originals_next rs k line false (is_rewritten rs k line is_due_lem ∙ q))

        write_now : Midway written (line + 1)
        write_now =
            let tb = Bytes_drop 3 r.body (fits_records line inner).0 in
            let next-line : line + 1 ≡ suc line = omega arith in
            let x = x_order d small z m.moved.going k within low stamps bears reach m.facing (writing side) text tb short (fit_of side refl) line (told side) (carrying side refl) in
            let f = order_facing d small z m.moved.going k within low stamps bears reach m.facing (writing side) text tb short (fit_of side refl) line (told side) (carrying side refl) in
            record {
              moved = moved_join d k start z written m.moved
                  (order_moved d small z m.moved.going k within low stamps bears reach m.facing (writing side) text tb short (fit_of side refl) line (told side) (carrying side refl));
              facing = subst (λ (n : ℕ). Facing d k written n (line + 1)) bears f;
              mark = mark_order d small z m.moved.going k within low stamps bears reach m.facing (writing side) text tb short (fit_of side refl) line (told side) (carrying side refl) ∙ m.mark;
              edition = edition_order d small z m.moved.going k within low stamps bears reach m.facing (writing side) text tb short (fit_of side refl) line (told side) (carrying side refl)
                  ∙ edition_after_lem side refl
                  ∙ ap (λ (n : ℕ). (at (cards_of start) k).edition + originals_due rs k n) (sym next-line);
              stamp = ap stamp_t x
                  ∙ above_next d (at (cards_of z) k).pair.x small begun.kept.some stamps
                  ∙ omega (arith, m.stamp, (skipped rs k reach line from skip).1, lines_next rs k line true is_due_lem)
                  ∙ ap (λ (n : ℕ). stamp_t (at (cards_of start) k).pair.x + lines_due rs k n) (sym next-line);
              upto = omega arith;
            }

      -- Whatever is told next is done.
      step_now : ((line : ℕ) → reach ≤ line → line < length rs → (w : Follower) → Midway w (line + 1) → CardDone d k start) → CardDone d k start
      unfolding next_step
      step_now onward = go (cases (written_out rs k 0 (length rs))) (found rs k reach (length rs) few)
        where
          here : eqb d d ≡ true
          here = eq-eqb d d refl

          inner : (line : ℕ) → due_for rs k line ≡ true → line < length rs
          inner line e = pick (cases (ltb line (length rs)))
            where
              pick : (ltb line (length rs) ≡ true) ⊎ (ltb line (length rs) ≡ false) → line < length rs
              pick (inl q) = ltb-true line (length rs) q
              pick (inr q) = absurd (never_both (and_left (due rs line) (eqb (record_card (record_in rs line)) k) e) (due_past rs line (ltb-false line (length rs) q)))

          go : (written_out rs k 0 (length rs) ≡ true) ⊎ (written_out rs k 0 (length rs) ≡ false) → Found rs k reach (length rs) → CardDone d k start
          go (inl a) f = release_now (rw (a, here))
          go (inr a) (no_line b c) = release_now (rw (a, here, b))
          go (inr a) (line_at b l c e) =
              let line : ℕ = first_due rs k reach (length rs) in
              onward line l (inner line c) (written line l c e (rw (a, here, b)) (inner line c)) (write_now line l c e (rw (a, here, b)) (inner line c))

    all_lines : (count reach : ℕ) → length rs ≤ reach + count → (z : Follower) → Midway z reach → CardDone d k start
    all_lines zero reach h z m = step_now z reach m (λ line a b w n. absurd (omega (arith, a, b, h)))
    all_lines (suc count) reach h z m = step_now z reach m (λ line a b w n. all_lines count (line + 1) (omega (arith, a, h)) w n)

    marked_done : CardDone d k start
    unfolding originals_due lines_due
    marked_done =
        let same = look_marked d small start begun k inside low (eq-eqb (at (cards_of start) k).mark.desk d marked) in
        all_lines (length rs) 0 (omega arith) (looked d small start begun k inside low)
        (record {
          moved = look_moved d small start begun k inside low;
          facing = subst (λ (n : ℕ). Facing d k (looked d small start begun k inside low) n 0) (ap (λ (c : Card). c.mark.desk) same ∙ marked) (look_facing d small start begun k inside low);
          mark = ap (λ (c : Card). c.mark) same;
          edition = ap (λ (c : Card). c.edition) same ∙ omega arith;
          stamp = ap (λ (c : Card). stamp_t c.pair.x) same ∙ omega arith;
          upto = omega arith;
        })

  -- With the mark or without it.
  pub card_done : (eqb (at (cards_of start) k).mark.desk d ≡ true → (i : ℕ) → i < length rs → due_for rs k i ≡ true → Writable (cards_of start) rs k i)
      → (eqb (at (cards_of start) k).mark.desk d ≡ true → stamp_t (at (cards_of start) k).pair.x + lines_due rs k (length rs) + 1 < 4294967296)
      → CardDone d k start
  card_done lines left = go (cases (eqb (at (cards_of start) k).mark.desk d))
    where
      go : (eqb (at (cards_of start) k).mark.desk d ≡ true) ⊎ (eqb (at (cards_of start) k).mark.desk d ≡ false) → CardDone d k start
      go (inl e) = marked_done (eqb-true (at (cards_of start) k).mark.desk d e) (lines e) (left e)
      go (inr e) = (
        looked d small start begun k inside low,
        look_moved d small start begun k inside low,
        record {
          unmarked = look_unmarked d small start begun k inside low e;
          mark = (at (cards_of (looked d small start begun k inside low)) k).mark.desk;
          reach = 0;
          seen = (look_facing d small start begun k inside low).seen;
          apart = look_unmarked d small start begun k inside low e;
        },
      )
