-- What is due is written out by one recovery, where it can be written. Assumes nothing.
use Prim.Native.Nat.{ℕ, zero, suc, ◌+◌, ◌≤◌, ◌<◌}
use native.Mathlib.Omega.{arith}
use mathlib.Core.Path.{◌≡◌, refl, sym, ap, ◌∙◌, subst}
use mathlib.Core.Logic.{◌⊎◌, inl, inr}
use mathlib.Core.List.{List}
use mathlib.Core.Bool.{Bool, true, false, cond, not, ◌&&◌, ◌||◌, and-false}
use borrow.Author.Tests.{eqb-true, eq-eqb, ne_eqb, ltb-true, lt-ltb, le-ltb, leb-true, not-true}
use lib.ListN.{length}
use lib.Dec.{eqb, ltb, leb, lit<}
use Rattle.formats.specs.Format.{V1}
use Rattle.lists.specs.Parts.{Bytes, every}
use Rattle.lists.specs.Table.{all}
use Rattle.lists.proofs.Every.{every_in, every_out}
use Rattle.lists.proofs.Tests.{cases, never_both, and_left, and_right, or_right, from_T, to_T, all_out}
use Rattle.stamps.specs.Stamp.{exclusive, session_checks, stale, too_far, mark_whole, larger_of_each}
use Rattle.stamps.specs.declared.Pair.{Pair}
use Rattle.commands.specs.declared.Command.{Command}
use Rattle.commands.specs.Command.{original, well_formed, writes, update}
use Rattle.commands.specs.Bytes.{fields_of, payload, formed}
use Rattle.commands.proofs.CommandBytes.{formed_command}
use Rattle.guard.specs.Entry.{entry_sound}
use Rattle.guard.specs.Judge.{last_edition, editions_spent, raise}
use Rattle.image.specs.Image.{Card, Cards, GoodCards, view, encode, decode, sound}
use Rattle.image_claims.proofs.Claims.{sound_reads_back, good_encodes}
use Rattle.store_model.specs.Serve.{stepped}
use Rattle.store_model.specs.Words.{Sent}
use Rattle.store_model.proofs.Machine.{number_on, count_kept, cards_by, cards_from}
use Rattle.redo_log.specs.Log.{LogRecord, record_card, record_side, record_text, good_log, records}
use Rattle.redo_recovery_model.specs.Recovery.{Pairs, FitsPairs, Recovery, record_in, due, recovery_pair, entry_for, write_of, recovery_sent, recovering, recovered}
use Rattle.redo_recovery_model.specs.Claims.{text_in, side_is, rewrites}
use Rattle.redo_recovery_model.proofs.Steps.{R, S, Idle, Sends, next}
use Rattle.redo_recovery_model.proofs.Sending.{FitsRecords, fits_log, fits_here}
use Rattle.redo_recovery_model.proofs.Never.{fits_itself, right_edition, no_reply}
use Rattle.redo_recovery_model.proofs.Texts.{cards_good, decode_is, number_here, cards_next_lem, fields_here}
use Rattle.transactions.specs.System.{command_in, mark_in, stored_x, due_for, written_out, rewritable, after_step}
use Rattle.transactions.proofs.Serving.{at, then, taken, stepped_here}
use Rattle.transactions.proofs.Kept.{Kept}
use Rattle.transactions.proofs.Requests.{if_so}
use Rattle.transactions.proofs.Rewriting.{left, left_idle}
use Rattle.transactions.proofs.Claims.{kept_always, commits_at_once, recovers_meant}
use Rattle.transactions_progress.specs.Progress.{originals_due, edition_before, can_write, good_pair, RecoveryTaken, OneStepFinishes}
use Rattle.transactions_progress.proofs.Taken.{writing, well, taken_by, same_pair_lem, raised_to}

-- What is asked of a line that is due, on cards.
record LineOk (pairs : Pairs) (rs : List LogRecord) (cs : Cards) (i : ℕ) : Type 0 where
  there : record_card (record_in rs i) < length cs.cards
  room : length (record_text (record_in rs i)) ≤ cs.room
  left_over : eqb (record_side (record_in rs i)) 1 ≡ true → (at cs (record_card (record_in rs i))).edition + originals_due rs (record_card (record_in rs i)) i < 65535
  made_from : eqb (record_side (record_in rs i)) 1 ≡ false → eqb ((at cs (record_card (record_in rs i))).edition + originals_due rs (record_card (record_in rs i)) i) 0 ≡ false
  session : all (session_checks exclusive (recovery_pair pairs (record_card (record_in rs i)))) ≡ true
  fresh : stale exclusive (at cs (record_card (record_in rs i))).pair (recovery_pair pairs (record_card (record_in rs i))) ≡ false
  near : too_far (at cs (record_card (record_in rs i))).pair (recovery_pair pairs (record_card (record_in rs i))) ≡ false

module _ (pairs : Pairs) (rs : List LogRecord) (cs : Cards) (gc : GoodCards V1 cs) (fp : FitsPairs pairs) (fit : FitsRecords rs)
    (ok : (i : ℕ) → i < length rs → due rs i ≡ true → LineOk pairs rs cs i) where
  abbrev run : ℕ → Recovery
  run i = R pairs rs (encode V1 cs) i

  abbrev cards : ℕ → Cards
  cards i = left pairs rs cs gc fp fit i

  record State (i : ℕ) : Type 0 where
    number : (run i).number ≡ 0
    room : (cards i).room ≡ cs.room
    count : length (cards i).cards ≡ length cs.cards
    edition : (j : ℕ) → (at (cards i) j).edition ≡ (at cs j).edition + originals_due rs j i
    pair : (j : ℕ) → ((at (cards i) j).pair ≡ (at cs j).pair) ⊎ ((at (cards i) j).pair ≡ recovery_pair pairs j)

  none_more : (i j : ℕ) → rewrites rs original j i ≡ false → originals_due rs j (suc i) ≡ originals_due rs j i
  unfolding originals_due
  none_more i j e = ap (λ (b : Bool). cond b (suc (originals_due rs j i)) (originals_due rs j i)) e

  one_more : (i j : ℕ) (b : Bool) → rewrites rs original j i ≡ b → originals_due rs j (suc i) ≡ cond b (suc (originals_due rs j i)) (originals_due rs j i)
  unfolding originals_due
  one_more i j b e = ap (λ (t : Bool). cond t (suc (originals_due rs j i)) (originals_due rs j i)) e

  state_idle : (i : ℕ) → Idle pairs rs (encode V1 cs) i → State i → State (suc i)
  state_idle i idle s =
      let same = left_idle pairs rs cs gc fp fit i idle in
      let none : (j : ℕ) → rewrites rs original j i ≡ false =
      λ j. ap (λ (b : Bool). b && (eqb (record_card (record_in rs i)) j && side_is original (record_side (record_in rs i)))) (idle.why s.number) in
      record {
        number = ap (λ (q : Recovery). q.number) idle.same ∙ s.number;
        room = ap (λ (m : Cards). m.room) same ∙ s.room;
        count = ap (λ (m : Cards). length m.cards) same ∙ s.count;
        edition = λ j. ap (λ (m : Cards). (at m j).edition) same ∙ s.edition j ∙ ap (λ (n : ℕ). (at cs j).edition + n) (sym (none_more i j (none j)));
        pair = λ j. subst (λ (m : Cards). ((at m j).pair ≡ (at cs j).pair) ⊎ ((at m j).pair ≡ recovery_pair pairs j)) (sym same) (s.pair j);
      }

  module _ (i : ℕ) (h : i < length rs) (sends : Sends pairs rs (encode V1 cs) i) (s : State i) where
    abbrev r : LogRecord
    r = record_in rs i

    abbrev k : ℕ
    k = record_card r

    abbrev side : Bool
    side = eqb (record_side r) 1

    abbrev p : Pair
    p = recovery_pair pairs k

    abbrev card : Card
    card = at (cards i) k

    abbrev c : Command
    c = writing side k p card.mark card.edition (length (record_text r))

    abbrev sent : Sent
    sent = S pairs rs (encode V1 cs) i

    abbrev line : LineOk pairs rs cs i
    line = ok i h sends.is_due_lem

    upto : i ≤ length rs
    upto = omega arith

    good : GoodCards V1 (cards i)
    good = cards_good pairs rs cs gc fp fit i upto

    is_c : write_of pairs (run i).image r ≡ c
    is_c = ap (λ (m : Cards). writing side k p (at m k).mark (at m k).edition (length (record_text r))) (decode_is pairs rs cs gc fp fit i upto)

    fields : fields_of V1 sent.command ≡ c
    fields = fields_here pairs rs cs gc fp fit i h ∙ is_c

    inside : k < length (cards i).cards
    inside = omega (arith, line.there, s.count)

    whole : mark_whole card.mark ≡ true
    unfolding entry_sound
    whole = all_out _ (from_T (entry_sound (cards i).room (view 0 card)) ((good.each k inside).rules 0 (lit< tt))) 2

    edition_some : side ≡ false → eqb card.edition 0 ≡ false
    edition_some e = ap (λ (n : ℕ). eqb n 0) (s.edition k) ∙ line.made_from e

    is_formed : formed V1 sent.command ≡ true
    unfolding recovery_sent
    is_formed =
        formed_command (write_of pairs (run i).image r) (record_text r) V1 (fits_here pairs rs (encode V1 cs) (good_encodes V1 cs gc).bytes fp fit i h) (lit< tt)
        (subst (λ (q : Command). well_formed q ≡ true) (sym is_c) (well side k p card.mark card.edition (length (record_text r)) line.session whole edition_some)) refl

    judged : (stale exclusive card.pair p ≡ false) × (too_far card.pair p ≡ false)
    judged = go (s.pair k)
      where
        go : ((at (cards i) k).pair ≡ (at cs k).pair) ⊎ ((at (cards i) k).pair ≡ recovery_pair pairs k) → (stale exclusive card.pair p ≡ false) × (too_far card.pair p ≡ false)
        go (inl e) = (ap (λ (q : Pair). stale exclusive q p) e ∙ line.fresh, ap (λ (q : Pair). too_far q p) e ∙ line.near)
        go (inr e) = (ap (λ (q : Pair). stale exclusive q p) e ∙ (same_pair_lem p).0, ap (λ (q : Pair). too_far q p) e ∙ (same_pair_lem p).1)

    unspent : editions_spent (view 0 card) c ≡ false
    unspent = go side refl
      where
        go : (b : Bool) → side ≡ b → (eqb (cond b 3 4) 3 && eqb card.edition last_edition) ≡ false
        go false e = refl
        go true e = ne_eqb card.edition 65535 (λ q. omega (arith, q, s.edition k, line.left_over e))

    taken_now : number_on V1 (cards i) sent ≡ 0
    taken_now =
        taken_by (cards i) sent c fields is_formed (lt-ltb k (length (cards i).cards) inside) judged.0 judged.1 (fits_itself card.mark)
        (le-ltb (cards i).room (length (record_text r)) (omega (arith, line.room, s.room)))
        (right_edition side (view 0 card) c refl refl) unspent (no_reply side (view 0 card) c _ refl)

    after : cards (suc i) ≡ then (cards i) sent
    after = cards_next_lem pairs rs cs gc fp fit i h sends

    place : (command_in sent).card ≡ k
    place = ap (λ (q : Command). q.card) fields

    others : (j : ℕ) → eqb k j ≡ false → at (cards (suc i)) j ≡ at (cards i) j
    others j e = ap (λ (m : Cards). at m j) after ∙ (taken (cards i) sent good taken_now).others j (ap (λ (n : ℕ). eqb n j) place ∙ e)

    here : at (cards (suc i)) k ≡ stepped (at (cards i) (command_in sent).card) (command_in sent) (payload V1 sent.command)
    here =
        ap (λ (m : Cards). at m k) after
        ∙ ap (λ (n : ℕ). at (then (cards i) sent) n) (sym place)
        ∙ stepped_here (cards i) sent good taken_now

    stepped_edition : (a : Card) (q : Command) (t : List ℕ) → (stepped a q t).edition ≡ cond (writes original q) (a.edition + 1) a.edition
    unfolding stepped raise
    stepped_edition a q t = refl

    stepped_pair : (a : Card) (q : Command) (t : List ℕ) → (stepped a q t).pair ≡ larger_of_each a.pair (update q)
    unfolding stepped raise
    stepped_pair a q t = refl

    edition_here : (at (cards (suc i)) k).edition ≡ cond side (card.edition + 1) card.edition
    edition_here =
        ap (λ (a : Card). a.edition) here
        ∙ stepped_edition (at (cards i) (command_in sent).card) (command_in sent) (payload V1 sent.command)
        ∙ ap (λ (q : Command). cond (writes original q) ((at (cards i) q.card).edition + 1) (at (cards i) q.card).edition) fields
        ∙ by_side side
      where
        by_side : (b : Bool) → cond (eqb (cond b 3 4) 3) (card.edition + 1) card.edition ≡ cond b (card.edition + 1) card.edition
        by_side true = refl
        by_side false = refl

    pair_here : (at (cards (suc i)) k).pair ≡ p
    pair_here =
        ap (λ (a : Card). a.pair) here
        ∙ stepped_pair (at (cards i) (command_in sent).card) (command_in sent) (payload V1 sent.command)
        ∙ ap (λ (q : Command). larger_of_each (at (cards i) q.card).pair (update q)) fields
        ∙ raised_to card.pair p judged.0

    due_here : rewrites rs original k i ≡ side
    due_here = ap (λ (b : Bool). b && (eqb k k && side)) sends.is_due_lem ∙ ap (λ (b : Bool). b && side) (eq-eqb k k refl)

    counts : (at (cards (suc i)) k).edition ≡ (at cs k).edition + originals_due rs k (suc i)
    counts = edition_here ∙ go side refl
      where
        go : (b : Bool) → side ≡ b → cond b (card.edition + 1) card.edition ≡ (at cs k).edition + originals_due rs k (suc i)
        go true e = omega (arith, s.edition k, one_more i k true (due_here ∙ e))
        go false e = omega (arith, s.edition k, one_more i k false (due_here ∙ e))

    state_sends : State (suc i)
    state_sends =
        record {
          number = sym (number_here pairs rs cs gc fp fit i h sends) ∙ taken_now;
          room = ap (λ (m : Cards). m.room) after ∙ ap (λ (n : ℕ). (cards_by V1 n (cards i) sent).room) taken_now ∙ s.room;
          count = ap (λ (m : Cards). length m.cards) after ∙ count_kept V1 (number_on V1 (cards i) sent) (cards i) sent ∙ s.count;
          edition = λ j. edition_at j (cases (eqb k j));
          pair = λ j. pair_at_lem j (cases (eqb k j));
        }
      where
        edition_at : (j : ℕ) → (eqb k j ≡ true) ⊎ (eqb k j ≡ false) → (at (cards (suc i)) j).edition ≡ (at cs j).edition + originals_due rs j (suc i)
        edition_at j (inl e) = subst (λ (n : ℕ). (at (cards (suc i)) n).edition ≡ (at cs n).edition + originals_due rs n (suc i)) (eqb-true k j e) counts
        edition_at j (inr e) =
            ap (λ (a : Card). a.edition) (others j e)
            ∙ s.edition j
            ∙ ap (λ (n : ℕ). (at cs j).edition + n) (sym (none_more i j (ap (λ (b : Bool). due rs i && (b && side)) e ∙ and-false (due rs i))))

        pair_at_lem : (j : ℕ) → (eqb k j ≡ true) ⊎ (eqb k j ≡ false) → ((at (cards (suc i)) j).pair ≡ (at cs j).pair) ⊎ ((at (cards (suc i)) j).pair ≡ recovery_pair pairs j)
        pair_at_lem j (inl e) = inr (subst (λ (n : ℕ). (at (cards (suc i)) n).pair ≡ recovery_pair pairs n) (eqb-true k j e) pair_here)
        pair_at_lem j (inr e) = subst (λ (a : Card). (a.pair ≡ (at cs j).pair) ⊎ (a.pair ≡ recovery_pair pairs j)) (sym (others j e)) (s.pair j)

  state : (i : ℕ) → i ≤ length rs → State i
  unfolding recovering cards_from originals_due
  state zero h = record { number = refl; room = refl; count = refl; edition = λ j. omega arith; pair = λ j. inl refl }
  state (suc i) h = go (next pairs rs (encode V1 cs) i) (state i (omega arith))
    where
      go : Idle pairs rs (encode V1 cs) i ⊎ Sends pairs rs (encode V1 cs) i → State i → State (suc i)
      go (inl idle) s = state_idle i idle s
      go (inr sends) s = state_sends i h sends s

-- ---- the claims

module _ (pairs : Pairs) (log image : List ℕ) (fp : FitsPairs pairs) (lb : Bytes log) (ib : Bytes image) (so : sound V1 image ≡ true) (g : good_log log ≡ true)
    (can : every (can_write image (records log)) (length (records log)) ≡ true) (may : every (good_pair image (records log) pairs) (length (records log)) ≡ true) where
  abbrev lrs : List LogRecord
  lrs = records log

  lines_ok : (i : ℕ) → i < length lrs → due lrs i ≡ true → LineOk pairs lrs (decode V1 image) i
  lines_ok i h e =
      let two = if_so (due lrs i) (every_out (can_write image lrs) (length lrs) can i h) e in
      let front = and_left (inside && fits) (cond one left_one some) two in
      let three = if_so (due lrs i) (every_out (good_pair image lrs pairs) (length lrs) may i h) e in
      let first = and_left (ses && not old) (not far) three in
      record {
        there = ltb-true (record_card (record_in lrs i)) (length (decode V1 image).cards) (and_left inside fits front);
        room = leb-true (length (record_text (record_in lrs i))) (decode V1 image).room (and_right inside fits front);
        left_over = λ q. ltb-true _ 65535 (pick_first one left_one some q (and_right (inside && fits) (cond one left_one some) two));
        made_from = λ q. not-true _ (pick_second one left_one some q (and_right (inside && fits) (cond one left_one some) two));
        session = and_left ses (not old) first;
        fresh = not-true old (and_right ses (not old) first);
        near = not-true far (and_right (ses && not old) (not far) three);
      }
    where
      pick_first : (b x y : Bool) → b ≡ true → cond b x y ≡ true → x ≡ true
      pick_first b x y e f = rw e at f

      pick_second : (b x y : Bool) → b ≡ false → cond b x y ≡ true → y ≡ true
      pick_second b x y e f = rw e at f

      inside : Bool
      inside = ltb (record_card (record_in (records log) i)) (length (decode V1 image).cards)

      fits : Bool
      fits = leb (length (record_text (record_in (records log) i))) (decode V1 image).room

      one : Bool
      one = eqb (record_side (record_in (records log) i)) 1

      left_one : Bool
      left_one = ltb (edition_before image (records log) (record_card (record_in (records log) i)) i) last_edition

      some : Bool
      some = not (eqb (edition_before image (records log) (record_card (record_in (records log) i)) i) 0)

      ses : Bool
      ses = all (session_checks exclusive (recovery_pair pairs (record_card (record_in (records log) i))))

      old : Bool
      old = stale exclusive (entry_for image (record_card (record_in (records log) i))).pair (recovery_pair pairs (record_card (record_in (records log) i)))

      far : Bool
      far = too_far (entry_for image (record_card (record_in (records log) i))).pair (recovery_pair pairs (record_card (record_in (records log) i)))

  taken_all : (recovered pairs log image).number ≡ 0
  unfolding recovered
  taken_all =
      let back = sound_reads_back V1 image ib (to_T so) in
      let zero-run = (state pairs lrs (decode V1 image) back.good fp (fits_log log lb g) lines_ok (length lrs) (omega arith)).number in
      rw g (subst (λ (im : List ℕ). (recovering pairs lrs im (length lrs)).number ≡ 0) back.same zero-run)

pub recovery_taken : RecoveryTaken
recovery_taken pairs log image fp lb ib so g can may = taken_all pairs log image fp lb ib so g can may

-- The whole log gone through is a recovery.
whole_run : (pairs : Pairs) (log image : List ℕ) → good_log log ≡ true → recovering pairs (records log) image (length (records log)) ≡ recovered pairs log image
unfolding recovered
whole_run pairs log image g = rw g

pub one_step_finishes : OneStepFinishes
unfolding after_step
one_step_finishes d y pairs m fp h can may j l =
    let k = kept_always d y m in
    let w = commits_at_once d y m in
    let ib : Bytes y.image = subst Bytes (sym k.image_is) (good_encodes V1 k.cs k.good).bytes in
    let taken = recovery_taken pairs y.log y.image fp k.log_bytes ib w.sounds k.good_log_lem can may in
    ap (λ (q : Recovery). text_in q.image l j) (whole_run pairs y.log y.image k.good_log_lem)
    ∙ recovers_meant d y m pairs fp (clear k) taken j l
  where
    clear : Kept d y → (i : ℕ) → eqb (mark_in y.image i).desk d ≡ false → written_out (records y.log) i 0 (length (records y.log)) ≡ true
    clear k i e = every_in (λ n. ltb n 0 || not (due_for (records y.log) i n)) (length (records y.log)) (λ n q. go n q (cases (due_for (records y.log) i n)))
      where
        go : (n : ℕ) → n < length (records y.log) → (due_for (records y.log) i n ≡ true) ⊎ (due_for (records y.log) i n ≡ false) → (ltb n 0 || not (due_for (records y.log) i n)) ≡ true
        go n q (inr f) = or_right (ltb n 0) (ap not f)
        go n q (inl f) =
            let here : record_card (record_in (records y.log) n) ≡ i = eqb-true (record_card (record_in (records y.log) n)) i
            (and_right (due (records y.log) n) (eqb (record_card (record_in (records y.log) n)) i) f) in
            let one = every_out (rewritable d y.image (records y.log) pairs) (length (records y.log))
            (and_right (leb (length (records y.log)) (length (records y.log)))
            (every (rewritable d y.image (records y.log) pairs) (length (records y.log))) h) n q in
            let bearing = and_left (eqb (mark_in y.image (record_card (record_in (records y.log) n))).desk d)
            (ltb (stored_x y.image (record_card (record_in (records y.log) n)))
            (recovery_pair pairs (record_card (record_in (records y.log) n))).x)
            (if_so (due (records y.log) n) one (and_left (due (records y.log) n) (eqb (record_card (record_in (records y.log) n)) i) f)) in
            absurd (never_both (subst (λ (m : ℕ). eqb (mark_in y.image m).desk d ≡ true) here bearing) e)
