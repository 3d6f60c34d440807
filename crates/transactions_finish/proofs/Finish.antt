-- What a desk has begun it can finish: first every card is written out and released, then every card is noted. Assumes
-- nothing.
use Prim.Native.Nat.{ℕ, zero, suc, ◌+◌, ◌*◌, ◌≤◌, ◌<◌}
use native.Mathlib.Omega.{arith}
use mathlib.Core.Path.{◌≡◌, refl, sym, ap, ◌∙◌, subst}
use mathlib.Core.Logic.{◌⊎◌, inl, inr}
use mathlib.Core.List.{List, [], ◌∷◌, ◌++◌}
use mathlib.Core.Bool.{Bool, true, false, cond, not, ◌&&◌, ◌||◌}
use borrow.Author.Tests.{eqb-true, eq-eqb, ne_eqb, ltb-true, ltb-false, leb-true, not-true}
use lib.ListN.{length, get_or-eq_default}
use lib.Dec.{eqb, ltb, leb}
use Rattle.formats.specs.Format.{V1}
use Rattle.lists.specs.Parts.{every}
use Rattle.lists.proofs.Every.{every_in, every_out}
use Rattle.lists.proofs.Tests.{cases, never_both, and_in, and_left, and_right, or_right, all_out, from_T}
use Rattle.lists.specs.Runs.{foldl}
use Rattle.stamps.specs.Stamp.{stamp_t}
use Rattle.commands.specs.Command.{Language, is_write}
use Rattle.guard.specs.Judge.{last_edition}
use Rattle.image.specs.Layout.{most_cards, shape_ok}
use Rattle.image.specs.Image.{Card, no_card, decode}
use Rattle.redo_log.specs.Log.{LogRecord, most_records, commit_kind, synced_kind, record_card, record_side, record_text, record_transaction, record_count, start_at, records}
use Rattle.redo_log_claims.specs.Cases.{synced_of}
use Rattle.redo_recovery_model.specs.Recovery.{record_in, due}
use Rattle.redo_recovery_model.proofs.Sending.{fits_log}
use Rattle.transactions.specs.System.{OneDesk, command_in, due_for, written_out, nothing_due, after_step}
use Rattle.transactions.specs.Claims.{Moment}
use Rattle.transactions.proofs.Records.{due_past, kind_not}
use Rattle.transactions.proofs.Serving.{at}
use Rattle.transactions.proofs.Requests.{if_so}
use Rattle.transactions.proofs.Claims.{kept_always, refines, meant_only_then}
use Rattle.transactions_progress.specs.Progress.{originals_due, edition_before, can_write}
use Rattle.transaction_steps.specs.Steps.{ToldStep, note_step, last_due, next_step}
use Rattle.transaction_steps_claims.specs.Follower.{
  Mind,
  Follower,
  Doing,
  incoming,
  arriving,
  sending,
  logging,
  renewing,
  dropping,
  falling,
  as_told,
  after_doing,
  after_doings,
}
use Rattle.transaction_steps_claims.proofs.Follower.{Going, nothing_minded, one}
use Rattle.transaction_steps_claims.proofs.Next.{clear_out}
use Rattle.transaction_steps_claims.proofs.Ends.{more_lines, idle_at, idle_all, was_due, noted_done}
use Rattle.transactions_finish.specs.Finish.{lines_due, cards_due, line_left, stamps_left, own_doing, own_doings, starts_again, Finished, Finishes, CanAlwaysFinish}
use Rattle.transactions_finish.proofs.Requests.{good_cards}
use Rattle.transactions_finish.proofs.Walks.{cards_of, Path, path_none, path_more, path_join, saw}
use Rattle.transactions_finish.proofs.Cards.{Writable, Settled, CardDone, card_done}
use Rattle.transactions_finish.proofs.Inside.{bare_always}
use Rattle.transactions_finish.proofs.Notes.{last_fits, note_card, note_transaction, note_bytes, note_stores, noted, note_records, note_length, note_count, note_end}

-- ---- the desk's own steps leave what is meant

own_one : (d : ℕ) (z : Follower) (a : Doing) → own_doing a ≡ true → (after_doing d z a).desk.meant ≡ z.desk.meant
unfolding after_doing
own_one d z (incoming s hears) o = (meant_only_then d z.desk).unwritten s (not-true (is_write (command_in s)) (and_right hears (not (is_write (command_in s))) o))
own_one d z (arriving i hears) o = (meant_only_then d z.desk).arrived i
own_one d z (sending s going line from) o = (meant_only_then d z.desk).ordered s line from
own_one d z (logging budget r) o = (meant_only_then d z.desk).uncommitted budget r (kind_not r synced_kind commit_kind o refl)
own_one d z renewing o = absurd (never_both o refl)
own_one d z (dropping k) o = absurd (never_both o refl)
own_one d z falling o = absurd (never_both o refl)

own_meant : (d : ℕ) (z : Follower) (doings : List Doing) → own_doings doings ≡ true → (after_doings d z doings).desk.meant ≡ z.desk.meant
unfolding own_doings foldl
own_meant d z [] o = refl
own_meant d z (a ∷ doings) o =
    own_meant d (after_doing d z a) doings (and_right (own_doing a) (own_doings doings) o) ∙ own_one d z a (and_left (own_doing a) (own_doings doings) o)

-- ---- what is due, and of how many cards

never_due : (rs : List LogRecord) (k : ℕ) → written_out rs k 0 (length rs) ≡ true → (i : ℕ) → due_for rs k i ≡ false
never_due rs k w i = go (cases (ltb i (length rs)))
  where
    go : (ltb i (length rs) ≡ true) ⊎ (ltb i (length rs) ≡ false) → due_for rs k i ≡ false
    go (inl e) = idle_at rs k (length rs) i w (ltb-true i (length rs) e)
    go (inr e) = ap (λ (b : Bool). b && eqb (record_card (record_in rs i)) k) (due_past rs i (ltb-false i (length rs) e))

out_of : (rs : List LogRecord) (k : ℕ) → ((i : ℕ) → due_for rs k i ≡ false) → written_out rs k 0 (length rs) ≡ true
out_of rs k f = every_in (λ j. ltb j 0 || not (due_for rs k j)) (length rs) (λ i h. or_right (ltb i 0) (ap not (f i)))

-- What is written out in one log is so in another with nothing more due.
out_less : (rs less : List LogRecord) (k : ℕ) → ((i : ℕ) → due_for less k i ≡ true → due_for rs k i ≡ true) → written_out rs k 0 (length rs) ≡ true → written_out less k 0 (length less) ≡ true
out_less rs less k f w = out_of less k (λ i. go i (cases (due_for less k i)))
  where
    go : (i : ℕ) → (due_for less k i ≡ true) ⊎ (due_for less k i ≡ false) → due_for less k i ≡ false
    go i (inl e) = absurd (never_both (f i e) (never_due rs k w i))
    go i (inr e) = e

cards_next_lem : (rs : List LogRecord) (k : ℕ) (b : Bool) → written_out rs k 0 (length rs) ≡ b → cards_due rs (suc k) ≡ cond b (cards_due rs k) (suc (cards_due rs k))
unfolding cards_due
cards_next_lem rs k b e = ap (λ (t : Bool). cond t (cards_due rs k) (suc (cards_due rs k))) e

cards_grow : (rs : List LogRecord) (k : ℕ) → cards_due rs k ≤ cards_due rs (suc k)
cards_grow rs k = go (written_out rs k 0 (length rs)) refl
  where
    go : (b : Bool) → written_out rs k 0 (length rs) ≡ b → cards_due rs k ≤ cards_due rs (suc k)
    go true e = omega (arith, cards_next_lem rs k true e)
    go false e = omega (arith, cards_next_lem rs k false e)

next_note : (d : ℕ) (rs : List LogRecord) (k mark reach : ℕ) → written_out rs k 0 (length rs) ≡ false → eqb mark d ≡ false
    → next_step d rs k true (saw mark reach) ≡ record { step = note_step; line = 0; transaction = last_due rs k (length rs) }
unfolding next_step
next_note d rs k mark reach w m = rw (w, m)

module _ (d : ℕ) (small : d < 65536) (start : Follower) (begun : Going d start) where
  abbrev rs : List LogRecord
  rs = records start.desk.log

  abbrev many : ℕ
  many = length (cards_of start).cards

  low : (k : ℕ) → k < many → k < 65536
  unfolding shape_ok
  low k h =
      let most : many ≤ most_cards = leb-true many most_cards (all_out _ (from_T (shape_ok V1 many (cards_of start).room) (good_cards d start.desk begun.kept).shape) 1) in
      omega (arith, h, most)

  -- ---- every card is written out and released, from the last to the first

  record Written (n : ℕ) : Type 0 where
    end : Follower
    path : Path d start end
    going : Going d end
    log : end.desk.log ≡ start.desk.log
    count : length (cards_of end).cards ≡ many
    room : (cards_of end).room ≡ (cards_of start).room
    before : (j : ℕ) → j < n → at (cards_of end) j ≡ at (cards_of start) j
    after : (j : ℕ) → n ≤ j → j < many → Settled d end j

  module _ (lines : (k : ℕ) → k < many → eqb (at (cards_of start) k).mark.desk d ≡ true → (i : ℕ) → i < length rs → due_for rs k i ≡ true → Writable (cards_of start) rs k i)
      (left : (k : ℕ) → k < many → eqb (at (cards_of start) k).mark.desk d ≡ true → stamp_t (at (cards_of start) k).pair.x + lines_due rs k (length rs) + 1 < 4294967296) where
    module _ (k : ℕ) (h : k < many) (w : Written (suc k)) where
      abbrev here : Follower
      here = w.end

      same : at (cards_of here) k ≡ at (cards_of start) k
      same = w.before k (omega arith)

      marked_too : eqb (at (cards_of here) k).mark.desk d ≡ true → eqb (at (cards_of start) k).mark.desk d ≡ true
      marked_too e = ap (λ (c : Card). eqb c.mark.desk d) (sym same) ∙ e

      moves : (i : ℕ) → Writable (cards_of start) rs k i → Writable (cards_of here) rs k i
      moves i q =
          let edition : (at (cards_of here) k).edition ≡ (at (cards_of start) k).edition = ap (λ (c : Card). c.edition) same in
          record {
            room = omega (arith, w.room, q.room);
            edition_left = λ e. omega (arith, edition, q.edition_left e);
            made_from = λ e. ap (λ (n : ℕ). eqb (n + originals_due rs k i) 0) edition ∙ q.made_from e;
          }

      done : CardDone d k here
      done =
          card_done d small here w.going k (omega (arith, h, w.count)) (low k h)
          (λ e. subst (λ (l : List ℕ). (i : ℕ) → i < length (records l) → due_for (records l) k i ≡ true → Writable (cards_of here) (records l) k i) (sym w.log)
          (λ i b q. moves i (lines k h (marked_too e) i b q)))
          (λ e. subst (λ (l : List ℕ). stamp_t (at (cards_of here) k).pair.x + lines_due (records l) k (length (records l)) + 1 < 4294967296) (sym w.log)
          (subst (λ (c : Card). stamp_t c.pair.x + lines_due rs k (length rs) + 1 < 4294967296) (sym same) (left k h (marked_too e))))

      stays : (j : ℕ) → eqb k j ≡ false → Settled d here j → Settled d done.0 j
      stays j e q =
          record {
            unmarked = ap (λ (c : Card). eqb c.mark.desk d) (done.1.others j e) ∙ q.unmarked;
            mark = q.mark;
            reach = q.reach;
            seen = ap (λ (m : Mind). m.seen) (done.1.minds j e) ∙ q.seen;
            apart = q.apart;
          }

      written_next : Written k
      written_next =
          record {
            end = done.0;
            path = path_join d start here done.0 w.path done.1.path;
            going = done.1.going;
            log = done.1.log ∙ w.log;
            count = done.1.count ∙ w.count;
            room = done.1.room ∙ w.room;
            before = λ j b. done.1.others j (ne_eqb k j (λ e. omega (arith, e, b))) ∙ w.before j (omega arith);
            after = λ j a b. go j a b (cases (eqb k j));
          }
        where
          go : (j : ℕ) → k ≤ j → j < many → (eqb k j ≡ true) ⊎ (eqb k j ≡ false) → Settled d done.0 j
          go j a b (inl e) = subst (Settled d done.0) (eqb-true k j e) done.2
          go j a b (inr e) = stays j e (w.after j (apart_from (cases (ltb k j))) b)
            where
              apart_from : (ltb k j ≡ true) ⊎ (ltb k j ≡ false) → suc k ≤ j
              apart_from (inl q) = ltb-true k j q
              apart_from (inr q) = absurd (never_both (eq-eqb k j (omega (arith, a, ltb-false k j q))) e)

    written_all : (n : ℕ) → n ≤ many → Written n → Written 0
    written_all zero h w = w
    written_all (suc k) h w = written_all k (omega arith) (written_next k h w)

    written : Written 0
    written =
        written_all many (omega arith)
        (record {
          end = start;
          path = path_none d start;
          going = begun;
          log = refl;
          count = refl;
          room = refl;
          before = λ j b. refl;
          after = λ j a b. absurd (omega (arith, a, b));
        })

  -- ---- every card is noted, from the last to the first

  module _ (w : Written 0) where
    record Noted (n : ℕ) : Type 0 where
      end : Follower
      path : Path d start end
      going : Going d end
      image : end.desk.image ≡ w.end.desk.image
      minds : end.minds ≡ w.end.minds
      shrinks : (j i : ℕ) → due_for (records end.desk.log) j i ≡ true → due_for rs j i ≡ true
      done : (j : ℕ) → n ≤ j → j < many → written_out (records end.desk.log) j 0 (length (records end.desk.log)) ≡ true
      lines_left : record_count end.desk.log + cards_due rs n ≤ most_records
      bytes_left : start_at end.desk.log (record_count end.desk.log) + 6 * cards_due rs n ≤ length end.desk.log

    module _ (k : ℕ) (h : k < many) (q : Noted (suc k)) where
      abbrev z : Follower
      z = q.end

      abbrev now : List LogRecord
      now = records z.desk.log

      -- Nothing is due of it.
      skip : written_out now k 0 (length now) ≡ true → Noted k
      skip e =
          record {
            end = z;
            path = q.path;
            going = q.going;
            image = q.image;
            minds = q.minds;
            shrinks = q.shrinks;
            done = λ j a b. go j a b (cases (ltb k j));
            lines_left = omega (arith, q.lines_left, cards_grow rs k);
            bytes_left = omega (arith, q.bytes_left, cards_grow rs k);
          }
        where
          go : (j : ℕ) → k ≤ j → j < many → (ltb k j ≡ true) ⊎ (ltb k j ≡ false) → written_out now j 0 (length now) ≡ true
          go j a b (inl p) = q.done j (ltb-true k j p) b
          go j a b (inr p) = subst (λ (i : ℕ). written_out now i 0 (length now) ≡ true) (omega (arith, a, ltb-false k j p)) e

      -- Something is due of it.
      module _ (e : written_out now k 0 (length now) ≡ false) where
        counted : cards_due rs (suc k) ≡ suc (cards_due rs k)
        counted = go (cases (written_out rs k 0 (length rs)))
          where
            go : (written_out rs k 0 (length rs) ≡ true) ⊎ (written_out rs k 0 (length rs) ≡ false) → cards_due rs (suc k) ≡ suc (cards_due rs k)
            go (inl p) = absurd (never_both (out_less rs now k (q.shrinks k) p) e)
            go (inr p) = cards_next_lem rs k false p

        abbrev t : ℕ
        t = last_due now k (length now)

        fits : t < 4294967296
        fits = last_fits now (fits_log z.desk.log q.going.kept.log_bytes q.going.kept.good_log_lem) k (length now)

        abbrev r : LogRecord
        r = synced_of k t

        line : record_count z.desk.log < most_records
        line = omega (arith, q.lines_left, counted)

        space : start_at z.desk.log (record_count z.desk.log) + 6 ≤ length z.desk.log
        space = omega (arith, q.bytes_left, counted)

        settled : Settled d w.end k
        settled = w.after k (omega arith) h

        seen : (z.minds k).seen ≡ saw settled.mark settled.reach
        seen = ap (λ (m : ℕ → Mind). (m k).seen) q.minds ∙ settled.seen

        told_next : next_step d now (record_card r) true (z.minds (record_card r)).seen ≡ record { step = note_step; line = 0; transaction = t }
        told_next =
            ap (λ (j : ℕ). next_step d now j true (z.minds j).seen) (note_card k t (low k h) fits)
            ∙ ap (next_step d now k true) seen
            ∙ next_note d now k settled.mark settled.reach e settled.apart

        told : as_told d z (logging note_stores r) ≡ true
        told =
            and_in (eq-eqb (next_step d now (record_card r) true (z.minds (record_card r)).seen).step note_step (ap (λ (n : ToldStep). n.step) told_next))
            (eq-eqb (next_step d now (record_card r) true (z.minds (record_card r)).seen).transaction (record_transaction r)
            (ap (λ (n : ToldStep). n.transaction) told_next ∙ sym (note_transaction k t (low k h) fits)))

        abbrev later : Follower
        later = after_doing d z (logging note_stores r)

        log_is : later.desk.log ≡ noted k t (low k h) fits z.desk.log q.going.kept.good_log_lem line space
        unfolding after_doing after_step
        log_is = refl

        image_is : later.desk.image ≡ z.desk.image
        unfolding after_doing after_step
        image_is = refl

        minds_are : later.minds ≡ z.minds
        unfolding after_doing
        minds_are = refl

        records_are : records later.desk.log ≡ now ++ r ∷ []
        records_are = ap records log_is ∙ note_records k t (low k h) fits z.desk.log q.going.kept.good_log_lem line space

        note_it : Noted k
        note_it =
            record {
              end = later;
              path = path_join d start z later q.path (path_more d z later (logging note_stores r) (note_bytes k t (low k h) fits) refl told (path_none d later));
              going = (one d z q.going (logging note_stores r) (note_bytes k t (low k h) fits) told).going;
              image = image_is ∙ q.image;
              minds = minds_are ∙ q.minds;
              shrinks = λ j i p. q.shrinks j i (was_due now q.going.kept.ordered j r refl i (subst (λ (l : List LogRecord). due_for l j i ≡ true) records_are p));
              done = λ j a b. subst (λ (l : List LogRecord). written_out l j 0 (length l) ≡ true) (sym records_are) (go j a b (cases (ltb k j)));
              lines_left = omega (arith, ap record_count log_is, note_count k t (low k h) fits z.desk.log q.going.kept.good_log_lem line space, q.lines_left, counted);
              bytes_left = subst (λ (l : List ℕ). start_at l (record_count l) + 6 * cards_due rs k ≤ length l) (sym log_is)
                  (omega (
                    arith,
                    note_end k t (low k h) fits z.desk.log q.going.kept.good_log_lem line space,
                    note_length k t (low k h) fits z.desk.log q.going.kept.good_log_lem line space,
                    q.bytes_left,
                    counted,
                  ));
            }
          where
            go : (j : ℕ) → k ≤ j → j < many → (ltb k j ≡ true) ⊎ (ltb k j ≡ false)
                → written_out (more_lines now q.going.kept.ordered j r) j 0 (length (more_lines now q.going.kept.ordered j r)) ≡ true
            go j a b (inl p) = idle_all now q.going.kept.ordered j r refl (q.done j (ltb-true k j p) b)
            go j a b (inr p) =
                subst (λ (i : ℕ). written_out (more_lines now q.going.kept.ordered i r) i 0 (length (more_lines now q.going.kept.ordered i r)) ≡ true) (omega (arith, a, ltb-false k j p))
                (noted_done now q.going.kept.ordered k r refl (note_card k t (low k h) fits) (note_transaction k t (low k h) fits))

      noted_next : Noted k
      noted_next = go (cases (written_out now k 0 (length now)))
        where
          go : (written_out now k 0 (length now) ≡ true) ⊎ (written_out now k 0 (length now) ≡ false) → Noted k
          go (inl e) = skip e
          go (inr e) = note_it e

    noted_all : (n : ℕ) → n ≤ many → Noted n → Noted 0
    noted_all zero h q = q
    noted_all (suc k) h q = noted_all k (omega arith) (noted_next k h q)

  -- ---- both

  module _ (w : Written 0) (q : Noted w 0) where
    abbrev final : OneDesk
    final = q.end.desk

    unmarked : (k : ℕ) → eqb (at (decode V1 final.image) k).mark.desk d ≡ false
    unmarked k = subst (λ (i : List ℕ). eqb (at (decode V1 i) k).mark.desk d ≡ false) (sym q.image) (go (cases (ltb k many)))
      where
        go : (ltb k many ≡ true) ⊎ (ltb k many ≡ false) → eqb (at (cards_of w.end) k).mark.desk d ≡ false
        go (inl e) = (w.after k (omega arith) (ltb-true k many e)).unmarked
        go (inr e) =
            ap (λ (c : Card). eqb c.mark.desk d) (get_or-eq_default (cards_of w.end).cards (no_card V1) {n = k} (omega (arith, w.count, ltb-false k many e)))
            ∙ ne_eqb 0 d (λ p. begun.kept.some (sym p))

    idle : ((i : ℕ) → due rs i ≡ true → record_card (record_in rs i) < many) → nothing_due (records final.log) ≡ true
    idle inside = every_in (λ i. not (due (records final.log) i)) (length (records final.log)) (λ i h. ap not (go i (cases (due (records final.log) i))))
      where
        go : (i : ℕ) → (due (records final.log) i ≡ true) ⊎ (due (records final.log) i ≡ false) → due (records final.log) i ≡ false
        go i (inr e) = e
        go i (inl e) =
            let j : ℕ = record_card (record_in (records final.log) i) in
            let here : due_for (records final.log) j i ≡ true = and_in e (eq-eqb j j refl) in
            let old : due_for rs j i ≡ true = q.shrinks j i here in
            let card : record_card (record_in rs i) ≡ j = eqb-true (record_card (record_in rs i)) j (and_right (due rs i) (eqb (record_card (record_in rs i)) j) old) in
            let low-card : j < many = subst (λ (n : ℕ). n < many) card (inside i (and_left (due rs i) (eqb (record_card (record_in rs i)) j) old)) in
            absurd (never_both here (never_due (records final.log) j (q.done j (omega arith) low-card) i))

    finishes : ((i : ℕ) → due rs i ≡ true → record_card (record_in rs i) < many) → Finished d start.desk (after_doings d start q.path.doings).desk
    finishes inside =
        subst (λ (f : Follower). Finished d start.desk f.desk) (sym q.path.led)
        (record {
          unmarked = unmarked;
          done = idle inside;
          texts = λ k l.
              (refines d final q.going.kept).plain k l (unmarked k)
              ∙ ap (λ (f : Follower). f.desk.meant k l) (sym q.path.led)
              ∙ ap (λ (m : ℕ → Language → List ℕ). m k l) (own_meant d start q.path.doings q.path.own);
        })

-- ---- the claim

module _ (d : ℕ) (y : OneDesk) (small : d < 65536) (m : Moment d y) where
  abbrev lrs : List LogRecord
  lrs = records y.log

  abbrev image : List ℕ
  image = y.image

  abbrev total : ℕ
  total = length (decode V1 image).cards

  begins : Going d (starts_again y)
  begins = record { kept = kept_always d y m; minded = λ k. nothing_minded d y k }

  module _ (h1 : every (line_left d image lrs) (length lrs) ≡ true) (h2 : every (stamps_left d image lrs) total ≡ true)
      (h3 : record_count y.log + cards_due lrs total ≤ most_records) (h4 : start_at y.log (record_count y.log) + 6 * cards_due lrs total ≤ length y.log) where
    pick_first : (b x c : Bool) → b ≡ true → cond b x c ≡ true → x ≡ true
    pick_first b x c e f = rw e at f

    pick_second : (b x c : Bool) → b ≡ false → cond b x c ≡ true → c ≡ true
    pick_second b x c e f = rw e at f

    -- What is due is due on cards that are there.
    inside : (i : ℕ) → due lrs i ≡ true → record_card (record_in lrs i) < total
    inside i e = go (cases (ltb (record_card (record_in lrs i)) total))
      where
        j : ℕ
        j = record_card (record_in lrs i)

        go : (ltb j total ≡ true) ⊎ (ltb j total ≡ false) → j < total
        go (inl q) = ltb-true j total q
        go (inr q) =
            absurd (never_both (and_in e (eq-eqb j j refl)) (never_due lrs j (clear_out lrs j (bare_always d y m j (ltb-false j total q))) i))

    lines : (k : ℕ) → k < total → eqb (at (decode V1 image) k).mark.desk d ≡ true → (i : ℕ) → i < length lrs → due_for lrs k i ≡ true → Writable (decode V1 image) lrs k i
    lines k b e i h q =
        let j : ℕ = record_card (record_in lrs i) in
        let due_here = and_left (due lrs i) (eqb j k) q in
        let same : j ≡ k = eqb-true j k (and_right (due lrs i) (eqb j k) q) in
        let marked : eqb (at (decode V1 image) j).mark.desk d ≡ true = subst (λ (n : ℕ). eqb (at (decode V1 image) n).mark.desk d ≡ true) (sym same) e in
        let can : can_write image lrs i ≡ true = if_so (eqb (at (decode V1 image) j).mark.desk d) (every_out (line_left d image lrs) (length lrs) h1 i h) marked in
        let two = if_so (due lrs i) can due_here in
        let one : Bool = eqb (record_side (record_in lrs i)) 1 in
        let front : Bool = ltb j total && leb (length (record_text (record_in lrs i))) (decode V1 image).room in
        let low : Bool = ltb (edition_before image lrs j i) last_edition in
        let some : Bool = not (eqb (edition_before image lrs j i) 0) in
        let last = and_right front (cond one low some) two in
        subst (λ (n : ℕ). Writable (decode V1 image) lrs n i) same
        (record {
          room = leb-true (length (record_text (record_in lrs i))) (decode V1 image).room (and_right (ltb j total) _ (and_left front (cond one low some) two));
          edition_left = λ p. ltb-true _ 65535 (pick_first one low some p last);
          made_from = λ p. not-true _ (pick_second one low some p last);
        })

    left : (k : ℕ) → k < total → eqb (at (decode V1 image) k).mark.desk d ≡ true → stamp_t (at (decode V1 image) k).pair.x + lines_due lrs k (length lrs) + 1 < 4294967296
    left k b e = ltb-true _ 4294967296 (if_so (eqb (at (decode V1 image) k).mark.desk d) (every_out (stamps_left d image lrs) total h2 k b) e)

    abbrev all_written_lem : Written d small (starts_again y) begins 0
    all_written_lem = written d small (starts_again y) begins lines left

    all_noted : Noted d small (starts_again y) begins all_written_lem 0
    all_noted =
        let w = all_written_lem in
        noted_all d small (starts_again y) begins w total (omega arith)
        (record {
          end = w.end;
          path = w.path;
          going = w.going;
          image = refl;
          minds = refl;
          shrinks = λ j i p. subst (λ (l : List ℕ). due_for (records l) j i ≡ true) w.log p;
          done = λ j a b. absurd (omega (arith, a, b));
          lines_left = subst (λ (l : List ℕ). record_count l + cards_due lrs total ≤ most_records) (sym w.log) h3;
          bytes_left = subst (λ (l : List ℕ). start_at l (record_count l) + 6 * cards_due lrs total ≤ length l) (sym w.log) h4;
        })

    can_finish_lem : Finishes d y
    can_finish_lem =
        let q = all_noted in
        record {
          doings = q.path.doings;
          bytes = q.path.bytes;
          own = q.path.own;
          told = q.path.told;
          finished = finishes d small (starts_again y) begins all_written_lem q inside;
        }

pub can_always_finish : CanAlwaysFinish
can_always_finish d y small m h =
    let rs : List LogRecord = records y.log in
    let n : ℕ = length (decode V1 y.image).cards in
    let a : Bool = every (line_left d y.image rs) (length rs) in
    let b : Bool = every (stamps_left d y.image rs) n in
    let count : Bool = leb (record_count y.log + cards_due rs n) most_records in
    let size : Bool = leb (start_at y.log (record_count y.log) + 6 * cards_due rs n) (length y.log) in
    let front = and_left (a && b) (count && size) h in
    let back = and_right (a && b) (count && size) h in
    can_finish_lem d y small m (and_left a b front) (and_right a b front)
    (leb-true (record_count y.log + cards_due rs n) most_records (and_left count size back))
    (leb-true (start_at y.log (record_count y.log) + 6 * cards_due rs n) (length y.log) (and_right count size back))
