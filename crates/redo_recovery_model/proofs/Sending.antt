-- What recovery sends is bytes, and stands in demand 3's list. Assumes nothing.
use Prim.Native.Nat.{ℕ, zero, suc, ◌≤◌, ◌<◌}
use native.Mathlib.Omega.{arith}
use mathlib.Core.Path.{◌≡◌, refl, sym, ap, ◌∙◌, subst}
use mathlib.Core.Logic.{◌⊎◌, inl, inr}
use mathlib.Core.List.{List, [], ◌∷◌, ◌++◌, reverse}
use mathlib.Core.Bool.{Bool, true, false, cond}
use borrow.Author.Tests.{ltb-true, ltb-false}
use lib.ListN.{length, get_or, length-drop, get_or-eq_default}
use lib.Dec.{ltb, eqb, lit<}
use Rattle.formats.specs.Format.{V1}
use Rattle.lists.specs.Parts.{Bytes, tabulate}
use Rattle.lists.proofs.Bytes.{Bytes_nil, Bytes_drop, Bytes_part}
use Rattle.lists.proofs.Le.{le_part_bound}
use Rattle.stamps.specs.declared.Pair.{Pair}
use Rattle.stamps.specs.Stamp.{FitsPair}
use Rattle.lists.proofs.ConcatMap.{get_d_tabulate, length_tabulate}
use Rattle.lists.proofs.Tests.{cases}
use Rattle.guard.specs.declared.Entry.{Entry}
use Rattle.stamps.specs.Stamp.{FitsMark}
use Rattle.commands.specs.Command.{FitsCommand}
use Rattle.commands.proofs.CommandBytes.{Bytes_command}
use Rattle.image.specs.Bytes.{count_of}
use Rattle.image.specs.Image.{fresh, fresh_cards, Card, view, no_card, card_at, decode}
use Rattle.image.proofs.Decode.{entry_fits}
use Rattle.image_claims.proofs.Claims.{good_encodes, fresh_sound, fits_none}
use Rattle.store_model.specs.Serve.{serve}
use Rattle.store_model.specs.Words.{Sent, image_after}
use Rattle.store_model.specs.Claims.{SentBytes, AllBytes}
use Rattle.store_model.proofs.Sound.{bytes_all}
use Rattle.store_model.proofs.Demand.{bytes_reverse, demand3}
use Rattle.redo_log.specs.Log.{LogRecord, record_card, record_side, record_text, record_count, record_at, start_at, length_at, good_log, records}
use Rattle.redo_log.proofs.Records.{short_record}
use Rattle.redo_log.proofs.ReadBack.{length_records, record_of}
use Rattle.redo_recovery_model.specs.Recovery.{Pairs, FitsPairs, Recovery, record_in, recovery_pair, write_by, write_of, recovery_sent, entry_for, recovery_step, recovering, recovered}
use Rattle.redo_recovery_model.specs.Claims.{Deed, one_request, one_recovery, image_after_deeds, requests_of_deeds, FitsDeeds, Demand3Mixed}
use Rattle.redo_recovery_model.proofs.Steps.{R, S, Idle, Sends, next, stands, recovers}

-- ---- a write fits its fields

-- What a write takes from an image: the mark and the edition of an entry.
pub record FitsStored (e : Entry) : Type 0 where
  pub mark : FitsMark e.mark
  pub edition : e.edition < 65536

-- Any image of bytes has no other. Where there is no such card, an empty one stands for it.
pub stored_fits : (image : List ℕ) (k : ℕ) → Bytes image → FitsStored (entry_for image k)
unfolding decode card_at
stored_fits image k b = go (cases (ltb k (count_of image)))
  where
    of : (card : Card) → get_or (tabulate (card_at V1 image) (count_of image)) k (no_card V1) ≡ card → FitsStored (view 0 card) → FitsStored (entry_for image k)
    of card e = subst (λ (c : Card). FitsStored (view 0 c)) (sym e)

    go : (ltb k (count_of image) ≡ true) ⊎ (ltb k (count_of image) ≡ false) → FitsStored (entry_for image k)
    go (inl e) =
        let f = entry_fits V1 image k 0 b in
        of (card_at V1 image k) (get_d_tabulate (card_at V1 image) (count_of image) k (no_card V1) (ltb-true k (count_of image) e)) (record { mark = f.mark; edition = f.edition })
    go (inr e) =
        of (no_card V1)
        (get_or-eq_default (tabulate (card_at V1 image) (count_of image)) (no_card V1) {n = k} (rw length_tabulate (ltb-false k (count_of image) e)))
        (record { mark = fits_none.mark; edition = fits_none.edition })

pub fits_under : (pair : Pair) (image : List ℕ) (r : LogRecord) → FitsPair pair → Bytes image → Bytes r.body → length r.body < 65536
    → FitsCommand (write_by pair (entry_for image (record_card r)) r)
fits_under pair image r p ib b h =
    record {
      act = small (eqb (record_side r) 1);
      mode = lit< tt;
      language = lit< tt;
      card = le_part_bound 0 2 r.body b;
      verifier = p;
      opened = record { s = lit< tt; x = lit< tt };
      expected = (stored_fits image (record_card r) ib).mark;
      next = (stored_fits image (record_card r) ib).mark;
      edition = named (eqb (record_side r) 1);
      length = rw length-drop (omega arith);
    }
  where
    small : (t : Bool) → cond t 3 4 < 256
    small true = lit< tt
    small false = lit< tt

    named : (t : Bool) → cond t 0 (entry_for image (record_card r)).edition < 65536
    named true = lit< tt
    named false = (stored_fits image (record_card r) ib).edition

pub fits_write : (pairs : Pairs) (image : List ℕ) (r : LogRecord) → FitsPairs pairs → Bytes image → Bytes r.body → length r.body < 65536
    → FitsCommand (write_of pairs image r)
fits_write pairs image r p ib b h =
    fits_under (recovery_pair pairs (record_card r)) image r (record { s = p.s (record_card r); x = p.x (record_card r) }) ib b h

pub sent_bytes : (pairs : Pairs) (image : List ℕ) (r : LogRecord) → FitsCommand (write_of pairs image r) → Bytes r.body → SentBytes (recovery_sent pairs image r)
unfolding recovery_sent
sent_bytes pairs image r f b =
    record { command = Bytes_command (write_of pairs image r) (record_text r) V1 f (Bytes_drop 3 r.body b); lent = Bytes_nil }

applied_bytes : (i : ℕ) (s : Sent) (r : Recovery) → SentBytes s → AllBytes r.sent → AllBytes (recovery_step i s r).sent
unfolding recovery_step
applied_bytes i s r sb ab = (sb, ab)

-- ---- a run from an image of bytes

-- Each record has a body of bytes, whose length a u16 holds.
abbrev pub FitsRecords : List LogRecord → Type 0
FitsRecords rs = (i : ℕ) → i < length rs → Bytes (record_in rs i).body × (length (record_in rs i).body < 65536)

module _ (pairs : Pairs) (rs : List LogRecord) (image : List ℕ) (ib : Bytes image) (fp : FitsPairs pairs) (fit : FitsRecords rs) where
  module _ (i : ℕ) (ab : AllBytes (R pairs rs image i).sent) where
    image_bytes : Bytes (R pairs rs image i).image
    image_bytes = subst Bytes (sym (stands pairs rs image i)) (bytes_all V1 image (R pairs rs image i).sent ib ab)

    fits_next : i < length rs → FitsCommand (write_of pairs (R pairs rs image i).image (record_in rs i))
    fits_next h = fits_write pairs (R pairs rs image i).image (record_in rs i) fp image_bytes (fit i h).0 (fit i h).1

  pub all_bytes : (i : ℕ) → i ≤ length rs → AllBytes (R pairs rs image i).sent
  unfolding recovering
  all_bytes zero h = tt
  all_bytes (suc i) h = go (next pairs rs image i) (all_bytes i (omega arith))
    where
      go : Idle pairs rs image i ⊎ Sends pairs rs image i → AllBytes (R pairs rs image i).sent → AllBytes (R pairs rs image (suc i)).sent
      go (inl idle) b = subst (λ (r : Recovery). AllBytes r.sent) (sym idle.same) b
      go (inr s) b =
          subst (λ (r : Recovery). AllBytes r.sent) (sym s.now)
          (applied_bytes i (S pairs rs image i) (R pairs rs image i) (sent_bytes pairs (R pairs rs image i).image (record_in rs i) (fits_next i b h) (fit i h).0) b)

  pub run_bytes : (i : ℕ) → i ≤ length rs → Bytes (R pairs rs image i).image
  run_bytes i h = image_bytes i (all_bytes i h)

  pub fits_here : (i : ℕ) → i < length rs → FitsCommand (write_of pairs (R pairs rs image i).image (record_in rs i))
  fits_here i h = fits_next i (all_bytes i (omega arith)) h

-- A run from a good log of bytes.
pub fits_log : (log : List ℕ) → Bytes log → good_log log ≡ true → FitsRecords (records log)
unfolding record_at
fits_log log lb g i h =
    let k : i < record_count log = rw (length_records log) at h in
    let same : record_at log i ≡ record_in (records log) i = sym (record_of log i k) in (
      subst (λ (r : LogRecord). Bytes r.body) same (Bytes_part (start_at log i) (length_at log i) log lb),
      subst (λ (r : LogRecord). length r.body < 65536) same (short_record log g i k),
    )

pub recovered_bytes : (pairs : Pairs) (log image : List ℕ) → Bytes image → FitsPairs pairs → Bytes log → AllBytes (recovered pairs log image).sent
unfolding recovered
recovered_bytes pairs log image ib fp lb = go (good_log log) refl
  where
    go : (g : Bool) → good_log log ≡ g → AllBytes (recovered pairs log image).sent
    go true e = rw e (all_bytes pairs (records log) image ib fp (fits_log log lb e) (length (records log)) (omega arith))
    go false e = rw e tt

-- The image that a recovery leaves is bytes.
pub left_bytes : (pairs : Pairs) (log image : List ℕ) → Bytes image → FitsPairs pairs → Bytes log → Bytes (recovered pairs log image).image
left_bytes pairs log image ib fp lb =
    subst Bytes (sym (recovers pairs log image).sends) (bytes_all V1 image (recovered pairs log image).sent ib (recovered_bytes pairs log image ib fp lb))

-- ---- mixed lists

pub after_append : (start : List ℕ) (a b : List Sent) → image_after V1 start (a ++ b) ≡ image_after V1 (image_after V1 start b) a
unfolding image_after
after_append start [] b = refl
after_append start (s ∷ a) b = ap (λ (im : List ℕ). (serve V1 im s.command s.lent).image) (after_append start a b)

same_mixed : (start : List ℕ) (deeds : List Deed) → image_after_deeds start deeds ≡ image_after V1 start (requests_of_deeds start deeds)
unfolding image_after_deeds requests_of_deeds image_after
same_mixed start [] = refl
same_mixed start (one_request s ∷ before) = ap (λ (im : List ℕ). (serve V1 im s.command s.lent).image) (same_mixed start before)
same_mixed start (one_recovery pairs log ∷ before) =
    (recovers pairs log (image_after_deeds start before)).sends
    ∙ ap (λ (im : List ℕ). image_after V1 im (recovered pairs log (image_after_deeds start before)).sent) (same_mixed start before)
    ∙ sym (after_append start (recovered pairs log (image_after_deeds start before)).sent (requests_of_deeds start before))

pub bytes_append : (a b : List Sent) → AllBytes a → AllBytes b → AllBytes (a ++ b)
bytes_append [] b x y = y
bytes_append (s ∷ a) b x y = (x.0, bytes_append a b x.1 y)

bytes_mixed : (start : List ℕ) → Bytes start → (deeds : List Deed) → FitsDeeds deeds → AllBytes (requests_of_deeds start deeds)
unfolding requests_of_deeds
bytes_mixed start b [] f = tt
bytes_mixed start b (one_request s ∷ before) f = (f.0, bytes_mixed start b before f.1)
bytes_mixed start b (one_recovery pairs log ∷ before) f =
    let old = bytes_mixed start b before f.1 in
    let here : Bytes (image_after_deeds start before) = subst Bytes (sym (same_mixed start before)) (bytes_all V1 start (requests_of_deeds start before) b old) in
    bytes_append (recovered pairs log (image_after_deeds start before)).sent (requests_of_deeds start before)
    (recovered_bytes pairs log (image_after_deeds start before) here f.0.0 f.0.1)
    old

pub demand3_mixed : Demand3Mixed
demand3_mixed n c shape deeds f =
    let fr = fresh_sound V1 n c shape in
    let start : Bytes (fresh V1 n c) = subst Bytes fr.cards (good_encodes V1 (fresh_cards V1 n c) fr.good).bytes in
    let bytes = bytes_mixed (fresh V1 n c) start deeds f in
    record {
      same = same_mixed (fresh V1 n c) deeds;
      demand3 = demand3 V1 n c shape (reverse (requests_of_deeds (fresh V1 n c) deeds)) (bytes_reverse (requests_of_deeds (fresh V1 n c) deeds) [] bytes tt);
    }
