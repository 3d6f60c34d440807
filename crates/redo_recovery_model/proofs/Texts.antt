-- The texts that recovery leaves, and running it twice. Assumes nothing.
use Prim.Native.Nat.{ℕ, zero, suc, ◌≤◌, ◌<◌}
use native.Mathlib.Omega.{arith}
use native.Mathlib.Nat.{eq-or-lt_of_le}
use mathlib.Core.Path.{◌≡◌, refl, sym, ap, ◌∙◌, subst}
use mathlib.Core.Logic.{◌⊎◌, inl, inr}
use mathlib.Core.List.{List, [], ◌∷◌, ◌++◌, nil≢cons, tail-eq_of_cons-eq}
use mathlib.Core.Bool.{Bool, true, false, cond, not, ◌&&◌}
use borrow.Author.Tests.{eqb-true, eqb-false, ne_eqb, ltb-true, ltb-false}
use lib.ListN.{length, get_or, set, get_or-eq_default}
use lib.Seq.{get_or-set_same, get_or-set_other}
use lib.Dec.{eqb, ltb, lit<}
use Rattle.formats.specs.Format.{V1, translations}
use Rattle.lists.specs.Parts.{Bytes}
use Rattle.lists.proofs.Tests.{cases, to_T}
use Rattle.commands.specs.Command.{Language, original, translation, writes}
use Rattle.commands.specs.declared.Command.{Command}
use Rattle.commands.specs.Bytes.{fields_of, payload}
use Rattle.commands.proofs.CommandBytes.{fields_command, payload_command}
use Rattle.guard.specs.Replies.{replied}
use Rattle.stamps.specs.declared.Pair.{Pair}
use Rattle.guard.specs.declared.Entry.{Entry}
use Rattle.image.specs.Image.{Card, Cards, text, no_card, encode, decode, sound}
use Rattle.image.specs.Image.{GoodCards}
use Rattle.image_claims.proofs.Claims.{sound_reads_back, good_encodes}
use Rattle.store_model.specs.Serve.{serve, stepped}
use Rattle.store_model.specs.Words.{Sent, Event, image_after}
use Rattle.store_model.proofs.Machine.{number_on, cards_by, cards_from, passed}
use Rattle.store_model.proofs.Simulation.{all_good, same_event, same_images}
use Rattle.store_model.proofs.Stepped.{text_step}
use Rattle.redo_log.specs.Log.{LogRecord, record_card, record_side, record_text, good_log, records}
use Rattle.redo_log.specs.Append.{appended}
use Rattle.redo_log_claims.specs.Claims.{cut_after}
use Rattle.redo_log_claims.proofs.Claims.{appends, histories, good_before}
use Rattle.redo_recovery_model.specs.Recovery.{Pairs, FitsPairs, Recovery, record_in, due, recovery_pair, entry_for, write_of, write_by, recovery_sent, recovery_step, recovering, recovered}
use Rattle.redo_recovery_model.specs.Claims.{due_below, text_in, side_is, rewrites, rewritten, text_of, CutAnywhere, CutRecovers, RecoveredTexts, StoppedTexts, CutRecovery, Twice}
use Rattle.redo_recovery_model.proofs.Steps.{R, S, Idle, Sends, next, stands, stop, stop_line, stop_image, recovers, bad_left}
use Rattle.redo_recovery_model.proofs.Sending.{FitsRecords, fits_log, fits_here, all_bytes, run_bytes, left_bytes}
use Rattle.redo_recovery_model.proofs.Versions.{unsound_run}

-- ---- one text of one card, by the records

-- After i records a text is the same whatever it was, or no record up to then is one of it.
settles : (rs : List LogRecord) (l : Language) (k i : ℕ)
    → ((a b : List ℕ) → rewritten rs l k i a ≡ rewritten rs l k i b) ⊎ ((j : ℕ) → j ≤ i → (a : List ℕ) → rewritten rs l k j a ≡ a)
unfolding rewritten
settles rs l k zero = inr (λ j h a. let none : j ≡ 0 = omega arith in rw none)
settles rs l k (suc i) = go (rewrites rs l k i) refl (settles rs l k i)
  where
    last : rewrites rs l k i ≡ false → ((j : ℕ) → j ≤ i → (a : List ℕ) → rewritten rs l k j a ≡ a) → (j : ℕ) → j ≤ suc i → (a : List ℕ) → rewritten rs l k j a ≡ a
    last e h j w a = by (eq-or-lt_of_le w)
      where
        by : (j ≡ suc i) ⊎ (j < suc i) → rewritten rs l k j a ≡ a
        by (inl q) = ap (λ (m : ℕ). rewritten rs l k m a) q ∙ rw e (h i (omega arith) a)
        by (inr q) = h j (omega arith) a

    go : (t : Bool) → rewrites rs l k i ≡ t
        → ((a b : List ℕ) → rewritten rs l k i a ≡ rewritten rs l k i b) ⊎ ((j : ℕ) → j ≤ i → (a : List ℕ) → rewritten rs l k j a ≡ a)
        → ((a b : List ℕ) → cond (rewrites rs l k i) (record_text (record_in rs i)) (rewritten rs l k i a) ≡ cond (rewrites rs l k i) (record_text (record_in rs i)) (rewritten rs l k i b))
        ⊎ ((j : ℕ) → j ≤ suc i → (a : List ℕ) → rewritten rs l k j a ≡ a)
    go true e h = inl (λ a b. rw e)
    go false e (inl h) = inl (λ a b. rw e (h a b))
    go false e (inr h) = inr (last e h)

-- The first i records, and then the first n, leave what the first n leave.
pub over_again : (rs : List LogRecord) (l : Language) (k i n : ℕ) → i ≤ n → (a : List ℕ) → rewritten rs l k n (rewritten rs l k i a) ≡ rewritten rs l k n a
over_again rs l k i n h a = go (settles rs l k n)
  where
    go : ((a b : List ℕ) → rewritten rs l k n a ≡ rewritten rs l k n b) ⊎ ((j : ℕ) → j ≤ n → (a : List ℕ) → rewritten rs l k j a ≡ a)
        → rewritten rs l k n (rewritten rs l k i a) ≡ rewritten rs l k n a
    go (inl const) = const (rewritten rs l k i a) a
    go (inr none) = ap (rewritten rs l k n) (none i h a)

-- Where no record is due up to then, none is one of the text.
none_due_lem : (rs : List LogRecord) (l : Language) (k i : ℕ) → due_below rs i ≡ [] → (a : List ℕ) → rewritten rs l k i a ≡ a
unfolding rewritten due_below
none_due_lem rs l k zero h a = refl
none_due_lem rs l k (suc i) h a = go (due rs i) refl (λ e. none_due_lem rs l k i e a)
  where
    go : (d : Bool) → due rs i ≡ d → (due_below rs i ≡ [] → rewritten rs l k i a ≡ a) → cond (rewrites rs l k i) (record_text (record_in rs i)) (rewritten rs l k i a) ≡ a
    go true e more = absurd (nil≢cons (sym (rw e at h)))
    go false e more = rw e (more (rw e at h))

-- ---- one write

-- The text of a card that an accepted write leaves.
step_text : (card : Card) (pair : Pair) (e : Entry) (r : LogRecord) (l : Language) → length card.translated ≡ translations V1
    → text l (stepped card (write_by pair e r) (record_text r)) ≡ cond (side_is l (record_side r)) (record_text r) (text l card)
step_text card pair e r l many = text_step card (write_by pair e r) (record_text r) (rw many (lit< tt)) l ∙ ap (λ (t : Bool). cond t (record_text r) (text l card)) (side l)
  where
    by_side : (t : Bool) → eqb (cond t 3 4) 3 ≡ t
    by_side true = refl
    by_side false = refl

    by_other : (t : Bool) → (eqb (cond t 3 4) 4 && true) ≡ not t
    by_other true = refl
    by_other false = refl

    by_none : (t : Bool) (j : ℕ) → (eqb (cond t 3 4) 4 && eqb 0 (suc j)) ≡ false
    by_none true j = refl
    by_none false j = ne_eqb 0 (suc j) (λ z. omega arith)

    side : (l : Language) → writes l (write_by pair e r) ≡ side_is l (record_side r)
    side original = by_side (eqb (record_side r) 1)
    side (translation zero) = by_other (eqb (record_side r) 1)
    side (translation (suc t)) = by_none (eqb (record_side r) 1) t

-- The cards after an accepted write.
module _ (cs : Cards) (s : Sent) (c : Command) (written : List ℕ) (fields : fields_of V1 s.command ≡ c) (pay : payload V1 s.command ≡ written) (z : number_on V1 cs s ≡ 0) where
  after_write : (cards_by V1 (number_on V1 cs s) cs s).cards ≡ set cs.cards c.card (stepped (get_or cs.cards c.card (no_card V1)) c written)
  after_write =
      ap (λ (n : ℕ). (cards_by V1 n cs s).cards) z
      ∙ rw (fields, pay)

  card_there : c.card < length cs.cards
  card_there = subst (λ (d : Command). d.card < length cs.cards) fields (ltb-true (fields_of V1 s.command).card (length cs.cards) (passed V1 cs s z).exists)

  text_after : (l : Language) (k : ℕ) → text l (get_or (cards_by V1 (number_on V1 cs s) cs s).cards k (no_card V1))
      ≡ cond (eqb c.card k) (text l (stepped (get_or cs.cards k (no_card V1)) c written)) (text l (get_or cs.cards k (no_card V1)))
  text_after l k = ap (λ (m : List Card). text l (get_or m k (no_card V1))) after_write ∙ go (eqb c.card k) refl
    where
      go : (t : Bool) → eqb c.card k ≡ t → text l (get_or (set cs.cards c.card (stepped (get_or cs.cards c.card (no_card V1)) c written)) k (no_card V1))
          ≡ cond t (text l (stepped (get_or cs.cards k (no_card V1)) c written)) (text l (get_or cs.cards k (no_card V1)))
      go true e =
          let same : k ≡ c.card = sym (eqb-true c.card k e) in
          ap (λ (j : ℕ). text l (get_or (set cs.cards c.card (stepped (get_or cs.cards c.card (no_card V1)) c written)) j (no_card V1))) same
          ∙ ap (text l) (get_or-set_same cs.cards c.card (stepped (get_or cs.cards c.card (no_card V1)) c written) (no_card V1) card_there)
          ∙ ap (λ (j : ℕ). text l (stepped (get_or cs.cards j (no_card V1)) c written)) (sym same)
      go false e =
          ap (text l) (get_or-set_other cs.cards c.card k (stepped (get_or cs.cards c.card (no_card V1)) c written) (no_card V1) (λ q. eqb-false c.card k e (sym q)))

-- ---- a run from cards by the rules

-- Where there is no such card, an empty one stands for it: it has as many translations.
pub counted : (cs : Cards) → GoodCards V1 cs → (k : ℕ) → length (get_or cs.cards k (no_card V1)).translated ≡ translations V1
counted cs g k = go (cases (ltb k (length cs.cards)))
  where
    go : (ltb k (length cs.cards) ≡ true) ⊎ (ltb k (length cs.cards) ≡ false) → length (get_or cs.cards k (no_card V1)).translated ≡ translations V1
    go (inl e) = (g.each k (ltb-true k (length cs.cards) e)).count
    go (inr e) =
        subst (λ (card : Card). length card.translated ≡ translations V1)
        (sym (get_or-eq_default cs.cards (no_card V1) {n = k} (ltb-false k (length cs.cards) e)))
        refl

module _ (pairs : Pairs) (rs : List LogRecord) (cs : Cards) (gc : GoodCards V1 cs) (fp : FitsPairs pairs) (fit : FitsRecords rs) where
  ib : Bytes (encode V1 cs)
  ib = (good_encodes V1 cs gc).bytes

  -- The cards before record i.
  abbrev at : ℕ → Cards
  at i = cards_from V1 cs (R pairs rs (encode V1 cs) i).sent

  module _ (i : ℕ) (h : i ≤ length rs) where
    pub cards_good : GoodCards V1 (at i)
    cards_good = all_good V1 cs (R pairs rs (encode V1 cs) i).sent gc (all_bytes pairs rs (encode V1 cs) ib fp fit i h)

    pub image_is : (R pairs rs (encode V1 cs) i).image ≡ encode V1 (at i)
    image_is = stands pairs rs (encode V1 cs) i ∙ same_images V1 cs (R pairs rs (encode V1 cs) i).sent gc (all_bytes pairs rs (encode V1 cs) ib fp fit i h)

    pub decode_is : decode V1 (R pairs rs (encode V1 cs) i).image ≡ at i
    decode_is = ap (decode V1) image_is ∙ (good_encodes V1 (at i) cards_good).same

  pub before_zero : (i : ℕ) → (R pairs rs (encode V1 cs) (suc i)).number ≡ 0 → (R pairs rs (encode V1 cs) i).number ≡ 0
  before_zero i z = go (next pairs rs (encode V1 cs) i)
    where
      go : Idle pairs rs (encode V1 cs) i ⊎ Sends pairs rs (encode V1 cs) i → (R pairs rs (encode V1 cs) i).number ≡ 0
      go (inl idle) = sym (ap (λ (r : Recovery). r.number) idle.same) ∙ z
      go (inr s) = s.so_far

  -- The request for record i, on the cards before it.
  module _ (i : ℕ) (h : i < length rs) where
    abbrev r : LogRecord
    r = record_in rs i

    upto : i ≤ length rs
    upto = omega arith

    pub number_here : Sends pairs rs (encode V1 cs) i → number_on V1 (at i) (S pairs rs (encode V1 cs) i) ≡ (R pairs rs (encode V1 cs) (suc i)).number
    unfolding recovery_step replied
    number_here s =
        ap (λ (e : Event). e.answer.number) (sym (same_event V1 (at i) (S pairs rs (encode V1 cs) i) (cards_good i upto)))
        ∙ ap (λ (im : List ℕ). (serve V1 im (S pairs rs (encode V1 cs) i).command (S pairs rs (encode V1 cs) i).lent).answer.number) (sym (image_is i upto))
        ∙ sym (ap (λ (q : Recovery). q.number) s.now)

    pub cards_next_lem : Sends pairs rs (encode V1 cs) i → at (suc i) ≡ cards_by V1 (number_on V1 (at i) (S pairs rs (encode V1 cs) i)) (at i) (S pairs rs (encode V1 cs) i)
    unfolding recovery_step cards_from
    cards_next_lem s = ap (λ (q : Recovery). cards_from V1 cs q.sent) s.now

    pub fields_here : fields_of V1 (S pairs rs (encode V1 cs) i).command ≡ write_of pairs (R pairs rs (encode V1 cs) i).image r
    unfolding recovery_sent
    fields_here = fields_command (write_of pairs (R pairs rs (encode V1 cs) i).image r) (record_text r) V1 (fits_here pairs rs (encode V1 cs) ib fp fit i h) (lit< tt)

    payload_here : payload V1 (S pairs rs (encode V1 cs) i).command ≡ record_text r
    unfolding recovery_sent
    payload_here = payload_command (write_of pairs (R pairs rs (encode V1 cs) i).image r) (record_text r) V1

  module _ (i : ℕ) (h : i < length rs) (z : (R pairs rs (encode V1 cs) (suc i)).number ≡ 0) (l : Language) (k : ℕ) where
    abbrev old : List ℕ
    old = text l (get_or (at i).cards k (no_card V1))

    text_more : text l (get_or (at (suc i)).cards k (no_card V1)) ≡ cond (rewrites rs l k i) (record_text (r i h)) old
    text_more = go (next pairs rs (encode V1 cs) i)
      where
        mixed : (a b : Bool) → cond a (cond b (record_text (r i h)) old) old ≡ cond (a && b) (record_text (r i h)) old
        mixed true b = refl
        mixed false b = refl

        go : Idle pairs rs (encode V1 cs) i ⊎ Sends pairs rs (encode V1 cs) i → text l (get_or (at (suc i)).cards k (no_card V1)) ≡ cond (rewrites rs l k i) (record_text (r i h)) old
        go (inl idle) =
            ap (λ (q : Recovery). text l (get_or (cards_from V1 cs q.sent).cards k (no_card V1))) idle.same
            ∙ sym (rw (idle.why (before_zero i z)))
        go (inr s) =
            ap (λ (m : Cards). text l (get_or m.cards k (no_card V1))) (cards_next_lem i h s)
            ∙ text_after (at i) (S pairs rs (encode V1 cs) i) (write_of pairs (R pairs rs (encode V1 cs) i).image (r i h)) (record_text (r i h))
            (fields_here i h) (payload_here i h) (number_here i h s ∙ z) l k
            ∙ ap (λ (m : List ℕ). cond (eqb (record_card (r i h)) k) m old)
            (step_text (get_or (at i).cards k (no_card V1)) (recovery_pair pairs (record_card (r i h)))
            (entry_for (R pairs rs (encode V1 cs) i).image (record_card (r i h))) (r i h) l (counted (at i) (cards_good i (upto i h)) k))
            ∙ mixed (eqb (record_card (r i h)) k) (side_is l (record_side (r i h)))
            ∙ sym (ap (λ (d : Bool). cond (d && (eqb (record_card (r i h)) k && side_is l (record_side (r i h)))) (record_text (r i h)) old) s.is_due_lem)

  pub texts : (i : ℕ) → i ≤ length rs → (R pairs rs (encode V1 cs) i).number ≡ 0 → (l : Language) (k : ℕ)
      → text l (get_or (at i).cards k (no_card V1)) ≡ rewritten rs l k i (text l (get_or cs.cards k (no_card V1)))
  unfolding recovering rewritten cards_from
  texts zero h z l k = refl
  texts (suc i) h z l k =
      text_more i h z l k
      ∙ ap (λ (m : List ℕ). cond (rewrites rs l k i) (record_text (record_in rs i)) m) (texts i (omega arith) (before_zero i z) l k)

-- ---- a run from any image of bytes

module _ (pairs : Pairs) (rs : List LogRecord) (image : List ℕ) (ib : Bytes image) (fp : FitsPairs pairs) (fit : FitsRecords rs) where
  texts_at : (i : ℕ) → i ≤ length rs → (R pairs rs image i).number ≡ 0 → (l : Language) (k : ℕ)
      → text_in (R pairs rs image i).image l k ≡ rewritten rs l k i (text_in image l k)
  texts_at i h z l k = go (cases (sound V1 image))
    where
      go : (sound V1 image ≡ true) ⊎ (sound V1 image ≡ false) → text_in (R pairs rs image i).image l k ≡ rewritten rs l k i (text_in image l k)
      go (inl e) =
          let back = sound_reads_back V1 image ib (to_T e) in
          let cs : Cards = decode V1 image in
          let same : R pairs rs (encode V1 cs) i ≡ R pairs rs image i = ap (λ (im : List ℕ). R pairs rs im i) back.same in
          let zero-there : (R pairs rs (encode V1 cs) i).number ≡ 0 = ap (λ (q : Recovery). q.number) same ∙ z in
          ap (λ (q : Recovery). text_in q.image l k) (sym same)
          ∙ ap (λ (m : Cards). text l (get_or m.cards k (no_card V1))) (decode_is pairs rs cs back.good fp fit i h)
          ∙ texts pairs rs cs back.good fp fit i h zero-there l k
      go (inr e) =
          let u = unsound_run pairs rs image e i in
          ap (λ (im : List ℕ). text_in im l k) u.kept ∙ sym (none_due_lem rs l k i (u.idle z) (text_in image l k))

  -- A run that stopped leaves what stood there before its last request.
  texts_stopped : (n : ℕ) → n ≤ length rs → ((R pairs rs image n).number ≡ 0 → ⊥) → (l : Language) (k : ℕ)
      → text_in (R pairs rs image n).image l k ≡ rewritten rs l k (R pairs rs image n).line (text_in image l k)
  texts_stopped n h failed l k =
      let s = stop pairs rs image n failed in
      let below = s.below in
      ap (λ (im : List ℕ). text_in im l k) (stop_image pairs rs image n failed)
      ∙ texts_at s.at (omega arith) s.sends.so_far l k
      ∙ ap (λ (j : ℕ). rewritten rs l k j (text_in image l k)) (sym (stop_line pairs rs image n failed))

  -- Either way it leaves what so many records leave.
  record After (n : ℕ) (l : Language) (k : ℕ) : Type 0 where
    lines : ℕ
    within : lines ≤ length rs
    texts : text_in (R pairs rs image n).image l k ≡ rewritten rs l k lines (text_in image l k)

  texts_after : (n : ℕ) → n ≤ length rs → (l : Language) (k : ℕ) → After n l k
  texts_after n h l k = go (R pairs rs image n).number refl
    where
      go : (m : ℕ) → (R pairs rs image n).number ≡ m → After n l k
      go zero e = record { lines = n; within = h; texts = texts_at n h e l k }
      go (suc m) e =
          let failed : (R pairs rs image n).number ≡ 0 → ⊥ = λ z. absurd (omega arith) in
          let below = (stop pairs rs image n failed).below in
          let line = stop_line pairs rs image n failed in
          record { lines = (R pairs rs image n).line; within = omega arith; texts = texts_stopped n h failed l k }

-- ---- a run that is cut

module _ (pairs : Pairs) (rs : List LogRecord) (image : List ℕ) where
  -- The first requests of a run are those of some first records.
  record CutAt (n : ℕ) (earlier : List Sent) : Type 0 where
    at : ℕ
    below : at ≤ n
    sent : (R pairs rs image at).sent ≡ earlier

  cut_at : (n : ℕ) (later earlier : List Sent) → (R pairs rs image n).sent ≡ later ++ earlier → CutAt n earlier
  unfolding recovering recovery_step
  cut_at n [] earlier e = record { at = n; below = omega arith; sent = e }
  cut_at zero (s ∷ later) earlier e = absurd (nil≢cons e)
  cut_at (suc n) (s ∷ later) earlier e = go (next pairs rs image n) (cut_at n (s ∷ later) earlier) (cut_at n later earlier)
    where
      more : CutAt n earlier → CutAt (suc n) earlier
      more c = let below = c.below in record { at = c.at; below = omega arith; sent = c.sent }

      go : Idle pairs rs image n ⊎ Sends pairs rs image n → ((R pairs rs image n).sent ≡ s ∷ (later ++ earlier) → CutAt n earlier)
          → ((R pairs rs image n).sent ≡ later ++ earlier → CutAt n earlier) → CutAt (suc n) earlier
      go (inl idle) same less = more (same (sym (ap (λ (q : Recovery). q.sent) idle.same) ∙ e))
      go (inr q) same less = more (less (tail-eq_of_cons-eq (sym (ap (λ (r : Recovery). r.sent) q.now) ∙ e)))

-- ---- the claims

module _ (pairs : Pairs) (log image : List ℕ) where
  good_zero : (recovered pairs log image).number ≡ 0 → good_log log ≡ true
  unfolding recovered
  good_zero z = go (good_log log) refl
    where
      go : (g : Bool) → good_log log ≡ g → good_log log ≡ true
      go true e = e
      go false e = let never : ◌≡◌ {A = ℕ} 23 0 = rw e at z in absurd (omega arith)

  good_run : good_log log ≡ true → recovered pairs log image ≡ R pairs (records log) image (length (records log))
  unfolding recovered
  good_run e = rw e

pub recovered_texts : RecoveredTexts
recovered_texts pairs log image fp lb ib z l k =
    let g = good_zero pairs log image z in
    let same = good_run pairs log image g in
    ap (λ (q : Recovery). text_in q.image l k) same
    ∙ texts_at pairs (records log) image ib fp (fits_log log lb g) (length (records log)) (omega arith) (sym (ap (λ (q : Recovery). q.number) same) ∙ z) l k

pub stopped_texts : StoppedTexts
stopped_texts pairs log image fp lb ib g failed l k =
    let same = good_run pairs log image g in
    ap (λ (q : Recovery). text_in q.image l k) same
    ∙ texts_stopped pairs (records log) image ib fp (fits_log log lb g) (length (records log)) (omega arith) (λ z. failed (ap (λ (q : Recovery). q.number) same ∙ z)) l k
    ∙ ap (λ (q : Recovery). rewritten (records log) l k q.line (text_in image l k)) (sym same)

pub cut_recovery : CutRecovery
cut_recovery pairs again log image fp fq lb ib later earlier e z l k =
    let rs : List LogRecord = records log in
    let g = good_zero again log (image_after V1 image earlier) z in
    let fit = fits_log log lb g in
    let c = cut_at pairs rs image (length rs) later earlier (sym (ap (λ (q : Recovery). q.sent) (good_run pairs log image g)) ∙ e) in
    let below = c.below in
    let here : image_after V1 image earlier ≡ (R pairs rs image c.at).image = ap (image_after V1 image) (sym c.sent) ∙ sym (stands pairs rs image c.at) in
    let bytes : Bytes (image_after V1 image earlier) = subst Bytes (sym here) (run_bytes pairs rs image ib fp fit c.at below) in
    let some = texts_after pairs rs image ib fp fit c.at below l k in
    let within = some.within in
    recovered_texts again log (image_after V1 image earlier) fq lb bytes z l k
    ∙ ap (text_of rs l k) (ap (λ (im : List ℕ). text_in im l k) here ∙ some.texts)
    ∙ over_again rs l k some.lines (length rs) within (text_in image l k)

pub twice : Twice
twice pairs again log image fp fq lb ib t₁ t₂ l k = go (cases (good_log log))
  where
    left : List ℕ
    left = (recovered pairs log image).image

    go : (good_log log ≡ true) ⊎ (good_log log ≡ false) → text_in (recovered again log left).image l k ≡ text_in left l k
    go (inl g) =
        let first = recovered_texts pairs log image fp lb ib (((recovers pairs log image).accepts g).1 t₁) l k in
        recovered_texts again log left fq lb (left_bytes pairs log image ib fp lb) (((recovers again log left).accepts g).1 t₂) l k
        ∙ ap (text_of (records log) l k) first
        ∙ over_again (records log) l k (length (records log)) (length (records log)) (omega arith) (text_in image l k)
        ∙ sym first
    go (inr g) = ap (λ (im : List ℕ). text_in im l k) (bad_left again log left g)

-- Recovery goes by what is read back.
same_back : (a b : List ℕ) → good_log a ≡ true → good_log b ≡ true → records a ≡ records b → (pairs : Pairs) (image : List ℕ) → recovered pairs a image ≡ recovered pairs b image
unfolding recovered
same_back a b ga gb e pairs image = rw (ga, gb, e)

pub cut_recovers : CutRecovers
cut_recovers k log r e pairs image =
    let c = (appends k log r).cut e in
    same_back (appended k log r) log c.0 (good_before k log r e) c.1 pairs image

pub cut_anywhere : CutAnywhere
cut_anywhere stores log rs g pairs image fp lb rb ib z l k =
    let h = histories stores log rs g in
    recovered_texts pairs (cut_after stores log rs) image fp (h.bytes lb rb) ib z l k
    ∙ ap (λ (m : List LogRecord). text_of m l k (text_in image l k)) h.back
