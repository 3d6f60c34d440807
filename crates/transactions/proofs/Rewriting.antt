-- What holds at every moment is kept by a recovery, wherever it stops or is cut: it writes cards that bear the mark,
-- and their x rises. Assumes nothing.
use Prim.Native.Nat.{ℕ, zero, suc, ◌≤◌, ◌<◌, max}
use native.Mathlib.Omega.{arith}
use mathlib.Core.Path.{◌≡◌, refl, sym, ap, ◌∙◌, subst}
use mathlib.Core.Logic.{◌⊎◌, inl, inr}
use mathlib.Core.List.{List, ◌∷◌}
use mathlib.Core.Bool.{Bool, true, false, cond, not, ◌&&◌, ◌||◌, and-false}
use borrow.Author.Tests.{eqb-true, eq-eqb, ltb-true, leb-true, not-true}
use lib.ListN.{length}
use lib.Dec.{eqb, ltb, leb}
use Rattle.formats.specs.Format.{V1}
use Rattle.lists.specs.Parts.{every}
use Rattle.lists.specs.Table.{settled}
use Rattle.lists.proofs.Every.{every_out}
use Rattle.lists.proofs.Tests.{cases, never_both, and_left, and_right, and_in, or_cases}
use Rattle.stamps.specs.declared.Mark.{Mark}
use Rattle.commands.specs.declared.Command.{Command}
use Rattle.commands.specs.Command.{Language, update}
use Rattle.image.specs.Image.{Card, Cards, GoodCards, text, encode, decode}
use Rattle.image_claims.proofs.Claims.{good_encodes}
use Rattle.store_model.specs.Words.{Sent}
use Rattle.store_model.proofs.Machine.{cards_by, cards_from}
use Rattle.redo_log.specs.Log.{LogRecord, record_card, records}
use Rattle.redo_recovery_model.specs.Recovery.{Pairs, FitsPairs, Recovery, record_in, due, recovery_pair, write_of, recovering}
use Rattle.redo_recovery_model.specs.Claims.{rewritten}
use Rattle.redo_recovery_model.proofs.Steps.{R, S, Idle, Sends, next}
use Rattle.redo_recovery_model.proofs.Sending.{FitsRecords, fits_log}
use Rattle.redo_recovery_model.proofs.Texts.{over_again, cards_good, image_is, decode_is, before_zero, number_here, cards_next_lem, fields_here, texts}
use Rattle.transactions.specs.System.{OneDesk, Order, Shown, unknown, recover, command_in, mark_in, stored_x, due_for, written_out, rewritable, lawful, shown_by, forgetting, after_step}
use Rattle.transactions.proofs.Records.{All, all_map}
use Rattle.transactions.proofs.Due.{placed}
use Rattle.transactions.proofs.Serving.{at, then, Taken, taken}
use Rattle.transactions.proofs.Kept.{bears, Onward, Stands, card_for, Safe, Told, Knows, Kept, decoded, safe_raised, told_raised}
use Rattle.transactions.proofs.Requests.{knows_shown}

-- ---- the cards that a recovery leaves

module _ (pairs : Pairs) (rs : List LogRecord) (cs : Cards) (gc : GoodCards V1 cs) (fp : FitsPairs pairs) (fit : FitsRecords rs) where
  abbrev pub ran : ℕ → Recovery
  ran i = R pairs rs (encode V1 cs) i

  abbrev pub left : ℕ → Cards
  left i = cards_from V1 cs (ran i).sent

  -- Where it stopped, if it did: its cards are those behind the last line with which nothing was refused.
  pub record Stopped (i : ℕ) : Type 0 where
    pub last : ℕ
    pub within : last ≤ i
    pub clean : (ran last).number ≡ 0
    pub same : left i ≡ left last
    pub whole : (ran i).number ≡ 0 → last ≡ i

  pub left_idle : (i : ℕ) → Idle pairs rs (encode V1 cs) i → left (suc i) ≡ left i
  left_idle i idle = ap (λ (q : Recovery). cards_from V1 cs q.sent) idle.same

  left_refused : (i n : ℕ) → i < length rs → (ran (suc i)).number ≡ suc n → Idle pairs rs (encode V1 cs) i ⊎ Sends pairs rs (encode V1 cs) i → left (suc i) ≡ left i
  left_refused i n h e (inl idle) = left_idle i idle
  left_refused i n h e (inr s) =
      cards_next_lem pairs rs cs gc fp fit i h s
      ∙ ap (λ (m : ℕ). cards_by V1 m (left i) (S pairs rs (encode V1 cs) i)) (number_here pairs rs cs gc fp fit i h s ∙ e)

  pub stopped : (i : ℕ) → i ≤ length rs → Stopped i
  unfolding recovering
  stopped zero h = record { last = 0; within = omega arith; clean = refl; same = refl; whole = λ z. refl }
  stopped (suc i) h = go (ran (suc i)).number refl (stopped i (omega arith))
    where
      go : (n : ℕ) → (ran (suc i)).number ≡ n → Stopped i → Stopped (suc i)
      go zero e st = record { last = suc i; within = omega arith; clean = e; same = refl; whole = λ z. refl }
      go (suc n) e st =
          record {
            last = st.last;
            within = omega (arith, st.within);
            clean = st.clean;
            same = left_refused i n h e (next pairs rs (encode V1 cs) i) ∙ st.same;
            whole = λ z. absurd (omega (arith, e, z));
          }

  -- One card behind i lines of which none was refused: it is as it was, and none of them is due for it; or one of them
  -- is, and the card has its mark and the larger x.
  data Moved (i k : ℕ) : Type 0 where
    untouched : at (left i) k ≡ at cs k → ((j : ℕ) → j < i → due_for rs k j ≡ false) → Moved i k
    touched : (j : ℕ) → j < i → due_for rs k j ≡ true → (at (left i) k).mark ≡ (at cs k).mark → (at (left i) k).pair.x ≡ max (at cs k).pair.x (recovery_pair pairs k).x → Moved i k

  none_more : (i k : ℕ) → ((j : ℕ) → j < i → due_for rs k j ≡ false) → due_for rs k i ≡ false → (j : ℕ) → j < suc i → due_for rs k j ≡ false
  none_more i k f e j h = go (placed j i)
    where
      go : (j < i) ⊎ (j ≡ i) ⊎ (i < j) → due_for rs k j ≡ false
      go (inl g) = f j g
      go (inr (inl g)) = ap (due_for rs k) g ∙ e
      go (inr (inr g)) = absurd (omega arith)

  -- A line that changes nothing of the card.
  moved_past : (i k : ℕ) → at (left (suc i)) k ≡ at (left i) k → due_for rs k i ≡ false → Moved i k → Moved (suc i) k
  moved_past i k e f (untouched s g) = untouched (e ∙ s) (none_more i k g f)
  moved_past i k e f (touched j h g m x) = touched j (omega arith) g (ap (λ (c : Card). c.mark) e ∙ m) (ap (λ (c : Card). c.pair.x) e ∙ x)

  module _ (i : ℕ) (h : i < length rs) (z : (ran (suc i)).number ≡ 0) (s : Sends pairs rs (encode V1 cs) i) where
    abbrev pub sent : Sent
    sent = S pairs rs (encode V1 cs) i

    abbrev pub place : ℕ
    place = record_card (record_in rs i)

    pub good_here : GoodCards V1 (left i)
    good_here = cards_good pairs rs cs gc fp fit i (omega arith)

    t : Taken (left i) sent
    t = taken (left i) sent good_here (number_here pairs rs cs gc fp fit i h s ∙ z)

    pub after : left (suc i) ≡ then (left i) sent
    after = cards_next_lem pairs rs cs gc fp fit i h s

    pub fields : command_in sent ≡ write_of pairs (ran i).image (record_in rs i)
    fields = fields_here pairs rs cs gc fp fit i h

    pub card_is : (command_in sent).card ≡ place
    card_is = ap (λ (c : Command). c.card) fields

    pub elsewhere : (k : ℕ) → eqb place k ≡ false → at (left (suc i)) k ≡ at (left i) k
    elsewhere k e = ap (λ (m : Cards). at m k) after ∙ t.others k (ap (λ (n : ℕ). eqb n k) card_is ∙ e)

    mark_here : (at (left (suc i)) place).mark ≡ (at (left i) place).mark
    mark_here =
        ap (λ (m : Cards). (at m place).mark) after
        ∙ ap (λ (n : ℕ). (at (then (left i) sent) n).mark) (sym card_is)
        ∙ t.mark
        ∙ ap (λ (c : Command). c.next) fields
        ∙ ap (λ (m : Cards). (at m place).mark) (decode_is pairs rs cs gc fp fit i (omega arith))

    x_here : (at (left (suc i)) place).pair.x ≡ max (at (left i) place).pair.x (recovery_pair pairs place).x
    x_here =
        ap (λ (m : Cards). (at m place).pair.x) after
        ∙ ap (λ (n : ℕ). (at (then (left i) sent) n).pair.x) (sym card_is)
        ∙ t.x
        ∙ ap (λ (n : ℕ). max (at (left i) n).pair.x (update (command_in sent)).x) card_is
        ∙ ap (λ (c : Command). max (at (left i) place).pair.x (update c).x) fields

    moved_here : Moved i place → Moved (suc i) place
    moved_here m =
        let hit : due_for rs place i ≡ true = and_in s.is_due_lem (eq-eqb place place refl) in
        go hit m
      where
        go : due_for rs place i ≡ true → Moved i place → Moved (suc i) place
        go hit (untouched e f) =
            touched i (omega arith) hit (mark_here ∙ ap (λ (c : Card). c.mark) e) (x_here ∙ ap (λ (c : Card). max c.pair.x (recovery_pair pairs place).x) e)
        go hit (touched j g f m x) =
            touched i (omega arith) hit (mark_here ∙ m)
            (x_here ∙ ap (λ (n : ℕ). max n (recovery_pair pairs place).x) x ∙ over (at cs place).pair.x (recovery_pair pairs place).x)
          where
            over : (a b : ℕ) → max (max a b) b ≡ max a b
            over a b = omega arith

  moved : (i : ℕ) → i ≤ length rs → (ran i).number ≡ 0 → (k : ℕ) → Moved i k
  unfolding recovering cards_from
  moved zero h z k = untouched refl (λ j g. absurd (omega arith))
  moved (suc i) h z k = go (next pairs rs (encode V1 cs) i) (moved i (omega arith) (before_zero pairs rs cs gc fp fit i z) k)
    where
      by_card : (s : Sends pairs rs (encode V1 cs) i) → (eqb (record_card (record_in rs i)) k ≡ true) ⊎ (eqb (record_card (record_in rs i)) k ≡ false) → Moved i k → Moved (suc i) k
      by_card s (inl e) m =
          let same : record_card (record_in rs i) ≡ k = eqb-true (record_card (record_in rs i)) k e in
          subst (Moved (suc i)) same (moved_here i h z s (subst (Moved i) (sym same) m))
      by_card s (inr e) m = moved_past i k (elsewhere i h z s k e) (ap (λ (b : Bool). due rs i && b) e ∙ and-false (due rs i)) m

      go : Idle pairs rs (encode V1 cs) i ⊎ Sends pairs rs (encode V1 cs) i → Moved i k → Moved (suc i) k
      go (inl idle) m =
          moved_past i k (ap (λ (c : Cards). at c k) (left_idle i idle))
          (ap (λ (b : Bool). b && eqb (record_card (record_in rs i)) k) (idle.why (before_zero pairs rs cs gc fp fit i z))) m
      go (inr s) m = by_card s (cases (eqb (record_card (record_in rs i)) k)) m

-- ---- a card before and after: as it was; or it bears the mark, keeps it, and its x has risen

pub data Raised (d : ℕ) (old new : Card) : Type 0 where
  stays : new ≡ old → Raised d old new
  rises : old.pair.x < new.pair.x → bears d old ≡ true → new.mark ≡ old.mark → Raised d old new

module _ (d : ℕ) (y : OneDesk) (k : Kept d y) (pairs : Pairs) (lines : ℕ) (fp : FitsPairs pairs) (h : lawful d y (recover pairs lines) ≡ true) where
  abbrev pub rs : List LogRecord
  rs = records y.log

  abbrev pub run : Recovery
  run = recovering pairs rs y.image lines

  pub fit : FitsRecords rs
  fit = fits_log y.log k.log_bytes k.good_log_lem

  short : lines ≤ length rs
  short = leb-true lines (length rs) (and_left (leb lines (length rs)) (every (rewritable d y.image rs pairs) (length rs)) h)

  pub st : Stopped pairs rs k.cs k.good fp fit lines
  st = stopped pairs rs k.cs k.good fp fit lines short

  abbrev pub m : ℕ
  m = st.last

  pub in_log : m ≤ length rs
  in_log = omega (arith, st.within, short)

  abbrev pub new : Cards
  new = left pairs rs k.cs k.good fp fit m

  pub run_is : run ≡ R pairs rs (encode V1 k.cs) lines
  run_is = ap (λ (i : List ℕ). recovering pairs rs i lines) k.image_is

  pub good_new : GoodCards V1 new
  good_new = cards_good pairs rs k.cs k.good fp fit m in_log

  pub image_new : run.image ≡ encode V1 new
  image_new =
      ap (λ (r : Recovery). r.image) run_is
      ∙ image_is pairs rs k.cs k.good fp fit lines short
      ∙ ap (encode V1) st.same

  -- The rule, of a line that is due.
  ruled : (i j : ℕ) → i < length rs → due_for rs j i ≡ true → (bears d (at k.cs j) ≡ true) × ((at k.cs j).pair.x < (recovery_pair pairs j).x)
  ruled i j g e =
      let here : record_card (record_in rs i) ≡ j = eqb-true (record_card (record_in rs i)) j (and_right (due rs i) (eqb (record_card (record_in rs i)) j) e) in
      let one : rewritable d y.image rs pairs i ≡ true = every_out (rewritable d y.image rs pairs) (length rs)
      (and_right (leb lines (length rs)) (every (rewritable d y.image rs pairs) (length rs)) h) i g in
      subst (λ (n : ℕ). (bears d (at k.cs n) ≡ true) × ((at k.cs n).pair.x < (recovery_pair pairs n).x)) here
      (subst (λ (c : Cards). (bears d (at c (record_card (record_in rs i))) ≡ true) ×
      ((at c (record_card (record_in rs i))).pair.x < (recovery_pair pairs (record_card (record_in rs i))).x)) (decoded d y k)
      (go (or_cases (not (due rs i)) (marks && up) one)))
    where
      marks : Bool
      marks = eqb (mark_in y.image (record_card (record_in rs i))).desk d

      up : Bool
      up = ltb (stored_x y.image (record_card (record_in rs i))) (recovery_pair pairs (record_card (record_in rs i))).x

      go : (not (due rs i) ≡ true) ⊎ ((marks && up) ≡ true)
          → (eqb (mark_in y.image (record_card (record_in rs i))).desk d ≡ true) × (stored_x y.image (record_card (record_in rs i)) < (recovery_pair pairs (record_card (record_in rs i))).x)
      go (inl q) = absurd (never_both (and_left (due rs i) (eqb (record_card (record_in rs i)) j) e) (not-true (due rs i) q))
      go (inr q) = (
        and_left marks up q,
        ltb-true (stored_x y.image (record_card (record_in rs i))) (recovery_pair pairs (record_card (record_in rs i))).x (and_right marks up q),
      )

  moved_now : (j : ℕ) → Moved pairs rs k.cs k.good fp fit m j
  moved_now j = moved pairs rs k.cs k.good fp fit m in_log st.clean j

  -- The x of a card that was written.
  x_new : (i j : ℕ) → i < m → due_for rs j i ≡ true → (at new j).pair.x ≡ max (at k.cs j).pair.x (recovery_pair pairs j).x →
      ((at k.cs j).pair.x < (at new j).pair.x) × ((at new j).pair.x ≡ (recovery_pair pairs j).x)
  x_new i j g e x = let two = (ruled i j (omega (arith, g, in_log)) e).1 in (omega (arith, x, two), omega (arith, x, two))

  raised_new : (j : ℕ) → Raised d (at k.cs j) (at new j)
  raised_new j = go (moved_now j)
    where
      go : Moved pairs rs k.cs k.good fp fit m j → Raised d (at k.cs j) (at new j)
      go (untouched e f) = stays e
      go (touched i g e q x) = rises (x_new i j g e x).0 (ruled i j (omega (arith, g, in_log)) e).0 q

  texts_new : (j : ℕ) (l : Language) → text l (at new j) ≡ rewritten rs l j m (text l (at k.cs j))
  texts_new j l = texts pairs rs k.cs k.good fp fit m in_log st.clean l j

  stands_new : (j : ℕ) → Stands d rs (y.meant j) j (at new j)
  stands_new j = go (raised_new j)
    where
      go : Raised d (at k.cs j) (at new j) → Stands d rs (y.meant j) j (at new j)
      go (stays e) = subst (Stands d rs (y.meant j) j) (sym e) (k.texts j)
      go (rises up b q) =
          let bearing : bears d (at new j) ≡ true = ap (λ (w : Mark). eqb w.desk d) q ∙ b in
          record {
            plain = λ e l. absurd (never_both bearing e);
            marked = λ e l.
                ap (rewritten rs l j (length rs)) (texts_new j l)
                ∙ over_again rs l j m (length rs) in_log (text l (at k.cs j))
                ∙ (k.texts j).marked b l;
          }

  safe_new : (o : Order) → Safe d rs (card_for o) (at k.cs (card_for o)) o → Safe d rs (card_for o) (at new (card_for o)) o
  safe_new o w = go (raised_new (card_for o))
    where
      go : Raised d (at k.cs (card_for o)) (at new (card_for o)) → Safe d rs (card_for o) (at new (card_for o)) o
      go (stays e) = subst (λ (c : Card). Safe d rs (card_for o) c o) (sym e) w
      go (rises up b q) = safe_raised d rs (card_for o) (at k.cs (card_for o)) (at new (card_for o)) up o w

  told_new : (v : Shown) → Told d rs v.card (at k.cs v.card) v → Told d rs v.card (at new v.card) v
  told_new v w = go (raised_new v.card)
    where
      go : Raised d (at k.cs v.card) (at new v.card) → Told d rs v.card (at new v.card) v
      go (stays e) = subst (λ (c : Card). Told d rs v.card c v) (sym e) w
      go (rises up b q) = told_raised d rs v.card (at k.cs v.card) (at new v.card) up v w

  abbrev AllTold : List Shown → Type 0
  AllTold shown = All (λ (v : Shown). Told d rs v.card (at new v.card) v) shown

  told_old : AllTold y.shown
  told_old =
      all_map (λ (v : Shown). Told d rs v.card (at k.cs v.card) v) (λ (v : Shown). Told d rs v.card (at new v.card) v) y.shown told_new k.told

  -- What it shows, where nothing was refused.
  module _ (z : run.number ≡ 0) where
    whole : m ≡ lines
    whole = st.whole (sym (ap (λ (r : Recovery). r.number) run_is) ∙ z)

    told_line : (i : ℕ) → i < lines → due rs i ≡ true → Told d rs (record_card (record_in rs i)) (at new (record_card (record_in rs i)))
        (record { card = record_card (record_in rs i); x = (recovery_pair pairs (record_card (record_in rs i))).x; reach = lines })
    told_line i g e = go (moved_now j)
      where
        j : ℕ
        j = record_card (record_in rs i)

        hit : due_for rs (record_card (record_in rs i)) i ≡ true
        hit = and_in e (eq-eqb (record_card (record_in rs i)) (record_card (record_in rs i)) refl)

        onward : Onward rs (record_card (record_in rs i)) lines (at new (record_card (record_in rs i)))
        onward l =
            inr
            (subst (λ (n : ℕ). rewritten rs l (record_card (record_in rs i)) n (text l (at new (record_card (record_in rs i)))) ≡ text l (at new (record_card (record_in rs i)))) whole
            (ap (rewritten rs l (record_card (record_in rs i)) m) (texts_new (record_card (record_in rs i)) l)
            ∙ over_again rs l (record_card (record_in rs i)) m m (omega arith) (text l (at k.cs (record_card (record_in rs i))))
            ∙ sym (texts_new (record_card (record_in rs i)) l)))

        go : Moved pairs rs k.cs k.good fp fit m (record_card (record_in rs i)) → Told d rs (record_card (record_in rs i))
            (at new (record_card (record_in rs i)))
            (record { card = record_card (record_in rs i); x = (recovery_pair pairs (record_card (record_in rs i))).x; reach = lines })
        go (untouched s f) = absurd (never_both hit (f i (omega (arith, g, whole))))
        go (touched p q f w x) = record { low = omega (arith, (x_new p (record_card (record_in rs i)) q f x).1); reached = λ live b. onward }

    told_lines : (i : ℕ) → i ≤ lines → AllTold (shown_by pairs rs lines i y.shown)
    unfolding shown_by
    told_lines zero g = told_old
    told_lines (suc i) g = go (due rs i) refl (told_lines i (omega arith))
      where
        go : (b : Bool) → due rs i ≡ b → AllTold (shown_by pairs rs lines i y.shown)
            → AllTold (cond b (record { card = record_card (record_in rs i); x = (recovery_pair pairs (record_card (record_in rs i))).x; reach = lines }
            ∷ shown_by pairs rs lines i y.shown) (shown_by pairs rs lines i y.shown))
        go true e rest = (told_line i g e, rest)
        go false e rest = rest

  told_all : AllTold (settled run.number (shown_by pairs rs lines lines y.shown) y.shown)
  told_all = go run.number refl
    where
      go : (n : ℕ) → run.number ≡ n → AllTold (settled n (shown_by pairs rs lines lines y.shown) y.shown)
      go zero e = told_lines e lines (omega arith)
      go (suc n) e = told_old

  -- A card with nothing due is as it was, and nothing new is shown of it.
  module _ (j : ℕ) (e : written_out rs j 0 (length rs) ≡ true) where
    none_due_lem : (i : ℕ) → i < length rs → due_for rs j i ≡ false
    none_due_lem i g = go (or_cases (ltb i 0) (not (due_for rs j i)) (every_out (λ n. ltb n 0 || not (due_for rs j n)) (length rs) e i g))
      where
        go : (ltb i 0 ≡ true) ⊎ (not (due_for rs j i) ≡ true) → due_for rs j i ≡ false
        go (inl q) = absurd (omega (arith, ltb-true i 0 q))
        go (inr q) = not-true (due_for rs j i) q

    same_card : at new j ≡ at k.cs j
    same_card = go (moved_now j)
      where
        go : Moved pairs rs k.cs k.good fp fit m j → at new j ≡ at k.cs j
        go (untouched s f) = s
        go (touched i g f q x) = absurd (never_both f (none_due_lem i (omega (arith, g, in_log))))

    knows_lines : (i : ℕ) → i ≤ length rs → Knows d rs y.orders (shown_by pairs rs lines i y.shown) j (at k.cs j) (y.holds j)
    unfolding shown_by
    knows_lines zero g = k.knows j
    knows_lines (suc i) g = go (due rs i) refl (knows_lines i (omega arith))
      where
        go : (b : Bool) → due rs i ≡ b → Knows d rs y.orders (shown_by pairs rs lines i y.shown) j (at k.cs j) (y.holds j)
            → Knows d rs y.orders
            (cond b (record { card = record_card (record_in rs i); x = (recovery_pair pairs (record_card (record_in rs i))).x; reach = lines }
            ∷ shown_by pairs rs lines i y.shown) (shown_by pairs rs lines i y.shown)) j (at k.cs j) (y.holds j)
        go false f rest = rest
        go true f rest =
            knows_shown d rs y.orders (shown_by pairs rs lines i y.shown)
            (record { card = record_card (record_in rs i); x = (recovery_pair pairs (record_card (record_in rs i))).x; reach = lines }) j (at k.cs j)
            (y.holds j)
            (λ here live. absurd (never_both (and_in f (eq-eqb (record_card (record_in rs i)) j here)) (none_due_lem i g))) rest

    knows_same : Knows d rs y.orders (settled run.number (shown_by pairs rs lines lines y.shown) y.shown) j (at new j) (y.holds j)
    knows_same = subst (λ (c : Card). Knows d rs y.orders (settled run.number (shown_by pairs rs lines lines y.shown) y.shown) j c (y.holds j)) (sym same_card) (go run.number)
      where
        go : (n : ℕ) → Knows d rs y.orders (settled n (shown_by pairs rs lines lines y.shown) y.shown) j (at k.cs j) (y.holds j)
        go zero = knows_lines lines short
        go (suc n) = k.knows j

  knows_new : (j : ℕ) → Knows d rs y.orders (settled run.number (shown_by pairs rs lines lines y.shown) y.shown) j (at new j) (forgetting rs y.holds j)
  knows_new j = go (written_out rs j 0 (length rs)) refl
    where
      go : (b : Bool) → written_out rs j 0 (length rs) ≡ b → Knows d rs y.orders
          (settled run.number (shown_by pairs rs lines lines y.shown) y.shown) j (at new j) (cond b (y.holds j) unknown)
      go true e = knows_same j e
      go false e = tt

  pub raised : (j : ℕ) → Raised d (at k.cs j) (at (decode V1 run.image) j)
  raised j =
      subst (λ (c : Cards). Raised d (at k.cs j) (at c j)) (sym (ap (decode V1) image_new ∙ (good_encodes V1 new good_new).same)) (raised_new j)

  pub kept_recover : Kept d (after_step d y (recover pairs lines))
  unfolding after_step
  kept_recover =
      record {
        some = k.some;
        cs = new;
        image_is = image_new;
        good = good_new;
        good_log_lem = k.good_log_lem;
        log_bytes = k.log_bytes;
        ordered = k.ordered;
        texts = stands_new;
        sent =
            all_map (λ (o : Order). Safe d rs (card_for o) (at k.cs (card_for o)) o) (λ (o : Order). Safe d rs (card_for o) (at new (card_for o)) o) y.orders safe_new k.sent;
        told = told_all;
        knows = knows_new;
      }
